use Rattle.check_programs.proofs.MarkTableLemmas.{put_marks}
use Rattle.check_programs.proofs.mark_table.put.Goals as goal

pub returns : goal.returns
returns c = put_marks _ _ c.in_ok-from_slice.field-0 c.args.name.now c.args.marks c.in_ok-from_slice.ensures.items c.in_ok-insert.ensures.updates.1 c.in_ok-insert.ensures.updates.3
