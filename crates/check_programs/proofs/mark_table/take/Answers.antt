use Rattle.check_programs.proofs.MarkTableLemmas.{keeps_others}
use Rattle.check_programs.proofs.mark_table.take.Goals as goal

pub returns-in-Some-clause-others : goal.returns-in-Some-clause-others
returns-in-Some-clause-others c = keeps_others _ _ c.args.name.now c.swap_remove.ensures.updates.3
