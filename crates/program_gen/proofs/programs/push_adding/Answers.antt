use Rattle.std.proofs.Common.{append_assoc}
use Rattle.program_gen.proofs.programs.push_adding.Goals as goal

pub returns : goal.returns
returns c =
    rw (c.in_ok-extend_from_slice-2.ensures.items, c.in_ok-push_numbered.ensures, c.in_ok-push_name.ensures, c.in_ok-extend_from_slice.ensures.items)
    simp append_assoc
