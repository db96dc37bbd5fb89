use Rattle.std.proofs.Common.{append_assoc}
use Rattle.program_gen.proofs.programs.program_of.Goals as goal

pub returns : goal.returns
returns c =
    rw (c.in_ok-extend_from_slice-2.ensures.items, c.in_ok-push_calls.ensures, c.in_ok-extend_from_slice.ensures.items, c.in_ok-push_lines.ensures, c.in_ok-program.ensures.items)
    simp append_assoc
