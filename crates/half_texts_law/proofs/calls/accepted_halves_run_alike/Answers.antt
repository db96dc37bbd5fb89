use Rattle.typed_tree.specs.TypedTree.{TypedTree}
use Rattle.check_programs.specs.Programs.{checked_program}
use Rattle.half_texts_law.specs.DeclarationsLaws.{slave_half, monitor_half}
use Rattle.std.proofs.Common.{false, true}
use Rattle.half_texts_law.proofs.calls.accepted_halves_run_alike.Goals as goal

pub returns : goal.returns
returns c items a few constants none is =
    let t : TypedTree = (checked_program items).tree in
    let both = c.accepted_halves_are_writable.ensures items a few constants none is in (
      (
        c.half_functions_agree.ensures false (slave_half t a) both.0.sound both.0.declarable both.0.said,
        c.half_starts_agree.ensures false (slave_half t a) both.0.sound both.0.declarable both.0.said,
      ),
      (
        c.half_functions_agree.ensures true (monitor_half t a) both.1.sound both.1.declarable both.1.said,
        c.half_starts_agree.ensures true (monitor_half t a) both.1.sound both.1.declarable both.1.said,
      ),
    )
