use Rattle.std.proofs.Common.{rules, FitsSigned, get_or, pos}
use Rattle.std.proofs.lemmas.Int.{to_z-of_z}
use Rattle.std.specs.Int.{w128}
use Rattle.host_table.proofs.SpacedLemmas.{spaced-take, extends_more, on_err}
use Rattle.host_table.proofs.writing.append_numbers.Goals as goal

pub returns-in_err-append_number-clause-err : goal.returns-in_err-append_number-clause-err
returns-in_err-append_number-clause-err c = on_err _ (extends_more _ _ _ _ c.loop-arg.invariant c.in_err-append_number.ensures.err)

pub loop-arg-preserved : goal.loop-arg-preserved
loop-arg-preserved c =
    let fits : FitsSigned w128 (get_or c.args.args.now c.loop-arg.arg-index (pos 0)) = search rules in
    spaced-take _ _ _ c.args.args.now c.loop-arg.arg-index _ c.loop-arg-test.true (simp to_z-of_z) c.loop-arg.invariant c.in_ok-append_number.ensures.ok
