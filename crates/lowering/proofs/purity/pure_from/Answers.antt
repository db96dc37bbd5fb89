use Rattle.std.proofs.Common.{◌≡◌, false, arith}
use Rattle.typed_tree.specs.ExpressionTree.{view_expr}
use Rattle.lowering.specs.Purity.{is_pure}
use Rattle.lowering.proofs.PurityLemmas.{pure_from_start, pure_from_is}
use Rattle.lowering.proofs.purity.pure_from.Goals as goal

pub returns-then-not-is_pure : goal.returns-then-not-is_pure
returns-then-not-is_pure c = λ k.
    let impure : is_pure (view_expr c.index-arguments-from.result) ≡ false = grind arith in
    pure_from_is _ _ k _ _ c.loop-from.invariant.pure c.loop-from-test.true c.loop-from.invariant.within c.index-arguments-from.is impure

pub returns : goal.returns
returns c = λ k. pure_from_start _ _ k c.loop-from.invariant.pure c.loop-from-test.false
