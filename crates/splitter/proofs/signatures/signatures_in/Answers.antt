use Rattle.std.proofs.Common.{ℕ, ap, map}
use Rattle.pt_base.proofs.Places.{drop_step_at}
use Rattle.pt_tree.specs.declared.signature.Signature.{Signature}
use Rattle.typed_tree.specs.TypedTree.{view_function}
use Rattle.splitter.specs.Sets.{is_set}
use Rattle.splitter.proofs.WalkLemmas.{signature_kept}
use Rattle.splitter.proofs.signatures.signatures_in.Goals as goal

pub loop-function-preserved : goal.loop-function-preserved
loop-function-preserved c =
    signature_kept (λ (s : ℕ × Signature). is_set c.args.needed.now s.0) _ _ (view_function c.function-item.result) _ _ _ _ _ _
    (ap (map view_function) (drop_step_at c.as_slice-functions.result.now c.loop-function.function-index c.function-item.result c.loop-function-test.true c.function-item.is)) c.in_ok-number.ensures c.has-wanted.ensures c.in_ok-add_signature.ensures
    c.loop-function.invariant
