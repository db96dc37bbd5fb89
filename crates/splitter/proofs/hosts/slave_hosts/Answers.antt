use Rattle.std.proofs.Common.{ℕ, Bool, ap, map, ◌∙◌}
use Rattle.pt_base.proofs.Places.{drop_step_at}
use Rattle.pt_tree.specs.declared.signature.Signature.{Signature}
use Rattle.typed_tree.specs.TypedTree.{view_function}
use Rattle.splitter.specs.Halves.{is_slave_host}
use Rattle.splitter.specs.Sets.{is_set}
use Rattle.splitter.proofs.WalkLemmas.{signature_on}
use Rattle.splitter.proofs.hosts.slave_hosts.Goals as goal

pub loop-function-preserved : goal.loop-function-preserved
loop-function-preserved c =
    signature_on (λ (s : ℕ × Signature). s.0) (λ (s : ℕ × Signature). is_slave_host (is_set c.args.called.now s.0) s.1) _ _ (view_function c.function-item.result) _ _ _ _ _ _
    (ap (map view_function) (drop_step_at c.as_slice-functions.result.now c.loop-function.function-index c.function-item.result c.loop-function-test.true c.function-item.is)) c.in_ok-number.ensures
    (c.is_slave_host-wanted.ensures ∙ ap (λ (b : Bool). is_slave_host b c.function-item.result.signature) c.has.ensures) c.in_ok-add_host.ensures c.loop-function.invariant
