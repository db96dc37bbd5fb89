use Rattle.std.proofs.Common.{arith, refl}
use Rattle.pt_base.proofs.Places.{drop_step}
use Rattle.flow_picture.specs.declared.node.Node.TheVariants.{Global}
use Rattle.typed_tree.specs.TypedView.{view_typed}
use Rattle.flow_picture.specs.Kept.{secrets_from}
use Rattle.flow_picture.proofs.SameLemmas.{same_over}
use Rattle.flow_picture.proofs.SecretLemmas.{secrets_on}
use Rattle.flow_picture.proofs.secrets.secrets_in.Goals as goal

pub loop-node-preserved : goal.loop-node-preserved
loop-node-preserved c = (
  secrets_on (view_typed c.args.t.now) c.args.marks.now c.loop-node.slot _ _ _ _ _ _
      (drop_step c.args.nodes.now c.loop-node.node-index (Global 0) c.loop-node-test.true) c.in_ok-add_secret.ensures c.loop-node.invariant.0,
  grind arith,
)

pub returns : goal.returns
returns c =
    same_over (secrets_from (view_typed c.args.t.now) c.args.marks.now c.loop-node.slot) c.args.nodes.now c.loop-node.node-index _ _ refl c.loop-node-test.false c.loop-node.invariant.0
