use Rattle.std.proofs.Common.{◌≡◌, ◌∙◌, arith, length, sym}
use Rattle.sides.specs.Slots.{slots_of}
use Rattle.typed_tree.specs.TypedView.{view_typed}
use Rattle.flow_picture.proofs.SecretLemmas.{nodes_long, secrets_are}
use Rattle.flow_picture.proofs.secrets.secrets_of.Goals as goal

pub secrets_in-requires : goal.secrets_in-requires
secrets_in-requires c =
    let long : length c.args.nodes.now ≡ length (slots_of (view_typed c.args.t.now)) = nodes_long (view_typed c.args.t.now) c.args.nodes.now c.requires.nodes in
    let size : length c.args.marks.now ≡ length (slots_of (view_typed c.args.t.now)) = c.requires.marks.size in
    let same : length c.args.nodes.now ≡ length c.args.marks.now = long ∙ sym size in
    omega (arith, same)

pub returns : goal.returns
returns c =
    secrets_are (view_typed c.args.t.now) c.args.marks.now c.args.sides.now c.requires.marks c.args.nodes.now c.requires.nodes c.in_ok-secrets.secrets.items c.arrange_nodes.new.nodes.items
    c.in_ok-secrets.ensures c.arrange_nodes.ensures.same c.arrange_nodes.ensures.sorted
