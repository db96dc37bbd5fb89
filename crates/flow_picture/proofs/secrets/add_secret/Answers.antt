use Rattle.std.proofs.Common.{◌++◌, Bool, subst}
use Rattle.reach.specs.Tables.{item_if}
use Rattle.flow_picture.specs.Kept.{HasSame}
use Rattle.flow_picture.proofs.secrets.add_secret.Goals as goal

pub returns : goal.returns
returns c =
    subst (λ (b : Bool). HasSame c.add_node_if.new.nodes.items (c.args.secrets.now.items ++ item_if b c.args.node)) c.is_secret.ensures c.in_ok-add_node_if.ensures
