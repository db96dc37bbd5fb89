use Rattle.std.proofs.Common.{◌∙◌, ℕ, List, ap}
use Rattle.std.specs.List.{flat_map}
use Rattle.typed_tree.specs.TypedView.{view_typed}
use Rattle.pair_explaining.specs.HostBlocks.{host_block}
use Rattle.pair_explaining.specs.PairSeen.{view_names}
use Rattle.pair_explaining.proofs.host_blocks.host_blocks.Goals as goal

pub returns : goal.returns
returns c =
    c.in_ok-text.ensures
    ∙ ap (λ (text : List ℕ). flat_map (host_block (view_names c.args.names) text (view_typed c.args.t.now)) c.args.faults.now) c.in_ok-lines.ensures
