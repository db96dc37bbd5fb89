use Rattle.std.proofs.Common.{◌≡◌, ◌++◌, drop}
use Rattle.std.specs.List.{flat_map}
use Rattle.source_places.specs.LinesSeen.{text_of}
use Rattle.typed_tree.specs.TypedView.{view_typed}
use Rattle.pair_explaining.specs.HostBlocks.{host_block}
use Rattle.pair_explaining.specs.PairSeen.{view_names}
use Rattle.pair_explaining.proofs.host_blocks.blocks_of.Given as goal

abbrev pub invariant-loop-fault : goal.invariant-loop-fault
invariant-loop-fault l =
    l.text.items ++ flat_map (host_block (view_names l.names) (text_of l.lines) (view_typed l.t)) (drop l.fault-index l.faults)
    ≡ flat_map (host_block (view_names l.names) (text_of l.lines) (view_typed l.t)) l.fn.faults
