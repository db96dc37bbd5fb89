use Rattle.std.proofs.Common.{◌++◌, drop, length, map}
use Rattle.wire.specs.Spelling.{eight_bytes}
use Rattle.wire.proofs.Put.{Putting}
use Rattle.boot_writing.proofs.lists.put_list.Given as goal

abbrev pub invariant-loop-item : goal.invariant-loop-item
invariant-loop-item g l =
    Putting g.T.Spelled.spelling g.T.Spelled.Fits (map g.T.Spelled.seen l.fn.items) (map g.T.Spelled.seen (drop l.item-index l.items)) (l.fn.out.items ++ eight_bytes (length l.fn.items)) l.out.items
