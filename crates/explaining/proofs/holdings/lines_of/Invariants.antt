use Rattle.std.proofs.Common.{◌≡◌, ◌++◌, drop}
use Rattle.explaining.specs.Holdings.{kept_texts}
use Rattle.source_places.specs.LinesSeen.{text_of}
use Rattle.typed_tree.specs.TypedView.{view_typed}
use Rattle.explaining.proofs.holdings.lines_of.Given as goal

abbrev pub invariant-loop-slot : goal.invariant-loop-slot
invariant-loop-slot l =
    l.text.items ++ kept_texts l.name (text_of l.lines) (view_typed l.t) l.slots (drop l.slot-index l.shown) ≡ kept_texts l.name (text_of l.lines) (view_typed l.t) l.slots l.fn.shown
