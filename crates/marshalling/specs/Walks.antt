-- How code looks through the cells of a reply.
use Rattle.std.specs.Prelude.{◌≡◌, List, ◌++◌, false, drop, Option, Some, None}
use Rattle.wire.specs.declared.cell.WireCell.{WireCell}
use Rattle.marshalling.specs.declared.walk.Walk.{Walk}
use Rattle.marshalling.specs.Replies.{Place}
use Rattle.marshalling.specs.Taking.{are_sent}

-- behind these places the walk has come so far; or the cells aren't those of the places, whatever comes behind
abbrev pub Walks : Option Walk → List Place → Walk → List WireCell → Type 0
Walks None places w cells = (rest : List Place) → are_sent w.next (places ++ rest) (drop w.at cells) ≡ false
Walks (Some v) places w cells = (rest : List Place) → are_sent w.next (places ++ rest) (drop w.at cells) ≡ are_sent v.next rest (drop v.at cells)
