-- What holds of all outlines.
use Rattle.std.specs.Prelude.{◌≡◌, ℕ, List, [], ◌∷◌, Bool, true, false, ◌||◌, Some}
use Rattle.std.specs.List.{Contains}
use Rattle.pt_tree.specs.declared.signature.Elem.{Elem}
use Rattle.typed_tree.specs.declared.types.StructInfo.{StructInfo}
use Rattle.typed_tree.specs.TypedTree.{TypedTree}
use Rattle.marshalling.specs.declared.leaf.Leaf.{Leaf}
use Rattle.marshalling.specs.Crossings.{leaf_crossing, sealed_if}
use Rattle.marshalling.specs.Leaves.{leaves_of}
use Rattle.marshalling.specs.Shape.{may_stand}
use Rattle.wire.specs.declared.cell.WireCell.TheVariants.{Sealed}
use Rattle.outlining.specs.EntryTexts.{has_marked_field}
use Rattle.stages.specs.Climb.{HasPassed, Texts, flows}
use Rattle.stages.specs.Commands.{AreCut, Climb, ComesTo}
use Rattle.outlining.specs.Outlines.{IsOutline}

-- what the first bytes of texts come to, one more than each may have, the whole texts come to
abbrev pub FirstBytesAreEnough : Type 0
FirstBytesAreEnough = (whole cut : Texts) (o : Climb (List ℕ)) → AreCut whole cut → ComesTo (flows ∷ []) IsOutline cut o → ComesTo (flows ∷ []) IsOutline whole o

-- the words of a pointer say of a cell that it is or may be a handle: all cells, or those under marked fields, or none
abbrev pub is_told : Bool → Bool → Leaf → Bool
is_told true fields leaf = true
is_told false true leaf = leaf.marked
is_told false false leaf = false

-- of each cell of an element the words say what crosses: where a handle may go, and what comes back
abbrev pub WordsTellCells : Type 0
WordsTellCells = (structs : List StructInfo) (elem : Elem) (leaf : Leaf) (secret : Bool) (handle : ℕ) → Contains (leaves_of structs elem) leaf →
    (may_stand (secret || leaf.marked) (Sealed handle) ≡ is_told secret (has_marked_field structs elem) leaf)
    × (leaf_crossing secret (Some leaf) ≡ sealed_if (is_told secret (has_marked_field structs elem) leaf))

-- texts in which no stage has a fault have an outline
abbrev pub AcceptedTextsHaveOutlines : Type 0
AcceptedTextsHaveOutlines = (t : Texts) (tree : TypedTree) → HasPassed (flows ∷ []) t tree → (out : List ℕ) × IsOutline t out
