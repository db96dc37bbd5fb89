-- How the cells of a call's blocks come back. Only what a pointer to no const reaches does: a cell under a field
-- marked `priv`, or in the range of a parameter marked `priv` and not `declassify`, as a handle, any other as its number.
use Rattle.std.specs.Prelude.{ℕ, ◌-◌, List, [], ◌∷◌, Bool, false, not, ◌&&◌, ◌||◌, Option, Some, None, slice_get, nat_eq, nat_le, if◌then◌else◌}
use Rattle.pt_tree.specs.declared.signature.Param.{Param}
use Rattle.pt_tree.specs.declared.signature.ParamKind.{ParamKind}
use Rattle.pt_tree.specs.declared.signature.ParamKind.TheVariants as kind
use Rattle.pt_tree.specs.declared.signature.Signature.{Signature}
use Rattle.typed_tree.specs.declared.types.StructInfo.{StructInfo}
use Rattle.wire.specs.declared.cell.Arg.{Arg}
use Rattle.wire.specs.declared.cell.Arg.TheVariants as argument
use Rattle.marshalling.specs.declared.crossing.Crossing.{Crossing}
use Rattle.marshalling.specs.declared.crossing.Crossing.TheVariants.{Stays, Plain, Sealed}
use Rattle.marshalling.specs.declared.leaf.Leaf.{Leaf}
use Rattle.marshalling.specs.Leaves.{range_leaves}

-- of two, a handle before a number, and a number before nothing
abbrev pub stronger : Crossing → Crossing → Crossing
stronger Sealed other = Sealed
stronger Plain Sealed = Sealed
stronger Plain Plain = Plain
stronger Plain Stays = Plain
stronger Stays other = other

-- a handle, or a number
abbrev pub sealed_if : Bool → Crossing
sealed_if secret = if secret then Sealed else Plain

-- the parameter's range comes back as handles
abbrev pub is_secret : Param → Bool
is_secret p = p.marked && not p.declassify

-- a cell of a range
abbrev pub leaf_crossing : Bool → Option Leaf → Crossing
leaf_crossing secret None = Stays
leaf_crossing secret (Some leaf) = sealed_if (leaf.marked || secret)

-- the cell i of a block in which a range has these leaves from the base on
abbrev pub range_crossing : Bool → List Leaf → ℕ → ℕ → Crossing
range_crossing secret leaves base i = if nat_le base i then leaf_crossing secret (slice_get leaves (i - base)) else Stays

-- the cell i of block k by one parameter's argument
abbrev pub crossing_by : List StructInfo → Bool → ParamKind → Arg → ℕ → ℕ → Crossing
crossing_by structs secret (kind.Ptr elem false) (argument.At block base count index) k i =
    if nat_eq block k then range_crossing secret (range_leaves structs elem count) base i else Stays
crossing_by structs secret of a k i = Stays

-- how the cell i of block k comes back: by all arguments
abbrev pub crossing_of : List StructInfo → List Param → List Arg → ℕ → ℕ → Crossing
crossing_of structs [] args k i = Stays
crossing_of structs (p ∷ params) [] k i = Stays
crossing_of structs (p ∷ params) (a ∷ args) k i = stronger (crossing_by structs (is_secret p) p.kind a k i) (crossing_of structs params args k i)

-- how a result comes back
abbrev pub result_crossing : Signature → Crossing
result_crossing sig = sealed_if (not sig.declassify)
