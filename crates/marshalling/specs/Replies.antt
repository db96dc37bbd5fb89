-- The reply to a call: the result, and then the cells that come back, by block and by position. Each sealed one has the
-- next handle, whether it was changed or not.
use Rattle.std.specs.Prelude.{ℕ, suc, ◌<◌, ℤ, pos, List, [], ◌∷◌, ◌++◌, Bool, true, false, ◌||◌, map, Option, Some, None, option_to_list, slice_get}
use Rattle.std.specs.List.{list_any}
use Rattle.pt_base.specs.declared.int_type.IntType.{IntType}
use Rattle.pt_base.specs.IntTypes.{InRange}
use Rattle.pt_tree.specs.declared.signature.Signature.{Signature}
use Rattle.typed_tree.specs.declared.types.StructInfo.{StructInfo}
use Rattle.block_memory.specs.declared.cell.Cell.{Cell}
use Rattle.block_memory.specs.declared.cell.Cell.TheVariants as cell
use Rattle.block_memory.specs.declared.cell.BlockName.TheVariants.{Received}
use Rattle.block_memory.specs.Blocks.{Blocks}
use Rattle.wire.specs.declared.cell.WireCell.{WireCell}
use Rattle.wire.specs.declared.cell.WireCell.TheVariants as wire
use Rattle.wire.specs.declared.message.CallBody.{CallBody}
use Rattle.wire.specs.declared.message.ReplyBody.{ReplyBody}
use Rattle.marshalling.specs.declared.crossing.Crossing.{Crossing}
use Rattle.marshalling.specs.declared.crossing.Crossing.TheVariants.{Stays, Plain, Sealed}
use Rattle.marshalling.specs.Crossings.{crossing_of, result_crossing}
use Rattle.marshalling.specs.Handles.{Entries}

-- ---- what comes back

-- a number that is there after the call: its type, and how it comes back
pub record Place : Type 0 where
  pub way : Crossing
  pub ty : IntType

-- the cells of block k that have these types, from cell i on
abbrev pub places_from : (ℕ → ℕ → Crossing) → ℕ → ℕ → List IntType → List Place
places_from crossing k i [] = []
places_from crossing k i (t ∷ types) = record { way = crossing k i; ty = t } ∷ places_from crossing k (suc i) types

-- the cells of all blocks, of which the first has the number k
abbrev pub places_of : (ℕ → ℕ → Crossing) → ℕ → List (List IntType) → List Place
places_of crossing k [] = []
places_of crossing k (types ∷ blocks) = places_from crossing k 0 types ++ places_of crossing (suc k) blocks

-- the result, if there is one
abbrev pub result_places : Signature → Option IntType → List Place
result_places sig None = []
result_places sig (Some t) = record { way = result_crossing sig; ty = t } ∷ []

-- ---- cells of a reply

abbrev pub sent_by : Crossing → ℕ → ℤ → List WireCell
sent_by Stays handle v = []
sent_by Plain handle v = wire.Number v ∷ []
sent_by Sealed handle v = wire.Sealed handle ∷ []

-- the handle after one that comes back so
abbrev pub next_by : Crossing → ℕ → ℕ
next_by Stays handle = handle
next_by Plain handle = handle
next_by Sealed handle = suc handle

abbrev pub kept_by : Crossing → IntType → ℤ → Entries
kept_by Stays t v = []
kept_by Plain t v = []
kept_by Sealed t v = (t, v) ∷ []

-- the cells that are sent of these numbers, with handles from this one on
abbrev pub sent : ℕ → List Place → List ℤ → List WireCell
sent handle [] values = []
sent handle (p ∷ places) [] = []
sent handle (p ∷ places) (v ∷ values) = sent_by p.way handle v ++ sent (next_by p.way handle) places values

-- what the store gets of them
abbrev pub kept : List Place → List ℤ → Entries
kept [] values = []
kept (p ∷ places) [] = []
kept (p ∷ places) (v ∷ values) = kept_by p.way p.ty v ++ kept places values

-- the first handle that none of the places has
abbrev pub next_after : ℕ → List Place → ℕ
next_after handle [] = handle
next_after handle (p ∷ places) = next_after (next_by p.way handle) places

-- whether it comes back as its number
abbrev pub is_plain : Crossing → Bool
is_plain Stays = false
is_plain Plain = true
is_plain Sealed = false

-- the reply holds a number, so the caller can't know it beforehand
abbrev pub has_plain : List Place → Bool
has_plain places = list_any (λ p. is_plain p.way) places

-- the reply with these numbers, whose first handle is this one
abbrev pub reply_of : ℕ → List Place → List ℤ → List Place → List ℤ → ReplyBody
reply_of handle results result places values = record {
  result = slice_get (sent handle results result) 0;
  cells = sent (next_after handle results) places values;
}

-- ---- a call's body

-- the types of a block's cells, as a body has them
abbrev pub block_types : List (IntType × WireCell) → List IntType
block_types cells = map (λ typed. typed.0) cells

abbrev pub types_of : List (List (IntType × WireCell)) → List (List IntType)
types_of blocks = map block_types blocks

abbrev pub types_in : CallBody → List (List IntType)
types_in body = types_of body.blocks

-- the reply to a call with this body holds a number
abbrev pub reply_has_plain : List StructInfo → Signature → CallBody → Bool
reply_has_plain structs sig body =
    has_plain (result_places sig sig.result) || has_plain (places_of (crossing_of structs sig.params body.args) 0 (types_in body))

-- ---- the monitor's reply

abbrev pub number_in : Cell → ℤ
number_in (cell.Int v) = v
number_in (cell.Ptr p) = pos 0
number_in (cell.Sealed handle) = pos 0

-- the numbers in the received blocks, of which the first has the number k
abbrev pub received : Blocks → ℕ → List (List IntType) → List ℤ
received blocks k [] = []
received blocks k (types ∷ rest) = map number_in (blocks (Received k)).cells ++ received blocks (suc k) rest

-- ---- what the monitor has to have

-- a number of the type
abbrev pub HoldsNumber : IntType → Cell → Type 0
HoldsNumber t (cell.Int v) = InRange t v
HoldsNumber t (cell.Ptr p) = ⊥
HoldsNumber t (cell.Sealed handle) = ⊥

-- a number of each type
abbrev pub HoldNumbers : List IntType → List Cell → Type 0
HoldNumbers [] [] = Unit {0}
HoldNumbers [] (c ∷ cells) = ⊥
HoldNumbers (t ∷ types) [] = ⊥
HoldNumbers (t ∷ types) (c ∷ cells) = HoldsNumber t c × HoldNumbers types cells

-- the blocks that a call sent are there, of which the first has the number k, with a number in each cell
abbrev pub AreServed : Blocks → ℕ → List (List IntType) → Type 0
AreServed blocks k [] = Unit {0}
AreServed blocks k (types ∷ rest) = (k < 256) × HoldNumbers types (blocks (Received k)).cells × AreServed blocks (suc k) rest

-- a number of the result's type, where there is one
abbrev pub IsResult : Option IntType → Option ℤ → Type 0
IsResult None None = Unit {0}
IsResult None (Some v) = ⊥
IsResult (Some t) None = ⊥
IsResult (Some t) (Some v) = InRange t v

-- ---- the answer

-- what the monitor answers after a call with this body, where its store has so many values
abbrev pub packed_results : ℕ → List StructInfo → Signature → CallBody → Blocks → Option ℤ → ReplyBody
packed_results handle structs sig body blocks result =
    reply_of handle (result_places sig sig.result) (option_to_list result) (places_of (crossing_of structs sig.params body.args) 0 (types_in body))
    (received blocks 0 (types_in body))

-- what its store gets
abbrev pub kept_results : List StructInfo → Signature → CallBody → Blocks → Option ℤ → Entries
kept_results structs sig body blocks result =
    kept (result_places sig sig.result) (option_to_list result) ++ kept (places_of (crossing_of structs sig.params body.args) 0 (types_in body))
    (received blocks 0 (types_in body))
