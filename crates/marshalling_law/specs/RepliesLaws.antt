-- How many handles a reply gives, what faults see of a store, and what a reply is made of.
use Rattle.std.specs.Prelude.{◌≡◌, ◌≤◌, ◌+◌, ℕ, suc, ℤ, List, [], ◌∷◌, length, true, Option, option_to_list, slice_get}
use Rattle.pt_tree.specs.declared.signature.Param.{Param}
use Rattle.pt_tree.specs.declared.signature.Signature.{Signature}
use Rattle.typed_tree.specs.declared.types.StructInfo.{StructInfo}
use Rattle.block_memory.specs.declared.cell.Cell.{Cell}
use Rattle.block_memory.specs.Blocks.{Blocks}
use Rattle.wire.specs.declared.cell.WireCell.{WireCell}
use Rattle.wire.specs.declared.cell.WireCell.TheVariants as wire
use Rattle.wire.specs.declared.message.CallBody.{CallBody}
use Rattle.wire.specs.declared.message.ReplyBody.{ReplyBody}
use Rattle.marshalling.specs.declared.crossing.Crossing.{Crossing}
use Rattle.marshalling.specs.declared.crossing.Crossing.TheVariants.{Stays, Plain, Sealed}
use Rattle.marshalling.specs.Crossings.{crossing_of}
use Rattle.marshalling.specs.Handles.{Entries, handle_fault}
use Rattle.marshalling.specs.Packing.{names_of}
use Rattle.marshalling.specs.Replies.{AreServed, IsResult, Place, next_after, packed_results, places_of, result_places, sent, types_in}
use Rattle.marshalling.specs.Taking.{after_posting, after_reply, are_whole}
pub use Rattle.marshalling.specs.Handles.{blank, store_types as types_of_store}

-- ---- handles that a reply gives

-- A reply to a call that sends at most 8 blocks, each no larger than an object, gives at most one handle for each cell and
-- one for the result.
abbrev pub RepliesGiveFew : Type 0
RepliesGiveFew = (handle : ℕ) (x : Blocks) (structs : List StructInfo) (sig : Signature) (args : List Cell) (reply : ReplyBody) → are_whole x args ≡ true → length (names_of args) ≤ 8 →
    (after_reply handle x structs sig args reply).next ≤ handle + 524_289

-- so does a call that is posted
abbrev pub PostingsGiveFew : Type 0
PostingsGiveFew = (handle : ℕ) (x : Blocks) (structs : List StructInfo) (sig : Signature) (args : List Cell) → are_whole x args ≡ true → length (names_of args) ≤ 8 →
    (after_posting handle x structs sig args).next ≤ handle + 524_289

-- ---- faults

-- Which handle of a body is faulty, and how, is told by the types of the store's entries.
abbrev pub FaultsSeeTypes : Type 0
FaultsSeeTypes = (store : Entries) (params : List Param) (body : CallBody) → handle_fault store params body ≡ handle_fault (blank (types_of_store store)) params body

-- ---- what a reply tells

-- the numbers among these cells
abbrev pub told_in : List WireCell → List ℤ
told_in [] = []
told_in (wire.Number v ∷ cells) = v ∷ told_in cells
told_in (wire.Sealed handle ∷ cells) = told_in cells

-- the next of these numbers, and then the rest
abbrev pub given_plain : (List ℤ → List WireCell) → List ℤ → List WireCell
given_plain rest [] = []
given_plain rest (v ∷ told) = wire.Number v ∷ rest told

-- what stands for a place, and then the rest, which begins with a handle
abbrev pub given_by : Crossing → ℕ → (ℕ → List ℤ → List WireCell) → List ℤ → List WireCell
given_by Stays handle rest told = rest handle told
given_by Plain handle rest told = given_plain (rest handle) told
given_by Sealed handle rest told = wire.Sealed handle ∷ rest (suc handle) told

-- The cells for these places where these are the numbers of the plain ones, in order, and the handles begin with this one.
abbrev pub given : ℕ → List Place → List ℤ → List WireCell
given handle [] told = []
given handle (p ∷ places) told = given_by p.way handle (λ next more. given next places more) told

-- What is sent of numbers is made of those that are told and of the next handles: nothing else of them is seen.
abbrev pub CellsByWhatIsTold : Type 0
CellsByWhatIsTold = (handle : ℕ) (places : List Place) (values : List ℤ) → length places ≡ length values → sent handle places values ≡ given handle places (told_in (sent handle places values))

-- the numbers of a reply: of its result, and of its cells
pub record Told : Type 0 where
  pub result : List ℤ
  pub cells : List ℤ

abbrev pub told_by : ReplyBody → Told
told_by reply = record { result = told_in (option_to_list reply.result); cells = told_in reply.cells }

abbrev pub reply_from : ℕ → List Place → List Place → Told → ReplyBody
reply_from handle results places told = record {
  result = slice_get (given handle results told.result) 0;
  cells = given (next_after handle results) places told.cells;
}

-- So is a monitor's reply.
abbrev pub RepliesByWhatIsTold : Type 0
RepliesByWhatIsTold = (handle : ℕ) (structs : List StructInfo) (sig : Signature) (body : CallBody) (served : Blocks) (value : Option ℤ) → AreServed served 0 (types_in body) → IsResult sig.result value →
    packed_results handle structs sig body served value
    ≡ reply_from handle (result_places sig sig.result) (places_of (crossing_of structs sig.params body.args) 0 (types_in body)) (told_by (packed_results handle structs sig body served value))
