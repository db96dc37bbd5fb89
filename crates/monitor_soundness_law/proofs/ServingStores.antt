-- What the store gets of a call is in its type's range.
use Rattle.std.proofs.Common.{◌≡◌, ◌∙◌, ℕ, suc, sym, subst, List, [], ◌∷◌, ◌++◌, map, length, Option, Some, None}
use Rattle.std.specs.Prelude.{ℤ, option_to_list}
use Rattle.std.proofs.lemmas.List.{length-map}
use Rattle.std.proofs.lemmas.List.Elements.{All-append, All-cons, All-nil}
use Rattle.marshalling_law.proofs.FittingLemmas.{number_fits}
use Rattle.pt_base.specs.declared.int_type.IntType.{IntType}
use Rattle.pt_base.specs.IntTypes.{InRange}
use Rattle.pt_tree.specs.declared.signature.Signature.{Signature}
use Rattle.typed_tree.specs.declared.types.StructInfo.{StructInfo}
use Rattle.block_memory.specs.declared.cell.Cell.{Cell}
use Rattle.block_memory.specs.declared.cell.Cell.TheVariants as cell
use Rattle.block_memory.specs.declared.cell.BlockName.TheVariants.{Received}
use Rattle.block_memory.specs.Blocks.{Blocks}
use Rattle.handle_store.specs.Stored.{AreInRange}
use Rattle.wire.specs.declared.message.CallBody.{CallBody}
use Rattle.marshalling.specs.declared.crossing.Crossing.{Crossing}
use Rattle.marshalling.specs.declared.crossing.Crossing.TheVariants.{Stays, Plain, Sealed}
use Rattle.marshalling.specs.Crossings.{crossing_of, result_crossing}
use Rattle.marshalling.specs.Handles.{Entries}
use Rattle.marshalling.specs.Replies.{AreServed, HoldNumbers, IsResult, kept, kept_by, kept_results, number_in, places_from, places_of, received, result_places, types_in}
use Rattle.marshalling.proofs.ReplyLemmas.{holds_length, kept-append, length-places_from}

abbrev InRanges : IntType × ℤ → Type 0
InRanges entry = InRange entry.0 entry.1

one_ranged : (way : Crossing) (t : IntType) (v : ℤ) → InRange t v → AreInRange (kept_by way t v)
one_ranged Stays t v h = All-nil InRanges
one_ranged Plain t v h = All-nil InRanges
one_ranged Sealed t v h = All-cons InRanges (t, v) [] h (All-nil InRanges)

places_ranged : (crossing : ℕ → ℕ → Crossing) (k i : ℕ) (types : List IntType) (cells : List Cell) → HoldNumbers types cells → AreInRange (kept (places_from crossing k i types) (map number_in cells))
places_ranged crossing k i [] [] h = All-nil InRanges
places_ranged crossing k i [] (c ∷ cells) h = elim h [ ]
places_ranged crossing k i (t ∷ types) [] h = elim h [ ]
places_ranged crossing k i (t ∷ types) (c ∷ cells) h =
    All-append InRanges (kept_by (crossing k i) t (number_in c)) (kept (places_from crossing k (suc i) types) (map number_in cells))
    (one_ranged (crossing k i) t (number_in c) (number_fits t c h.0)) (places_ranged crossing k (suc i) types cells h.1)

blocks_ranged : (crossing : ℕ → ℕ → Crossing) (z : Blocks) (k : ℕ) (tss : List (List IntType)) → AreServed z k tss → AreInRange (kept (places_of crossing k tss) (received z k tss))
blocks_ranged crossing z k [] h = All-nil InRanges
blocks_ranged crossing z k (ts ∷ tss) h =
    let cells : List Cell = (z (Received k)).cells in
    let many : length (places_from crossing k 0 ts) ≡ length (map number_in cells) = length-places_from crossing k 0 ts ∙ holds_length ts cells h.1 ∙ sym (length-map cells number_in) in
    subst AreInRange (sym (kept-append (places_from crossing k 0 ts) (places_of crossing (suc k) tss) (map number_in cells) (received z (suc k) tss) many))
    (All-append InRanges (kept (places_from crossing k 0 ts) (map number_in cells)) (kept (places_of crossing (suc k) tss) (received z (suc k) tss)) (places_ranged crossing k 0 ts cells h.1) (blocks_ranged crossing z (suc k) tss h.2))

result_ranged : (sig : Signature) (t : Option IntType) (value : Option ℤ) → IsResult t value → AreInRange (kept (result_places sig t) (option_to_list value))
result_ranged sig None None h = All-nil InRanges
result_ranged sig None (Some v) h = elim h [ ]
result_ranged sig (Some t) None h = elim h [ ]
result_ranged sig (Some t) (Some v) h = All-append InRanges (kept_by (result_crossing sig) t v) [] (one_ranged (result_crossing sig) t v h) (All-nil InRanges)

pub kept_ranged : (structs : List StructInfo) (sig : Signature) (body : CallBody) (z : Blocks) (value : Option ℤ) → AreServed z 0 (types_in body) → IsResult sig.result value → AreInRange (kept_results structs sig body z value)
kept_ranged structs sig body z value served right =
    All-append InRanges (kept (result_places sig sig.result) (option_to_list value)) (kept (places_of (crossing_of structs sig.params body.args) 0 (types_in body)) (received z 0 (types_in body)))
    (result_ranged sig sig.result value right) (blocks_ranged (crossing_of structs sig.params body.args) z 0 (types_in body) served)

pub stored_ranged : (store more : Entries) → AreInRange store → AreInRange more → AreInRange (store ++ more)
stored_ranged store more h k = All-append InRanges store more h k

pub none_ranged : AreInRange []
none_ranged = All-nil InRanges
