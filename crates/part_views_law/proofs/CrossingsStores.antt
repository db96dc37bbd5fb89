-- How the store grows.
use Rattle.std.proofs.Common.{◌≡◌, ◌∙◌, ℕ, zero, suc, pos, ap, sym, refl, subst, arith, List, [], ◌∷◌, ◌++◌, map, length, Option, Some, None}
use Rattle.std.specs.Prelude.{ℤ, option_to_list}
use Rattle.std.proofs.lemmas.List.{length-map}
use Rattle.pt_base.specs.declared.int_type.IntType.{IntType}
use Rattle.pt_base.specs.IntTypes.{InRange}
use Rattle.pt_tree.specs.declared.signature.Signature.{Signature}
use Rattle.block_memory.specs.declared.cell.Cell.{Cell}
use Rattle.block_memory.specs.declared.cell.Cell.TheVariants as cell
use Rattle.block_memory.specs.declared.cell.BlockName.TheVariants.{Received}
use Rattle.block_memory.specs.Blocks.{Blocks}
use Rattle.handle_store.specs.Stored.{AreInRange}
use Rattle.marshalling.specs.declared.crossing.Crossing.{Crossing}
use Rattle.marshalling.specs.declared.crossing.Crossing.TheVariants.{Stays, Plain, Sealed}
use Rattle.marshalling.specs.Crossings.{result_crossing}
use Rattle.marshalling.specs.Handles.{Entries}
use Rattle.marshalling.specs.Packing.{names_of, packed}
use Rattle.marshalling.specs.Replies.{AreServed, HoldNumbers, HoldsNumber, IsResult, Place, kept, kept_by, number_in, places_from, places_of, received, result_places, types_in}
use Rattle.marshalling.specs.Taking.{call_crossing, zeros}
use Rattle.marshalling.proofs.ReplyLemmas.{holds_length, kept-append, length-places_from, result_count}
use Rattle.marshalling_law.proofs.PostingLemmas.{packed_types, places_served}
use Rattle.part_views_law.specs.CrossingsStores.{StoresGrow, sealed_types, store_types}

types_append : (xs ys : Entries) → store_types (xs ++ ys) ≡ store_types xs ++ store_types ys
types_append [] ys = refl
types_append (x ∷ xs) ys = ap (λ ts. x.0 ∷ ts) (types_append xs ys)

ranged_none : AreInRange []
ranged_none k d lt = absurd (omega (arith, lt))

ranged_more : (entry : IntType × ℤ) (xs : Entries) → InRange entry.0 entry.1 → AreInRange xs → AreInRange (entry ∷ xs)
ranged_more entry xs h rest zero d lt = h
ranged_more entry xs h rest (suc k) d lt = rest k d (omega (arith, lt))

ranged_append : (xs ys : Entries) → AreInRange xs → AreInRange ys → AreInRange (xs ++ ys)
ranged_append [] ys h k = k
ranged_append (x ∷ xs) ys h k = ranged_more x (xs ++ ys) (h 0 x (omega arith)) (ranged_append xs ys (λ j d lt. h (suc j) d (omega (arith, lt))) k)

one_type : (p : Place) (v u : ℤ) → store_types (kept_by p.way p.ty v) ≡ store_types (kept_by p.way p.ty u)
one_type p v u = grind (arith)

kept_types : (places : List Place) (vs : List ℤ) → length places ≡ length vs → store_types (kept places vs) ≡ sealed_types places
kept_types [] vs same = refl
kept_types (p ∷ places) [] same = absurd (omega (arith, same))
kept_types (p ∷ places) (v ∷ vs) same =
    types_append (kept_by p.way p.ty v) (kept places vs)
    ∙ ap (λ ts. ts ++ store_types (kept places vs)) (one_type p v (pos 0))
    ∙ ap (λ ts. store_types (kept_by p.way p.ty (pos 0)) ++ ts) (kept_types places vs (omega (arith, same)))
    ∙ sym (types_append (kept_by p.way p.ty (pos 0)) (kept places (zeros places)))

one_ranged : (way : Crossing) (t : IntType) (v : ℤ) → InRange t v → AreInRange (kept_by way t v)
one_ranged Stays t v h = ranged_none
one_ranged Plain t v h = ranged_none
one_ranged Sealed t v h = ranged_more (t, v) [] h ranged_none

places_ranged : (crossing : ℕ → ℕ → Crossing) (k i : ℕ) (types : List IntType) (cells : List Cell) → HoldNumbers types cells → AreInRange (kept (places_from crossing k i types) (map number_in cells))
places_ranged crossing k i [] [] h = ranged_none
places_ranged crossing k i [] (c ∷ cells) h = elim h [ ]
places_ranged crossing k i (t ∷ types) [] h = elim h [ ]
places_ranged crossing k i (t ∷ types) (c ∷ cells) h =
    ranged_append (kept_by (crossing k i) t (number_in c)) (kept (places_from crossing k (suc i) types) (map number_in cells))
    (one_ranged (crossing k i) t (number_in c) (number_of t c h.0)) (places_ranged crossing k (suc i) types cells h.1)
  where
    number_of : (t : IntType) (c : Cell) → HoldsNumber t c → InRange t (number_in c)
    number_of t (cell.Int v) h = h
    number_of t (cell.Ptr p) h = elim h [ ]
    number_of t (cell.Sealed s) h = elim h [ ]

blocks_ranged : (crossing : ℕ → ℕ → Crossing) (z : Blocks) (k : ℕ) (tss : List (List IntType)) → AreServed z k tss → AreInRange (kept (places_of crossing k tss) (received z k tss))
blocks_ranged crossing z k [] h = ranged_none
blocks_ranged crossing z k (ts ∷ tss) h =
    let cells : List Cell = (z (Received k)).cells in
    let many : length (places_from crossing k 0 ts) ≡ length (map number_in cells) = length-places_from crossing k 0 ts ∙ holds_length ts cells h.1 ∙ sym (length-map cells number_in) in
    subst AreInRange (sym (kept-append (places_from crossing k 0 ts) (places_of crossing (suc k) tss) (map number_in cells) (received z (suc k) tss) many))
    (ranged_append (kept (places_from crossing k 0 ts) (map number_in cells)) (kept (places_of crossing (suc k) tss) (received z (suc k) tss)) (places_ranged crossing k 0 ts cells h.1) (blocks_ranged crossing z (suc k) tss h.2))

result_ranged : (sig : Signature) (t : Option IntType) (value : Option ℤ) → IsResult t value → AreInRange (kept (result_places sig t) (option_to_list value))
result_ranged sig None None h = ranged_none
result_ranged sig None (Some v) h = elim h [ ]
result_ranged sig (Some t) None h = elim h [ ]
result_ranged sig (Some t) (Some v) h = ranged_append (kept_by (result_crossing sig) t v) [] (one_ranged (result_crossing sig) t v h) ranged_none

pub stores_grow : StoresGrow
stores_grow store structs sig x args z value whole served right = record {
  types = types_append store (first_kept ++ rest_kept)
      ∙ ap (λ ts. store_types store ++ ts)
      (types_append first_kept rest_kept
      ∙ ap (λ ts. ts ++ store_types rest_kept) (kept_types (result_places sig sig.result) (option_to_list value) (result_count sig sig.result value right))
      ∙ ap (λ ts. sealed_types (result_places sig sig.result) ++ ts)
      (kept_types (places_of (call_crossing structs sig.params args) 0 tss) (received z 0 tss) (places_served (call_crossing structs sig.params args) z 0 tss served)
      ∙ ap (λ (us : List (List IntType)). sealed_types (places_of (call_crossing structs sig.params args) 0 us)) (packed_types x (names_of args) whole)));
  ranged = λ h. ranged_append store (first_kept ++ rest_kept) h
      (ranged_append first_kept rest_kept (result_ranged sig sig.result value right) (blocks_ranged (call_crossing structs sig.params args) z 0 tss served));
}
  where
    tss : List (List IntType)
    tss = types_in (packed x sig.params args)

    first_kept : Entries
    first_kept = kept (result_places sig sig.result) (option_to_list value)

    rest_kept : Entries
    rest_kept = kept (places_of (call_crossing structs sig.params args) 0 (types_in (packed x sig.params args))) (received z 0 (types_in (packed x sig.params args)))
