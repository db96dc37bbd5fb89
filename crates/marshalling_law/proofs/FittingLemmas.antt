-- The reply that is made of numbers of the right types is one that the call can have.
use Rattle.std.proofs.Common.{◌≡◌, refl, ℕ, ℤ, suc, Bool, true, false, List, [], ◌∷◌, ◌++◌, map, Option, Some, None}
use Rattle.std.specs.Prelude.{not, nat_eq, option_to_list, slice_get}
use Rattle.std.proofs.lemmas.Bool.{and_from}
use Rattle.pt_base.specs.declared.int_type.IntType.{IntType}
use Rattle.pt_base.specs.IntTypes.{InRange}
use Rattle.pt_base.proofs.Numbers.{nat_eq_self}
use Rattle.pt_int.specs.Conversion.{is_in_range}
use Rattle.pt_int.proofs.Division.{in_range-test}
use Rattle.pt_tree.specs.declared.signature.Signature.{Signature}
use Rattle.block_memory.specs.declared.cell.BlockName.TheVariants.{Received}
use Rattle.block_memory.specs.declared.cell.Cell.{Cell}
use Rattle.block_memory.specs.declared.cell.Cell.TheVariants as cell
use Rattle.block_memory.specs.Blocks.{Blocks}
use Rattle.wire.specs.declared.cell.WireCell.{WireCell}
use Rattle.marshalling.specs.declared.crossing.Crossing.{Crossing}
use Rattle.marshalling.specs.declared.crossing.Crossing.TheVariants.{Stays, Plain, Sealed}
use Rattle.marshalling.specs.Crossings.{sealed_if}
use Rattle.marshalling.specs.Replies.{AreServed, HoldNumbers, HoldsNumber, IsResult, Place, next_by, number_in, places_from, places_of, received, result_places, sent, sent_by}
use Rattle.marshalling.specs.Taking.{are_sent}
use Rattle.marshalling.proofs.WalkLemmas.{place_by}

-- ---- numbers for places

-- a number of each place's type
abbrev FitPlaces : List Place → List ℤ → Type 0
FitPlaces [] [] = Unit {0}
FitPlaces [] (v ∷ vs) = ⊥
FitPlaces (p ∷ places) [] = ⊥
FitPlaces (p ∷ places) (v ∷ vs) = InRange p.ty v × FitPlaces places vs

fit_append : (ps qs : List Place) (vs ws : List ℤ) → FitPlaces ps vs → FitPlaces qs ws → FitPlaces (ps ++ qs) (vs ++ ws)
fit_append [] qs [] ws h k = k
fit_append [] qs (v ∷ vs) ws h k = absurd h
fit_append (p ∷ ps) qs [] ws h k = absurd h
fit_append (p ∷ ps) qs (v ∷ vs) ws h k = (h.0, fit_append ps qs vs ws h.1 k)

pub number_fits : (t : IntType) (c : Cell) → HoldsNumber t c → InRange t (number_in c)
number_fits t (cell.Int v) h = h
number_fits t (cell.Ptr p) h = absurd h
number_fits t (cell.Sealed handle) h = absurd h

fit_block : (crossing : ℕ → ℕ → Crossing) (k i : ℕ) (types : List IntType) (cells : List Cell) → HoldNumbers types cells
    → FitPlaces (places_from crossing k i types) (map number_in cells)
fit_block crossing k i [] [] h = tt {0}
fit_block crossing k i [] (c ∷ cells) h = absurd h
fit_block crossing k i (t ∷ types) [] h = absurd h
fit_block crossing k i (t ∷ types) (c ∷ cells) h = (number_fits t c h.0, fit_block crossing k (suc i) types cells h.1)

fit_blocks : (crossing : ℕ → ℕ → Crossing) (served : Blocks) (k : ℕ) (types : List (List IntType)) → AreServed served k types
    → FitPlaces (places_of crossing k types) (received served k types)
fit_blocks crossing served k [] h = tt {0}
fit_blocks crossing served k (t ∷ types) h =
    fit_append (places_from crossing k 0 t) (places_of crossing (suc k) types) (map number_in (served (Received k)).cells)
    (received served (suc k) types)
    (fit_block crossing k 0 t (served (Received k)).cells h.1) (fit_blocks crossing served (suc k) types h.2)

-- ---- what is sent of them

one_fits : (w : Crossing) (t : IntType) (v : ℤ) (handle : ℕ) (places : List Place) (cells : List WireCell) → InRange t v
    → are_sent (next_by w handle) places cells ≡ true → are_sent handle (place_by w t ∷ places) (sent_by w handle v ++ cells) ≡ true
one_fits Stays t v handle places [] r h = h
one_fits Stays t v handle places (c ∷ cells) r h = h
one_fits Plain t v handle places cells r h = and_from (is_in_range t v) (are_sent handle places cells) (in_range-test t v r) h
one_fits Sealed t v handle places cells r h =
    and_from (nat_eq handle handle) (are_sent (suc handle) places cells) (nat_eq_self handle) h

places_fit : (handle : ℕ) (places : List Place) (vs : List ℤ) → FitPlaces places vs → are_sent handle places (sent handle places vs) ≡ true
places_fit handle [] [] h = refl
places_fit handle [] (v ∷ vs) h = absurd h
places_fit handle (p ∷ places) [] h = absurd h
places_fit handle (p ∷ places) (v ∷ vs) h =
    one_fits p.way p.ty v handle places (sent (next_by p.way handle) places vs) h.0 (places_fit (next_by p.way handle) places vs h.1)

pub cells_fit : (crossing : ℕ → ℕ → Crossing) (served : Blocks) (handle : ℕ) (types : List (List IntType)) → AreServed served 0 types
    → are_sent handle (places_of crossing 0 types) (sent handle (places_of crossing 0 types) (received served 0 types)) ≡ true
cells_fit crossing served handle types h =
    places_fit handle (places_of crossing 0 types) (received served 0 types) (fit_blocks crossing served 0 types h)

-- ---- the result

pub result_fits : (sig : Signature) (t : Option IntType) (value : Option ℤ) (handle : ℕ) → IsResult t value
    → are_sent handle (result_places sig t) (option_to_list (slice_get (sent handle (result_places sig t) (option_to_list value)) 0)) ≡ true
result_fits sig None None handle h = refl
result_fits sig None (Some v) handle h = absurd h
result_fits sig (Some t) None handle h = absurd h
result_fits sig (Some t) (Some v) handle h = go (not sig.declassify)
  where
    go : (secret : Bool)
        → are_sent handle (place_by (sealed_if secret) t ∷ []) (option_to_list (slice_get (sent_by (sealed_if secret) handle v ++ []) 0)) ≡ true
    go true = and_from (nat_eq handle handle) true (nat_eq_self handle) refl
    go false = and_from (is_in_range t v) true (in_range-test t v h) refl
