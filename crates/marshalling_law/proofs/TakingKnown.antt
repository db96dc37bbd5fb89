-- What is sent of numbers for places none of which comes back as a number.
use Rattle.std.proofs.Common.{◌≡◌, ◌∙◌, ℕ, zero, suc, nat_eq, refl, ap, sym, Bool, true, false, Option, Some, None, List, [], ◌∷◌, ◌++◌, length, map}
use Rattle.std.specs.Prelude.{ℤ, pos, IsTrue, ◌&&◌, ◌||◌, option_to_list, slice_get}
use Rattle.pt_base.specs.declared.int_type.IntType.{IntType}
use Rattle.pt_base.proofs.Booleans.{both_hold, true_not_false}
use Rattle.pt_base.proofs.Numbers.{nat_eq_self}
use Rattle.pt_tree.specs.declared.signature.Signature.{Signature}
use Rattle.wire.specs.declared.cell.WireCell.{WireCell}
use Rattle.wire.specs.declared.cell.WireCell.TheVariants as wire
use Rattle.marshalling.specs.declared.crossing.Crossing.{Crossing}
use Rattle.marshalling.specs.declared.crossing.Crossing.TheVariants.{Stays, Plain, Sealed}
use Rattle.marshalling.specs.Crossings.{sealed_if}
use Rattle.marshalling.specs.Replies.{Place, has_plain, next_after, next_by, result_places, sent}
use Rattle.marshalling.specs.Taking.{are_sent, call_places, zeros}
use Rattle.marshalling_law.specs.TakingLaws.{KnownRepliesAreReplies}

-- a place that stays has nothing among what is sent
stays_in : (t : IntType) (next : ℕ) (rest : List Place) (cells : List WireCell) → are_sent next rest cells ≡ true → are_sent next (record { way = Stays; ty = t } ∷ rest) cells ≡ true
stays_in t next rest [] h = h
stays_in t next rest (c ∷ cells) h = h

known_at : (way : Crossing) (t : IntType) (handle : ℕ) (places : List Place) → ((n : ℕ) → has_plain places ≡ false → are_sent n places (sent n places (zeros places)) ≡ true) → has_plain (record { way = way; ty = t } ∷ places) ≡ false →
    are_sent handle (record { way = way; ty = t } ∷ places) (sent handle (record { way = way; ty = t } ∷ places) (pos 0 ∷ zeros places)) ≡ true
known_at Stays t handle places more h = stays_in t handle places (sent handle places (zeros places)) (more handle h)
known_at Plain t handle places more h = true_not_false h
known_at Sealed t handle places more h = both_hold (nat_eq handle handle) (are_sent (suc handle) places (sent (suc handle) places (zeros places))) (nat_eq_self handle) (more (suc handle) h)

known_sent : (handle : ℕ) (places : List Place) → has_plain places ≡ false → are_sent handle places (sent handle places (zeros places)) ≡ true
known_sent handle [] h = refl
known_sent handle (p ∷ places) h = known_at p.way p.ty handle places (λ n k. known_sent n places k) h

result_known : (secret : Bool) (t : IntType) (handle : ℕ) → has_plain (record { way = sealed_if secret; ty = t } ∷ []) ≡ false →
    are_sent handle (record { way = sealed_if secret; ty = t } ∷ []) (option_to_list (slice_get (sent handle (record { way = sealed_if secret; ty = t } ∷ []) (pos 0 ∷ [])) 0)) ≡ true
result_known true t handle h = both_hold (nat_eq handle handle) true (nat_eq_self handle) refl
result_known false t handle h = true_not_false h

results_known : (sig : Signature) (result : Option IntType) (handle : ℕ) → has_plain (result_places sig result) ≡ false →
    are_sent handle (result_places sig result) (option_to_list (slice_get (sent handle (result_places sig result) (zeros (result_places sig result))) 0)) ≡ true
results_known sig None handle h = refl
results_known sig (Some t) handle h = result_known _ t handle h

pub known_replies_are_replies : KnownRepliesAreReplies
known_replies_are_replies handle blocks structs sig args no_result no_cell =
    let results : List Place = result_places sig sig.result in
    let places : List Place = call_places blocks structs sig.params args in
    both_hold (are_sent handle results (option_to_list (slice_get (sent handle results (zeros results)) 0))) (are_sent (next_after handle results) places (sent (next_after handle results) places (zeros places)))
    (results_known sig sig.result handle no_result) (known_sent (next_after handle results) places no_cell)
