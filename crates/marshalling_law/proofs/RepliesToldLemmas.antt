-- A reply is made of what it tells and of the next handles.
use Rattle.std.proofs.Common.{◌≡◌, ◌∙◌, ◌+◌, ◌≤◌, ℕ, zero, suc, ℤ, ap, sym, refl, subst, arith, List, [], ◌∷◌, Option, Some, None}
use Rattle.std.specs.Prelude.{option_to_list, slice_get}
use Rattle.pt_base.specs.declared.int_type.IntType.{IntType}
use Rattle.pt_tree.specs.declared.signature.Signature.{Signature}
use Rattle.wire.specs.declared.cell.WireCell.{WireCell}
use Rattle.wire.specs.declared.cell.WireCell.TheVariants as wire
use Rattle.wire.specs.declared.message.ReplyBody.{ReplyBody}
use Rattle.marshalling.specs.declared.crossing.Crossing.{Crossing}
use Rattle.marshalling.specs.declared.crossing.Crossing.TheVariants.{Stays, Plain, Sealed}
use Rattle.marshalling.specs.Crossings.{crossing_of, result_crossing}
use Rattle.marshalling.specs.Replies.{IsResult, Place, next_after, places_of, received, result_places, sent, types_in}
use Rattle.marshalling.proofs.ReplyLemmas.{result_count}
use Rattle.marshalling_law.proofs.PostingLemmas.{places_served}
use Rattle.marshalling_law.specs.RepliesLaws.{CellsByWhatIsTold, RepliesByWhatIsTold, given, told_in}

pub cells_by_what_is_told : CellsByWhatIsTold
cells_by_what_is_told handle [] values h = refl
cells_by_what_is_told handle (p ∷ places) [] h = absurd (omega (arith, h))
cells_by_what_is_told handle (p ∷ places) (v ∷ values) h = go p.way p.ty (λ next. cells_by_what_is_told next places values (omega (arith, h)))
  where
    go : (w : Crossing) (t : IntType) → ((next : ℕ) → sent next places values ≡ given next places (told_in (sent next places values))) →
        sent handle (record { way = w; ty = t } ∷ places) (v ∷ values) ≡ given handle (record { way = w; ty = t } ∷ places) (told_in (sent handle (record { way = w; ty = t } ∷ places) (v ∷ values)))
    go Stays t rest = rest handle
    go Plain t rest = ap (λ cells. wire.Number v ∷ cells) (rest handle)
    go Sealed t rest = ap (λ cells. wire.Sealed handle ∷ cells) (rest (suc handle))

-- ---- the result

one_cell : (w : Crossing) (t : IntType) (handle : ℕ) (v : ℤ) → option_to_list (slice_get (sent handle (record { way = w; ty = t } ∷ []) (v ∷ [])) 0) ≡ sent handle (record { way = w; ty = t } ∷ []) (v ∷ [])
one_cell Stays t handle v = refl
one_cell Plain t handle v = refl
one_cell Sealed t handle v = refl

result_list : (sig : Signature) (t : Option IntType) (handle : ℕ) (value : Option ℤ) → IsResult t value → option_to_list (slice_get (sent handle (result_places sig t) (option_to_list value)) 0) ≡ sent handle (result_places sig t) (option_to_list value)
result_list sig None handle None h = refl
result_list sig None handle (Some v) h = refl
result_list sig (Some t) handle None h = refl
result_list sig (Some t) handle (Some v) h = one_cell (result_crossing sig) t handle v

abbrev reply_with : Option WireCell → List WireCell → ReplyBody
reply_with result cells = record { result = result; cells = cells }

pub replies_by_what_is_told : RepliesByWhatIsTold
replies_by_what_is_told handle structs sig body served value numbers is =
    ap (λ result. reply_with result (sent (next_after handle (result_places sig sig.result)) (places_of (crossing_of structs sig.params body.args) 0 (types_in body)) (received served 0 (types_in body)))) (ap (λ (xs : List WireCell). slice_get xs 0) (cells_by_what_is_told handle (result_places sig sig.result) (option_to_list value) (result_count sig sig.result value is)
    ∙ ap (λ (xs : List WireCell). given handle (result_places sig sig.result) (told_in xs)) (sym (result_list sig sig.result handle value is))))
    ∙ ap (λ (xs : List WireCell). reply_with (slice_get (given handle (result_places sig sig.result) (told_in (option_to_list (slice_get (sent handle (result_places sig sig.result) (option_to_list value)) 0)))) 0) xs)
    (cells_by_what_is_told (next_after handle (result_places sig sig.result)) (places_of (crossing_of structs sig.params body.args) 0 (types_in body)) (received served 0 (types_in body)) (places_served (crossing_of structs sig.params body.args) served 0 (types_in body) numbers))
