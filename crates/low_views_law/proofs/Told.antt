-- A reply is told again by the numbers in it, and the types that it leaves by the call.
use Rattle.std.proofs.Common.{◌≡◌, ◌∙◌, ◌+◌, ℕ, suc, ℤ, refl, ap, sym, arith, List, [], ◌∷◌, ◌++◌, length, drop, Option, Some, None}
use Rattle.std.specs.Prelude.{option_to_list, slice_get}
use Rattle.std.proofs.lemmas.List.{append-nil, map-append}
use Rattle.std.proofs.Math.Seq.{drop-append_seam}
use Rattle.pt_base.specs.declared.int_type.IntType.{IntType}
use Rattle.pt_tree.specs.declared.signature.Signature.{Signature}
use Rattle.typed_tree.specs.declared.types.StructInfo.{StructInfo}
use Rattle.block_memory.specs.Blocks.{Blocks}
use Rattle.wire.specs.declared.cell.WireCell.{WireCell}
use Rattle.wire.specs.declared.cell.WireCell.TheVariants as wire
use Rattle.wire.specs.declared.message.ReplyBody.{ReplyBody}
use Rattle.marshalling.specs.declared.crossing.Crossing.{Crossing}
use Rattle.marshalling.specs.declared.crossing.Crossing.TheVariants.{Stays, Plain, Sealed}
use Rattle.marshalling.specs.Crossings.{crossing_of, result_crossing}
use Rattle.marshalling.specs.Handles.{Entries}
use Rattle.marshalling.specs.Replies.{AreServed, IsResult, Place, kept, kept_results, next_after, packed_results, received, result_places, sent, types_in}
use Rattle.marshalling.proofs.ReplyLemmas.{result_count}
use Rattle.marshalling_law.proofs.PostingLemmas.{places_served}
use Rattle.pair_meaning.specs.Monitors as monitors
use Rattle.pair_meaning.specs.Monitors.{Low}
use Rattle.pair_meaning.specs.Rules.{Admitted, body_places}
use Rattle.pair_meaning.specs.LowView.{cells_of_told, count_plain, numbers_told, reply_of_told, result_told, told_in, types_kept, types_of_call}

-- ---- cells

cells_again : (handle : ℕ) (places : List Place) (values more : List ℤ) → length places ≡ length values → cells_of_told handle places (numbers_told (sent handle places values) ++ more) ≡ sent handle places values
cells_again handle [] values more h = refl
cells_again handle (p ∷ places) [] more h = absurd (omega (arith, h))
cells_again handle (p ∷ places) (v ∷ values) more h = go p.way p.ty (λ next. cells_again next places values more (omega (arith, h)))
  where
    go : (w : Crossing) (t : IntType) → ((next : ℕ) → cells_of_told next places (numbers_told (sent next places values) ++ more) ≡ sent next places values) →
        cells_of_told handle (record { way = w; ty = t } ∷ places) (numbers_told (sent handle (record { way = w; ty = t } ∷ places) (v ∷ values)) ++ more) ≡ sent handle (record { way = w; ty = t } ∷ places) (v ∷ values)
    go Stays t rest = rest handle
    go Plain t rest = ap (λ cells. wire.Number v ∷ cells) (rest handle)
    go Sealed t rest = ap (λ cells. wire.Sealed handle ∷ cells) (rest (suc handle))

one_told : (w : Crossing) (t : IntType) (handle : ℕ) (v : ℤ) →
    result_told (slice_get (sent handle (record { way = w; ty = t } ∷ []) (v ∷ [])) 0) ≡ numbers_told (sent handle (record { way = w; ty = t } ∷ []) (v ∷ []))
one_told Stays t handle v = refl
one_told Plain t handle v = refl
one_told Sealed t handle v = refl

result_is_told : (sig : Signature) (t : Option IntType) (handle : ℕ) (value : Option ℤ) → IsResult t value →
    result_told (slice_get (sent handle (result_places sig t) (option_to_list value)) 0) ≡ numbers_told (sent handle (result_places sig t) (option_to_list value))
result_is_told sig None handle value h = refl
result_is_told sig (Some t) handle None h = elim h [ ]
result_is_told sig (Some t) handle (Some v) h = one_told (result_crossing sig) t handle v

-- ---- the reply

abbrev reply_with : Option WireCell → List WireCell → ReplyBody
reply_with result cells = record { result = result; cells = cells }

-- the reply whose first cells are these
abbrev built : Low → Admitted → List WireCell → List ℤ → ReplyBody
built view call first told = reply_with (slice_get first 0)
    (cells_of_told (next_after (length view.types) (result_places call.signature call.signature.result)) (body_places view.structs call.signature call.body) (drop (count_plain first) told))

pub reply_again : (view : Low) (call : Admitted) (blocks : Blocks) (value : Option ℤ) → AreServed blocks 0 (types_in call.body) → IsResult call.signature.result value →
    packed_results (length view.types) view.structs call.signature call.body blocks value ≡ reply_of_told view call (told_in (packed_results (length view.types) view.structs call.signature call.body blocks value))
reply_again view call blocks value served right =
    let handle : ℕ = length view.types in
    let results : List Place = result_places call.signature call.signature.result in
    let places : List Place = body_places view.structs call.signature call.body in
    let first : List WireCell = sent handle results (option_to_list value) in
    let cells : List WireCell = sent (next_after handle results) places (received blocks 0 (types_in call.body)) in
    let all : List ℤ = numbers_told first ++ numbers_told cells in
    let told : told_in (packed_results handle view.structs call.signature call.body blocks value) ≡ all = ap (λ (ns : List ℤ). ns ++ numbers_told cells) (result_is_told call.signature call.signature.result handle value right) in
    let first_is : cells_of_told handle results all ≡ first =
    cells_again handle results (option_to_list value) (numbers_told cells) (result_count call.signature call.signature.result value right) in
    let cells_are : cells_of_told (next_after handle results) places (numbers_told cells) ≡ cells =
    ap (λ (ns : List ℤ). cells_of_told (next_after handle results) places ns) (sym (append-nil (numbers_told cells)))
    ∙ cells_again (next_after handle results) places (received blocks 0 (types_in call.body)) [] (places_served (crossing_of view.structs call.signature.params call.body.args) blocks 0 (types_in call.body) served) in
    sym (ap (λ (ns : List ℤ). reply_of_told view call ns) told
    ∙ ap (λ (cs : List WireCell). built view call cs all) first_is
    ∙ ap (λ (ns : List ℤ). reply_with (slice_get first 0) (cells_of_told (next_after handle results) places ns)) (drop-append_seam (numbers_told first) (numbers_told cells))
    ∙ ap (λ (cs : List WireCell). reply_with (slice_get first 0) cs) cells_are)

-- ---- the types of what is stored

kept_again : (places : List Place) (values : List ℤ) → length places ≡ length values → monitors.types_in (kept places values) ≡ types_kept places
kept_again [] values h = refl
kept_again (p ∷ places) [] h = absurd (omega (arith, h))
kept_again (p ∷ places) (v ∷ values) h = go p.way p.ty (kept_again places values (omega (arith, h)))
  where
    go : (w : Crossing) (t : IntType) → monitors.types_in (kept places values) ≡ types_kept places → monitors.types_in (kept (record { way = w; ty = t } ∷ places) (v ∷ values)) ≡ types_kept (record { way = w; ty = t } ∷ places)
    go Stays t rest = rest
    go Plain t rest = rest
    go Sealed t rest = ap (λ (ts : List IntType). t ∷ ts) rest

both_types : (store more : Entries) (types : List IntType) → monitors.types_in more ≡ types → monitors.types_in (store ++ more) ≡ monitors.types_in store ++ types
both_types store more types h = map-append (λ entry. entry.0) store more ∙ ap (λ (ts : List IntType). monitors.types_in store ++ ts) h

pub types_again : (store : Entries) (structs : List StructInfo) (call : Admitted) (blocks : Blocks) (value : Option ℤ) → AreServed blocks 0 (types_in call.body) → IsResult call.signature.result value →
    monitors.types_in (store ++ kept_results structs call.signature call.body blocks value) ≡ monitors.types_in store ++ types_of_call structs call.signature call.body
types_again store structs call blocks value served right =
    let results : List Place = result_places call.signature call.signature.result in
    let places : List Place = body_places structs call.signature call.body in
    both_types store (kept_results structs call.signature call.body blocks value) (types_of_call structs call.signature call.body)
    (both_types (kept results (option_to_list value)) (kept places (received blocks 0 (types_in call.body))) (types_kept places) (kept_again places (received blocks 0 (types_in call.body)) (places_served (crossing_of structs call.signature.params call.body.args) blocks 0 (types_in call.body) served))
    ∙ ap (λ (ts : List IntType). ts ++ types_kept places) (kept_again results (option_to_list value) (result_count call.signature call.signature.result value right)))
