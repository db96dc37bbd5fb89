-- Posting is taking.
use Rattle.std.proofs.Common.{◌≡◌, ◌+◌, ◌∙◌, sym, ap, refl, ℕ, ℤ, suc, true, false, List, [], ◌∷◌, ◌++◌, length, map, arith, length-append, subst, Option}
use Rattle.std.specs.Prelude.{◌||◌, option_to_list, slice_get}
use Rattle.std.specs.List.{list_all, zip}
use Rattle.std.proofs.lemmas.List.{length-map}
use Rattle.std.proofs.lemmas.Bool.{or_parts}
use Rattle.pt_base.specs.declared.int_type.IntType.{IntType}
use Rattle.pt_base.proofs.Booleans.{and_true_first, and_true_second}
use Rattle.pt_tree.specs.declared.signature.Signature.{Signature}
use Rattle.typed_tree.specs.declared.types.StructInfo.{StructInfo}
use Rattle.block_memory.specs.declared.cell.Cell.{Cell}
use Rattle.block_memory.specs.declared.cell.BlockName.{BlockName}
use Rattle.block_memory.specs.declared.cell.BlockName.TheVariants.{Received}
use Rattle.block_memory.specs.Blocks.{Blocks}
use Rattle.marshalling.specs.declared.crossing.Crossing.{Crossing}
use Rattle.marshalling.specs.declared.crossing.Crossing.TheVariants.{Stays, Plain, Sealed}
use Rattle.marshalling.specs.Laws.{PostingIsTaking, RepliesHoldNumbers}
use Rattle.marshalling.specs.Packing.{names_of, packed, packed_block, packed_typed}
use Rattle.marshalling.specs.Replies.{AreServed, Place, block_types, has_plain, is_plain, next_after, next_by, number_in, packed_results, places_from, places_of, received, reply_of, result_places, sent, sent_by}
use Rattle.marshalling.specs.Taking.{after_reply, are_whole, call_crossing, call_places, is_whole, zeros}
use Rattle.marshalling.proofs.ReplyLemmas.{holds_length, length-places_from, reply_with, result_count}
use Rattle.marshalling.proofs.TakingLemmas.{whole_count}

-- ---- what is sent where nothing is plain

same_sent : (way : Crossing) (handle : ℕ) (v w : ℤ) → is_plain way ≡ false → sent_by way handle v ≡ sent_by way handle w
same_sent Stays handle v w h = refl
same_sent Plain handle v w h = cc
same_sent Sealed handle v w h = refl

-- the numbers don't matter
sent_known : (handle : ℕ) (places : List Place) (vs ws : List ℤ) → has_plain places ≡ false → length places ≡ length vs
    → length places ≡ length ws → sent handle places vs ≡ sent handle places ws
sent_known handle [] vs ws h lv lw = refl
sent_known handle (p ∷ places) [] ws h lv lw = absurd (omega arith)
sent_known handle (p ∷ places) (v ∷ vs) [] h lv lw = absurd (omega arith)
sent_known handle (p ∷ places) (v ∷ vs) (w ∷ ws) h lv lw =
    let parts = or_parts (is_plain p.way) (has_plain places) h in
    ap (λ xs. xs ++ sent (next_by p.way handle) places vs) (same_sent p.way handle v w parts.0)
    ∙ ap (λ xs. sent_by p.way handle w ++ xs) (sent_known (next_by p.way handle) places vs ws parts.1 (omega arith) (omega arith))

-- ---- counts

pub places_served : (crossing : ℕ → ℕ → Crossing) (served : Blocks) (k : ℕ) (types : List (List IntType)) → AreServed served k types
    → length (places_of crossing k types) ≡ length (received served k types)
places_served crossing served k [] h = refl
places_served crossing served k (t ∷ types) h =
    let cells = (served (Received k)).cells in
    let here = length-places_from crossing k 0 t ∙ holds_length t cells h.1 ∙ sym (length-map cells number_in) in
    let rest = places_served crossing served (suc k) types h.2 in
    length-append (places_from crossing k 0 t) (places_of crossing (suc k) types) ∙ ap (λ n. n + length (places_of crossing (suc k) types)) here
    ∙ ap (λ n. length (map number_in cells) + n) rest ∙ sym (length-append (map number_in cells) (received served (suc k) types))

zeros_count : (places : List Place) → length places ≡ length (zeros places)
zeros_count places = sym (length-map places _)

-- ---- the types that are sent

zip_types : (types : List IntType) (cells : List Cell) → length types ≡ length cells → block_types (map packed_typed (zip types cells)) ≡ types
zip_types [] cells h = refl
zip_types (t ∷ types) [] h = absurd (omega arith)
zip_types (t ∷ types) (c ∷ cells) h = ap (λ ts. t ∷ ts) (zip_types types cells (omega arith))

pub packed_types : (blocks : Blocks) (names : List BlockName) → list_all (λ name. is_whole (blocks name)) names ≡ true
    → map block_types (map (λ name. packed_block (blocks name)) names) ≡ map (λ name. (blocks name).types) names
packed_types blocks [] h = refl
packed_types blocks (name ∷ names) h =
    let here = whole_count (blocks name) (and_true_first (is_whole (blocks name)) (list_all (λ name. is_whole (blocks name)) names) h) in
    let rest = packed_types blocks names (and_true_second (is_whole (blocks name)) (list_all (λ name. is_whole (blocks name)) names) h) in
    ap (λ ts. ts ∷ map block_types (map (λ name. packed_block (blocks name)) names)) (zip_types (blocks name).types (blocks name).cells here)
    ∙ ap (λ ts. (blocks name).types ∷ ts) rest

-- ---- the law

-- a reply that holds no number is known
known : (handle : ℕ) (results : List Place) (vs : List ℤ) (places : List Place) (values : List ℤ) → has_plain results ≡ false
    → has_plain places ≡ false → length results ≡ length vs
    → length places ≡ length values → reply_of handle results vs places values ≡ reply_of handle results (zeros results) places (zeros places)
known handle results vs places values no_result no_cell lr lp =
    ap (λ xs. reply_with (slice_get xs 0) (sent (next_after handle results) places values))
    (sent_known handle results vs (zeros results) no_result lr (zeros_count results))
    ∙ ap (reply_with (slice_get (sent handle results (zeros results)) 0))
    (sent_known (next_after handle results) places values (zeros places) no_cell lp (zeros_count places))

-- the monitor's reply, by the types that the caller's blocks have
served_reply : (handle : ℕ) (structs : List StructInfo) (sig : Signature) (blocks : Blocks) (args : List Cell) (served : Blocks)
    (result : Option ℤ) → are_whole blocks args ≡ true
    → packed_results handle structs sig (packed blocks sig.params args) served result
    ≡ reply_of handle (result_places sig sig.result) (option_to_list result) (call_places blocks structs sig.params args)
    (received served 0 (map (λ name. (blocks name).types) (names_of args)))
served_reply handle structs sig blocks args served result whole =
    ap (λ types. reply_of handle (result_places sig sig.result) (option_to_list result) (places_of (call_crossing structs sig.params args) 0 types)
    (received served 0 types)) (packed_types blocks (names_of args) whole)

pub posting_takes : PostingIsTaking
posting_takes handle structs sig blocks args served result whole no_result no_cell serves right =
    let types = map (λ name. (blocks name).types) (names_of args) in
    let here : AreServed served 0 types = subst (AreServed served 0) (packed_types blocks (names_of args) whole) serves in
    let count = places_served (call_crossing structs sig.params args) served 0 types here in
    ap (after_reply handle blocks structs sig args)
    (served_reply handle structs sig blocks args served result whole
    ∙ known handle (result_places sig sig.result) (option_to_list result) (call_places blocks structs sig.params args)
    (received served 0 types) no_result no_cell (result_count sig sig.result result right) count)

-- ---- whether the reply holds a number

pub replies_hold_numbers : RepliesHoldNumbers
replies_hold_numbers structs sig blocks args whole =
    ap (λ types. has_plain (result_places sig sig.result) || has_plain (places_of (call_crossing structs sig.params args) 0 types))
    (packed_types blocks (names_of args) whole)
