-- Where no number comes back, what the reply has makes no difference.
use Rattle.std.proofs.Common.{◌≡◌, ◌≤◌, ◌++◌, ◌∙◌, sym, ap, refl, subst, ℕ, suc, Bool, true, false, List, [], ◌∷◌, map, arith, Option, Some, None}
use Rattle.std.specs.Prelude.{◌||◌, ◌↔◌, not}
use Rattle.std.specs.List.{list_any}
use Rattle.std.proofs.lemmas.Bool.{or_parts}
use Rattle.pt_base.specs.declared.int_type.IntType.{IntType}
use Rattle.pt_base.proofs.Booleans.{true_not_false}
use Rattle.pt_tree.specs.declared.signature.Signature.{Signature}
use Rattle.typed_tree.specs.declared.types.StructInfo.{StructInfo}
use Rattle.block_memory.specs.declared.cell.BlockName.{BlockName}
use Rattle.block_memory.specs.declared.cell.Cell.{Cell}
use Rattle.block_memory.specs.declared.cell.Cell.TheVariants as cell
use Rattle.block_memory.specs.Block.{with_cell}
use Rattle.block_memory.specs.Blocks.{Blocks, put}
use Rattle.wire.specs.declared.cell.WireCell.{WireCell}
use Rattle.wire.specs.declared.message.ReplyBody.{ReplyBody}
use Rattle.marshalling.specs.declared.crossing.Crossing.{Crossing}
use Rattle.marshalling.specs.declared.crossing.Crossing.TheVariants.{Stays, Plain, Sealed}
use Rattle.marshalling.specs.Crossings.{sealed_if}
use Rattle.marshalling.specs.Packing.{names_of, points}
use Rattle.marshalling.specs.Replies.{Place, has_plain, is_plain, next_after, places_from, places_of, result_places}
use Rattle.marshalling.specs.Taking.{Part, Taken, after_posting, after_reply_for, call_crossing, call_places, ended, known_reply, result_by, taken_blocks, taken_cell, taken_cells, taken_result}
use Rattle.marshalling.proofs.ReturnLemmas.{no_names}
use Rattle.marshalling.proofs.TakingLemmas.{SameShape, cells_shape, same_shape, shape-then}

-- ---- tests

abbrev Holds : Bool → Type 0
Holds true = Unit {0}
Holds false = ⊥

or_assoc : (a b c : Bool) → ((a || b) || c) ≡ (a || (b || c))
or_assoc true b c = refl
or_assoc false b c = refl

-- ---- handles for all that comes back

-- the next handle and the memory are the same
record Alike (p q : Part) : Type 0 where
  next : p.next ≡ q.next
  blocks : p.blocks ≡ q.blocks

cell_alike : (w : Crossing) (name : BlockName) (i : ℕ) (p q : Part) → is_plain w ≡ false → Alike p q
    → Alike (taken_cell w name i p) (taken_cell w name i q)
cell_alike Stays name i p q h same = same
cell_alike Plain name i p q h same = true_not_false h
cell_alike Sealed name i p q h same = record {
  next = ap suc same.next;
  blocks = ap (λ (b : Blocks). put b name (with_cell (b name) i (cell.Sealed p.next))) same.blocks
      ∙ ap (λ n. put q.blocks name (with_cell (q.blocks name) i (cell.Sealed n))) same.next;
}

cells_alike : (crossing : ℕ → ℕ → Crossing) (name : BlockName) (k i : ℕ) (types : List IntType) (p q : Part)
    → has_plain (places_from crossing k i types) ≡ false → Alike p q
    → Alike (taken_cells crossing name k i types p) (taken_cells crossing name k i types q)
cells_alike crossing name k i [] p q h same = same
cells_alike crossing name k i (t ∷ types) p q h same =
    let parts = or_parts (is_plain (crossing k i)) (has_plain (places_from crossing k (suc i) types)) h in
    cells_alike crossing name k (suc i) types (taken_cell (crossing k i) name i p) (taken_cell (crossing k i) name i q) parts.1
    (cell_alike (crossing k i) name i p q parts.0 same)

pub plain_append : (ps qs : List Place) → has_plain (ps ++ qs) ≡ (has_plain ps || has_plain qs)
plain_append [] qs = refl
plain_append (p ∷ ps) qs = ap (λ b. is_plain p.way || b) (plain_append ps qs) ∙ sym (or_assoc (is_plain p.way) (has_plain ps) (has_plain qs))

abbrev types_by : Blocks → List BlockName → List (List IntType)
types_by blocks names = map (λ name. (blocks name).types) names

blocks_alike : (crossing : ℕ → ℕ → Crossing) (start : Blocks) (k : ℕ) (names : List BlockName) (p q : Part) → SameShape start q.blocks
    → has_plain (places_of crossing k (types_by start names)) ≡ false → Alike p q
    → Alike (taken_blocks crossing k names p) (taken_blocks crossing k names q)
blocks_alike crossing start k [] p q shape h same = same
blocks_alike crossing start k (name ∷ names) p q shape h same =
    let types = (start name).types in
    let parts = or_parts (has_plain (places_from crossing k 0 types)) (has_plain (places_of crossing (suc k) (types_by start names)))
    (sym (plain_append (places_from crossing k 0 types) (places_of crossing (suc k) (types_by start names))) ∙ h) in
    let q_types : (q.blocks name).types ≡ types = shape.types name in
    let p_types : (p.blocks name).types ≡ types = ap (λ (b : Blocks). (b name).types) same.blocks ∙ q_types in
    let one : Alike (taken_cells crossing name k 0 types p) (taken_cells crossing name k 0 types q) =
    cells_alike crossing name k 0 types p q parts.0 same in
    let here : Alike (taken_cells crossing name k 0 (p.blocks name).types p) (taken_cells crossing name k 0 (q.blocks name).types q) =
    subst (λ ts. Alike (taken_cells crossing name k 0 ts p) (taken_cells crossing name k 0 (q.blocks name).types q)) (sym p_types)
    (subst (λ ts. Alike (taken_cells crossing name k 0 types p) (taken_cells crossing name k 0 ts q)) (sym q_types) one) in
    blocks_alike crossing start (suc k) names (taken_cells crossing name k 0 (p.blocks name).types p)
    (taken_cells crossing name k 0 (q.blocks name).types q)
    (shape-then start q.blocks (taken_cells crossing name k 0 (q.blocks name).types q).blocks shape
    (cells_shape crossing name k 0 (q.blocks name).types q)) parts.1 here

-- ---- the result

one_result : (w : Crossing) (next : ℕ) (r s : Option WireCell) → is_plain w ≡ false → result_by w next r ≡ result_by w next s
one_result Stays next r s h = refl
one_result Plain next r s h = cc
one_result Sealed next r s h = refl

result_alike : (places : List Place) (next : ℕ) (r s : Option WireCell) → has_plain places ≡ false → taken_result places next r ≡ taken_result places next s
result_alike [] next r s h = refl
result_alike (p ∷ places) next r s h = one_result p.way next r s (or_parts (is_plain p.way) (has_plain places) h).0

none_by : (sig : Signature) (t : Option IntType) (handle : ℕ) (r : Option Cell) → has_plain (result_places sig t) ≡ false
    → r ≡ taken_result (result_places sig t) handle None → (r ≡ None) ↔ (t ≡ None)
none_by sig None handle r h is = ((λ e. refl), (λ e. is))
none_by sig (Some t) handle r h is = go (not sig.declassify) h is
  where
    go : (secret : Bool) → (is_plain (sealed_if secret) || false) ≡ false → r ≡ result_by (sealed_if secret) handle None
        → (r ≡ None) ↔ (Some t ≡ None)
    go true h is = ((λ e. cc), (λ e. cc))
    go false h is = cc

-- ---- the whole

-- a result, the next handle and the memory
abbrev pub taken : Option Cell → ℕ → Blocks → Taken
taken result next blocks = record { result = result; next = next; blocks = blocks }

abbrev nothing : ReplyBody
nothing = record { result = None; cells = [] }

-- taking a reply of nothing, by the lists that code has
pub posted_by : (handle : ℕ) (blocks : Blocks) (structs : List StructInfo) (sig : Signature) (args : List Cell) (crossing : ℕ → ℕ → Crossing)
    (names : List BlockName) (reply : ReplyBody) → crossing ≡ call_crossing structs sig.params args → names ≡ names_of args
    → reply ≡ record { result = None; cells = [] }
    → has_plain (result_places sig sig.result) ≡ false → has_plain (call_places blocks structs sig.params args) ≡ false
    → after_reply_for handle blocks crossing names (result_places sig sig.result) reply ≡ after_posting handle blocks structs sig args
posted_by handle blocks structs sig args crossing names reply ranges all unknown no_result no_cell =
    let results = result_places sig sig.result in
    let by = call_crossing structs sig.params args in
    let known = known_reply handle blocks structs sig args in
    let behind = next_after handle results in
    let p : Part = record { sent = []; next = behind; blocks = blocks } in
    let q : Part = record { sent = known.cells; next = behind; blocks = blocks } in
    let same : Alike (taken_blocks by 0 (names_of args) p) (taken_blocks by 0 (names_of args) q) =
    blocks_alike by blocks 0 (names_of args) p q (same_shape blocks) no_cell (record { next = refl; blocks = refl }) in
    ap (after_reply_for handle blocks crossing names results) unknown
    ∙ ap (λ f. after_reply_for handle blocks f names results nothing) ranges
    ∙ ap (λ ns. after_reply_for handle blocks by ns results nothing) all
    ∙ ap (λ r. taken r (taken_blocks by 0 (names_of args) p).next (taken_blocks by 0 (names_of args) p).blocks)
    (result_alike results handle None known.result no_result)
    ∙ ap (λ n. taken (taken_result results handle known.result) n (taken_blocks by 0 (names_of args) p).blocks) same.next
    ∙ ap (taken (taken_result results handle known.result) (taken_blocks by 0 (names_of args) q).next) same.blocks

-- the same where no argument points into a block
pub posted_alone : (handle : ℕ) (blocks : Blocks) (structs : List StructInfo) (sig : Signature) (args : List Cell) (value : Option Cell) (next : ℕ)
    → list_any points args ≡ false → has_plain (result_places sig sig.result) ≡ false
    → value ≡ taken_result (result_places sig sig.result) handle None → next ≡ next_after handle (result_places sig sig.result)
    → taken value next blocks ≡ after_posting handle blocks structs sig args
posted_alone handle blocks structs sig args value next alone no_result is behind =
    let results = result_places sig sig.result in
    let by = call_crossing structs sig.params args in
    let known = known_reply handle blocks structs sig args in
    let q : Part = record { sent = known.cells; next = next_after handle results; blocks = blocks } in
    ap (λ r. taken r next blocks) (is ∙ result_alike results handle None known.result no_result)
    ∙ ap (λ n. taken (taken_result results handle known.result) n blocks) behind
    ∙ ap (λ ns. ended (taken_result results handle known.result) (taken_blocks by 0 ns q)) (sym (no_names [] args alone))

-- there is no result exactly where the signature has none
pub none_exactly : (handle : ℕ) (blocks after : Blocks) (structs : List StructInfo) (sig : Signature) (args : List Cell) (value : Option Cell)
    (next : ℕ) → has_plain (result_places sig sig.result) ≡ false
    → taken value next after ≡ after_posting handle blocks structs sig args → (value ≡ None) ↔ (sig.result ≡ None)
none_exactly handle blocks after structs sig args value next no_result is =
    let results = result_places sig sig.result in
    none_by sig sig.result handle value no_result
    (ap (λ (t : Taken). t.result) is
    ∙ result_alike results handle (known_reply handle blocks structs sig args).result None no_result)

-- ---- room

pub room_by : (a b : Taken) (limit : ℕ) → a ≡ b → b.next ≤ limit → a.next ≤ limit
room_by a b limit same le = let n : a.next ≡ b.next = ap (λ (t : Taken). t.next) same in omega (arith, n, le)

-- where no argument points into a block, the next handle is that behind the result
pub room_alone : (crossing : ℕ → ℕ → Crossing) (args : List Cell) (p : Part) (limit : ℕ) → list_any points args ≡ false
    → (taken_blocks crossing 0 (names_of args) p).next ≤ limit → p.next ≤ limit
room_alone crossing args p limit alone le = subst (λ ns. (taken_blocks crossing 0 ns p).next ≤ limit) (no_names [] args alone) le
