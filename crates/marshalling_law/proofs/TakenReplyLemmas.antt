-- A reply that the call can have leaves just what it says.
use Rattle.std.proofs.Common.{◌≡◌, ◌≤◌, ◌+◌, ◌∙◌, zero-add, add-zero, append_assoc, length-append, sym, ap, refl, subst, ℕ, ℤ, pos, zero, suc, Bool, true, false, List, [], ◌∷◌, ◌++◌, length, take, drop, map, arith, Option, Some, None, if◌then◌else◌}
use Rattle.std.specs.Prelude.{◌||◌, not, nat_eq, option_to_list, slice_get}
use Rattle.std.specs.List.{list_all}
use Rattle.std.specs.Option.{option_map}
use Rattle.std.proofs.lemmas.List.{append-nil, length-take-le, map-append, take-append-drop}
use Rattle.std.proofs.lemmas.Bool.{or_parts}
use Rattle.pt_base.specs.declared.int_type.IntType.{IntType}
use Rattle.pt_int.specs.Conversion.{is_in_range}
use Rattle.pt_tree.specs.declared.signature.Signature.{Signature}
use Rattle.block_memory.specs.declared.cell.BlockName.{BlockName}
use Rattle.block_memory.specs.declared.cell.Cell.{Cell}
use Rattle.block_memory.specs.declared.cell.Cell.TheVariants as cell
use Rattle.block_memory.specs.Block.{Block}
use Rattle.block_memory.specs.Blocks.{Blocks, is_same_name}
use Rattle.block_memory.proofs.BlocksLemmas.{same_name}
use Rattle.wire.specs.declared.cell.WireCell.{WireCell}
use Rattle.wire.specs.declared.cell.WireCell.TheVariants as wire
use Rattle.marshalling.specs.declared.crossing.Crossing.{Crossing}
use Rattle.marshalling.specs.declared.crossing.Crossing.TheVariants.{Stays, Plain, Sealed}
use Rattle.marshalling.specs.Crossings.{sealed_if}
use Rattle.marshalling.specs.HonestCalls.{left_cell, left_cells}
use Rattle.marshalling.specs.Packing.{are_distinct, is_among, names_of, number_of}
use Rattle.marshalling.specs.Replies.{Place, next_after, next_by, places_from, places_of, result_places, sent, sent_by}
use Rattle.marshalling.specs.TakenReplies.{RepliesAreTaken, as_sent, back_from, back_of}
use Rattle.marshalling.specs.Taking.{Part, are_sent, call_crossing, call_places, comes_back, is_whole, result_by, taken_blocks, taken_cells, taken_result}
use Rattle.marshalling_law.proofs.BlockTakingLemmas.{Took, all_whole, cells_took, next_after-append, same_types, types_by}
use Rattle.marshalling.proofs.NameLemmas.{from_distinct}
use Rattle.marshalling.proofs.ReplyLemmas.{length-places_from, sent-append}
use Rattle.marshalling.proofs.TakingLemmas.{cells_shape, whole_count}
use Rattle.marshalling.proofs.WalkLemmas.{place_by}
use Rattle.pt_base.proofs.Booleans.{and_true_first, and_true_second, false_not_true, from_not_true}
use Rattle.pt_base.proofs.Numbers.{nat_eq_same}

-- ---- tests

abbrev Holds : Bool → Type 0
Holds true = Unit {0}
Holds false = ⊥

-- ---- the numbers of a reply

-- the cells are what is sent of a number for the first place, and others
record Begins (w : Crossing) (handle : ℕ) (places : List Place) (cells : List WireCell) : Type 0 where
  value : ℤ
  rest : List WireCell
  are : cells ≡ sent_by w handle value ++ rest
  fit : are_sent (next_by w handle) places rest ≡ true

begins : (w : Crossing) (t : IntType) (handle : ℕ) (places : List Place) (cells : List WireCell)
    → are_sent handle (place_by w t ∷ places) cells ≡ true → Begins w handle places cells
begins Stays t handle places [] h = record { value = pos 0; rest = []; are = refl; fit = h }
begins Stays t handle places (c ∷ cells) h = record { value = pos 0; rest = c ∷ cells; are = refl; fit = h }
begins Plain t handle places [] h = false_not_true h
begins Plain t handle places (wire.Number v ∷ cells) h =
    record { value = v; rest = cells; are = refl; fit = and_true_second (is_in_range t v) (are_sent handle places cells) h }
begins Plain t handle places (wire.Sealed given ∷ cells) h = false_not_true h
begins Sealed t handle places [] h = false_not_true h
begins Sealed t handle places (wire.Number v ∷ cells) h = false_not_true h
begins Sealed t handle places (wire.Sealed given ∷ cells) h = record {
  value = pos 0;
  rest = cells;
  are = ap (λ n. wire.Sealed n ∷ cells) (nat_eq_same given handle (and_true_first (nat_eq given handle) (are_sent (suc handle) places cells) h));
  fit = and_true_second (nat_eq given handle) (are_sent (suc handle) places cells) h;
}

-- the cells are what is sent of these numbers
record Numbers (handle : ℕ) (places : List Place) (cells : List WireCell) : Type 0 where
  values : List ℤ
  count : length places ≡ length values
  are : cells ≡ sent handle places values

numbers : (handle : ℕ) (places : List Place) (cells : List WireCell) → are_sent handle places cells ≡ true → Numbers handle places cells
numbers handle [] [] h = record { values = []; count = refl; are = refl }
numbers handle [] (c ∷ cells) h = false_not_true h
numbers handle (p ∷ places) cells h =
    let b = begins p.way p.ty handle places cells h in
    let r = numbers (next_by p.way handle) places b.rest b.fit in
    record {
      values = b.value ∷ r.values;
      count = ap suc r.count;
      are = b.are ∙ ap (λ xs. sent_by p.way handle b.value ++ xs) r.are;
    }

-- ---- one block

back_cell : (w : Crossing) (handle : ℕ) (c : Cell) (v : ℤ) (xs : List Cell) (ys : List WireCell) → xs ≡ map as_sent ys
    → (if comes_back w then left_cell w handle c v ∷ xs else xs) ≡ map as_sent (sent_by w handle v ++ ys)
back_cell Stays handle c v xs ys h = h
back_cell Plain handle c v xs ys h = ap (λ zs. cell.Int v ∷ zs) h
back_cell Sealed handle c v xs ys h = ap (λ zs. cell.Sealed handle ∷ zs) h

back_left : (crossing : ℕ → ℕ → Crossing) (k i handle : ℕ) (types : List IntType) (cells : List Cell) (vs : List ℤ)
    → length types ≡ length cells → length types ≡ length vs
    → back_from (crossing k) i (left_cells (crossing k) i handle cells vs) ≡ map as_sent (sent handle (places_from crossing k i types) vs)
back_left crossing k i handle [] [] vs lc lv = refl
back_left crossing k i handle [] (c ∷ cells) vs lc lv = absurd (omega arith)
back_left crossing k i handle (t ∷ types) [] vs lc lv = absurd (omega arith)
back_left crossing k i handle (t ∷ types) (c ∷ cells) [] lc lv = absurd (omega arith)
back_left crossing k i handle (t ∷ types) (c ∷ cells) (v ∷ vs) lc lv =
    let w = crossing k i in
    back_cell w handle c v (back_from (crossing k) (suc i) (left_cells (crossing k) (suc i) (next_by w handle) cells vs))
    (sent (next_by w handle) (places_from crossing k (suc i) types) vs)
    (back_left crossing k (suc i) (next_by w handle) types cells vs (omega arith) (omega arith))

-- what doesn't come back
stays_cell : (w : Crossing) (handle : ℕ) (c : Cell) (v : ℤ) → w ≡ Stays → left_cell w handle c v ≡ c
stays_cell Stays handle c v h = refl
stays_cell Plain handle c v h = cc
stays_cell Sealed handle c v h = cc

stays_left : (way : ℕ → Crossing) (i handle : ℕ) (cells : List Cell) (vs : List ℤ) (j m : ℕ) → m ≡ i + j → way m ≡ Stays
    → slice_get (left_cells way i handle cells vs) j ≡ slice_get cells j
stays_left way i handle [] vs j m at h = refl
stays_left way i handle (c ∷ cells) [] j m at h = refl
stays_left way i handle (c ∷ cells) (v ∷ vs) zero m at h =
    let same : i ≡ m = omega (arith, at) in
    ap Some (stays_cell (way i) handle c v (ap way same ∙ h))
stays_left way i handle (c ∷ cells) (v ∷ vs) (suc j) m at h =
    stays_left way (suc i) (next_by (way i) handle) cells vs j m (omega (arith, at)) h

-- ---- all blocks

-- the cells of `all` were taken into the blocks of these names
record BackAll (crossing : ℕ → ℕ → Crossing) (k : ℕ) (names : List BlockName) (all more : List WireCell) (p q : Part) : Type 0 where
  left : q.sent ≡ more
  handle : q.next ≡ next_after p.next (places_of crossing k (types_by p.blocks names))
  cells : back_of crossing k names q.blocks ≡ map as_sent all
  stays : (name : BlockName) (i : ℕ) → is_among names name ≡ true → crossing (k + number_of names name) i ≡ Stays
      → slice_get (q.blocks name).cells i ≡ slice_get (p.blocks name).cells i
  types : (other : BlockName) → (q.blocks other).types ≡ (p.blocks other).types
  beside : (other : BlockName) → is_among names other ≡ false → q.blocks other ≡ p.blocks other

stays_step : (crossing : ℕ → ℕ → Crossing) (k : ℕ) (n name : BlockName) (names : List BlockName) (p q r : Blocks) (i : ℕ) (b : Bool)
    → is_same_name n name ≡ b → (crossing k i ≡ Stays → slice_get (r n).cells i ≡ slice_get (p n).cells i)
    → (is_among names name ≡ true → crossing (suc k + number_of names name) i ≡ Stays → slice_get (r name).cells i ≡ slice_get (q name).cells i)
    → (is_same_name n name ≡ false → q name ≡ p name) → (b || is_among names name) ≡ true
    → crossing (k + (if b then 0 else suc (number_of names name))) i ≡ Stays → slice_get (r name).cells i ≡ slice_get (p name).cells i
stays_step crossing k n name names p q r i true e here rest other h way =
    subst (λ x. slice_get (r x).cells i ≡ slice_get (p x).cells i) (same_name n name e)
    (here (ap (λ m. crossing m i) (sym (add-zero k)) ∙ way))
stays_step crossing k n name names p q r i false e here rest other h way =
    let same : suc k + number_of names name ≡ k + suc (number_of names name) = omega arith in
    rest h (ap (λ m. crossing m i) same ∙ way) ∙ ap (λ (x : Block). slice_get x.cells i) (other e)

then_back : (crossing : ℕ → ℕ → Crossing) (k : ℕ) (name : BlockName) (names : List BlockName) (vs : List ℤ) (now later all more : List WireCell)
    (p q r : Part) → is_among names name ≡ false → length (p.blocks name).types ≡ length (p.blocks name).cells
    → length (p.blocks name).types ≡ length vs → now ≡ sent p.next (places_from crossing k 0 (p.blocks name).types) vs → all ≡ now ++ later
    → Took name [] (left_cells (crossing k) 0 p.next (p.blocks name).cells vs) (later ++ more)
    (next_after p.next (places_from crossing k 0 (p.blocks name).types)) p q
    → BackAll crossing (suc k) names later more q r → BackAll crossing k (name ∷ names) all more p r
then_back crossing k name names vs now later all more p q r alone whole count is parts one rest =
    let types = (p.blocks name).types in
    let places = places_from crossing k 0 types in
    let others = places_of crossing (suc k) (types_by p.blocks names) in
    let here : (r.blocks name).cells ≡ left_cells (crossing k) 0 p.next (p.blocks name).cells vs =
    ap (λ (b : Block). b.cells) (rest.beside name alone) ∙ one.cells in
    record {
      left = rest.left;
      handle = rest.handle ∙ ap (λ n. next_after n (places_of crossing (suc k) (types_by q.blocks names))) one.handle
          ∙ ap (λ ts. next_after (next_after p.next places) (places_of crossing (suc k) ts)) (same_types q.blocks p.blocks names one.types)
          ∙ sym (next_after-append p.next places others);
      cells = ap (λ xs. back_from (crossing k) 0 xs ++ back_of crossing (suc k) names r.blocks) here
          ∙ ap (λ xs. xs ++ back_of crossing (suc k) names r.blocks)
          (back_left crossing k 0 p.next types (p.blocks name).cells vs whole count ∙ sym (ap (map as_sent) is))
          ∙ ap (λ xs. map as_sent now ++ xs) rest.cells ∙ sym (map-append as_sent now later) ∙ sym (ap (map as_sent) parts);
      stays = λ x i among way.
          stays_step crossing k name x names p.blocks q.blocks r.blocks i (is_same_name name x) refl
          (λ s. ap (λ xs. slice_get xs i) here
          ∙ stays_left (crossing k) 0 p.next (p.blocks name).cells vs i i (sym (zero-add i)) s)
          (rest.stays x i) (one.others x) among way;
      types = λ other. rest.types other ∙ one.types other;
      beside = λ other h.
          let parts = or_parts (is_same_name name other) (is_among names other) h in
          rest.beside other parts.1 ∙ one.others other parts.0;
    }

blocks_back : (crossing : ℕ → ℕ → Crossing) (k : ℕ) (names : List BlockName) (vs : List ℤ) (all more : List WireCell) (p : Part)
    → are_distinct names ≡ true → list_all (λ name. is_whole (p.blocks name)) names ≡ true
    → length (places_of crossing k (types_by p.blocks names)) ≡ length vs → all ≡ sent p.next (places_of crossing k (types_by p.blocks names)) vs
    → p.sent ≡ all ++ more
    → BackAll crossing k names all more p (taken_blocks crossing k names p)
blocks_back crossing k [] vs all more p distinct whole count is has = record {
  left = has ∙ ap (λ xs. xs ++ more) is;
  handle = refl;
  cells = sym (ap (map as_sent) is);
  stays = λ name i among way. false_not_true among;
  types = λ other. refl;
  beside = λ other h. refl;
}
blocks_back crossing k (name ∷ names) vs all more p distinct whole count is has =
    let types = (p.blocks name).types in
    let places = places_from crossing k 0 types in
    let rest = types_by p.blocks names in
    let others = places_of crossing (suc k) rest in
    let vs1 = take (length types) vs in
    let vs2 = drop (length types) vs in
    let now = sent p.next places vs1 in
    let later = sent (next_after p.next places) others vs2 in
    let q = taken_cells crossing name k 0 types p in
    let alone : is_among names name ≡ false = from_not_true (is_among names name) (and_true_first (not (is_among names name)) (are_distinct names) distinct) in
    let full = whole_count (p.blocks name) (and_true_first (is_whole (p.blocks name)) (list_all (λ name. is_whole (p.blocks name)) names) whole) in
    let long_places : length places ≡ length types = length-places_from crossing k 0 types in
    let long_all : length (places ++ others) ≡ length places + length others = length-append places others in
    let both : vs1 ++ vs2 ≡ vs = take-append-drop (length types) vs in
    let long_both : length (vs1 ++ vs2) ≡ length vs1 + length vs2 = length-append vs1 vs2 in
    let within : length types ≤ length vs = omega (arith, count, long_places, long_all) in
    let long_first : length vs1 ≡ length types = length-take-le (length types) vs within in
    let long_again : length (vs1 ++ vs2) ≡ length vs = ap length both in
    let count_first : length places ≡ length vs1 = long_places ∙ sym long_first in
    let count_rest : length others ≡ length vs2 = omega (arith, count, long_places, long_all, long_both, long_first, long_again) in
    let parts : all ≡ now ++ later =
    is ∙ ap (sent p.next (places ++ others)) (sym both) ∙ sent-append p.next places others vs1 vs2 count_first in
    let cut : p.sent ≡ now ++ (later ++ more) = has ∙ ap (λ xs. xs ++ more) parts ∙ append_assoc now later more in
    let one : Took name [] (left_cells (crossing k) 0 p.next (p.blocks name).cells vs1) (later ++ more) (next_after p.next places) p q =
    cells_took crossing name k 0 types [] (p.blocks name).cells vs1 (later ++ more) p cut refl refl full (sym long_first) in
    let same : types_by q.blocks names ≡ rest = same_types q.blocks p.blocks names one.types in
    then_back crossing k name names vs1 now later all more p q (taken_blocks crossing (suc k) names q) alone full (sym long_first) refl parts one
    (blocks_back crossing (suc k) names vs2 later more q (and_true_second (not (is_among names name)) (are_distinct names) distinct)
    (all_whole p.blocks q.blocks names (cells_shape crossing name k 0 types p)
    (and_true_second (is_whole (p.blocks name)) (list_all (λ name. is_whole (p.blocks name)) names) whole))
    (ap (λ ts. length (places_of crossing (suc k) ts)) same ∙ count_rest)
    (ap (λ n. sent n others vs2) (sym one.handle) ∙ ap (λ ts. sent q.next (places_of crossing (suc k) ts) vs2) (sym same))
    one.left)

-- ---- the result

result_taken : (sig : Signature) (t : Option IntType) (handle : ℕ) (r : Option WireCell)
    → are_sent handle (result_places sig t) (option_to_list r) ≡ true → taken_result (result_places sig t) handle r ≡ option_map as_sent r
result_taken sig None handle None h = refl
result_taken sig None handle (Some c) h = false_not_true h
result_taken sig (Some t) handle r h = go (not sig.declassify) r h
  where
    go : (secret : Bool) (r : Option WireCell) → are_sent handle (place_by (sealed_if secret) t ∷ []) (option_to_list r) ≡ true
        → result_by (sealed_if secret) handle r ≡ option_map as_sent r
    go true None h = false_not_true h
    go true (Some (wire.Number v)) h = false_not_true h
    go true (Some (wire.Sealed given)) h =
        ap (λ n. Some (cell.Sealed n)) (sym (nat_eq_same given handle (and_true_first (nat_eq given handle) true h)))
    go false None h = false_not_true h
    go false (Some (wire.Number v)) h = refl
    go false (Some (wire.Sealed given)) h = false_not_true h

-- ---- the law

pub replies_are_taken : RepliesAreTaken
replies_are_taken handle structs sig blocks args reply whole good =
    let names = names_of args in
    let crossing = call_crossing structs sig.params args in
    let results = result_places sig sig.result in
    let places = call_places blocks structs sig.params args in
    let behind = next_after handle results in
    let first_half = and_true_first (are_sent handle results (option_to_list reply.result)) (are_sent behind places reply.cells) good in
    let second_half = and_true_second (are_sent handle results (option_to_list reply.result)) (are_sent behind places reply.cells) good in
    let n = numbers behind places reply.cells second_half in
    let start : Part = record { sent = reply.cells; next = behind; blocks = blocks } in
    let back : BackAll crossing 0 names reply.cells [] start (taken_blocks crossing 0 names start) =
    blocks_back crossing 0 names n.values reply.cells [] start (from_distinct [] args refl) whole n.count n.are (sym (append-nil reply.cells)) in
    record {
      result = result_taken sig sig.result handle reply.result first_half;
      cells = back.cells;
      next = back.handle;
      stays = λ name i among way.
          back.stays name i among (ap (λ m. crossing m i) (zero-add (number_of names name)) ∙ way);
      beside = back.beside;
      types = back.types;
    }
