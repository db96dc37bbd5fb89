-- With values in the place of handles, what was left are the numbers that came back.
use Rattle.std.proofs.Common.{◌≡◌, ◌<◌, ◌≤◌, ◌+◌, ◌∙◌, add-zero, append_assoc, length-append, sym, ap, refl, ℕ, ℤ, zero, suc, Bool, true, false, List, [], ◌∷◌, ◌++◌, length, map, arith, subst, if◌then◌else◌, Some}
use Rattle.std.specs.Prelude.{◌||◌, nat_lt, slice_get}
use Rattle.std.specs.List.{list_all}
use Rattle.std.proofs.lemmas.Bool.Decides.{nat_tests}
use Rattle.std.proofs.lemmas.List.{length-map}
use Rattle.std.proofs.lemmas.Bool.{and_from}
use Rattle.pt_base.specs.declared.int_type.IntType.{IntType}
use Rattle.pt_base.proofs.Booleans.{and_true_first, and_true_second, true_not_false}
use Rattle.block_memory.specs.declared.cell.BlockName.{BlockName}
use Rattle.block_memory.specs.declared.cell.BlockName.TheVariants.{Received}
use Rattle.block_memory.specs.declared.cell.Cell.{Cell}
use Rattle.block_memory.specs.declared.cell.Cell.TheVariants as cell
use Rattle.block_memory.specs.Blocks.{Blocks, is_same_name}
use Rattle.block_memory.proofs.BlocksLemmas.{same_name}
use Rattle.marshalling.specs.declared.crossing.Crossing.{Crossing}
use Rattle.marshalling.specs.declared.crossing.Crossing.TheVariants.{Stays, Plain, Sealed}
use Rattle.marshalling.specs.Handles.{Entries, entry_value}
use Rattle.marshalling.specs.HonestCalls.{AreKnown, AreLeft, is_known, left_cell, left_cells, revealed}
use Rattle.marshalling.specs.Packing.{is_among, number_of}
use Rattle.marshalling.specs.Replies.{AreServed, HoldNumbers, kept, kept_by, next_after, next_by, number_in, places_from, places_of, received}
use Rattle.marshalling.specs.Taking.{is_whole}
use Rattle.marshalling_law.proofs.BlockTakingLemmas.{types_by}
use Rattle.marshalling.proofs.ReplyLemmas.{holds_length, kept-append, length-kept, length-kept_by, length-places_from}
use Rattle.marshalling.proofs.TakingLemmas.{places_grow, whole_count}

abbrev Holds : Bool → Type 0
Holds true = Unit {0}
Holds false = ⊥

-- ---- a longer store

entry_before : (xs ys : Entries) (k : ℕ) → k < length xs → slice_get (xs ++ ys) k ≡ slice_get xs k
entry_before [] ys k h = absurd (omega arith)
entry_before (x ∷ xs) ys zero h = refl
entry_before (x ∷ xs) ys (suc k) h = entry_before xs ys k (omega arith)

entry_at : (xs ys : Entries) (y : IntType × ℤ) → slice_get (xs ++ y ∷ ys) (length xs) ≡ Some y
entry_at [] ys y = refl
entry_at (x ∷ xs) ys y = entry_at xs ys y

cell_more : (store more : Entries) (c : Cell) → is_known store c ≡ true → revealed (store ++ more) c ≡ revealed store c
cell_more store more (cell.Int v) h = refl
cell_more store more (cell.Ptr p) h = refl
cell_more store more (cell.Sealed handle) h =
    let test : nat_lt handle (length store) ≡ true = h in
    let lt : handle < length store = grind (arith, nat_tests, test) in
    ap (λ o. cell.Int (entry_value o)) (entry_before store more handle lt)

pub reveal_more : (store more : Entries) (cells : List Cell) → list_all (is_known store) cells ≡ true
    → map (revealed (store ++ more)) cells ≡ map (revealed store) cells
reveal_more store more [] h = refl
reveal_more store more (c ∷ cells) h =
    ap (λ x. x ∷ map (revealed (store ++ more)) cells) (cell_more store more c (and_true_first (is_known store c) (list_all (is_known store) cells) h))
    ∙ ap (λ xs. revealed store c ∷ xs) (reveal_more store more cells (and_true_second (is_known store c) (list_all (is_known store) cells) h))

known_cell : (store more : Entries) (c : Cell) → is_known store c ≡ true → is_known (store ++ more) c ≡ true
known_cell store more (cell.Int v) h = refl
known_cell store more (cell.Ptr p) h = refl
known_cell store more (cell.Sealed handle) h =
    let long : length (store ++ more) ≡ length store + length more = length-append store more in
    let test : nat_lt handle (length store) ≡ true = h in
    let lt : handle < length store = grind (arith, nat_tests, test) in
    let below : handle < length (store ++ more) = omega (arith, long, lt) in
    grind (arith, nat_tests, below)

pub known_more : (store more : Entries) (cells : List Cell) → list_all (is_known store) cells ≡ true
    → list_all (is_known (store ++ more)) cells ≡ true
known_more store more [] h = refl
known_more store more (c ∷ cells) h =
    and_from (is_known (store ++ more) c) (list_all (is_known (store ++ more)) cells)
    (known_cell store more c (and_true_first (is_known store c) (list_all (is_known store) cells) h))
    (known_more store more cells (and_true_second (is_known store c) (list_all (is_known store) cells) h))

-- ---- one block

-- of two cells the second, where it comes back
abbrev pub chosen : Crossing → Cell → Cell → Cell
chosen Stays x y = x
chosen Plain x y = y
chosen Sealed x y = y

abbrev pub merged : (ℕ → Crossing) → ℕ → List Cell → List Cell → List Cell
merged way i [] ys = []
merged way i (x ∷ xs) [] = x ∷ xs
merged way i (x ∷ xs) (y ∷ ys) = chosen (way i) x y ∷ merged way (suc i) xs ys

abbrev pub ints_of : List ℤ → List Cell
ints_of vs = map cell.Int vs

pub cell_shown : (w : Crossing) (store pre rest post : Entries) (handle : ℕ) (c : Cell) (v : ℤ) (t : IntType)
    → store ≡ pre ++ ((kept_by w t v ++ rest) ++ post) → length pre ≡ handle
    → revealed store (left_cell w handle c v) ≡ chosen w (revealed store c) (cell.Int v)
cell_shown Stays store pre rest post handle c v t is here = refl
cell_shown Plain store pre rest post handle c v t is here = refl
cell_shown Sealed store pre rest post handle c v t is here =
    ap (λ o. cell.Int (entry_value o))
    (ap (slice_get store) (sym here) ∙ ap (λ (s : Entries). slice_get s (length pre)) is ∙ entry_at pre (rest ++ post) (t, v))

-- the store's values behind the first one's
pub store_on : (store pre one rest post : Entries) → store ≡ pre ++ ((one ++ rest) ++ post) → store ≡ (pre ++ one) ++ (rest ++ post)
store_on store pre one rest post is = is ∙ ap (λ xs. pre ++ xs) (append_assoc one rest post) ∙ sym (append_assoc pre one (rest ++ post))

block_shown : (crossing : ℕ → ℕ → Crossing) (store pre post : Entries) (k i handle : ℕ) (types : List IntType) (cells : List Cell) (vs : List ℤ)
    → store ≡ pre ++ (kept (places_from crossing k i types) vs ++ post) → length pre ≡ handle
    → length types ≡ length cells → length types ≡ length vs
    → map (revealed store) (left_cells (crossing k) i handle cells vs) ≡ merged (crossing k) i (map (revealed store) cells) (ints_of vs)
block_shown crossing store pre post k i handle types [] vs is here lc lv = refl
block_shown crossing store pre post k i handle [] (c ∷ cells) vs is here lc lv = absurd (omega arith)
block_shown crossing store pre post k i handle (t ∷ types) (c ∷ cells) [] is here lc lv = absurd (omega arith)
block_shown crossing store pre post k i handle (t ∷ types) (c ∷ cells) (v ∷ vs) is here lc lv =
    let w = crossing k i in
    let rest = kept (places_from crossing k (suc i) types) vs in
    let one : revealed store (left_cell w handle c v) ≡ chosen w (revealed store c) (cell.Int v) =
    cell_shown w store pre rest post handle c v t is here in
    let all = block_shown crossing store (pre ++ kept_by w t v) post k (suc i) (next_by w handle) types cells vs
    (store_on store pre (kept_by w t v) rest post is) (length-kept_by w t v pre ∙ ap (next_by w) here) (omega arith) (omega arith) in
    ap (λ x. x ∷ map (revealed store) (left_cells (crossing k) (suc i) (next_by w handle) cells vs)) one
    ∙ ap (λ xs. chosen w (revealed store c) (cell.Int v) ∷ xs) all

one_known : (w : Crossing) (store : Entries) (handle : ℕ) (c : Cell) (v : ℤ) → is_known store c ≡ true → next_by w handle ≤ length store
    → is_known store (left_cell w handle c v) ≡ true
one_known Stays store handle c v h le = h
one_known Plain store handle c v h le = refl
one_known Sealed store handle c v h le = let lt : handle < length store = omega (arith, le) in grind (arith, nat_tests, lt)

block_known : (crossing : ℕ → ℕ → Crossing) (store : Entries) (k i handle : ℕ) (types : List IntType) (cells : List Cell) (vs : List ℤ)
    → list_all (is_known store) cells ≡ true → next_after handle (places_from crossing k i types) ≤ length store
    → length types ≡ length cells
    → list_all (is_known store) (left_cells (crossing k) i handle cells vs) ≡ true
block_known crossing store k i handle types [] vs h le lc = refl
block_known crossing store k i handle [] (c ∷ cells) vs h le lc = absurd (omega arith)
block_known crossing store k i handle (t ∷ types) (c ∷ cells) [] h le lc = h
block_known crossing store k i handle (t ∷ types) (c ∷ cells) (v ∷ vs) h le lc =
    let w = crossing k i in
    let grows : next_by w handle ≤ next_after (next_by w handle) (places_from crossing k (suc i) types) =
    places_grow (next_by w handle) (places_from crossing k (suc i) types) in
    and_from (is_known store (left_cell w handle c v)) (list_all (is_known store) (left_cells (crossing k) (suc i) (next_by w handle) cells vs))
    (one_known w store handle c v (and_true_first (is_known store c) (list_all (is_known store) cells) h) (omega (arith, grows, le)))
    (block_known crossing store k (suc i) (next_by w handle) types cells vs
    (and_true_second (is_known store c) (list_all (is_known store) cells) h) le (omega arith))

-- ---- all blocks

-- what the block of this name has, which was sent as number m
pub record Shown (crossing : ℕ → ℕ → Crossing) (store : Entries) (before served after : Blocks) (name : BlockName) (m : ℕ) : Type 0 where
  pub reveals : map (revealed store) (after name).cells
      ≡ merged (crossing m) 0 (map (revealed store) (before name).cells) (ints_of (map number_in (served (Received m)).cells))
  pub known : list_all (is_known store) (after name).cells ≡ true
  pub whole : length (before name).types ≡ length (before name).cells
  pub numbers : HoldNumbers (before name).types (served (Received m)).cells

-- the name is the first one, or one of those behind it
shown_step : (crossing : ℕ → ℕ → Crossing) (store : Entries) (before served after : Blocks) (n name : BlockName) (names : List BlockName) (k : ℕ)
    (b : Bool) → is_same_name n name ≡ b → Shown crossing store before served after n k
    → (is_among names name ≡ true → Shown crossing store before served after name (suc k + number_of names name))
    → (b || is_among names name) ≡ true
    → Shown crossing store before served after name (k + (if b then 0 else suc (number_of names name)))
shown_step crossing store before served after n name names k true e here rest h =
    subst (Shown crossing store before served after name) (sym (add-zero k))
    (subst (λ x. Shown crossing store before served after x k) (same_name n name e) here)
shown_step crossing store before served after n name names k false e here rest h =
    let same : suc k + number_of names name ≡ k + suc (number_of names name) = omega arith in
    subst (Shown crossing store before served after name) same (rest h)

pub blocks_shown : (crossing : ℕ → ℕ → Crossing) (store pre post : Entries) (before served after : Blocks) (k handle : ℕ)
    (names : List BlockName) (name : BlockName)
    → AreLeft crossing k names handle before served after
    → store ≡ pre ++ (kept (places_of crossing k (types_by before names)) (received served k (types_by before names)) ++ post)
    → length pre ≡ handle → list_all (λ n. is_whole (before n)) names ≡ true → AreServed served k (types_by before names)
    → AreKnown store before → is_among names name ≡ true
    → Shown crossing store before served after name (k + number_of names name)
blocks_shown crossing store pre post before served after k handle [] name left is here whole serves known among = true_not_false (sym among)
blocks_shown crossing store pre post before served after k handle (n ∷ names) name left is here whole serves known among =
    let types = (before n).types in
    let cells = (before n).cells in
    let numbers = (served (Received k)).cells in
    let vs = map number_in numbers in
    let places = places_from crossing k 0 types in
    let first_kept = kept places vs in
    let rest_kept = kept (places_of crossing (suc k) (types_by before names)) (received served (suc k) (types_by before names)) in
    let full = whole_count (before n) (and_true_first (is_whole (before n)) (list_all (λ n. is_whole (before n)) names) whole) in
    let count : length types ≡ length vs = holds_length types numbers serves.1 ∙ sym (length-map numbers number_in) in
    let many : length places ≡ length vs = length-places_from crossing k 0 types ∙ count in
    let parts : store ≡ pre ++ ((first_kept ++ rest_kept) ++ post) =
    is ∙ ap (λ xs. pre ++ (xs ++ post))
    (kept-append places (places_of crossing (suc k) (types_by before names)) vs (received served (suc k) (types_by before names)) many) in
    let on : store ≡ (pre ++ first_kept) ++ (rest_kept ++ post) = store_on store pre first_kept rest_kept post parts in
    let long : length (pre ++ first_kept) ≡ next_after handle places =
    length-kept places vs pre many ∙ ap (λ m. next_after m places) here in
    let total : length store ≡ length (pre ++ first_kept) + length (rest_kept ++ post) =
    ap length on ∙ length-append (pre ++ first_kept) (rest_kept ++ post) in
    let fits : next_after handle places ≤ length store = omega (arith, long, total) in
    let one : Shown crossing store before served after n k = record {
      reveals = ap (map (revealed store)) left.0
          ∙ block_shown crossing store pre (rest_kept ++ post) k 0 handle types cells vs
          (parts ∙ ap (λ xs. pre ++ xs) (append_assoc first_kept rest_kept post)) here full count;
      known = ap (list_all (is_known store)) left.0 ∙ block_known crossing store k 0 handle types cells vs (known n) fits full;
      whole = full;
      numbers = serves.1;
    } in
    shown_step crossing store before served after n name names k (is_same_name n name) refl one
    (blocks_shown crossing store (pre ++ first_kept) post before served after (suc k) (next_after handle places) names name left.1 on long
    (and_true_second (is_whole (before n)) (list_all (λ n. is_whole (before n)) names) whole) serves.2 known)
    among
