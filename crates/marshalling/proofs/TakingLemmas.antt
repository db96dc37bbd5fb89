-- Steps of the walk that writes what came back.
use Rattle.std.proofs.Common.{◌≡◌, ◌<◌, ◌≤◌, ◌+◌, ◌∙◌, sym, ap, refl, ℕ, zero, suc, true, List, [], ◌∷◌, length, drop, get_or, arith, add-one, subst}
use Rattle.std.specs.Prelude.{◌&&◌, nat_eq, nat_le}
use Rattle.std.proofs.lemmas.Bool.Decides.{nat_tests}
use Rattle.pt_base.specs.declared.int_type.IntType.{IntType}
use Rattle.pt_base.proofs.Booleans.{and_true_first, and_true_second}
use Rattle.pt_base.proofs.Places.{drop_step_at}
use Rattle.block_memory.specs.declared.cell.BlockName.{BlockName}
use Rattle.block_memory.specs.Block.{Block}
use Rattle.block_memory.specs.Blocks.{Blocks}
use Rattle.block_memory.proofs.BlocksLemmas.{length-write, types-write}
use Rattle.wire.specs.declared.cell.WireCell.{WireCell}
use Rattle.marshalling.specs.declared.crossing.Crossing.{Crossing}
use Rattle.marshalling.specs.declared.crossing.Crossing.TheVariants.{Stays, Plain, Sealed}
use Rattle.marshalling.specs.Replies.{Place, next_after, next_by}
use Rattle.marshalling.specs.Taking.{Part, is_whole, taken_blocks, taken_cell, taken_cells, with_number}

-- ---- what writing keeps

-- each block has the types and the number of cells that it had
pub record SameShape (old new : Blocks) : Type 0 where
  pub types : (name : BlockName) → (new name).types ≡ (old name).types
  pub count : (name : BlockName) → length (new name).cells ≡ length (old name).cells

pub same_shape : (blocks : Blocks) → SameShape blocks blocks
same_shape blocks = record { types = λ name. refl; count = λ name. refl }

pub shape-then : (a b c : Blocks) → SameShape a b → SameShape b c → SameShape a c
shape-then a b c h k = record { types = λ name. k.types name ∙ h.types name; count = λ name. k.count name ∙ h.count name }

number_shape : (name : BlockName) (i : ℕ) (sent : List WireCell) (next : ℕ) (blocks : Blocks)
    → SameShape blocks (with_number name i sent next blocks).blocks
number_shape name i [] next blocks = same_shape blocks
number_shape name i (s ∷ sent) next blocks = record { types = types-write blocks name i _; count = length-write blocks name i _ }

cell_shape : (way : Crossing) (name : BlockName) (i : ℕ) (p : Part) → SameShape p.blocks (taken_cell way name i p).blocks
cell_shape Stays name i p = same_shape p.blocks
cell_shape Plain name i p = number_shape name i p.sent p.next p.blocks
cell_shape Sealed name i p = record { types = types-write p.blocks name i _; count = length-write p.blocks name i _ }

pub cells_shape : (crossing : ℕ → ℕ → Crossing) (name : BlockName) (k i : ℕ) (types : List IntType) (p : Part)
    → SameShape p.blocks (taken_cells crossing name k i types p).blocks
cells_shape crossing name k i [] p = same_shape p.blocks
cells_shape crossing name k i (t ∷ types) p =
    shape-then _ _ _ (cell_shape (crossing k i) name i p) (cells_shape crossing name k (suc i) types (taken_cell (crossing k i) name i p))

-- ---- handles

number_next : (name : BlockName) (i : ℕ) (sent : List WireCell) (next : ℕ) (blocks : Blocks) → (with_number name i sent next blocks).next ≡ next
number_next name i [] next blocks = refl
number_next name i (s ∷ sent) next blocks = refl

pub cell_next : (way : Crossing) (name : BlockName) (i : ℕ) (p : Part) → (taken_cell way name i p).next ≡ next_by way p.next
cell_next Stays name i p = refl
cell_next Plain name i p = number_next name i p.sent p.next p.blocks
cell_next Sealed name i p = refl

pub next_grows : (way : Crossing) (n : ℕ) → n ≤ next_by way n
next_grows Stays n = omega arith
next_grows Plain n = omega arith
next_grows Sealed n = omega arith

pub cells_grow : (crossing : ℕ → ℕ → Crossing) (name : BlockName) (k i : ℕ) (types : List IntType) (p : Part)
    → p.next ≤ (taken_cells crossing name k i types p).next
cells_grow crossing name k i [] p = omega arith
cells_grow crossing name k i (t ∷ types) p =
    let here = next_grows (crossing k i) p.next in
    let is = cell_next (crossing k i) name i p in
    let rest = cells_grow crossing name k (suc i) types (taken_cell (crossing k i) name i p) in
    omega (arith, here, is, rest)

pub blocks_grow : (crossing : ℕ → ℕ → Crossing) (k : ℕ) (names : List BlockName) (p : Part) → p.next ≤ (taken_blocks crossing k names p).next
blocks_grow crossing k [] p = omega arith
blocks_grow crossing k (name ∷ names) p =
    let here = cells_grow crossing name k 0 (p.blocks name).types p in
    let rest = blocks_grow crossing (suc k) names (taken_cells crossing name k 0 (p.blocks name).types p) in
    omega (arith, here, rest)

-- ---- one cell more

cells_rest : (crossing : ℕ → ℕ → Crossing) (name : BlockName) (k i j : ℕ) (types : List IntType) (p : Part) → j < length types
    → taken_cells crossing name k i (drop j types) p ≡ taken_cells crossing name k (suc i) (drop (suc j) types) (taken_cell (crossing k i) name i p)
cells_rest crossing name k i j [] p lt = absurd (omega arith)
cells_rest crossing name k i zero (t ∷ types) p lt = refl
cells_rest crossing name k i (suc j) (t ∷ types) p lt = cells_rest crossing name k i j types p (omega arith)

pub cell_more : (crossing : ℕ → ℕ → Crossing) (name : BlockName) (k i : ℕ) (types : List IntType) (w : Crossing) (before after whole : Part)
    → i < length types → w ≡ crossing k i
    → after ≡ taken_cell w name i before → taken_cells crossing name k i (drop i types) before ≡ whole
    → taken_cells crossing name k (i + 1) (drop (i + 1) types) after ≡ whole
cell_more crossing name k i types w before after whole lt is one so_far =
    rw (add-one i)
    (ap (taken_cells crossing name k (suc i) (drop (suc i) types)) (one ∙ ap (λ x. taken_cell x name i before) is) ∙ sym
    (cells_rest crossing name k i i types before lt) ∙ so_far)

-- a cell that is taken keeps the shape of all blocks, and so do several
pub cell_keeps : (w : Crossing) (name : BlockName) (i : ℕ) (before after : Part) → after ≡ taken_cell w name i before
    → SameShape before.blocks after.blocks
cell_keeps w name i before after one = subst (SameShape before.blocks) (sym (ap (λ p. p.blocks) one)) (cell_shape w name i before)

pub cells_keep : (crossing : ℕ → ℕ → Crossing) (name : BlockName) (k : ℕ) (types : List IntType) (before after : Part)
    → after ≡ taken_cells crossing name k 0 types before → SameShape before.blocks after.blocks
cells_keep crossing name k types before after one = subst (SameShape before.blocks) (sym (ap (λ p. p.blocks) one))
    (cells_shape crossing name k 0 types before)

-- there is room for the handle of the next cell
pub cell_room : (crossing : ℕ → ℕ → Crossing) (name : BlockName) (k i : ℕ) (types : List IntType) (w : Crossing) (before whole : Part)
    (limit : ℕ) → i < length types → w ≡ crossing k i
    → taken_cells crossing name k i (drop i types) before ≡ whole → whole.next ≤ limit → next_by w before.next ≤ limit
cell_room crossing name k i types w before whole limit lt is so_far room =
    let after = taken_cell w name i before in
    let more = cell_more crossing name k i types w before after whole lt is refl so_far in
    let grows = cells_grow crossing name k (i + 1) (drop (i + 1) types) after in
    let here = cell_next w name i before in
    let same : (taken_cells crossing name k (i + 1) (drop (i + 1) types) after).next ≡ whole.next = ap (λ p. p.next) more in
    omega (arith, grows, here, same, room)

-- ---- one block more

pub block_goes : (crossing : ℕ → ℕ → Crossing) (k : ℕ) (names : List BlockName) (name : BlockName) (before after whole : Part) → k < length names
    → name ≡ get_or names k name
    → after ≡ taken_cells crossing name k 0 (before.blocks name).types before → taken_blocks crossing k (drop k names) before ≡ whole
    → taken_blocks crossing (k + 1) (drop (k + 1) names) after ≡ whole
block_goes crossing k names name before after whole lt e one so_far =
    ap (taken_blocks crossing (k + 1) (drop (k + 1) names)) one
    ∙ ap (λ j. taken_blocks crossing j (drop (k + 1) names) (taken_cells crossing name k 0 (before.blocks name).types before)) (add-one k)
    ∙ sym (ap (λ ns. taken_blocks crossing k ns before) (drop_step_at names k name lt e)) ∙ so_far

pub block_room : (crossing : ℕ → ℕ → Crossing) (k : ℕ) (names : List BlockName) (name : BlockName) (before whole : Part) (limit : ℕ)
    → k < length names → name ≡ get_or names k name
    → taken_blocks crossing k (drop k names) before ≡ whole → whole.next ≤ limit
    → (taken_cells crossing name k 0 (before.blocks name).types before).next ≤ limit
block_room crossing k names name before whole limit lt e so_far room =
    let after = taken_cells crossing name k 0 (before.blocks name).types before in
    let more = block_goes crossing k names name before after whole lt e refl so_far in
    let grows = blocks_grow crossing (k + 1) (drop (k + 1) names) after in
    let same : (taken_blocks crossing (k + 1) (drop (k + 1) names) after).next ≡ whole.next = ap (λ p. p.next) more in
    omega (arith, grows, same, room)

-- ---- whole blocks

pub whole_count : (b : Block) → is_whole b ≡ true → length b.types ≡ length b.cells
whole_count b h = let same = and_true_first (nat_eq (length b.types) (length b.cells)) (nat_le (length b.cells) 65_536) h in grind (arith, nat_tests, same)

pub whole_small : (b : Block) → is_whole b ≡ true → length b.cells ≤ 65_536
whole_small b h = let small = and_true_second (nat_eq (length b.types) (length b.cells)) (nat_le (length b.cells) 65_536) h in grind (arith, nat_tests, small)

-- a block that keeps its shape stays whole
pub whole_stays : (old new : Blocks) (name : BlockName) → SameShape old new → is_whole (old name) ≡ true → is_whole (new name) ≡ true
whole_stays old new name same h =
    ap (λ n. nat_eq n (length (new name).cells) && nat_le (length (new name).cells) 65_536) (ap length (same.types name))
    ∙ ap (λ n. nat_eq (length (old name).types) n && nat_le n 65_536) (same.count name) ∙ h

-- ---- results

pub places_grow : (handle : ℕ) (places : List Place) → handle ≤ next_after handle places
places_grow handle [] = omega arith
places_grow handle (p ∷ places) =
    let here = next_grows p.way handle in
    let rest = places_grow (next_by p.way handle) places in
    omega (arith, here, rest)
