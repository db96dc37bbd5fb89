-- What is written on both sides leaves the memories alike.
use Rattle.std.proofs.Common.{◌≡◌, ◌∙◌, ℕ, zero, suc, pos, List, [], ◌∷◌, refl, ap, sym, subst, Bool, true, false, if◌then◌else◌, map, length, arith, ◌<◌}
use Rattle.std.specs.Prelude.{◌+◌, nat_eq, slice_set, slice_index_or, take, drop, slice_get}
use Rattle.block_memory.specs.declared.cell.Cell.TheVariants.{Int}
use Rattle.block_memory.specs.Block as b
use Rattle.block_memory.specs.Block.{with_cell}
use Rattle.block_memory.specs.Blocks as bs
use Rattle.block_memory.specs.Blocks.{Blocks, is_same_name}
use Rattle.source_meaning.specs.Memory.{Block, local, global, same_block, Cell, number, Memory, put, write}
use Rattle.source_meaning.specs.Expressions.{write_all}
use Rattle.source_meaning.specs.State.{State}
use Rattle.pt_core.specs.Values.{written, all_written}
use Rattle.pt_core.specs.Statements as c
use Rattle.pt_core.specs.Statements.{with_blocks}
use Rattle.half_meaning_law.specs.Relations.{Scene, name_of, core_cell, SameBlocks, reach_in, CellFits, MemoryFits, VariablesLive, cells_in, Alike, room_of}
use Rattle.pt_core.specs.Types.{type_at}
use Rattle.typed_tree.specs.declared.types.VarTy.{VarTy}
use Rattle.pt_base.proofs.Booleans.{and_parts, true_not_false}
use Rattle.pt_base.proofs.Numbers.{nat_eq_both_turned, nat_eq_other, nat_eq_same, nat_eq_true, nat_eq_turned}

-- ---- names

-- different globals have different numbers
abbrev pub OneToOne : (ℕ → ℕ) → Type 0
OneToOne f = (j k : ℕ) → f j ≡ f k → j ≡ k

images_same : (f : ℕ → ℕ) → OneToOne f → (j k : ℕ) → nat_eq (f j) (f k) ≡ nat_eq j k
images_same f one j k = go (nat_eq j k) refl
  where
    go : (t : Bool) → nat_eq j k ≡ t → nat_eq (f j) (f k) ≡ t
    go true e = nat_eq_true (f j) (f k) (ap f (nat_eq_same j k e))
    go false e = nat_eq_other (f j) (f k) (λ h. true_not_false (sym (nat_eq_true j k (one j k h)) ∙ e))

pub names_equal : (s : Scene) → OneToOne s.global_number → (a o : Block) → is_same_name (name_of s a) (name_of s o) ≡ same_block a o
names_equal s one (local d x) (local e y) = refl
names_equal s one (local d x) (global g) = refl
names_equal s one (global g) (local d x) = refl
names_equal s one (global g) (global k) = images_same s.global_number one g k

names_turned : (s : Scene) → OneToOne s.global_number → (a o : Block) → is_same_name (name_of s a) (name_of s o) ≡ same_block o a
names_turned s one (local d x) (local e y) = nat_eq_both_turned d e x y
names_turned s one (local d x) (global g) = refl
names_turned s one (global g) (local d x) = refl
names_turned s one (global g) (global k) = images_same s.global_number one g k ∙ nat_eq_turned g k

pub block_same : (a o : Block) → same_block a o ≡ true → a ≡ o
block_same (local d x) (local e y) h =
    let p = and_parts (nat_eq d e) (nat_eq x y) h in
    ap (λ n. local n x) (nat_eq_same d e p.0) ∙ ap (local e) (nat_eq_same x y p.1)
block_same (local d x) (global g) h = true_not_false (sym h)
block_same (global g) (local d x) h = true_not_false (sym h)
block_same (global g) (global k) h = ap global (nat_eq_same g k h)

-- ---- lists of cells

pub map_set : (s : Scene) (xs : List Cell) (k : ℕ) (x : Cell) → map (core_cell s) (slice_set xs k x) ≡ slice_set (map (core_cell s) xs) k (core_cell s x)
map_set s [] k x = refl
map_set s (y ∷ ys) zero x = refl
map_set s (y ∷ ys) (suc k) x = ap (λ zs. core_cell s y ∷ zs) (map_set s ys k x)

pub map_get : (s : Scene) (xs : List Cell) (k : ℕ) → slice_index_or (map (core_cell s) xs) k (Int (pos 0)) ≡ core_cell s (slice_index_or xs k (number (pos 0)))
map_get s [] k = refl
map_get s (y ∷ ys) zero = refl
map_get s (y ∷ ys) (suc k) = map_get s ys k

pub map_take : (s : Scene) (n : ℕ) (xs : List Cell) → map (core_cell s) (take n xs) ≡ take n (map (core_cell s) xs)
map_take s zero xs = refl
map_take s (suc n) [] = refl
map_take s (suc n) (x ∷ xs) = ap (λ zs. core_cell s x ∷ zs) (map_take s n xs)

pub map_drop : (s : Scene) (n : ℕ) (xs : List Cell) → map (core_cell s) (drop n xs) ≡ drop n (map (core_cell s) xs)
map_drop s zero xs = refl
map_drop s (suc n) [] = refl
map_drop s (suc n) (x ∷ xs) = map_drop s n xs

-- what holds of each cell of a list, the 0 behind them too
abbrev pub AllCells : (Cell → Type 0) → List Cell → Type 0
AllCells P xs = (k : ℕ) → P (slice_index_or xs k (number (pos 0)))

tail_cells : (P : Cell → Type 0) (y : Cell) (ys : List Cell) → AllCells P (y ∷ ys) → AllCells P ys
tail_cells P y ys h k = h (suc k)

pub all_set : (P : Cell → Type 0) (xs : List Cell) (at : ℕ) (x : Cell) → AllCells P xs → P x → AllCells P (slice_set xs at x)
all_set P [] at x h px k = h k
all_set P (y ∷ ys) zero x h px zero = px
all_set P (y ∷ ys) zero x h px (suc k) = h (suc k)
all_set P (y ∷ ys) (suc at) x h px zero = h zero
all_set P (y ∷ ys) (suc at) x h px (suc k) = all_set P ys at x (tail_cells P y ys h) px k

-- ---- memories

-- a block is put on both sides
pub blocks_put : (s : Scene) (m : Memory) (blocks : Blocks) (a : Block) (cells : List Cell) (x : b.Block) → OneToOne s.global_number → SameBlocks s m blocks → x.cells ≡ map (core_cell s) cells →
    SameBlocks s (put m a cells) (bs.put blocks (name_of s a) x)
blocks_put s m blocks a cells x one same e o = ap (λ t. (if t then x else blocks (name_of s o)).cells) (names_turned s one a o) ∙ go (same_block o a)
  where
    go : (t : Bool) → (if t then x else blocks (name_of s o)).cells ≡ map (core_cell s) (if t then cells else m o)
    go true = e
    go false = same o

pub fits_put : (s : Scene) (m : Memory) (a : Block) (cells : List Cell) → MemoryFits s m → AllCells (CellFits s (reach_in s a)) cells → MemoryFits s (put m a cells)
fits_put s m a cells fits own o k = go (same_block o a) refl
  where
    go : (t : Bool) → same_block o a ≡ t → CellFits s (reach_in s o) (slice_index_or (if t then cells else m o) k (number (pos 0)))
    go true e = subst (λ z. CellFits s (reach_in s z) (slice_index_or cells k (number (pos 0)))) (sym (block_same o a e)) (own k)
    go false e = fits o k

-- one cell is written on both sides
pub blocks_written : (s : Scene) (m : Memory) (blocks : Blocks) (a : Block) (at : ℕ) (x : Cell) → OneToOne s.global_number → SameBlocks s m blocks →
    SameBlocks s (write m a at x) (written blocks (name_of s a) at (core_cell s x))
blocks_written s m blocks a at x one same =
    blocks_put s m blocks a (slice_set (m a) at x) (with_cell (blocks (name_of s a)) at (core_cell s x)) one same
    (ap (λ cells. slice_set cells at (core_cell s x)) (same a) ∙ sym (map_set s (m a) at x))

pub fits_written : (s : Scene) (m : Memory) (a : Block) (at : ℕ) (x : Cell) → MemoryFits s m → CellFits s (reach_in s a) x → MemoryFits s (write m a at x)
fits_written s m a at x fits own = fits_put s m a (slice_set (m a) at x) fits (all_set (CellFits s (reach_in s a)) (m a) at x (fits a) own)

-- many cells are
pub blocks_all_written : (s : Scene) (xs : List Cell) (m : Memory) (blocks : Blocks) (a : Block) (at : ℕ) → OneToOne s.global_number → SameBlocks s m blocks →
    SameBlocks s (write_all m a at xs) (all_written blocks (name_of s a) at (map (core_cell s) xs))
blocks_all_written s [] m blocks a at one same = same
blocks_all_written s (x ∷ xs) m blocks a at one same =
    blocks_all_written s xs (write m a at x) (written blocks (name_of s a) at (core_cell s x)) a (at + 1) one (blocks_written s m blocks a at x one same)

pub fits_all_written : (s : Scene) (xs : List Cell) (m : Memory) (a : Block) (at : ℕ) → MemoryFits s m → AllCells (CellFits s (reach_in s a)) xs → MemoryFits s (write_all m a at xs)
fits_all_written s [] m a at fits own = fits
fits_all_written s (x ∷ xs) m a at fits own =
    fits_all_written s xs (write m a at x) a (at + 1) (fits_written s m a at x fits (own zero)) (tail_cells (CellFits s (reach_in s a)) x xs own)

-- ---- the sizes of variables

pub length_set : (xs : List Cell) (k : ℕ) (x : Cell) → length (slice_set xs k x) ≡ length xs
length_set [] k x = refl
length_set (y ∷ ys) zero x = refl
length_set (y ∷ ys) (suc k) x = ap suc (length_set ys k x)

pub live_written : (s : Scene) (m : Memory) (a : Block) (at : ℕ) (x : Cell) → VariablesLive s m → VariablesLive s (write m a at x)
live_written s m a at x live d n = go (same_block (local d n) a) refl
  where
    go : (t : Bool) → same_block (local d n) a ≡ t → length (if t then slice_set (m a) at x else m (local d n)) ≡ room_of s (slice_get (s.frames d) n)
    go true e = length_set (m a) at x ∙ ap (λ z. length (m z)) (sym (block_same (local d n) a e)) ∙ live d n
    go false e = live d n

pub live_all_written : (s : Scene) (xs : List Cell) (m : Memory) (a : Block) (at : ℕ) → VariablesLive s m → VariablesLive s (write_all m a at xs)
live_all_written s [] m a at live = live
live_all_written s (x ∷ xs) m a at live = live_all_written s xs (write m a at x) a (at + 1) (live_written s m a at x live)

-- the active function's variables have theirs
pub own_live : (s : Scene) (m : Memory) (n : ℕ) → s.frames s.frame.depth ≡ s.context.variables → VariablesLive s m → n < length s.context.variables → length (m (local s.frame.depth n)) ≡ cells_in s (type_at s.context.variables n)
own_live s m n own live near = live s.frame.depth n ∙ ap (λ z. room_of s (slice_get z n)) own ∙ there s.context.variables n near
  where
    there : (us : List VarTy) (k : ℕ) → k < length us → room_of s (slice_get us k) ≡ cells_in s (type_at us k)
    there [] k low = absurd (omega (arith, low))
    there (u ∷ us) zero low = refl
    there (u ∷ us) (suc k) low = there us k (omega (arith, low))

-- ---- states

pub alike_with : (s : Scene) (st : State) (st' : c.State) (m : Memory) (blocks : Blocks) → Alike s st st' → SameBlocks s m blocks → MemoryFits s m → VariablesLive s m →
    Alike s (record st { memory = m }) (with_blocks blocks st')
alike_with s st st' m blocks al same fits live = record {
  blocks = same;
  fits = fits;
  live = live;
  hosts = al.hosts;
  input = al.input;
  seen = record { events = al.seen.events; left = al.seen.left };
}

-- one cell is written on both sides
pub alike_written : (s : Scene) (st : State) (st' : c.State) (a : Block) (at : ℕ) (x : Cell) → OneToOne s.global_number → Alike s st st' → CellFits s (reach_in s a) x →
    Alike s (record st { memory = write st.memory a at x }) (with_blocks (written st'.memory (name_of s a) at (core_cell s x)) st')
alike_written s st st' a at x one al fits =
    alike_with s st st' (write st.memory a at x) (written st'.memory (name_of s a) at (core_cell s x)) al (blocks_written s st.memory st'.memory a at x one al.blocks) (fits_written s st.memory a at x al.fits fits) (live_written s st.memory a at x al.live)

pub alike_all_written : (s : Scene) (st : State) (st' : c.State) (a : Block) (at : ℕ) (xs : List Cell) → OneToOne s.global_number → Alike s st st' → AllCells (CellFits s (reach_in s a)) xs →
    Alike s (record st { memory = write_all st.memory a at xs }) (with_blocks (all_written st'.memory (name_of s a) at (map (core_cell s) xs)) st')
alike_all_written s st st' a at xs one al fits =
    alike_with s st st' (write_all st.memory a at xs) (all_written st'.memory (name_of s a) at (map (core_cell s) xs)) al (blocks_all_written s xs st.memory st'.memory a at one al.blocks)
    (fits_all_written s xs st.memory a at al.fits fits) (live_all_written s xs st.memory a at al.live)

-- ---- the cells of an object

pub all_take : (P : Cell → Type 0) (n : ℕ) (xs : List Cell) → P (number (pos 0)) → AllCells P xs → AllCells P (take n xs)
all_take P zero xs none h k = none
all_take P (suc n) [] none h k = none
all_take P (suc n) (x ∷ xs) none h zero = h zero
all_take P (suc n) (x ∷ xs) none h (suc k) = all_take P n xs none (tail_cells P x xs h) k

pub all_drop : (P : Cell → Type 0) (n : ℕ) (xs : List Cell) → P (number (pos 0)) → AllCells P xs → AllCells P (drop n xs)
all_drop P zero xs none h k = h k
all_drop P (suc n) [] none h k = none
all_drop P (suc n) (x ∷ xs) none h k = all_drop P n xs none (tail_cells P x xs h) k
