-- The two memories: what is read is the same, and what is written.
use Rattle.std.proofs.Common.{◌≡◌, ◌∙◌, ◌≤◌, ◌<◌, ◌⊎◌, inl, inr, ℕ, zero, suc, ◌+◌, pos, nat_eq, nat_le, refl, ap, sym, subst, arith, Bool, true, false, Option, Some, None, List, [], ◌∷◌, map, length, if◌then◌else◌}
use Rattle.std.specs.Prelude.{◌&&◌, slice_set, slice_index_or, slice_get, take, drop}
use Rattle.typed_tree.specs.declared.types.VarTy.{VarTy}
use Rattle.block_memory.specs.declared.cell.Cell as core
use Rattle.block_memory.specs.declared.cell.Cell.TheVariants.{Int}
use Rattle.block_memory.specs.declared.cell.BlockName.{BlockName}
use Rattle.block_memory.specs.declared.cell.BlockName.TheVariants.{Local}
use Rattle.block_memory.specs.Block as b
use Rattle.block_memory.specs.Block.{with_cell}
use Rattle.block_memory.specs.Blocks as bs
use Rattle.block_memory.specs.Blocks.{Blocks, is_same_name}
use Rattle.block_memory.proofs.BlocksLemmas.{is_same_name-self}
use Rattle.source_meaning.specs.Memory.{Block, local, global, same_block, Cell, number, Memory, put, write}
use Rattle.source_meaning.specs.State.{State}
use Rattle.source_meaning.specs.Expressions.{write_all}
use Rattle.source_soundness.specs.Worlds.{World, type_in, Fits}
use Rattle.source_soundness.specs.Sizes.{Sized}
use Rattle.pt_core.specs.Values.{written, all_written}
use Rattle.pt_core.specs.Statements as c
use Rattle.pt_core.specs.Statements.{with_blocks}
use Rattle.c_lower_law.proofs.Relations.{name_of, core_cell, SameObjects, Scene, world_of, sizes_in, HasRoom, Kept, Alike, below, all}
use Rattle.pt_base.proofs.Numbers.{nat_eq_both_turned, nat_eq_same, nat_eq_true, nat_eq_turned}
use Rattle.pt_base.proofs.Places.{get_below_length}

-- ---- names

pub names_same : (a o : Block) → is_same_name (name_of a) (name_of o) ≡ same_block o a
names_same (local d x) (local e y) = nat_eq_both_turned d e x y
names_same (local d x) (global g) = refl
names_same (global g) (local d x) = refl
names_same (global g) (global k) = nat_eq_turned g k

pub put_there : (blocks : Blocks) (n : BlockName) (x : b.Block) → bs.put blocks n x n ≡ x
put_there blocks n x = ap (λ t. if t then x else blocks n) (is_same_name-self n)

pub put_apart : (blocks : Blocks) (n o : BlockName) (x : b.Block) → is_same_name n o ≡ false → bs.put blocks n x o ≡ blocks o
put_apart blocks n o x h = ap (λ t. if t then x else blocks o) h

-- ---- lists of cells

pub map_set : (xs : List Cell) (k : ℕ) (x : Cell) → map core_cell (slice_set xs k x) ≡ slice_set (map core_cell xs) k (core_cell x)
map_set [] k x = refl
map_set (y ∷ ys) zero x = refl
map_set (y ∷ ys) (suc k) x = ap (λ zs. core_cell y ∷ zs) (map_set ys k x)

pub map_get : (xs : List Cell) (k : ℕ) → slice_index_or (map core_cell xs) k (Int (pos 0)) ≡ core_cell (slice_index_or xs k (number (pos 0)))
map_get [] k = refl
map_get (y ∷ ys) zero = refl
map_get (y ∷ ys) (suc k) = map_get ys k

pub map_take : (n : ℕ) (xs : List Cell) → map core_cell (take n xs) ≡ take n (map core_cell xs)
map_take zero xs = refl
map_take (suc n) [] = refl
map_take (suc n) (x ∷ xs) = ap (λ zs. core_cell x ∷ zs) (map_take n xs)

pub map_drop : (n : ℕ) (xs : List Cell) → map core_cell (drop n xs) ≡ drop n (map core_cell xs)
map_drop zero xs = refl
map_drop (suc n) [] = refl
map_drop (suc n) (x ∷ xs) = map_drop n xs

-- ---- live objects

pub live_small : (w : World) (d x : ℕ) (ty : VarTy) → type_in w (local d x) ≡ Some ty → x < length (w.frames d)
live_small w d x ty h = go (nat_le 1 d && nat_le d w.depth) h
  where
    go : (t : Bool) → (if t then slice_get (w.frames d) x else None) ≡ Some ty → x < length (w.frames d)
    go true h = get_below_length (w.frames d) x ty h
    go false h = cc

-- a block is put on both sides
pub objects_put : (w : World) (m : Memory) (blocks : Blocks) (a : Block) (cells : List Cell) (x : b.Block) → SameObjects w m blocks → x.cells ≡ map core_cell cells → SameObjects w (put m a cells) (bs.put blocks (name_of a) x)
objects_put w m blocks a cells x same e o ty live = ap (λ t. (if t then x else blocks (name_of o)).cells) (names_same a o) ∙ go (same_block o a)
  where
    go : (t : Bool) → (if t then x else blocks (name_of o)).cells ≡ map core_cell (if t then cells else m o)
    go true = e
    go false = same o ty live

pub objects_written : (w : World) (m : Memory) (blocks : Blocks) (a : Block) (at : ℕ) (x : Cell) (ty : VarTy) → SameObjects w m blocks → type_in w a ≡ Some ty → SameObjects w (write m a at x) (written blocks (name_of a) at (core_cell x))
objects_written w m blocks a at x ty same live =
    objects_put w m blocks a (slice_set (m a) at x) (with_cell (blocks (name_of a)) at (core_cell x)) same
    (ap (λ cells. slice_set cells at (core_cell x)) (same a ty live) ∙ sym (map_set (m a) at x))

pub objects_all_written : (w : World) (xs : List Cell) (m : Memory) (blocks : Blocks) (a : Block) (at : ℕ) (ty : VarTy) → SameObjects w m blocks → type_in w a ≡ Some ty → SameObjects w (write_all m a at xs) (all_written blocks (name_of a) at (map core_cell xs))
objects_all_written w [] m blocks a at ty same live = same
objects_all_written w (x ∷ xs) m blocks a at ty same live =
    objects_all_written w xs (write m a at x) (written blocks (name_of a) at (core_cell x)) a (at + 1) ty (objects_written w m blocks a at x ty same live) live

-- ---- temporaries

-- a block of a live object is none of a temporary
pub no_temp : (s : Scene) (o : Block) (d k : ℕ) (ty : VarTy) → length (s.frames d) ≤ k → type_in (world_of s) o ≡ Some ty → is_same_name (name_of o) (Local d k) ≡ false
no_temp s (global g) d k ty far live = refl
no_temp s (local e x) d k ty far live = go (nat_eq e d) (nat_eq x k) refl refl
  where
    none : e ≡ d → x ≡ k → ⊥
    none p q = let small = live_small (world_of s) e x ty live in let long : length (s.frames e) ≡ length (s.frames d) = ap (λ z. length (s.frames z)) p in omega (arith, small, long, far, q)

    go : (t u : Bool) → nat_eq e d ≡ t → nat_eq x k ≡ u → (t && u) ≡ false
    go true true p q = absurd (none (nat_eq_same e d p) (nat_eq_same x k q))
    go true false p q = refl
    go false u p q = refl

-- the same, the other way round
no_object : (s : Scene) (o : Block) (d k : ℕ) (ty : VarTy) → length (s.frames d) ≤ k → type_in (world_of s) o ≡ Some ty → is_same_name (Local d k) (name_of o) ≡ false
no_object s (global g) d k ty far live = refl
no_object s (local e x) d k ty far live = nat_eq_both_turned d e k x ∙ no_temp s (local e x) d k ty far live

pub objects_temp : (s : Scene) (m : Memory) (blocks : Blocks) (k : ℕ) (x : b.Block) → length (s.frames s.frame.depth) ≤ k → SameObjects (world_of s) m blocks → SameObjects (world_of s) m (bs.put blocks (Local s.frame.depth k) x)
objects_temp s m blocks k x far same o ty live =
    ap (λ t. (if t then x else blocks (name_of o)).cells) (no_object s o s.frame.depth k ty far live) ∙ same o ty live

-- ---- what is kept

pub kept_same : (s : Scene) (K : ℕ → Type 0) (blocks : Blocks) → Kept s K blocks blocks
kept_same s K blocks d k far own = refl

pub kept_then : (s : Scene) (K L M : ℕ → Type 0) (x y z : Blocks) → Kept s K x y → Kept s L y z → ((k : ℕ) → M k → K k) → ((k : ℕ) → M k → L k) → Kept s M x z
kept_then s K L M x y z first second one two d k far own = second d k far (owned L two own) ∙ first d k far (owned K one own)
  where
    owned : (P : ℕ → Type 0) → ((k : ℕ) → M k → P k) → (d < s.frame.depth) ⊎ ((d ≡ s.frame.depth) × M k) → (d < s.frame.depth) ⊎ ((d ≡ s.frame.depth) × P k)
    owned P up (inl h) = inl h
    owned P up (inr h) = inr (h.0, up k h.1)

pub kept_less : (s : Scene) (K M : ℕ → Type 0) (x y : Blocks) → Kept s K x y → ((k : ℕ) → M k → K k) → Kept s M x y
kept_less s K M x y first one = kept_then s K all M x y y first (kept_same s all y) one (λ k h. tt)

-- a live object is written
pub kept_object : (s : Scene) (blocks : Blocks) (o : Block) (x : b.Block) (ty : VarTy) → type_in (world_of s) o ≡ Some ty → Kept s all blocks (bs.put blocks (name_of o) x)
kept_object s blocks o x ty live d k far own = put_apart blocks (name_of o) (Local d k) x (no_temp s o d k ty far live)

-- a temporary is written
pub kept_temp : (s : Scene) (blocks : Blocks) (t : ℕ) (x : b.Block) → Kept s (below t) blocks (bs.put blocks (Local s.frame.depth t) x)
kept_temp s blocks t x d k far own = put_apart blocks (Local s.frame.depth t) (Local d k) x (go (nat_eq s.frame.depth d) (nat_eq t k) refl refl)
  where
    none : s.frame.depth ≡ d → t ≡ k → (d < s.frame.depth) ⊎ ((d ≡ s.frame.depth) × (k < t)) → ⊥
    none p q (inl h) = omega (arith, p, h)
    none p q (inr h) = let less = h.1 in omega (arith, q, less)

    go : (a u : Bool) → nat_eq s.frame.depth d ≡ a → nat_eq t k ≡ u → (a && u) ≡ false
    go true true p q = absurd (none (nat_eq_same s.frame.depth d p) (nat_eq_same t k q) own)
    go true false p q = refl
    go false u p q = refl

-- ---- room

pub room_object : (s : Scene) (blocks : Blocks) (o : Block) (x : b.Block) (ty : VarTy) → length (s.frames s.frame.depth) ≡ length s.names.vars → type_in (world_of s) o ≡ Some ty → HasRoom s blocks → HasRoom s (bs.put blocks (name_of o) x)
room_object s blocks o x ty own live room k far near =
    let h = room k far near in
    (h.0, ap (λ (z : b.Block). z.cells) (put_apart blocks (name_of o) (Local s.frame.depth k) x (no_temp s o s.frame.depth k ty (omega (arith, own, far)) live)) ∙ h.1)

room_temp : (s : Scene) (blocks : Blocks) (t : ℕ) (x : core.Cell) → HasRoom s blocks → HasRoom s (written blocks (Local s.frame.depth t) 0 x)
room_temp s blocks t x room k far near = go (is_same_name (Local s.frame.depth t) (Local s.frame.depth k)) refl
  where
    h : (y : core.Cell) × ((blocks (Local s.frame.depth k)).cells ≡ y ∷ [])
    h = room k far near

    there : nat_eq s.frame.depth s.frame.depth && nat_eq t k ≡ true → t ≡ k
    there e = nat_eq_same t k (sym (ap (λ z. z && nat_eq t k) (nat_eq_true s.frame.depth s.frame.depth refl)) ∙ e)

    go : (z : Bool) → is_same_name (Local s.frame.depth t) (Local s.frame.depth k) ≡ z →
        (y : core.Cell) × ((if z then with_cell (blocks (Local s.frame.depth t)) 0 x else blocks (Local s.frame.depth k)).cells ≡ y ∷ [])
    go true e = (x, ap (λ n. slice_set (blocks (Local s.frame.depth n)).cells 0 x) (there e) ∙ ap (λ cells. slice_set cells 0 x) h.1)
    go false e = h

-- ---- states

pub alike_object : (s : Scene) (st : State) (st' : c.State) (o : Block) (m : Memory) (blocks : Blocks) (ty : VarTy) → length (s.frames s.frame.depth) ≡ length s.names.vars → Alike s st st' → type_in (world_of s) o ≡ Some ty →
    SameObjects (world_of s) m blocks → HasRoom s blocks → Fits (world_of s) m → Sized (world_of s) (sizes_in s) m → Alike s (record st { memory = m }) (with_blocks blocks st')
alike_object s st st' o m blocks ty own a live objects room fits sized = record {
  objects = objects;
  room = room;
  fits = fits;
  sized = sized;
  hosts = a.hosts;
  input = a.input;
  seen = record { events = a.seen.events; left = a.seen.left };
}

-- a cell of a live object is written
pub alike_written : (s : Scene) (st : State) (st' : c.State) (o : Block) (at : ℕ) (x : Cell) (ty : VarTy) → length (s.frames s.frame.depth) ≡ length s.names.vars → Alike s st st' → type_in (world_of s) o ≡ Some ty →
    Fits (world_of s) (write st.memory o at x) → Sized (world_of s) (sizes_in s) (write st.memory o at x) → Alike s (record st { memory = write st.memory o at x }) (with_blocks (written st'.memory (name_of o) at (core_cell x)) st')
alike_written s st st' o at x ty own a live fits sized =
    alike_object s st st' o (write st.memory o at x) (written st'.memory (name_of o) at (core_cell x)) ty own a live (objects_written (world_of s) st.memory st'.memory o at x ty a.objects live)
    (room_object s st'.memory o (with_cell (st'.memory (name_of o)) at (core_cell x)) ty own live a.room) fits sized

pub room_all : (s : Scene) (xs : List core.Cell) (blocks : Blocks) (o : Block) (at : ℕ) (ty : VarTy) → length (s.frames s.frame.depth) ≡ length s.names.vars → type_in (world_of s) o ≡ Some ty → HasRoom s blocks → HasRoom s (all_written blocks (name_of o) at xs)
room_all s [] blocks o at ty own live room = room
room_all s (x ∷ xs) blocks o at ty own live room = room_all s xs (written blocks (name_of o) at x) o (at + 1) ty own live (room_object s blocks o (with_cell (blocks (name_of o)) at x) ty own live room)

pub kept_all : (s : Scene) (xs : List core.Cell) (blocks : Blocks) (o : Block) (at : ℕ) (ty : VarTy) → type_in (world_of s) o ≡ Some ty → Kept s all blocks (all_written blocks (name_of o) at xs)
kept_all s [] blocks o at ty live = kept_same s all blocks
kept_all s (x ∷ xs) blocks o at ty live =
    kept_then s all all all blocks (written blocks (name_of o) at x) (all_written (written blocks (name_of o) at x) (name_of o) (at + 1) xs) (kept_object s blocks o (with_cell (blocks (name_of o)) at x) ty live) (kept_all s xs (written blocks (name_of o) at x) o (at + 1) ty live) (λ k h. tt) (λ k h. tt)

-- cells of a live object are written
pub alike_all_written : (s : Scene) (st : State) (st' : c.State) (o : Block) (at : ℕ) (xs : List Cell) (ty : VarTy) → length (s.frames s.frame.depth) ≡ length s.names.vars → Alike s st st' → type_in (world_of s) o ≡ Some ty →
    Fits (world_of s) (write_all st.memory o at xs) → Sized (world_of s) (sizes_in s) (write_all st.memory o at xs) → Alike s (record st { memory = write_all st.memory o at xs }) (with_blocks (all_written st'.memory (name_of o) at (map core_cell xs)) st')
alike_all_written s st st' o at xs ty own a live fits sized =
    alike_object s st st' o (write_all st.memory o at xs) (all_written st'.memory (name_of o) at (map core_cell xs)) ty own a live (objects_all_written (world_of s) xs st.memory st'.memory o at ty a.objects live)
    (room_all s (map core_cell xs) st'.memory o at ty own live a.room) fits sized

-- a temporary gets a cell
pub alike_temp : (s : Scene) (st : State) (st' : c.State) (t : ℕ) (x : core.Cell) → length (s.frames s.frame.depth) ≤ t → Alike s st st' → Alike s st (with_blocks (written st'.memory (Local s.frame.depth t) 0 x) st')
alike_temp s st st' t x far a = record {
  objects = objects_temp s st.memory st'.memory t (with_cell (st'.memory (Local s.frame.depth t)) 0 x) far a.objects;
  room = room_temp s st'.memory t x a.room;
  fits = a.fits;
  sized = a.sized;
  hosts = a.hosts;
  input = a.input;
  seen = record { events = a.seen.events; left = a.seen.left };
}

-- and holds it
pub temp_holds : (s : Scene) (blocks : Blocks) (t : ℕ) (x : core.Cell) → HasRoom s blocks → length s.names.vars ≤ t → t < length s.core_variables → (written blocks (Local s.frame.depth t) 0 x (Local s.frame.depth t)).cells ≡ x ∷ []
temp_holds s blocks t x room far near =
    ap (λ (z : b.Block). z.cells) (put_there blocks (Local s.frame.depth t) (with_cell (blocks (Local s.frame.depth t)) 0 x)) ∙ ap (λ cells. slice_set cells 0 x) (room t far near).1
