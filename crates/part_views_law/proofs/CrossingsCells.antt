-- Numbers are seen as they are, and a slave's cells as they are revealed.
use Rattle.std.proofs.Common.{◌≡◌, ◌∙◌, ◌+◌, add-zero, ℕ, suc, ap, sym, refl, arith, subst, List, [], ◌∷◌, map, Bool, true, false, ◌||◌, if◌then◌else◌}
use Rattle.std.specs.List.{list_all}
use Rattle.pt_base.specs.declared.int_type.IntType.{IntType}
use Rattle.pt_base.proofs.Booleans.{and_true_first, and_true_second}
use Rattle.block_memory.specs.declared.cell.Cell.{Cell}
use Rattle.block_memory.specs.declared.cell.Cell.TheVariants as cell
use Rattle.block_memory.specs.declared.cell.Pointer.TheVariants.{Null, At}
use Rattle.block_memory.specs.declared.cell.BlockName.{BlockName}
use Rattle.block_memory.specs.declared.cell.BlockName.TheVariants.{Received}
use Rattle.block_memory.specs.Block.{Block}
use Rattle.block_memory.specs.Blocks.{Blocks, is_same_name}
use Rattle.block_memory.proofs.BlocksLemmas.{same_name}
use Rattle.pt_core.specs.CodeTree.{ProgramTree}
use Rattle.marshalling.specs.Handles.{Entries}
use Rattle.marshalling.specs.HonestCalls.{is_integer, revealed, revealed_block}
use Rattle.marshalling.specs.Packing.{is_among, number_of}
use Rattle.marshalling.specs.Replies.{AreServed, HoldNumbers, HoldsNumber}
use Rattle.part_views_law.specs.Views.{View, seen_block, seen_cell, slave_view}
use Rattle.part_views_law.specs.CrossingsCalls.{is_number}

-- ---- numbers

number_seen : (v : View) (c : Cell) → is_number c ≡ true → seen_cell v c ≡ c
number_seen v (cell.Int n) h = refl
number_seen v (cell.Ptr p) h = cc
number_seen v (cell.Sealed handle) h = cc

pub numbers_seen : (v : View) (cells : List Cell) → list_all is_number cells ≡ true → map (seen_cell v) cells ≡ cells
numbers_seen v [] h = refl
numbers_seen v (c ∷ cells) h =
    ap (λ d. d ∷ map (seen_cell v) cells) (number_seen v c (and_true_first (is_number c) (list_all is_number cells) h))
    ∙ ap (λ ds. c ∷ ds) (numbers_seen v cells (and_true_second (is_number c) (list_all is_number cells) h))

integer_seen : (v : View) (store : Entries) (c : Cell) → is_integer c ≡ true → seen_cell v (revealed store c) ≡ revealed store c
integer_seen v store (cell.Int n) h = refl
integer_seen v store (cell.Ptr p) h = cc
integer_seen v store (cell.Sealed handle) h = refl

-- integers are numbers once they are revealed
pub integers_seen : (v : View) (store : Entries) (cells : List Cell) → list_all is_integer cells ≡ true → map (seen_cell v) (map (revealed store) cells) ≡ map (revealed store) cells
integers_seen v store [] h = refl
integers_seen v store (c ∷ cells) h =
    ap (λ d. d ∷ map (seen_cell v) (map (revealed store) cells)) (integer_seen v store c (and_true_first (is_integer c) (list_all is_integer cells) h))
    ∙ ap (λ ds. revealed store c ∷ ds) (integers_seen v store cells (and_true_second (is_integer c) (list_all is_integer cells) h))

pub held_seen : (v : View) (types : List IntType) (cells : List Cell) → HoldNumbers types cells → map (seen_cell v) cells ≡ cells
held_seen v [] [] h = refl
held_seen v [] (c ∷ cells) h = absurd h
held_seen v (t ∷ types) [] h = absurd h
held_seen v (t ∷ types) (c ∷ cells) h =
    ap (λ d. d ∷ map (seen_cell v) cells) (one t c h.0) ∙ ap (λ ds. c ∷ ds) (held_seen v types cells h.1)
  where
    one : (t : IntType) (c : Cell) → HoldsNumber t c → seen_cell v c ≡ c
    one t (cell.Int n) h = refl
    one t (cell.Ptr p) h = absurd h
    one t (cell.Sealed handle) h = absurd h

-- what was received under a name's number holds numbers
pub served_at_name : (z x : Blocks) (k : ℕ) (names : List BlockName) (name : BlockName) → AreServed z k (map (λ n. (x n).types) names) → is_among names name ≡ true →
    HoldNumbers (x name).types (z (Received (k + number_of names name))).cells
served_at_name z x k [] name served among = cc
served_at_name z x k (n ∷ names) name served among = go (is_same_name n name) refl (served_at_name z x (suc k) names name served.2) among
  where
    go : (t : Bool) → is_same_name n name ≡ t → (is_among names name ≡ true → HoldNumbers (x name).types (z (Received (suc k + number_of names name))).cells) → (t || is_among names name) ≡ true →
        HoldNumbers (x name).types (z (Received (k + (if t then 0 else suc (number_of names name))))).cells
    go true e rest h = subst (λ j. HoldNumbers (x name).types (z (Received j)).cells) (sym (add-zero k)) (subst (λ b. HoldNumbers (x b).types (z (Received k)).cells) (same_name n name e) served.1)
    go false e rest h = let same : suc k + number_of names name ≡ k + suc (number_of names name) = omega arith in subst (λ j. HoldNumbers (x name).types (z (Received j)).cells) same (rest h)

-- ---- a slave's cells

pub cell_shows : (slave : ProgramTree) (store : Entries) (m : Blocks) (c : Cell) → seen_cell (slave_view slave store m) c ≡ revealed store c
cell_shows slave store m (cell.Int n) = refl
cell_shows slave store m (cell.Ptr Null) = refl
cell_shows slave store m (cell.Ptr (At block base count index)) = refl
cell_shows slave store m (cell.Sealed handle) = refl

pub shows : (slave : ProgramTree) (store : Entries) (m : Blocks) → seen_cell (slave_view slave store m) ≡ revealed store
shows slave store m = λ i c. cell_shows slave store m c i

pub block_shows : (slave : ProgramTree) (store : Entries) (m : Blocks) (b : Block) → seen_block (slave_view slave store m) b ≡ revealed_block store b
block_shows slave store m b = ap (λ (f : Cell → Cell). record { types = b.types; cells = map f b.cells }) (shows slave store m)
