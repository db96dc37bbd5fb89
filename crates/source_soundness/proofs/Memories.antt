-- What a memory that fits shows, and which changes keep that it fits.
use Rattle.std.proofs.Common.{◌≡◌, ◌∙◌, ℕ, zero, suc, ◌+◌, pos, nat_eq, refl, ap, sym, subst, arith, Bool, true, false, Some, List, [], ◌∷◌, if◌then◌else◌}
use Rattle.std.specs.Prelude.{slice_set, slice_index_or, take, drop}
use Rattle.std.proofs.lemmas.Bool.Decides.{nat_tests}
use Rattle.typed_tree.specs.declared.types.VarTy.{VarTy}
use Rattle.typed_tree.specs.declared.types.VarTy.TheVariants.{Int, Struct, Array, Pointer}
use Rattle.source_meaning.specs.Memory.{Block, local, global, same_block, Cell, number, Memory, put, write}
use Rattle.source_meaning.specs.Expressions.{write_all}
use Rattle.source_soundness.specs.Worlds.{World, type_in, depth_of, is_pointer, IsNumber, AreNumbers, CellsFit, Fits}
use Rattle.pt_base.proofs.Booleans.{both_hold_first, both_hold_second}
use Rattle.pt_base.proofs.Numbers.{nat_eq_same}

-- ---- lists of numbers

pub numbers_get : (cells : List Cell) (k : ℕ) → AreNumbers cells → IsNumber (slice_index_or cells k (number (pos 0)))
numbers_get [] k h = tt
numbers_get (c ∷ cs) zero h = h.0
numbers_get (c ∷ cs) (suc k) h = numbers_get cs k h.1

pub numbers_set : (cells : List Cell) (k : ℕ) (c : Cell) → AreNumbers cells → IsNumber c → AreNumbers (slice_set cells k c)
numbers_set [] k c h n = tt
numbers_set (x ∷ xs) zero c h n = (n, h.1)
numbers_set (x ∷ xs) (suc k) c h n = (h.0, numbers_set xs k c h.1 n)

pub numbers_take : (n : ℕ) (cells : List Cell) → AreNumbers cells → AreNumbers (take n cells)
numbers_take zero cells h = tt
numbers_take (suc n) [] h = tt
numbers_take (suc n) (c ∷ cs) h = (h.0, numbers_take n cs h.1)

pub numbers_drop : (n : ℕ) (cells : List Cell) → AreNumbers cells → AreNumbers (drop n cells)
numbers_drop zero cells h = h
numbers_drop (suc n) [] h = tt
numbers_drop (suc n) (c ∷ cs) h = numbers_drop n cs h.1

-- ---- blocks

pub equal_blocks : (a b : Block) → same_block a b ≡ true → a ≡ b
equal_blocks (local d x) (local e y) h =
    ap (λ z. local z x) (nat_eq_same d e (both_hold_first (nat_eq d e) (nat_eq x y) h)) ∙ ap (local e) (nat_eq_same x y (both_hold_second (nat_eq d e) (nat_eq x y) h))
equal_blocks (local d x) (global g) h = cc
equal_blocks (global g) (local d x) h = cc
equal_blocks (global g) (global k) h = ap global (nat_eq_same g k h)

-- an object that is no pointer variable has numbers
pub numbers_in : (w : World) (d : ℕ) (ty : VarTy) (cells : List Cell) → is_pointer ty ≡ false → CellsFit w d ty cells → AreNumbers cells
numbers_in w d (Int t) cells p h = h
numbers_in w d (Struct n) cells p h = h
numbers_in w d (Array elem count) cells p h = h
numbers_in w d (Pointer elem fixed) cells p h = cc

pub numbers_fit : (w : World) (d : ℕ) (ty : VarTy) (cells : List Cell) → is_pointer ty ≡ false → AreNumbers cells → CellsFit w d ty cells
numbers_fit w d (Int t) cells p h = h
numbers_fit w d (Struct n) cells p h = h
numbers_fit w d (Array elem count) cells p h = h
numbers_fit w d (Pointer elem fixed) cells p h = cc

-- a block is put that fits the type of its object, if that is live
abbrev pub PutFits : World → Block → List Cell → Type 0
PutFits w b cells = (ty : VarTy) → type_in w b ≡ Some ty → CellsFit w (depth_of b) ty cells

pub put_fits : (w : World) (m : Memory) (b : Block) (cells : List Cell) → Fits w m → PutFits w b cells → Fits w (put m b cells)
put_fits w m b cells h k other ty is = go (same_block other b) refl
  where
    go : (t : Bool) → same_block other b ≡ t → CellsFit w (depth_of other) ty (if t then cells else m other)
    go true e = let same = equal_blocks other b e in subst (λ x. CellsFit w (depth_of x) ty cells) (sym same) (k ty (sym (ap (type_in w) same) ∙ is))
    go false e = h other ty is

pub type_is : (a b : VarTy) → Some a ≡ Some b → a ≡ b
type_is a b h = cc

pub same_type_in : (w : World) (b : Block) (s t : VarTy) → type_in w b ≡ Some s → type_in w b ≡ Some t → s ≡ t
same_type_in w b s t h k = cc

-- a number goes into an object that is no pointer variable
pub number_written : (w : World) (m : Memory) (b : Block) (at : ℕ) (c : Cell) (in_ : VarTy) → Fits w m → type_in w b ≡ Some in_ → is_pointer in_ ≡ false → IsNumber c → Fits w (write m b at c)
number_written w m b at c in_ h live plain n =
    put_fits w m b (slice_set (m b) at c) h
    (λ ty is. subst (λ t. CellsFit w (depth_of b) t (slice_set (m b) at c)) (same_type_in w b in_ ty live is)
    (numbers_fit w (depth_of b) in_ (slice_set (m b) at c) plain (numbers_set (m b) at c (numbers_in w (depth_of b) in_ (m b) plain (h b in_ live)) n)))

pub numbers_written : (w : World) (m : Memory) (b : Block) (at : ℕ) (cells : List Cell) (in_ : VarTy) → Fits w m → type_in w b ≡ Some in_ → is_pointer in_ ≡ false → AreNumbers cells → Fits w (write_all m b at cells)
numbers_written w m b at [] in_ h live plain n = h
numbers_written w m b at (c ∷ cs) in_ h live plain n =
    numbers_written w (write m b at c) b (at + 1) cs in_ (number_written w m b at c in_ h live plain n.0) live plain n.1
