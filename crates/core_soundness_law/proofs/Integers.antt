-- Types that lie in a list of types, and the cells that fit them.
use Rattle.std.proofs.Common.{◌≡◌, ◌∙◌, ◌<◌, ℕ, zero, suc, ◌+◌, ◌*◌, pos, refl, subst, arith, List, [], ◌∷◌, ◌++◌, length}
use Rattle.std.proofs.Math.Nat.{suc-mul}
use Rattle.std.specs.Prelude.{slice_index_or}
use Rattle.pt_base.specs.declared.int_type.IntType.{IntType}
use Rattle.pt_base.proofs.Numbers.{as_zero_plus, suc_plus}
use Rattle.block_memory.specs.declared.cell.Cell.{Cell}
use Rattle.block_memory.specs.declared.cell.Cell.TheVariants as cell
use Rattle.typed_tree.specs.Cells.{repeated}
use Rattle.core_soundness_law.specs.Kept.{Kept}
use Rattle.core_soundness_law.specs.Fits.{IntegerFits, IntegersFit, BeginsWith, LieAt}

begins_in : (types ts : List IntType) (k : ℕ) (us : List IntType) → BeginsWith types ts → LieAt ts k us → LieAt types k us
begins_in types [] zero [] h g = tt {0}
begins_in types [] zero (u ∷ us) h g = elim g [ ]
begins_in types [] (suc k) us h g = elim g [ ]
begins_in [] (t ∷ ts) k us h g = elim h [ ]
begins_in (x ∷ types) (t ∷ ts) zero [] h g = tt {0}
begins_in (x ∷ types) (t ∷ ts) zero (u ∷ us) h g = (h.0 ∙ g.0, begins_in types ts zero us h.1 g.1)
begins_in (x ∷ types) (t ∷ ts) (suc k) us h g = begins_in types ts k us h.1 g

-- what lies in a part lies in the whole
pub lies_in : (types : List IntType) (n : ℕ) (ts : List IntType) (k : ℕ) (us : List IntType) → LieAt types n ts → LieAt ts k us → LieAt types (n + k) us
lies_in types zero ts k us h g = subst (λ m. LieAt types m us) (as_zero_plus k) (begins_in types ts k us h g)
lies_in [] (suc n) ts k us h g = elim h [ ]
lies_in (x ∷ types) (suc n) ts k us h g = subst (λ m. LieAt (x ∷ types) m us) (suc_plus n k) (lies_in types n ts k us h g)

pub begins_own : (xs ys : List IntType) → BeginsWith (xs ++ ys) xs
begins_own [] ys = tt {0}
begins_own (x ∷ xs) ys = (refl, begins_own xs ys)

pub begins_self : (xs : List IntType) → BeginsWith xs xs
begins_self [] = tt {0}
begins_self (x ∷ xs) = (refl, begins_self xs)

-- what lies in the second part lies that much further in both
pub lies_behind : (xs ys : List IntType) (n : ℕ) (zs : List IntType) → LieAt ys n zs → LieAt (xs ++ ys) (length xs + n) zs
lies_behind [] ys n zs h = subst (λ m. LieAt ys m zs) (as_zero_plus n) h
lies_behind (x ∷ xs) ys n zs h = subst (λ m. LieAt (x ∷ (xs ++ ys)) m zs) (suc_plus (length xs) n) (lies_behind xs ys n zs h)

-- the cell where an integer lies fits its type
pub integer_at : (kept : Kept) (types : List IntType) (cells : List Cell) (n : ℕ) (t : IntType) → IntegersFit kept types cells → LieAt types n (t ∷ []) → IntegerFits kept t (slice_index_or cells n (cell.Int (pos 0)))
integer_at kept [] cells zero t fit h = elim h [ ]
integer_at kept [] cells (suc n) t fit h = elim h [ ]
integer_at kept (x ∷ types) [] n t fit h = elim fit [ ]
integer_at kept (x ∷ types) (c ∷ cells) zero t fit h = subst (λ u. IntegerFits kept u c) h.0 fit.0
integer_at kept (x ∷ types) (c ∷ cells) (suc n) t fit h = integer_at kept types cells n t fit.1 h

-- one element of several
pub element_lies : (count index : ℕ) (ts : List IntType) → index < count → LieAt (repeated count ts) (index * length ts) ts
element_lies zero index ts h = absurd (grind (arith, h))
element_lies (suc count) zero ts h = subst (λ m. LieAt (ts ++ repeated count ts) m ts) (zero_times (length ts)) (begins_own ts (repeated count ts))
  where
    zero_times : (k : ℕ) → 0 ≡ 0 * k
    zero_times k = omega arith
element_lies (suc count) (suc index) ts h =
    subst (λ m. LieAt (ts ++ repeated count ts) m ts) (one_more index (length ts))
    (lies_behind ts (repeated count ts) (index * length ts) ts (element_lies count index ts (omega (arith, h))))
  where
    one_more : (i k : ℕ) → k + i * k ≡ suc i * k
    one_more i k = let product = suc-mul i k in omega (arith, product)
