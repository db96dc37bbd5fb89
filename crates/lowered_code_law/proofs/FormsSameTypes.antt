-- What tests of types say, and what they say together.
use Rattle.std.proofs.Common.{◌≡◌, ◌∙◌, ℕ, zero, suc, nat_eq, refl, ap, sym, arith, Bool, true, false, Option, Some, None}
use Rattle.std.specs.Prelude.{◌||◌, not}
use Rattle.std.proofs.lemmas.Bool.Decides.{nat_tests}
use Rattle.pt_base.specs.IntTypes.{promoted, usual}
use Rattle.pt_base.specs.declared.int_type.IntType.{IntType}
use Rattle.pt_base.specs.declared.int_type.IntType.TheVariants.{Char, SChar, UChar, Short, UShort, Int, UInt, Long, ULong}
use Rattle.pt_tree.specs.declared.signature.Elem.{Elem}
use Rattle.pt_tree.specs.declared.signature.Elem.TheVariants as elem
use Rattle.typed_tree.specs.declared.types.VarTy.{VarTy}
use Rattle.typed_tree.specs.declared.types.VarTy.TheVariants as v
use Rattle.typed_tree.specs.TypeTests.{place_of, same_int, same_elem, same_bool, same_type, same_types, is_scalar}
use Rattle.typed_tree.specs.TypeRules.{is_promoted}
use Rattle.pt_core.specs.WellFormedExpression.{stands_for}
use Rattle.pt_base.proofs.Booleans.{both_hold, both_hold_first, both_hold_second, false_not_true, not_or_self}
use Rattle.pt_base.proofs.Numbers.{nat_eq_self}
use Rattle.typed_tree.proofs.SameTypes.{equal_ints, equal_elems, equal_types, int_self, elem_self, type_self}

pub stands_self : (a : VarTy) → stands_for a a ≡ true
stands_self (v.Int t) = int_self t
stands_self (v.Struct n) = nat_eq_self n
stands_self (v.Array e count) = type_self (v.Array e count)
stands_self (v.Pointer e fixed) = both_hold (same_elem e e) (not fixed || fixed) (elem_self e) (not_or_self fixed)

-- ---- what may stand where another is wanted

pub stands_int : (a : VarTy) (t : IntType) → stands_for a (v.Int t) ≡ true → a ≡ v.Int t
stands_int (v.Int a) t h = equal_types (v.Int a) (v.Int t) h
stands_int (v.Struct n) t h = cc
stands_int (v.Array e n) t h = cc
stands_int (v.Pointer e f) t h = cc

pub record PointsTo (a : VarTy) (elem : Elem) (fixed : Bool) : Type 0 where
  pub own : Bool
  pub is : a ≡ v.Pointer elem own
  pub keeps : (not own || fixed) ≡ true

pub stands_pointer : (a : VarTy) (e : Elem) (f : Bool) → stands_for a (v.Pointer e f) ≡ true → PointsTo a e f
stands_pointer (v.Pointer a g) e f h =
    record { own = g; is = ap (λ x. v.Pointer x g) (equal_elems a e (both_hold_first (same_elem a e) (not g || f) h)); keeps = both_hold_second (same_elem a e) (not g || f) h }
stands_pointer (v.Int a) e f h = cc
stands_pointer (v.Struct n) e f h = cc
stands_pointer (v.Array a n) e f h = cc

pub points : (e : Elem) (f g : Bool) → (not f || g) ≡ true → stands_for (v.Pointer e f) (v.Pointer e g) ≡ true
points e f g h = both_hold (same_elem e e) (not f || g) (elem_self e) h

pub keeps_both : (f g h : Bool) → (not f || g) ≡ true → (not g || h) ≡ true → (not f || h) ≡ true
keeps_both false g h p q = refl
keeps_both true true h p q = q
keeps_both true false h p q = false_not_true p

pub stands_scalar : (a b : VarTy) → stands_for a b ≡ true → is_scalar (Some b) ≡ true → is_scalar (Some a) ≡ true
stands_scalar (v.Int t) b h k = refl
stands_scalar (v.Pointer e f) b h k = refl
stands_scalar (v.Struct m) (v.Int t) h k = cc
stands_scalar (v.Struct m) (v.Struct n) h k = k
stands_scalar (v.Struct m) (v.Array e n) h k = k
stands_scalar (v.Struct m) (v.Pointer e f) h k = cc
stands_scalar (v.Array e m) (v.Int t) h k = cc
stands_scalar (v.Array e m) (v.Struct n) h k = k
stands_scalar (v.Array e m) (v.Array d n) h k = k
stands_scalar (v.Array e m) (v.Pointer d f) h k = cc

-- ---- integer types

pub promoted_promoted : (a : IntType) → is_promoted (promoted a) ≡ true
promoted_promoted Char = refl
promoted_promoted SChar = refl
promoted_promoted UChar = refl
promoted_promoted Short = refl
promoted_promoted UShort = refl
promoted_promoted Int = refl
promoted_promoted UInt = refl
promoted_promoted Long = refl
promoted_promoted ULong = refl

pub promoted_same : (a : IntType) → is_promoted a ≡ true → promoted a ≡ a
promoted_same a h = equal_ints (promoted a) a h

pub usual_both : (a b : IntType) → same_int (usual (usual a b) (usual a b)) (usual a b) ≡ true
usual_both Char Char = refl
usual_both SChar SChar = refl
usual_both UChar UChar = refl
usual_both Short Short = refl
usual_both UShort UShort = refl
usual_both Int Int = refl
usual_both UInt UInt = refl
usual_both Long Long = refl
usual_both ULong ULong = refl
usual_both a b = refl

-- the common type of two types is its own with itself
pub usual_same : (a t : IntType) → same_int (usual a t) t ≡ true → same_int (usual t t) t ≡ true
usual_same a t h = rw (equal_ints (usual a t) t h) at (usual_both a t)

pub usual_promoted : (t : IntType) → is_promoted t ≡ true → same_int (usual t t) t ≡ true
usual_promoted Char h = cc
usual_promoted SChar h = cc
usual_promoted UChar h = cc
usual_promoted Short h = cc
usual_promoted UShort h = cc
usual_promoted Int h = refl
usual_promoted UInt h = refl
usual_promoted Long h = refl
usual_promoted ULong h = refl
