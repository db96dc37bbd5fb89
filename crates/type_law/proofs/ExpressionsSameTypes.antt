-- The tests of types hold of equal types; the integer types of conversions.
use Rattle.std.proofs.Common.{◌≡◌, ◌∙◌, nat_eq, refl, ap, sym, true, Option, Some, None}
use Rattle.pt_base.specs.IntTypes.{promoted, usual}
use Rattle.pt_base.specs.declared.int_type.IntType.{IntType}
use Rattle.pt_base.specs.declared.int_type.IntType.TheVariants.{Char, SChar, UChar, Short, UShort, Int, UInt, Long, ULong}
use Rattle.typed_tree.specs.declared.types.VarTy.{VarTy}
use Rattle.typed_tree.specs.declared.types.VarTy.TheVariants as v
use Rattle.typed_tree.specs.TypeTests.{same_elem, same_bool, same_types}
use Rattle.typed_tree.specs.TypeRules.{is_promoted}
use Rattle.typed_tree.proofs.SameTypes.{bool_self, elem_self, int_self}
use Rattle.pt_base.proofs.Booleans.{both_hold}
use Rattle.pt_base.proofs.Numbers.{nat_eq_self}

pub same_types-self : (a : Option VarTy) → same_types a a ≡ true
same_types-self None = refl
same_types-self (Some (v.Int t)) = int_self t
same_types-self (Some (v.Struct n)) = nat_eq_self n
same_types-self (Some (v.Array e count)) = both_hold (same_elem e e) (nat_eq count count) (elem_self e) (nat_eq_self count)
same_types-self (Some (v.Pointer e fixed)) = both_hold (same_elem e e) (same_bool fixed fixed) (elem_self e) (bool_self fixed)

pub same_types-equal : (a b : Option VarTy) → a ≡ b → same_types a b ≡ true
same_types-equal a b h = ap (λ x. same_types a x) (sym h) ∙ same_types-self a

-- ---- integer types

pub promoted-promoted : (a : IntType) → is_promoted (promoted a) ≡ true
promoted-promoted Char = refl
promoted-promoted SChar = refl
promoted-promoted UChar = refl
promoted-promoted Short = refl
promoted-promoted UShort = refl
promoted-promoted Int = refl
promoted-promoted UInt = refl
promoted-promoted Long = refl
promoted-promoted ULong = refl

pub promoted-same : (a : IntType) → is_promoted a ≡ true → promoted a ≡ a
promoted-same Char h = cc
promoted-same SChar h = cc
promoted-same UChar h = cc
promoted-same Short h = cc
promoted-same UShort h = cc
promoted-same Int h = refl
promoted-same UInt h = refl
promoted-same Long h = refl
promoted-same ULong h = refl

pub usual-promoted : (a b : IntType) → is_promoted (usual a b) ≡ true
usual-promoted Char Char = refl
usual-promoted SChar SChar = refl
usual-promoted UChar UChar = refl
usual-promoted Short Short = refl
usual-promoted UShort UShort = refl
usual-promoted Int Int = refl
usual-promoted UInt UInt = refl
usual-promoted Long Long = refl
usual-promoted ULong ULong = refl
usual-promoted a b = refl

-- the value so far, converted or promoted, keeps the common type
pub usual-left : (a b : IntType) → usual a (usual a b) ≡ usual a b
usual-left Char Char = refl
usual-left SChar SChar = refl
usual-left UChar UChar = refl
usual-left Short Short = refl
usual-left UShort UShort = refl
usual-left Int Int = refl
usual-left UInt UInt = refl
usual-left Long Long = refl
usual-left ULong ULong = refl
usual-left a b = refl

pub usual-promoted-left : (a b : IntType) → usual (promoted a) (usual a b) ≡ usual a b
usual-promoted-left Char Char = refl
usual-promoted-left SChar SChar = refl
usual-promoted-left UChar UChar = refl
usual-promoted-left Short Short = refl
usual-promoted-left UShort UShort = refl
usual-promoted-left Int Int = refl
usual-promoted-left UInt UInt = refl
usual-promoted-left Long Long = refl
usual-promoted-left ULong ULong = refl
usual-promoted-left a b = refl

pub usual-both : (a b : IntType) → usual (usual a b) (usual a b) ≡ usual a b
usual-both Char Char = refl
usual-both SChar SChar = refl
usual-both UChar UChar = refl
usual-both Short Short = refl
usual-both UShort UShort = refl
usual-both Int Int = refl
usual-both UInt UInt = refl
usual-both Long Long = refl
usual-both ULong ULong = refl
usual-both a b = refl
