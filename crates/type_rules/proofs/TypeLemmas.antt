-- When two types are one.
use Rattle.std.proofs.Common.{◌≡◌, ◌∙◌, true, refl, ap}
use Rattle.pt_base.specs.IntTypes.{usual}
use Rattle.pt_base.specs.declared.int_type.IntType.{IntType}
use Rattle.pt_base.specs.declared.int_type.IntType.TheVariants.{Char, SChar, UChar, Short, UShort, Int, UInt, Long, ULong}
use Rattle.pt_tree.specs.declared.signature.Elem.{Elem}
use Rattle.pt_tree.specs.declared.signature.Elem.TheVariants as elem
use Rattle.type_rules.specs.Types.{is_same_int, is_same_elem}
use Rattle.pt_base.proofs.Numbers.{nat_eq_same, nat_eq_self}

pub same_int : (a b : IntType) → is_same_int a b ≡ true → a ≡ b
same_int Char Char h = refl
same_int SChar SChar h = refl
same_int UChar UChar h = refl
same_int Short Short h = refl
same_int UShort UShort h = refl
same_int Int Int h = refl
same_int UInt UInt h = refl
same_int Long Long h = refl
same_int ULong ULong h = refl
same_int a b h = cc

pub is_same_int-self : (a : IntType) → is_same_int a a ≡ true
is_same_int-self Char = refl
is_same_int-self SChar = refl
is_same_int-self UChar = refl
is_same_int-self Short = refl
is_same_int-self UShort = refl
is_same_int-self Int = refl
is_same_int-self UInt = refl
is_same_int-self Long = refl
is_same_int-self ULong = refl

pub same_elem : (a b : Elem) → is_same_elem a b ≡ true → a ≡ b
same_elem (elem.Int a) (elem.Int b) h = ap elem.Int (same_int a b h)
same_elem (elem.Struct m) (elem.Struct n) h = ap elem.Struct (nat_eq_same m n h)
same_elem (elem.Int a) (elem.Struct n) h = cc
same_elem (elem.Struct m) (elem.Int b) h = cc

pub is_same_elem-self : (a : Elem) → is_same_elem a a ≡ true
is_same_elem-self (elem.Int a) = is_same_int-self a
is_same_elem-self (elem.Struct n) = nat_eq_self n

-- a true test stays true when its types change places
pub same_elem_back : (a b : Elem) → is_same_elem a b ≡ true → is_same_elem b a ≡ true
same_elem_back a b h = ap (λ c. is_same_elem b c) (same_elem a b h) ∙ is_same_elem-self b

-- the usual conversions don't ask for the order of their types
pub usual_back : (a b : IntType) → usual b a ≡ usual a b
usual_back Char Char = refl
usual_back SChar SChar = refl
usual_back UChar UChar = refl
usual_back Short Short = refl
usual_back UShort UShort = refl
usual_back Int Int = refl
usual_back UInt UInt = refl
usual_back Long Long = refl
usual_back ULong ULong = refl
usual_back a b = refl
