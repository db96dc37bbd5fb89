-- Types that a test calls equal are equal, and each is equal to itself.
use Rattle.std.proofs.Common.{◌≡◌, ◌∙◌, ℕ, zero, suc, nat_eq, refl, ap, sym, Bool, true, false, Option, Some, None}
use Rattle.pt_base.specs.declared.int_type.IntType.{IntType}
use Rattle.pt_base.specs.declared.int_type.IntType.TheVariants.{Char, SChar, UChar, Short, UShort, Int, UInt, Long, ULong}
use Rattle.pt_base.proofs.Booleans.{both_hold, both_hold_first, both_hold_second}
use Rattle.pt_base.proofs.Numbers.{nat_eq_same, nat_eq_self}
use Rattle.pt_tree.specs.declared.signature.Elem.{Elem}
use Rattle.pt_tree.specs.declared.signature.Elem.TheVariants as elem
use Rattle.typed_tree.specs.declared.types.VarTy.{VarTy}
use Rattle.typed_tree.specs.declared.types.VarTy.TheVariants as v
use Rattle.typed_tree.specs.TypeTests.{place_of, same_int, same_elem, same_bool, same_type, same_types}

-- ---- equal types

abbrev int_at : ℕ → IntType
int_at zero = Char
int_at (suc zero) = SChar
int_at (suc (suc zero)) = UChar
int_at (suc (suc (suc zero))) = Short
int_at (suc (suc (suc (suc zero)))) = UShort
int_at (suc (suc (suc (suc (suc zero))))) = Int
int_at (suc (suc (suc (suc (suc (suc zero)))))) = UInt
int_at (suc (suc (suc (suc (suc (suc (suc zero))))))) = Long
int_at (suc (suc (suc (suc (suc (suc (suc (suc n)))))))) = ULong

int_there : (t : IntType) → int_at (place_of t) ≡ t
int_there Char = refl
int_there SChar = refl
int_there UChar = refl
int_there Short = refl
int_there UShort = refl
int_there Int = refl
int_there UInt = refl
int_there Long = refl
int_there ULong = refl

pub equal_ints : (a b : IntType) → same_int a b ≡ true → a ≡ b
equal_ints a b h = sym (int_there a) ∙ ap int_at (nat_eq_same (place_of a) (place_of b) h) ∙ int_there b

pub equal_bools : (a b : Bool) → same_bool a b ≡ true → a ≡ b
equal_bools true b h = sym h
equal_bools false true h = cc
equal_bools false false h = refl

pub equal_elems : (a b : Elem) → same_elem a b ≡ true → a ≡ b
equal_elems (elem.Int a) (elem.Int b) h = ap elem.Int (equal_ints a b h)
equal_elems (elem.Int a) (elem.Struct n) h = cc
equal_elems (elem.Struct m) (elem.Int b) h = cc
equal_elems (elem.Struct m) (elem.Struct n) h = ap elem.Struct (nat_eq_same m n h)

pub equal_types : (a b : VarTy) → same_type a b ≡ true → a ≡ b
equal_types (v.Int a) (v.Int b) h = ap v.Int (equal_ints a b h)
equal_types (v.Struct m) (v.Struct n) h = ap v.Struct (nat_eq_same m n h)
equal_types (v.Array a m) (v.Array b n) h =
    ap (λ x. v.Array x m) (equal_elems a b (both_hold_first (same_elem a b) (nat_eq m n) h)) ∙ ap (v.Array b) (nat_eq_same m n (both_hold_second (same_elem a b) (nat_eq m n) h))
equal_types (v.Pointer a f) (v.Pointer b g) h =
    ap (λ x. v.Pointer x f) (equal_elems a b (both_hold_first (same_elem a b) (same_bool f g) h)) ∙ ap (v.Pointer b) (equal_bools f g (both_hold_second (same_elem a b) (same_bool f g) h))
equal_types (v.Int a) (v.Struct n) h = cc
equal_types (v.Int a) (v.Array b n) h = cc
equal_types (v.Int a) (v.Pointer b g) h = cc
equal_types (v.Struct m) (v.Int b) h = cc
equal_types (v.Struct m) (v.Array b n) h = cc
equal_types (v.Struct m) (v.Pointer b g) h = cc
equal_types (v.Array a m) (v.Int b) h = cc
equal_types (v.Array a m) (v.Struct n) h = cc
equal_types (v.Array a m) (v.Pointer b g) h = cc
equal_types (v.Pointer a f) (v.Int b) h = cc
equal_types (v.Pointer a f) (v.Struct n) h = cc
equal_types (v.Pointer a f) (v.Array b n) h = cc

pub equal_options : (a b : Option VarTy) → same_types a b ≡ true → a ≡ b
equal_options None None h = refl
equal_options None (Some b) h = cc
equal_options (Some a) None h = cc
equal_options (Some a) (Some b) h = ap Some (equal_types a b h)

-- ---- a type is the same as itself

pub int_self : (a : IntType) → same_int a a ≡ true
int_self a = nat_eq_self (place_of a)

pub elem_self : (a : Elem) → same_elem a a ≡ true
elem_self (elem.Int a) = int_self a
elem_self (elem.Struct n) = nat_eq_self n

pub bool_self : (f : Bool) → same_bool f f ≡ true
bool_self true = refl
bool_self false = refl

pub type_self : (a : VarTy) → same_type a a ≡ true
type_self (v.Int t) = int_self t
type_self (v.Struct n) = nat_eq_self n
type_self (v.Array e count) = both_hold (same_elem e e) (nat_eq count count) (elem_self e) (nat_eq_self count)
type_self (v.Pointer e fixed) = both_hold (same_elem e e) (same_bool fixed fixed) (elem_self e) (bool_self fixed)
