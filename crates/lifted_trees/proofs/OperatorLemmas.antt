-- Which types operators on integers have.
use Rattle.std.proofs.Common.{◌≡◌, ◌∙◌, refl, ap, sym, subst, Bool, true, false, Option, Some, None}
use Rattle.std.specs.Prelude.{◌&&◌, not, if◌then◌else◌, is_some, nat_lt}
use Rattle.pt_base.specs.declared.int_type.IntType.{IntType}
use Rattle.pt_base.specs.declared.int_type.IntType.TheVariants as i
use Rattle.pt_base.specs.IntTypes.{common, is_signed, promoted, usual, width_of}
use Rattle.pt_base.proofs.Booleans.{and_true_first, and_true_second, both_hold, from_not_false, if_same}
use Rattle.pt_int.specs.declared.operator.BinOp.{BinOp}
use Rattle.pt_int.specs.declared.operator.UnOp.{UnOp}
use Rattle.pt_int.specs.declared.operator.UnOp.TheVariants.{Minus, Plus, Flip, Not}
use Rattle.pt_int.specs.Operator.{is_shift, binary_type}
use Rattle.typed_tree.specs.declared.link.LinkStep.{LinkStep}
use Rattle.typed_tree.specs.declared.link.LinkStep.TheVariants.{Arithmetic, Shift, Move, MoveBy, Difference, Compare}
use Rattle.typed_tree.specs.declared.types.VarTy.{VarTy}
use Rattle.typed_tree.specs.declared.types.VarTy.TheVariants.{Int, Struct, Array, Pointer}
use Rattle.typed_tree.specs.TypeRules.{arithmetic_type, int, is_promoted, is_same_promoted, shift_type, stepped, unary_fits}
use Rattle.typed_tree.specs.TypeTests.{both_int, integer_of, is_scalar, same_int, same_types}
use Rattle.typed_tree.proofs.SameTypes.{equal_ints, equal_options, int_self, type_self}
use Rattle.lifted_trees.specs.Sites.{changes_int, int_of, is_number, is_operator, left_type}

pub options_self : (a : Option VarTy) → same_types a a ≡ true
options_self None = refl
options_self (Some a) = type_self a

pub options_same : (a b : Option VarTy) → a ≡ b → same_types a b ≡ true
options_same a b e = subst (λ x. same_types a x ≡ true) e (options_self a)

pub number_is : (a : Option VarTy) → is_number a ≡ true → a ≡ Some (Int (int_of a))
number_is None h = cc
number_is (Some (Int x)) h = refl
number_is (Some (Struct n)) h = cc
number_is (Some (Array elem count)) h = cc
number_is (Some (Pointer elem fixed)) h = cc

-- ---- operators before their operands

promoted_number : (a b : Option VarTy) → is_same_promoted a b ≡ true → is_number b ≡ true
promoted_number (Some (Int x)) (Some (Int y)) h = refl
promoted_number a b h = cc

pub unary_number : (op : UnOp) (a b : Option VarTy) → unary_fits op a b ≡ true → is_number b ≡ true
unary_number Minus a b h = promoted_number a b h
unary_number Plus a b h = promoted_number a b h
unary_number Flip a b h = promoted_number a b h
unary_number Not a b h = subst (λ x. is_number x ≡ true) (sym (equal_options b int (and_true_second (is_scalar a) (same_types b int) h))) refl

-- ---- the usual conversions

promoted_twice : (a : IntType) → is_promoted (promoted a) ≡ true
promoted_twice i.Char = refl
promoted_twice i.SChar = refl
promoted_twice i.UChar = refl
promoted_twice i.Short = refl
promoted_twice i.UShort = refl
promoted_twice i.Int = refl
promoted_twice i.UInt = refl
promoted_twice i.Long = refl
promoted_twice i.ULong = refl

if_has : (P : IntType → Type 0) (b : Bool) (x y : IntType) → P x → P y → P (if b then x else y)
if_has P true x y h k = h
if_has P false x y h k = k

common_has : (P : IntType → Type 0) (s z : Bool) (a b : IntType) → P a → P b → P (common s z a b)
common_has P true true a b h k = if_has P (nat_lt (width_of a) (width_of b)) b a k h
common_has P true false a b h k = if_has P (nat_lt (width_of b) (width_of a)) a b h k
common_has P false true a b h k = if_has P (nat_lt (width_of a) (width_of b)) b a k h
common_has P false false a b h k = if_has P (nat_lt (width_of a) (width_of b)) b a k h

common_same : (s : Bool) (a : IntType) → common s s a a ≡ a
common_same true a = if_same (nat_lt (width_of a) (width_of a)) a a refl
common_same false a = if_same (nat_lt (width_of a) (width_of a)) a a refl

-- a type that the usual conversions give is its own common type
pub usual_self : (a b : IntType) → same_int (usual a b) b ≡ true → same_int (usual b b) b ≡ true
usual_self a b h =
    let whole : is_promoted (usual a b) ≡ true =
    common_has (λ x. is_promoted x ≡ true) (is_signed (promoted a)) (is_signed (promoted b)) (promoted a) (promoted b) (promoted_twice a) (promoted_twice b) in
    let kept : is_promoted b ≡ true = subst (λ x. is_promoted x ≡ true) (equal_ints (usual a b) b h) whole in
    let same : usual b b ≡ b = common_same (is_signed (promoted b)) (promoted b) ∙ equal_ints (promoted b) b kept in
    subst (λ x. same_int x b ≡ true) (sym same) (int_self b)

-- ---- steps

if_some : {A : Type 0} (b : Bool) (x y : A) → (if b then Some x else None) ≡ Some y → (b ≡ true) × (Some x ≡ Some y)
if_some true x y h = (refl, h)
if_some false x y h = cc

-- an operator's two sides and what it gives are integers
pub record AreNumbers (ty own : Option VarTy) (to : VarTy) : Type 0 where
  pub left : is_number ty ≡ true
  pub right : is_number own ≡ true
  pub result : is_number (Some to) ≡ true

arithmetic_numbers : (op : BinOp) (t : IntType) (ty own : Option VarTy) (to : VarTy) (a b : Option IntType) → integer_of ty ≡ a → integer_of own ≡ b →
    arithmetic_type op t a b ≡ Some to → AreNumbers ty own to
arithmetic_numbers op t ty own to (Some a) (Some b) p q h =
    let parts = if_some (not (is_shift op) && (same_int (usual a t) t && same_int b t)) (Int (binary_type op t)) to h in
    record { left = ap is_some p; right = ap is_some q; result = subst (λ x. is_number x ≡ true) parts.1 refl }
arithmetic_numbers op t ty own to None b p q h = cc
arithmetic_numbers op t ty own to (Some a) None p q h = cc

shift_numbers : (ty own : Option VarTy) (to : VarTy) (a b : Option IntType) → integer_of ty ≡ a → integer_of own ≡ b → shift_type a b ≡ Some to → AreNumbers ty own to
shift_numbers ty own to (Some a) (Some b) p q h =
    let parts = if_some (is_promoted a && is_promoted b) (Int a) to h in
    record { left = ap is_some p; right = ap is_some q; result = subst (λ x. is_number x ≡ true) parts.1 refl }
shift_numbers ty own to None b p q h = cc
shift_numbers ty own to (Some a) None p q h = cc

pub step_numbers : (ty : Option VarTy) (op : LinkStep) (own : Option VarTy) (to : VarTy) → is_operator op ≡ true → stepped ty op own ≡ Some to → AreNumbers ty own to
step_numbers ty (Arithmetic op t) own to is h = arithmetic_numbers op t ty own to (integer_of ty) (integer_of own) refl refl h
step_numbers ty (Shift back) own to is h = shift_numbers ty own to (integer_of ty) (integer_of own) refl refl h
step_numbers ty (Move back) own to is h = cc
step_numbers ty MoveBy own to is h = cc
step_numbers ty Difference own to is h = cc
step_numbers ty (Compare op) own to is h = cc

arithmetic_again : (op : BinOp) (t : IntType) (a b : IntType) (to : VarTy) → arithmetic_type op t (Some a) (Some b) ≡ Some to → arithmetic_type op t (Some t) (Some b) ≡ Some to
arithmetic_again op t a b to h =
    let parts = if_some (not (is_shift op) && (same_int (usual a t) t && same_int b t)) (Int (binary_type op t)) to h in
    let types = and_true_second (not (is_shift op)) (same_int (usual a t) t && same_int b t) parts.0 in
    let holds : (not (is_shift op) && (same_int (usual t t) t && same_int b t)) ≡ true =
    both_hold (not (is_shift op)) (same_int (usual t t) t && same_int b t) (and_true_first (not (is_shift op)) (same_int (usual a t) t && same_int b t) parts.0)
    (both_hold (same_int (usual t t) t) (same_int b t) (usual_self a t (and_true_first (same_int (usual a t) t) (same_int b t) types)) (and_true_second (same_int (usual a t) t) (same_int b t) types)) in
    ap (λ x. if x then Some (Int (binary_type op t)) else None) holds ∙ parts.1

-- an operator's value so far, once it is converted, is as good
pub step_again : (ty : Option VarTy) (op : LinkStep) (own : Option VarTy) (to : VarTy) → is_operator op ≡ true → stepped ty op own ≡ Some to →
    stepped (Some (Int (left_type ty op))) op (Some (Int (int_of own))) ≡ Some to
step_again ty (Arithmetic op t) own to is h =
    let numbers = step_numbers ty (Arithmetic op t) own to is h in
    let moved : arithmetic_type op t (Some (int_of ty)) (Some (int_of own)) ≡ Some to =
    subst (λ x. arithmetic_type op t (integer_of x) (Some (int_of own)) ≡ Some to) (number_is ty numbers.left)
    (subst (λ x. arithmetic_type op t (integer_of ty) (integer_of x) ≡ Some to) (number_is own numbers.right) h) in
    arithmetic_again op t (int_of ty) (int_of own) to moved
step_again ty (Shift back) own to is h =
    let numbers = step_numbers ty (Shift back) own to is h in
    subst (λ x. shift_type (integer_of x) (Some (int_of own)) ≡ Some to) (number_is ty numbers.left)
    (subst (λ x. shift_type (integer_of ty) (integer_of x) ≡ Some to) (number_is own numbers.right) h)
step_again ty (Move back) own to is h = cc
step_again ty MoveBy own to is h = cc
step_again ty Difference own to is h = cc
step_again ty (Compare op) own to is h = cc

-- ---- conversions that change nothing

pub unchanged_self : (a : Option VarTy) → changes_int a (Some (Int (int_of a))) ≡ false
unchanged_self None = refl
unchanged_self (Some (Int x)) = ap not (int_self x)
unchanged_self (Some (Struct n)) = refl
unchanged_self (Some (Array elem count)) = refl
unchanged_self (Some (Pointer elem fixed)) = refl

unchanged_at : (a b : Option VarTy) (u v : IntType) → a ≡ Some (Int u) → b ≡ Some (Int v) → changes_int a b ≡ false → a ≡ b
unchanged_at a b u v p q h =
    let here : not (same_int u v) ≡ false = subst (λ x. changes_int (Some (Int u)) x ≡ false) q (subst (λ x. changes_int x b ≡ false) p h) in
    p ∙ ap (λ x. Some (Int x)) (equal_ints u v (from_not_false (same_int u v) here)) ∙ sym q

pub unchanged_is : (a b : Option VarTy) → is_number a ≡ true → is_number b ≡ true → changes_int a b ≡ false → a ≡ b
unchanged_is a b p q h = unchanged_at a b (int_of a) (int_of b) (number_is a p) (number_is b q) h

pub changes_numbers : (a b : Option VarTy) → changes_int a b ≡ true → (is_number a ≡ true) × (is_number b ≡ true)
changes_numbers a b h =
    let both = and_true_first (is_number a && is_number b) (not (both_int (integer_of a) (integer_of b))) h in
    (and_true_first (is_number a) (is_number b) both, and_true_second (is_number a) (is_number b) both)
