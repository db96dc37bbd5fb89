-- What operators take.
use Rattle.std.proofs.Common.{◌≡◌, ◌∙◌, Bool, true, false, not, ◌&&◌, if◌then◌else◌, Option, Some, None, is_some, refl, sym, ap}
use Rattle.std.proofs.lemmas.Option.{same_Some}
use Rattle.pt_base.specs.declared.int_type.IntType.{IntType}
use Rattle.pt_base.specs.declared.int_type.IntType.TheVariants.{Char, SChar, UChar, Short, UShort, Int, UInt, Long, ULong}
use Rattle.pt_base.specs.IntTypes.{promoted, usual}
use Rattle.pt_int.specs.declared.operator.BinOp.{BinOp}
use Rattle.pt_int.specs.Operator.{is_shift, binary_type}
use Rattle.typed_tree.specs.declared.types.VarTy.{VarTy}
use Rattle.typed_tree.specs.declared.types.VarTy.TheVariants as ty
use Rattle.typed_tree.specs.TypeTests.{same_int, integer_of}
use Rattle.typed_tree.specs.TypeRules.{is_promoted, arithmetic_type, shift_type}
use Rattle.code_rules.specs.Parts.{takes_right}

usual_self : (t : IntType) → usual t t ≡ promoted t
usual_self Char = refl
usual_self SChar = refl
usual_self UChar = refl
usual_self Short = refl
usual_self UShort = refl
usual_self Int = refl
usual_self UInt = refl
usual_self Long = refl
usual_self ULong = refl

some_where : {A : Type 0} (b : Bool) (x : A) → b ≡ is_some (if b then Some x else None)
some_where true x = refl
some_where false x = refl

no_some : {A : Type 0} (b : Bool) (o : Option A) → o ≡ None → false ≡ is_some (if b then o else o)
no_some true o e = sym (ap is_some e)
no_some false o e = sym (ap is_some e)

-- a promoted number behind a shift, one of the operator's type behind another operator
right_number : (op : BinOp) (t of : IntType) → (is_promoted t && (if is_shift op then is_promoted of else same_int of t)) ≡ takes_right op t (Some (ty.Int of))
right_number op t of = go (is_shift op)
  where
    go : (b : Bool) → (is_promoted t && (if b then is_promoted of else same_int of t))
        ≡ is_some (if b then (if is_promoted t && is_promoted of then Some (ty.Int t) else None) else (if not b && (same_int (usual t t) t && same_int of t) then Some (ty.Int (binary_type op t)) else None))
    go true = some_where (is_promoted t && is_promoted of) (ty.Int t)
    go false = ap (λ u. same_int u t && same_int of t) (sym (usual_self t)) ∙ some_where (same_int (usual t t) t && same_int of t) (ty.Int (binary_type op t))

-- of another type than an integer's, none
pub right_other : (op : BinOp) (t : IntType) (o : Option VarTy) → integer_of o ≡ None → false ≡ takes_right op t o
right_other op t None e = refl
right_other op t (Some b) e = go (is_shift op) (integer_of (Some b)) e
  where
    go : (s : Bool) (of : Option IntType) → of ≡ None → false ≡ is_some (if s then shift_type (Some t) of else arithmetic_type op t (Some t) of)
    go s None e = no_some s None refl
    go s (Some of) e = cc

right_of : (op : BinOp) (t of : IntType) (b : VarTy) → integer_of (Some b) ≡ Some of → (is_promoted t && (if is_shift op then is_promoted of else same_int of t)) ≡ takes_right op t (Some b)
right_of op t of (ty.Int u) e = ap (λ v. is_promoted t && (if is_shift op then is_promoted v else same_int v t)) (sym (same_Some u of e)) ∙ right_number op t u
right_of op t of (ty.Struct n) e = cc
right_of op t of (ty.Array elem count) e = cc
right_of op t of (ty.Pointer elem fixed) e = cc

right_is : (op : BinOp) (t of : IntType) (o : Option VarTy) → integer_of o ≡ Some of → (is_promoted t && (if is_shift op then is_promoted of else same_int of t)) ≡ takes_right op t o
right_is op t of None e = cc
right_is op t of (Some b) e = right_of op t of b e

pub right_tested : (op : BinOp) (t of : IntType) (o : Option VarTy) (n m : Bool) → integer_of o ≡ Some of → n ≡ is_promoted t → n ≡ true → m ≡ (if is_shift op then is_promoted of else same_int of t) → m ≡ takes_right op t o
right_tested op t of o n m e is holds h = h ∙ ap (λ b. b && (if is_shift op then is_promoted of else same_int of t)) (sym holds ∙ is) ∙ right_is op t of o e

pub right_refused : (op : BinOp) (t of : IntType) (o : Option VarTy) (n : Bool) → integer_of o ≡ Some of → n ≡ is_promoted t → n ≡ false → false ≡ takes_right op t o
right_refused op t of o n e is fails = ap (λ b. b && (if is_shift op then is_promoted of else same_int of t)) (sym fails ∙ is) ∙ right_is op t of o e
