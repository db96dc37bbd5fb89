-- Types as the typed tree has them, and what the rules of conversions say of them.
use Rattle.std.proofs.Common.{◌≡◌, ◌≤◌, ℕ, refl, Bool, false, arith, Some}
use Rattle.std.specs.Prelude.{IsTrue, nat_le}
use Rattle.std.proofs.lemmas.Bool.Decides.{nat_tests}
use Rattle.pt_base.specs.IntTypes.{promoted}
use Rattle.pt_base.proofs.Booleans.{both_hold, both_hold_first, both_hold_second}
use Rattle.pt_tree.specs.declared.signature.Elem.{Elem}
use Rattle.type_rules.specs.declared.types.Type.{«Type»}
use Rattle.type_rules.specs.declared.types.Type.TheVariants.{Bad, Void, Int, Struct, Array, Pointer}
use Rattle.type_rules.specs.declared.types.Value.{Value}
use Rattle.type_rules.specs.Conversions.{condition_rule, fit_rule, is_wrong}
use Rattle.typed_tree.specs.TypeTests.{is_scalar, is_value}
use Rattle.typed_tree.specs.WellFormed.{is_variable_type}
use Rattle.typed_tree.specs.WellFormedExpression.{is_elem}
use Rattle.typed_tree.specs.WellFormedStatement.{promotes_to}
use Rattle.check_expressions.specs.Operands.{var_type}
use Rattle.check_expressions.specs.StructInfos.{object_type_of}
use Rattle.check_statements.specs.Labels.{kind_of, is_no_integer}
use Rattle.check_statements.specs.Outermost.{is_no_condition}
use Rattle.type_law.specs.DeclarationsTypes.{is_good, is_variable}
use Rattle.typed_tree.proofs.SameTypes.{int_self}
use Rattle.type_law.proofs.DeclarationsGoodTypes.{elem_more}

-- ---- objects

pub has_object_type : (structs : ℕ) (t : «Type») → IsTrue (is_variable structs t) → var_type t ≡ Some (object_type_of t)
unfolding var_type
has_object_type structs Bad h = cc
has_object_type structs Void h = cc
has_object_type structs (Int t) h = refl
has_object_type structs (Struct n) h = refl
has_object_type structs (Array e count) h = refl
has_object_type structs (Pointer e fixed) h = refl

pub variable_type : (structs more : ℕ) (t : «Type») → structs ≤ more → IsTrue (is_variable structs t) → IsTrue (is_variable_type more (object_type_of t))
unfolding var_type
variable_type structs more Bad within h = cc
variable_type structs more Void within h = cc
variable_type structs more (Int t) within h = refl
variable_type structs more (Struct n) within h = grind (arith, nat_tests, within, h)
variable_type structs more (Array e count) within h =
    both_hold (is_elem more (Some e)) (nat_le 1 count)
    (elem_more structs more e within (both_hold_first (is_elem structs (Some e)) (nat_le 1 count) h))
    (both_hold_second (is_elem structs (Some e)) (nat_le 1 count) h)
variable_type structs more (Pointer e fixed) within h = elem_more structs more e within h

-- ---- values

pub condition_type : (structs : ℕ) (t : «Type») (null : Bool) → IsTrue (is_good structs t) → is_no_condition (condition_rule (record { ty = t; null = null })) ≡ false → IsTrue (is_scalar (var_type t))
unfolding var_type condition_rule
condition_type structs Bad null good h = cc
condition_type structs Void null good h = cc
condition_type structs (Int t) null good h = refl
condition_type structs (Struct n) null good h = cc
condition_type structs (Array e count) null good h = cc
condition_type structs (Pointer e fixed) null good h = refl

-- nothing fits void
pub no_void : (structs : ℕ) (t : «Type») (null : Bool) → IsTrue (is_good structs t) → is_wrong (fit_rule Void (record { ty = t; null = null })) ≡ false → ⊥
unfolding fit_rule
no_void structs Bad null good h = cc
no_void structs Void null good h = cc
no_void structs (Int t) null good h = cc
no_void structs (Struct n) null good h = cc
no_void structs (Array e count) null good h = cc
no_void structs (Pointer e fixed) null good h = cc

-- nor an array
no_array : (structs : ℕ) (e : Elem) (count : ℕ) (t : «Type») (null : Bool) → IsTrue (is_good structs t) → is_wrong (fit_rule (Array e count) (record { ty = t; null = null })) ≡ false → ⊥
unfolding fit_rule
no_array structs a k Bad null good h = cc
no_array structs a k Void null good h = cc
no_array structs a k (Int t) null good h = cc
no_array structs a k (Struct n) null good h = cc
no_array structs a k (Array e count) null good h = cc
no_array structs a k (Pointer e fixed) null good h = cc

-- what takes a value is the type of one
pub taking : (structs : ℕ) (ty : «Type») (w : Value) → IsTrue (is_variable structs ty) → IsTrue (is_good structs w.ty) → is_wrong (fit_rule ty w) ≡ false → IsTrue (is_value (Some (object_type_of ty)))
unfolding var_type
taking structs Bad w is good h = cc
taking structs Void w is good h = cc
taking structs (Int t) w is good h = refl
taking structs (Struct n) w is good h = refl
taking structs (Array e count) w is good h = absurd (no_array structs e count w.ty w.null good h)
taking structs (Pointer e fixed) w is good h = refl

-- the type by which a switch compares
pub switch_type : (structs : ℕ) (t : «Type») → IsTrue (is_good structs t) → is_no_integer t ≡ false → (IsTrue (kind_of t).compared) × IsTrue (promotes_to (kind_of t).ty (var_type t))
unfolding var_type
switch_type structs Bad good h = cc
switch_type structs Void good h = cc
switch_type structs (Int t) good h = (refl, int_self (promoted t))
switch_type structs (Struct n) good h = cc
switch_type structs (Array e count) good h = cc
switch_type structs (Pointer e fixed) good h = cc
