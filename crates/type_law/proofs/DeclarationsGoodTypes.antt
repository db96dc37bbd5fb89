-- Good types among more structs, and of more kinds.
use Rattle.std.proofs.Common.{◌≤◌, ℕ, arith, Some}
use Rattle.std.specs.Prelude.{IsTrue, ◌&&◌, nat_le}
use Rattle.std.proofs.lemmas.Bool.Decides.{nat_tests}
use Rattle.pt_base.proofs.Booleans.{both_hold, both_hold_first, both_hold_second}
use Rattle.pt_tree.specs.declared.signature.Elem.{Elem}
use Rattle.pt_tree.specs.declared.signature.Elem.TheVariants as elem
use Rattle.type_rules.specs.declared.types.Type.{«Type»}
use Rattle.type_rules.specs.declared.types.Type.TheVariants.{Bad, Void, Int, Struct, Array, Pointer}
use Rattle.typed_tree.specs.WellFormedExpression.{is_elem}
use Rattle.type_law.specs.DeclarationsTypes.{is_good, is_base, is_variable, is_plain, is_parameter, is_result}

-- ---- among more structs

pub elem_more : (m n : ℕ) (e : Elem) → m ≤ n → IsTrue (is_elem m (Some e)) → IsTrue (is_elem n (Some e))
elem_more m n (elem.Int t) le h = h
elem_more m n (elem.Struct k) le h = grind (arith, nat_tests, h)

array_more : (m n : ℕ) (e : Elem) (count : ℕ) → m ≤ n → IsTrue (is_elem m (Some e) && nat_le 1 count) → IsTrue (is_elem n (Some e) && nat_le 1 count)
array_more m n e count le h = both_hold _ _ (elem_more m n e le (both_hold_first (is_elem m (Some e)) (nat_le 1 count) h)) (both_hold_second (is_elem m (Some e)) (nat_le 1 count) h)

pub good_more : (m n : ℕ) (t : «Type») → m ≤ n → IsTrue (is_good m t) → IsTrue (is_good n t)
good_more m n Bad le h = h
good_more m n Void le h = h
good_more m n (Int t) le h = h
good_more m n (Struct k) le h = grind (arith, nat_tests, h)
good_more m n (Array e count) le h = array_more m n e count le h
good_more m n (Pointer e fixed) le h = elem_more m n e le h

pub base_more : (m n : ℕ) (t : «Type») → m ≤ n → IsTrue (is_base m t) → IsTrue (is_base n t)
base_more m n Bad le h = h
base_more m n Void le h = h
base_more m n (Int t) le h = h
base_more m n (Struct k) le h = grind (arith, nat_tests, h)
base_more m n (Array e count) le h = h
base_more m n (Pointer e fixed) le h = h

pub variable_more : (m n : ℕ) (t : «Type») → m ≤ n → IsTrue (is_variable m t) → IsTrue (is_variable n t)
variable_more m n Bad le h = h
variable_more m n Void le h = h
variable_more m n (Int t) le h = h
variable_more m n (Struct k) le h = grind (arith, nat_tests, h)
variable_more m n (Array e count) le h = array_more m n e count le h
variable_more m n (Pointer e fixed) le h = elem_more m n e le h

pub plain_more : (m n : ℕ) (t : «Type») → m ≤ n → IsTrue (is_plain m t) → IsTrue (is_plain n t)
plain_more m n Bad le h = h
plain_more m n Void le h = h
plain_more m n (Int t) le h = h
plain_more m n (Struct k) le h = grind (arith, nat_tests, h)
plain_more m n (Array e count) le h = array_more m n e count le h
plain_more m n (Pointer e fixed) le h = h

pub parameter_more : (m n : ℕ) (t : «Type») → m ≤ n → IsTrue (is_parameter m t) → IsTrue (is_parameter n t)
parameter_more m n Bad le h = h
parameter_more m n Void le h = h
parameter_more m n (Int t) le h = h
parameter_more m n (Struct k) le h = h
parameter_more m n (Array e count) le h = h
parameter_more m n (Pointer e fixed) le h = elem_more m n e le h

-- ---- of another kind

pub plain_variable : (n : ℕ) (t : «Type») → IsTrue (is_plain n t) → IsTrue (is_variable n t)
plain_variable n Bad h = h
plain_variable n Void h = h
plain_variable n (Int t) h = h
plain_variable n (Struct k) h = h
plain_variable n (Array e count) h = h
plain_variable n (Pointer e fixed) h = cc

pub parameter_variable : (n : ℕ) (t : «Type») → IsTrue (is_parameter n t) → IsTrue (is_variable n t)
parameter_variable n Bad h = h
parameter_variable n Void h = h
parameter_variable n (Int t) h = h
parameter_variable n (Struct k) h = cc
parameter_variable n (Array e count) h = cc
parameter_variable n (Pointer e fixed) h = h

pub variable_good : (n : ℕ) (t : «Type») → IsTrue (is_variable n t) → IsTrue (is_good n t)
variable_good n Bad h = h
variable_good n Void h = cc
variable_good n (Int t) h = h
variable_good n (Struct k) h = h
variable_good n (Array e count) h = h
variable_good n (Pointer e fixed) h = h

pub base_good : (n : ℕ) (t : «Type») → IsTrue (is_base n t) → IsTrue (is_good n t)
base_good n Bad h = h
base_good n Void h = h
base_good n (Int t) h = h
base_good n (Struct k) h = h
base_good n (Array e count) h = cc
base_good n (Pointer e fixed) h = cc

pub result_good : (n : ℕ) (t : «Type») → IsTrue (is_result t) → IsTrue (is_good n t)
result_good n Bad h = h
result_good n Void h = h
result_good n (Int t) h = h
result_good n (Struct k) h = cc
result_good n (Array e count) h = cc
result_good n (Pointer e fixed) h = cc
