-- A place with one step more.
use Rattle.std.proofs.Common.{◌≡◌, refl, List, [], ◌∷◌, ◌++◌, Bool, true, false, ℕ, Option}
use Rattle.std.specs.Prelude.{IsTrue}
use Rattle.pt_base.specs.declared.span.Span.{Span}
use Rattle.pt_base.proofs.Booleans.{both_hold, both_hold_first, both_hold_second}
use Rattle.typed_tree.specs.declared.types.StructInfo.{StructInfo}
use Rattle.typed_tree.specs.declared.types.VarTy.{VarTy}
use Rattle.typed_tree.specs.ExpressionTree.{ExprTree, StepTree, field, item, no_steps, step_and, step_trees, RootTree, local, global, deref, assigned, place}
use Rattle.typed_tree.specs.WellFormedExpression.{Names, is_typed, steps_fit, steps_type, step_type, ends_in_field, has_item, is_object}

pub steps_fit-last : (n : Names) (ss : List StepTree) (s : StepTree) → IsTrue (steps_fit n (step_trees ss)) → IsTrue (steps_fit n (step_and s no_steps)) → IsTrue (steps_fit n (step_trees (ss ++ s ∷ [])))
steps_fit-last n [] s h k = k
steps_fit-last n (field m ∷ rest) s h k = steps_fit-last n rest s h k
steps_fit-last n (item i p ∷ rest) s h k = both_hold (is_typed n i) _ (both_hold_first (is_typed n i) _ h) (steps_fit-last n rest s (both_hold_second (is_typed n i) _ h) k)

pub steps_type-last : (structs : List StructInfo) (t : Option VarTy) (ss : List StepTree) (s : StepTree) → steps_type structs t (step_trees (ss ++ s ∷ [])) ≡ step_type structs (steps_type structs t (step_trees ss)) s
steps_type-last structs t [] s = refl
steps_type-last structs t (a ∷ rest) s = steps_type-last structs (step_type structs t a) rest s

pub ends-last : (b : Bool) (ss : List StepTree) (k : ℕ) → ends_in_field b (step_trees (ss ++ field k ∷ [])) ≡ true
ends-last b [] k = refl
ends-last b (field m ∷ rest) k = ends-last true rest k
ends-last b (item i p ∷ rest) k = ends-last false rest k

pub has_item-last : (ss : List StepTree) (i : ExprTree) (p : Span) → has_item (step_trees (ss ++ item i p ∷ [])) ≡ true
has_item-last [] i p = refl
has_item-last (field m ∷ rest) i p = has_item-last rest i p
has_item-last (item j q ∷ rest) i p = refl

-- an element is an object, whatever it is an element of
pub element_is_object : (r : RootTree) (ss : List StepTree) (i : ExprTree) (p : Span) → is_object (place r (step_trees (ss ++ item i p ∷ []))) ≡ true
element_is_object (local v) ss i p = refl
element_is_object (global g) ss i p = refl
element_is_object (deref a s) ss i p = refl
element_is_object (assigned a) ss i p = has_item-last ss i p

has_item-more : (ss : List StepTree) (k : ℕ) → has_item (step_trees ss) ≡ true → has_item (step_trees (ss ++ field k ∷ [])) ≡ true
has_item-more [] k h = cc
has_item-more (field m ∷ rest) k h = has_item-more rest k h
has_item-more (item j q ∷ rest) k h = refl

-- a field of an object is one
pub field_is_object : (r : RootTree) (ss : List StepTree) (k : ℕ) → is_object (place r (step_trees ss)) ≡ true → is_object (place r (step_trees (ss ++ field k ∷ []))) ≡ true
field_is_object (local v) ss k h = refl
field_is_object (global g) ss k h = refl
field_is_object (deref a s) ss k h = refl
field_is_object (assigned a) ss k h = has_item-more ss k h
