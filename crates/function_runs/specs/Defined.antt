-- The functions that have bodies.
use Rattle.std.specs.Prelude.{◌≡◌, ℕ, suc, List, [], ◌∷◌, ◌++◌, Some, Bool, true, false, is_some}
use Rattle.pt_base.specs.declared.ids.FnId.{FnId}
use Rattle.typed_tree.specs.Lookup.{function_at}
use Rattle.typed_tree.specs.StatementTree.{BodyTree}
use Rattle.typed_tree.specs.TypedTree.{FunctionTree, TypedTree}

-- the function of this number has a body
abbrev pub HasBody : TypedTree → FnId → Type 0
HasBody t f = (g : FunctionTree) × (b : BodyTree) × (function_at t f ≡ Some g) × (g.body ≡ Some b)

-- the function, where it has a body
abbrev pub if_defined : Bool → FnId → List FnId
if_defined true f = f ∷ []
if_defined false f = []

-- those among functions of which the first has the number n
abbrev pub defined_from : ℕ → List FunctionTree → List FnId
defined_from n [] = []
defined_from n (f ∷ fs) = if_defined (is_some f.body) (record { 0 = n }) ++ defined_from (suc n) fs

abbrev pub defined : TypedTree → List FnId
defined t = defined_from 0 t.functions
