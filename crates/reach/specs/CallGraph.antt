-- Calls as edges between functions, by which `propagation` tells what they reach.
use Rattle.std.specs.Prelude.{ℕ, suc, zero, List, [], ◌∷◌, ◌++◌, Option, None, Some, Bool, if◌then◌else◌, codes, length, map}
use Rattle.std.specs.List.{filter}
use Rattle.pt_base.specs.declared.ids.FnId.{FnId}
use Rattle.pt_base.specs.declared.slot.Slot.{Slot}
use Rattle.pt_base.specs.declared.slot.Edge.{Edge}
use Rattle.typed_tree.specs.TypedTree.{FunctionTree, TypedTree}
use Rattle.typed_tree.specs.Lookup.{function_named}
use Rattle.reach.specs.declared.calls.Half.{Half}
use Rattle.reach.specs.declared.calls.Half.TheVariants.{Monitor, Slave}
use Rattle.reach.specs.Contexts.{test_function, has_body, is_privileged, is_plain, callees_in}

-- what may be called in the code of a half, to be in it too
abbrev pub is_entered : Half → FunctionTree → Bool
is_entered Monitor = has_body
is_entered Slave = is_plain

-- a call of g in the body of f
abbrev pub call_edge : ℕ → FnId → Edge
call_edge f g = record { from = record { 0 = f }; to = record { 0 = g.0 }; span = record { from = 0; to = 0 } }

-- the calls in the body of f that stay in the half
abbrev pub calls_of : TypedTree → Half → ℕ → List Edge
calls_of t half f = map (call_edge f) (filter (test_function (is_entered half) t) (callees_in t (record { 0 = f })))

-- the same of so many functions, from f on
abbrev pub calls_from : TypedTree → Half → ℕ → ℕ → List Edge
calls_from t half f zero = []
calls_from t half f (suc more) = calls_of t half f ++ calls_from t half (suc f) more

abbrev pub call_edges : TypedTree → Half → List Edge
call_edges t half = calls_from t half 0 (length t.functions)

abbrev pub main_start : Option FnId → List Slot
main_start None = []
main_start (Some f) = record { 0 = f.0 } ∷ []

-- the privileged functions, of which the first function has the number f
abbrev pub privileged_from : ℕ → List FunctionTree → List Slot
privileged_from f [] = []
privileged_from f (x ∷ xs) = if is_privileged x then record { 0 = f } ∷ privileged_from (suc f) xs else privileged_from (suc f) xs

-- where the code of a half begins
abbrev pub half_starts : TypedTree → Half → List Slot
half_starts t Monitor = privileged_from 0 t.functions
half_starts t Slave = main_start (function_named t (codes "main"))
