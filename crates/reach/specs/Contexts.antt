-- Which half runs a function, as what calls reach, and which half owns a global.
use Rattle.std.specs.Prelude.{◌<◌, List, [], ◌∷◌, Bool, false, not, ◌&&◌, codes, length, is_some, IsTrue, Contains}
use Rattle.std.specs.List.{flat_map}
use Rattle.std.specs.Option.{option_map_or}
use Rattle.pt_base.specs.declared.ids.FnId.{FnId}
use Rattle.pt_base.specs.declared.ids.GlobalId.{GlobalId}
use Rattle.typed_tree.specs.ExpressionTree.{ExprTree, FormTree, PlaceTree, RootTree, typed, read, decay, address, assign, compound, step, call, place, global}
use Rattle.typed_tree.specs.TypedTree.{FunctionTree, TypedTree}
use Rattle.typed_tree.specs.Lookup.{function_at, HasName}
use Rattle.usages.specs.Usages.{usages_in}

-- ---- what a body calls and names

-- the function that a form calls
abbrev pub form_callees : FormTree → List FnId
form_callees (call g arguments) = g ∷ []
form_callees _ = []

abbrev pub expr_callees : ExprTree → List FnId
expr_callees (typed s t f) = form_callees f

-- the functions and hosts that the body of a function calls, in the order of evaluation
abbrev pub callees_in : TypedTree → FnId → List FnId
callees_in t f = flat_map (λ u. expr_callees u.value) (usages_in t f)

abbrev pub root_globals : RootTree → List GlobalId
root_globals (global g) = g ∷ []
root_globals _ = []

abbrev pub place_globals : PlaceTree → List GlobalId
place_globals (place r ss) = root_globals r

-- the global that a form names itself
abbrev pub form_globals : FormTree → List GlobalId
form_globals (read p) = place_globals p
form_globals (decay p) = place_globals p
form_globals (address p) = place_globals p
form_globals (assign p a) = place_globals p
form_globals (compound p at op a) = place_globals p
form_globals (step p at back postfix) = place_globals p
form_globals _ = []

abbrev pub expr_globals : ExprTree → List GlobalId
expr_globals (typed s t f) = form_globals f

-- the globals that the body of a function names
abbrev pub globals_in : TypedTree → FnId → List GlobalId
globals_in t f = flat_map (λ u. expr_globals u.value) (usages_in t f)

-- ---- functions

-- a function with a body, by its number
abbrev pub test_function : (FunctionTree → Bool) → TypedTree → FnId → Bool
test_function test t f = option_map_or test (function_at t f) false

abbrev pub has_body : FunctionTree → Bool
has_body f = is_some f.body

-- it has a body and is marked `priv`
abbrev pub is_privileged : FunctionTree → Bool
is_privileged f = is_some f.body && f.signature.privileged

-- it has a body and isn't marked `priv`
abbrev pub is_plain : FunctionTree → Bool
is_plain f = is_some f.body && not f.signature.privileged

-- the body of f has a call of g
abbrev pub Calls : TypedTree → FnId → FnId → Type 0
Calls t f g = Contains (callees_in t f) g

-- The monitor's code: the privileged functions, and every function that it calls.
pub data InMonitor (t : TypedTree) : FnId → Type 0 where
  privileged : (f : FnId) → IsTrue (test_function is_privileged t f) → InMonitor t f
  monitor_calls : (f g : FnId) → InMonitor t f → Calls t f g → IsTrue (test_function has_body t g) → InMonitor t g

-- The slave's code: main, marked or not, and every function that it calls but privileged ones.
pub data InSlave (t : TypedTree) : FnId → Type 0 where
  main : (f : FnId) → HasName t f (codes "main") → InSlave t f
  slave_calls : (f g : FnId) → InSlave t f → Calls t f g → IsTrue (test_function is_plain t g) → InSlave t g

-- The slave owns the globals that its code names, reachable there or not; the monitor owns the others.
abbrev pub IsOwned : TypedTree → GlobalId → Type 0
IsOwned t g = (g.0 < length t.globals) × ((f : FnId) × InSlave t f × Contains (globals_in t f) g)
