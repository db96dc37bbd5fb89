-- What of a monitor's program may be secret, and where each such thing stands among all.
use Rattle.std.specs.Prelude.{ℕ, ◌+◌, List, [], ◌∷◌, ◌++◌, Bool, not, ◌&&◌, ◌||◌, if◌then◌else◌, nat_eq, length, map, sum_by, is_some}
use Rattle.std.specs.List.{filter, flat_map}
use Rattle.pt_base.specs.declared.slot.Slot.{Slot}
use Rattle.pt_tree.specs.declared.signature.Signature.{Signature}
use Rattle.typed_tree.specs.declared.variable.Var.{Var}
use Rattle.pt_core.specs.CodeTree.{FunctionTree, MonitorTree}

-- A node: a variable of a function, and of a pointer also what it points to; what a function or a privileged host gives; a
-- global; and of a function whether, and how often, its statements are done.
pub data Node : Type 0 where
  of_variable : ℕ → ℕ → Node
  of_result : ℕ → Node
  of_global : ℕ → Node
  of_control : ℕ → Node

-- ---- all nodes, in their order

-- a function, or a privileged host, that gives a result
abbrev pub gives_result : Signature → Bool
gives_result s = is_some s.result && (not s.host || s.privileged)

-- the variables of a function, of which the first has the number i
abbrev pub variables_from : ℕ → ℕ → List Var → List Node
variables_from f i [] = []
variables_from f i (x ∷ xs) = of_variable f i ∷ variables_from f (i + 1) xs

abbrev pub variable_nodes : FunctionTree → List Node
variable_nodes f = variables_from f.id 0 f.vars

-- variables, function by function; results; globals; and what is done in each function
abbrev pub nodes_of : MonitorTree → List Node
nodes_of p =
    flat_map variable_nodes p.functions
    ++ (map (λ s. of_result s.0) (filter (λ s. gives_result s.1) p.signatures)
    ++ (map (λ g. of_global g.id) p.globals
    ++ map (λ f. of_control f.id) p.functions))

-- ---- their numbers

-- what stands before the first of this number
abbrev pub before : {A : Type 0} → (A → ℕ) → ℕ → List A → List A
before id n [] = []
before id n (x ∷ xs) = if nat_eq n (id x) then [] else x ∷ before id n xs

abbrev pub own_count : FunctionTree → ℕ
own_count f = length f.vars

abbrev pub variable_count : List FunctionTree → ℕ
variable_count functions = sum_by own_count functions

-- 1 for what gives a result
abbrev pub result_one : ℕ × Signature → ℕ
result_one s = if gives_result s.1 then 1 else 0

abbrev pub result_count : List (ℕ × Signature) → ℕ
result_count signatures = sum_by result_one signatures

abbrev pub results_start : MonitorTree → ℕ
results_start p = variable_count p.functions

abbrev pub globals_start : MonitorTree → ℕ
globals_start p = results_start p + result_count p.signatures

abbrev pub controls_start : MonitorTree → ℕ
controls_start p = globals_start p + length p.globals

abbrev pub node_count : MonitorTree → ℕ
node_count p = controls_start p + length p.functions

-- where the variables of a function begin
abbrev pub variable_start : MonitorTree → ℕ → ℕ
variable_start p f = variable_count (before (λ g. g.id) f p.functions)

abbrev pub number_of : MonitorTree → Node → ℕ
number_of p (of_variable f v) = variable_start p f + v
number_of p (of_result f) = results_start p + result_count (before (λ s. s.0) f p.signatures)
number_of p (of_global g) = globals_start p + length (before (λ x. x.id) g p.globals)
number_of p (of_control f) = controls_start p + length (before (λ g. g.id) f p.functions)

abbrev pub slot_of : MonitorTree → Node → Slot
slot_of p n = record { 0 = number_of p n }
