-- What the labels of a function are found by.
use Rattle.std.specs.Prelude.{◌≡◌, ℕ, List, [], ◌∷◌, ◌++◌, map, Option, Some, None, Bool, true, false}
use Rattle.pt_base.specs.declared.slot.Edge.{Edge}
use Rattle.pt_base.specs.declared.slot.Slot.{Slot}
use Rattle.pt_core.specs.CodeTree.{ExprTrees, FunctionTree, MonitorTree, view_function, view_monitor}
use Rattle.pt_core.specs.Calls.{function_in}
use Rattle.pt_core.specs.WellFormed.{monitor_program}
use Rattle.monitor_labels.specs.declared.scope.Scope.{Scope}
use Rattle.monitor_labels.specs.Nodes.{Node, of_result, of_control, slot_of, variable_start}
use Rattle.monitor_labels.specs.NodesView.{AreNodes}
use Rattle.monitor_labels.specs.Arrows.{argument_arrows}
use Rattle.monitor_labels.specs.Labels.{edge_between, edges_along}
use Rattle.monitor_labels.specs.Searching.{IsOrdered}

abbrev pub program_of : Scope → MonitorTree
program_of s = view_monitor s.program.now

abbrev pub function_of : Scope → FunctionTree
function_of s = view_function s.function.now

pub record IsScope (s : Scope) : Type 0 where
  pub ordered : IsOrdered (program_of s)
  pub nodes : AreNodes (program_of s) s.nodes.now
  pub variables : s.variables ≡ variable_start (program_of s) (function_of s).id
  pub result : s.result ≡ slot_of (program_of s) (of_result (function_of s).id)
  pub control : s.control ≡ slot_of (program_of s) (of_control (function_of s).id)

-- ---- edges to and from a slot

abbrev pub edges_to : MonitorTree → List Node → Slot → List Edge
edges_to p nodes to = map (λ n. edge_between (slot_of p n) to) nodes

-- to a slot, if there is one
abbrev pub edges_if : MonitorTree → List Node → Option Slot → List Edge
edges_if p nodes None = []
edges_if p nodes (Some to) = edges_to p nodes to

-- from the slot of a pointer back to what its value starts from
abbrev pub edges_back : MonitorTree → Bool → Slot → Option Node → List Edge
edges_back p true to (Some start) = edge_between to (slot_of p start) ∷ []
edges_back p true to None = []
edges_back p false to start = []

-- those of a call of a function, whose result goes to a slot, if there is one
abbrev pub function_call_edges : MonitorTree → FunctionTree → ℕ → ExprTrees → Option Slot → List Edge
function_call_edges p f g args to =
    edges_along p (argument_arrows f (function_in (monitor_program p) g) 0 args)
    ++ edge_between (slot_of p (of_control f.id)) (slot_of p (of_control g)) ∷ edges_if p (of_result g ∷ of_control f.id ∷ []) to

abbrev pub pair_edges : List (Slot × Slot) → List Edge
pair_edges pairs = map (λ p. edge_between p.0 p.1) pairs
