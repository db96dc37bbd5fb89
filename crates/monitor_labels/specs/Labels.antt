-- The edges along which secrets go from slot to slot, where each node is a slot.
use Rattle.std.specs.Prelude.{ℕ, List, map}
use Rattle.std.specs.List.{flat_map}
use Rattle.pt_base.specs.declared.slot.Edge.{Edge}
use Rattle.pt_base.specs.declared.slot.Slot.{Slot}
use Rattle.pt_core.specs.CodeTree.{MonitorTree}
use Rattle.pt_core.specs.Calls.{function_in}
use Rattle.pt_core.specs.WellFormed.{monitor_program}
use Rattle.monitor_labels.specs.Nodes.{slot_of}
use Rattle.monitor_labels.specs.Arrows.{Arrow, function_arrows}

-- no expression stands for it alone
abbrev pub edge_between : Slot → Slot → Edge
edge_between from to = record { from = from; to = to; span = record { from = 0; to = 0 } }

abbrev pub edge_of : MonitorTree → Arrow → Edge
edge_of p a = edge_between (slot_of p a.0) (slot_of p a.1)

abbrev pub edges_along : MonitorTree → List Arrow → List Edge
edges_along p arrows = map (edge_of p) arrows

-- those of a function
unfoldable pub label_edges : MonitorTree → ℕ → List Edge
label_edges p f = edges_along p (function_arrows p (function_in (monitor_program p) f))

-- those of all functions, one function behind the other
abbrev pub all_label_edges : MonitorTree → List Edge
all_label_edges p = flat_map (λ f. label_edges p f.id) p.functions
