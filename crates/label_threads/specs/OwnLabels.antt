-- The label edges of some functions, by their numbers.
use Rattle.std.specs.Prelude.{◌≡◌, ℕ, List, Bool, ◌&&◌, nat_lt}
use Rattle.std.specs.List.{flat_map}
use Rattle.pt_base.specs.declared.ids.FnId.{FnId}
use Rattle.pt_base.specs.declared.slot.Edge.{Edge}
use Rattle.pt_core.specs.declared.function.CoreFn.{CoreFn}
use Rattle.pt_core.specs.CodeTree.{MonitorTree}
use Rattle.monitor_labels.specs.Labels.{label_edges}

abbrev pub number_in : CoreFn → FnId
number_in g = g.id

abbrev pub labels_of : MonitorTree → FnId → List Edge
labels_of p f = label_edges p f.0

-- one function behind the other
abbrev pub AreLabels : MonitorTree → List FnId → List Edge → Type 0
AreLabels p fs es = es ≡ flat_map (labels_of p) fs

-- both ends are numbered below this
abbrev pub is_within : ℕ → Edge → Bool
is_within count e = nat_lt e.from.0 count && nat_lt e.to.0 count
