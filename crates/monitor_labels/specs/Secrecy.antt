-- What may be secret, and which results that are given openly may be.
use Rattle.std.specs.Prelude.{ℕ, List, Bool, not, ◌&&◌, map, is_some}
use Rattle.std.specs.List.{filter}
use Rattle.pt_tree.specs.declared.signature.Signature.{Signature}
use Rattle.propagation.specs.Paths.{IsPriv}
use Rattle.propagation.specs.Marks.{AreMarks, Shown, path_shown}
use Rattle.pt_core.specs.CodeTree.{MonitorTree}
use Rattle.pt_core.specs.Calls.{signature_in}
use Rattle.pt_core.specs.WellFormed.{monitor_program}
use Rattle.monitor_labels.specs.Nodes.{Node, of_result, node_count, slot_of}
use Rattle.monitor_labels.specs.Seeds.{seeds_of}
use Rattle.monitor_labels.specs.Labels.{all_label_edges}

-- a path of label edges leads to the node from where a secret begins
abbrev pub IsSecret : MonitorTree → Node → Type 0
IsSecret p n = IsPriv (seeds_of p) (all_label_edges p) (slot_of p n)

-- a function whose result is given openly
abbrev pub is_audited : Signature → Bool
is_audited s = s.privileged && (s.declassify && is_some s.result)

-- the numbers of those that have bodies
abbrev pub audited : MonitorTree → List ℕ
audited p = filter (λ f. is_audited (signature_in (monitor_program p) f)) (map (λ f. f.id) p.functions)

-- which nodes are secret, each with a path that shows why
abbrev pub AreLabelMarks : MonitorTree → Shown → Type 0
AreLabelMarks p marks = AreMarks (seeds_of p) (all_label_edges p) (node_count p) marks

-- by the marks, a function's result may depend on a secret
abbrev pub may_depend : MonitorTree → Shown → ℕ → Bool
may_depend p marks f = is_some (path_shown marks (slot_of p (of_result f)))

-- each function whose result is given openly, and whether it may depend on a secret
abbrev pub verdicts_of : MonitorTree → Shown → List (ℕ × Bool)
verdicts_of p marks = map (λ f. (f, may_depend p marks f)) (audited p)

abbrev pub independent_of : MonitorTree → Shown → List ℕ
independent_of p marks = filter (λ f. not (may_depend p marks f)) (audited p)
