-- The label edges of all functions are those of the runs, joined.
use Rattle.std.proofs.Common.{◌≡◌, ◌∙◌, ◌<◌, ℕ, refl, ap, List, [], ◌∷◌, ◌++◌, length, map, get_or, Result, Vec, Some, IfOk}
use Rattle.std.specs.List.{flat_map}
use Rattle.std.specs.declared.alloc.Global.{Global}
use Rattle.std.specs.declared.alloc.AllocError.{AllocError}
use Rattle.pt_base.specs.declared.ids.FnId.{FnId}
use Rattle.pt_base.specs.declared.slot.Edge.{Edge}
use Rattle.pt_core.specs.declared.function.CoreFn.{CoreFn}
use Rattle.pt_core.specs.declared.monitor.MonitorProgram.{MonitorProgram}
use Rattle.pt_core.specs.CodeTree.{MonitorTree, view_function, view_monitor}
use Rattle.monitor_labels.specs.Labels.{all_label_edges, label_edges}
use Rattle.function_runs.specs.declared.neighbours.Run.{Run}
use Rattle.function_runs.specs.Parts.{joined}
use Rattle.function_runs.specs.Runs.{AreRuns, part}
use Rattle.function_runs.proofs.JoinLemmas.{joined-gives}
use Rattle.label_threads.specs.OwnLabels.{AreLabels, labels_of, number_in}

-- by the numbers of functions, or by the functions
of_functions : (p : MonitorTree) (gs : List CoreFn) → flat_map (labels_of p) (map number_in gs) ≡ flat_map (λ f. label_edges p f.id) (map view_function gs)
of_functions p [] = refl
of_functions p (g ∷ gs) = ap (λ es. label_edges p g.id.0 ++ es) (of_functions p gs)

pub all_labels : (p : MonitorProgram) (fs : List FnId) (runs : List Run) (parts : List (Result (Vec Edge Global) AllocError)) (all : List Edge) → fs ≡ map number_in p.functions.items → AreRuns (length fs) runs → length parts ≡ length runs →
    ((i : ℕ) (d : Result (Vec Edge Global) AllocError) (e : Run) → i < length runs → IfOk (get_or parts i d) (λ v. AreLabels (view_monitor p) (part fs (get_or runs i e)) v.items)) →
    joined parts ≡ Some all → all ≡ all_label_edges (view_monitor p)
all_labels p fs runs parts all these are long each came =
    joined-gives (λ (es : List Edge). es) refl (λ us vs. refl) (labels_of (view_monitor p)) fs runs parts all long each came
    ∙ ap (flat_map (labels_of (view_monitor p))) (are fs refl)
    ∙ ap (flat_map (labels_of (view_monitor p))) these
    ∙ of_functions (view_monitor p) p.functions.items
