-- The run of a program: no policy ends it.
use Rattle.std.proofs.Common.{◌≡◌, ◌∙◌, ℕ, List, ap, sym, subst}
use Rattle.pt_base.specs.declared.end.End.{End}
use Rattle.host_table.specs.RunHosts.{models_of}
use Rattle.runs.specs.Run.{Run}
use Rattle.runs.specs.State.{Hosts, gives, trapped, spent}
use Rattle.source_meaning.specs.State.{Outcome}
use Rattle.source_meaning.specs.Statements.{Flow, goes_on, broke, continues, returned}
use Rattle.source_meaning.specs.WholeRun.{run_of, whole_run}
use Rattle.typed_tree.specs.TypedTree.{TypedTree}
use Rattle.original.specs.Laws.{IsUnrefused, OrigIsNeverRefused}

run_unrefused : (turns : ℕ) (o : Outcome Flow) → IsUnrefused (run_of turns o).end
run_unrefused turns (gives goes_on st) = tt
run_unrefused turns (gives broke st) = tt
run_unrefused turns (gives continues st) = tt
run_unrefused turns (gives (returned v) st) = tt
run_unrefused turns (trapped trap s st) = tt
run_unrefused turns (spent st) = tt

-- no run of a program is refused
pub never_refused : (t : TypedTree) (models : Hosts) (input : List ℕ) (turns : ℕ) (end : End) → end ≡ (whole_run t models input turns).end → IsUnrefused end
never_refused t models input turns end is = subst IsUnrefused (sym is) (run_unrefused turns _)

pub orig_unrefused : OrigIsNeverRefused
orig_unrefused t turns r is =
    let run = is.1 in
    never_refused run.tree (models_of run.hosts.models) t.input turns r.end (is.3 ∙ ap (λ (x : Run). x.end) run.is)
