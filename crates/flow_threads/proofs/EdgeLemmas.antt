-- Values that move, those of one function more and all together.
use Rattle.std.proofs.Common.{◌≡◌, ◌∙◌, ℕ, ◌<◌, refl, ap, List, ◌++◌, length, get_or, Result, Vec, Some, IfOk}
use Rattle.std.specs.List.{flat_map}
use Rattle.std.specs.declared.alloc.Global.{Global}
use Rattle.std.specs.declared.alloc.AllocError.{AllocError}
use Rattle.pt_base.specs.declared.ids.FnId.{FnId}
use Rattle.typed_tree.specs.TypedTree.{TypedTree}
use Rattle.sides.specs.declared.halves.Sides.{Sides}
use Rattle.sides.specs.Placed.{AreSides}
use Rattle.flow_edges.specs.declared.moves.Move.{Move}
use Rattle.flow_edges.specs.Edges.{AreEdges, edges_in}
use Rattle.flow_edges.specs.MoveView.{moved_edges}
use Rattle.flow_edges.proofs.MovedLemmas.{moved_append}
use Rattle.function_runs.specs.declared.neighbours.Run.{Run}
use Rattle.function_runs.specs.Defined.{defined}
use Rattle.flow_threads.specs.OwnEdges.{AreOwn, own_edges}
use Rattle.function_runs.specs.Parts.{joined}
use Rattle.function_runs.specs.Runs.{AreRuns, part}
use Rattle.function_runs.proofs.JoinLemmas.{joined-gives}
use Rattle.flow_threads.proofs.OwnLemmas.{edges_of_slave, own_is}

pub moves_added : (t : TypedTree) (s : Sides) (f : FnId) (own before after : List Move) → AreSides t s → AreEdges t f (moved_edges own) → after ≡ before ++ own → moved_edges after ≡ moved_edges before ++ own_edges t s f
moves_added t s f own before after sides are added =
    ap moved_edges added ∙ moved_append before own ∙ ap (λ es. moved_edges before ++ es) (own_is t s f (moved_edges own) sides are)

-- all parts
pub all_moves : (t : TypedTree) (s : Sides) (fs : List FnId) (runs : List Run) (parts : List (Result (Vec Move Global) AllocError)) (all : List Move) → AreSides t s → fs ≡ defined t → AreRuns (length fs) runs → length parts ≡ length runs →
    ((i : ℕ) (d : Result (Vec Move Global) AllocError) (e : Run) → i < length runs → IfOk (get_or parts i d) (λ v. AreOwn t s (part fs (get_or runs i e)) v.items)) →
    joined parts ≡ Some all → moved_edges all ≡ flat_map (edges_in t) s.slave
all_moves t s fs runs parts all sides these are long each came =
    joined-gives moved_edges refl moved_append (own_edges t s) fs runs parts all long each came
    ∙ ap (flat_map (own_edges t s)) (are fs refl)
    ∙ ap (flat_map (own_edges t s)) these
    ∙ edges_of_slave t s sides
