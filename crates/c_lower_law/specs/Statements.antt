-- What the lowering keeps of whole programs.
use Rattle.std.specs.Prelude.{◌≡◌, ℕ, List, IsTrue}
use Rattle.runs.specs.State.{Hosts}
use Rattle.typed_tree.specs.TypedTree.{TypedTree}
use Rattle.typed_tree.specs.WellFormed.{is_well_formed}
use Rattle.source_meaning.specs.WholeRun.{whole_run}
use Rattle.pt_core.specs.CoreRun.{core_run}
use Rattle.lowering.specs.Functions.{core_program}

-- The run of a program, lowered, is its run: the same is seen of it, it ends in the same way, and it takes
-- as many turns.
abbrev pub LoweringKeepsTheRun : Type 0
LoweringKeepsTheRun = (program : TypedTree) (hosts : Hosts) (input : List ℕ) (turns : ℕ) → IsTrue (is_well_formed program) →
    core_run (core_program program) hosts input turns ≡ whole_run program hosts input turns
