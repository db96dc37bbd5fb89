use Rattle.std.proofs.Common.{arith}
use Rattle.std.proofs.lemmas.Grind.{common_steps}
use Rattle.function_runs.proofs.RunLemmas.{covered-more}
use Rattle.function_runs.proofs.neighbours.runs_of.Goals.{then-from-count+in_ok-push, else-from-count}
use Rattle.function_runs.proofs.neighbours.runs_of.Goals as goal

pub loop-k-preserved : goal.loop-k-preserved
loop-k-preserved c =
    elim c.if-from-count.branch [
      | then-from-count+in_ok-push w ↦ record {
        far = grind arith;
        few = grind arith;
        within = grind (arith, common_steps);
        single = λ few. grind (arith, common_steps);
        covers = λ fs len. grind (arith, covered-more);
      }
      | else-from-count w ↦ record {
        far = grind arith;
        few = grind arith;
        within = grind (arith, common_steps);
        single = λ few. grind (arith, common_steps);
        covers = λ fs len. grind (arith, common_steps);
      }
    ]
