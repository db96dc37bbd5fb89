-- Texts of which only the first bytes were read, one more than a text may have, come to what the whole
-- texts come to.
use Rattle.std.proofs.Common.{◌≡◌, ◌≤◌, ◌∙◌, ℕ, List, [], ◌∷◌, ap, subst, length}
use Rattle.typed_tree.specs.TypedTree.{TypedTree}
use Rattle.host_table.specs.Hosts.{Hosts}
use Rattle.host_table.specs.RunHosts.{models_of}
use Rattle.runs.specs.Run.{Run}
use Rattle.source_meaning.specs.WholeRun.{whole_run}
use Rattle.stages.specs.Climb.{Texts, hosts, inputs}
use Rattle.stages.specs.Commands.{AreCut}
use Rattle.stages.specs.GivenHosts.{most}
use Rattle.stages.proofs.Commands.{whole_climb}
use Rattle.stages.proofs.Cuts.{hosts_whole, short_cut, tree_whole}
use Rattle.original.specs.Original.{AreRead, IsOriginal, IsRun, Ran}
use Rattle.original.specs.Laws.{CutsAreEnough}

read_whole : (whole cut : Texts) (tree : TypedTree) (h : Hosts) → AreCut whole cut → AreRead cut tree h → AreRead whole tree h
read_whole whole cut tree h is read = record {
  program = tree_whole whole.program cut.program tree is.program read.program;
  table = hosts_whole whole.host cut.host tree h is.host read.table;
}

run_whole : (whole cut : Texts) (turns : ℕ) (run : Run) → AreCut whole cut → IsRun cut turns run → IsRun whole turns run
run_whole whole cut turns run is x =
    let same : cut.input ≡ whole.input = short_cut whole.input cut.input is.input x.short in
    record {
      tree = x.tree;
      hosts = x.hosts;
      read = read_whole whole cut x.tree x.hosts is x.read;
      short = subst (λ (xs : List ℕ). length xs ≤ most) same x.short;
      is = x.is ∙ ap (λ (xs : List ℕ). whole_run x.tree (models_of x.hosts.models) xs turns) same;
    }

pub original_whole : (turns : ℕ) (whole cut : Texts) (r : Ran) → AreCut whole cut → IsOriginal turns cut r → IsOriginal turns whole r
original_whole turns whole cut r is x = (x.0, run_whole whole cut turns x.0 is x.1, x.2, x.3)

pub cut_whole : CutsAreEnough
cut_whole whole cut turns o = whole_climb (hosts ∷ inputs ∷ []) (IsOriginal turns) (original_whole turns) whole cut o
