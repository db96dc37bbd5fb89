-- What texts come to when their program runs as it was written, within a budget of turns.
use Rattle.std.specs.Prelude.{◌≡◌, ◌≤◌, ℕ, List, [], length}
use Rattle.pt_base.specs.declared.end.End.{End}
use Rattle.typed_tree.specs.TypedTree.{TypedTree}
use Rattle.front_end.specs.Reading.{HasTypedTree}
use Rattle.host_table.specs.Hosts.{Hosts}
use Rattle.host_table.specs.RunHosts.{models_of}
use Rattle.runs.specs.Run.{Run, written}
use Rattle.source_meaning.specs.WholeRun.{whole_run}
use Rattle.stages.specs.Climb.{Texts, as_written}
use Rattle.stages.specs.GivenHosts.{most, GivesHosts}

-- the texts of such a run: it has no policy
abbrev pub original_texts : List ℕ → List ℕ → List ℕ → Texts
original_texts program host input = record { program = program; host = host; policy = []; input = input; way = as_written }

-- the program has this typed tree, and the table gives these hosts for it
pub record AreRead (t : Texts) (tree : TypedTree) (hosts : Hosts) : Type 0 where
  pub program : HasTypedTree t.program tree
  pub table : GivesHosts t.host tree hosts

-- no stage has a fault, and this is the run of the program within so many turns
pub record IsRun (t : Texts) (turns : ℕ) (run : Run) : Type 0 where
  pub tree : TypedTree
  pub hosts : Hosts
  pub read : AreRead t tree hosts
  pub short : length t.input ≤ most
  pub is : run ≡ whole_run tree (models_of hosts.models) t.input turns

-- The bytes that hosts write in a run, and its end.
pub record Ran : Type 0 where
  pub bytes : List ℕ
  pub end : End

-- no stage has a fault, and this is what is seen of the run of the program within so many turns
abbrev pub IsOriginal : ℕ → Texts → Ran → Type 0
IsOriginal turns t r = (run : Run) × IsRun t turns run × (r.bytes ≡ written run.events) × (r.end ≡ run.end)
