-- Texts of which only the first bytes were read, one more than a text may have, come to what the whole
-- texts come to.
use Rattle.std.proofs.Common.{◌≡◌, ◌≤◌, ◌∙◌, ℕ, List, length, ap, subst}
use Rattle.typed_tree.specs.TypedTree.{TypedTree, signatures_of}
use Rattle.host_table.specs.Hosts.{Hosts}
use Rattle.host_table.specs.RunHosts.{models_of}
use Rattle.policy.specs.declared.rule.Rule.{Rule}
use Rattle.policy.specs.Verdicts.{start}
use Rattle.program_halves.specs.ProgramHalves.{monitor_half, slave_half}
use Rattle.pt_core.specs.CodeTree.{BootTree}
use Rattle.pair_meaning.specs.Monitors.{Monitor}
use Rattle.pair_meaning.specs.Start.{boot_of, monitor_start}
use Rattle.stages.specs.Climb.{of_pair}
use Rattle.stages.specs.Commands.{AreCut}
use Rattle.stages.specs.GivenHosts.{most}
use Rattle.stages.proofs.Commands.{whole_climb}
use Rattle.stages.proofs.Cuts.{hosts_whole, policy_whole, short_cut, tree_whole}
use Rattle.pair_texts.specs.Start.{AreRead, AreStarted, Begun, IsBegun, Texts}
use Rattle.pair_texts.specs.Laws.{CutsAreEnough}

pub read_whole : (whole cut : Texts) (tree : TypedTree) (hosts : Hosts) (rules : List Rule) → AreCut whole cut → AreRead cut tree hosts rules → AreRead whole tree hosts rules
read_whole whole cut tree hosts rules is read = record {
  program = tree_whole whole.program cut.program tree is.program read.program;
  table = hosts_whole whole.host cut.host tree hosts is.host read.table;
  policy = policy_whole whole.policy cut.policy (signatures_of tree) rules is.policy read.policy;
}

abbrev pub started_whole : (whole cut : Texts) (turns : ℕ) (boot : BootTree) (monitor : Monitor) → AreCut whole cut → AreStarted cut turns boot monitor → AreStarted whole turns boot monitor
started_whole whole cut turns boot monitor is s =
    let same : cut.input ≡ whole.input = short_cut whole.input cut.input is.input s.short in record {
      tree = s.tree;
      hosts = s.hosts;
      rules = s.rules;
      accepted = s.accepted;
      read = read_whole whole cut s.tree s.hosts s.rules is s.read;
      is = s.is;
      short = subst (λ xs. length xs ≤ most) same s.short;
      boot_is = s.boot_is ∙ ap (λ xs. boot_of (slave_half s.tree s.accepted) (models_of s.hosts.models) xs turns) same;
      monitor_is = s.monitor_is ∙ ap (λ xs. monitor_start (monitor_half s.tree s.accepted) (models_of s.hosts.models) xs (start s.rules) turns) same;
    }

begun_whole : (turns : ℕ) (whole cut : Texts) (b : Begun) → AreCut whole cut → IsBegun turns cut b → IsBegun turns whole b
begun_whole turns whole cut b is s = started_whole whole cut turns b.boot b.monitor is s

pub cut_whole : CutsAreEnough
cut_whole whole cut turns o = whole_climb of_pair (IsBegun turns) (begun_whole turns) whole cut o
