-- What the parts of a pair come to together.
use Rattle.std.proofs.Common.{◌≡◌, ◌≤◌, ◌∙◌, ap, sym, subst, ℕ, List, [], ◌∷◌, IsTrue, length}
use Rattle.front_end.specs.Reading.{HasTypedTree}
use Rattle.typed_tree.specs.TypedTree.{TypedTree, signatures_of}
use Rattle.typed_tree.specs.TypedView.{view_typed}
use Rattle.typed_tree.specs.WellFormed.{is_well_formed}
use Rattle.host_table.specs.Hosts.{Hosts, hosts_of}
use Rattle.host_table.specs.RunHosts.{models_of}
use Rattle.host_table.specs.Whole.{HasHosts}
use Rattle.pt_core.specs.CodeTree.{BootTree, SlaveTree, MonitorTree, view_boot, view_monitor}
use Rattle.flow_rules.specs.declared.accepted.Accepted.{Accepted}
use Rattle.flow_rules.specs.Faults.{IsAccepted}
use Rattle.policy.specs.PolicyFault.{IsPolicy}
use Rattle.policy.specs.Verdicts.{Standing, start}
use Rattle.program_halves.specs.ProgramHalves.{AreHalves, monitor_half, slave_half}
use Rattle.pair_meaning.specs.Start.{boot_of, monitor_start}
use Rattle.stages.specs.Climb as stage
use Rattle.stages.specs.Climb.{of_pair}
use Rattle.stages.specs.GivenHosts.{GivesHosts, most}
use Rattle.stages.specs.Seen.{HavePassed, IsHalt, IsStop}
use Rattle.stages.specs.declared.climbs.PassedTexts.{PassedTexts}
use Rattle.stages.specs.declared.refusal.Stop.{Stop}
use Rattle.stages.proofs.RungLemmas.{halted, halted_behind}
use Rattle.pair_texts.specs.declared.pair.Pair.{Pair}
use Rattle.pair_texts.specs.Seen.{AreParts, HasPair, IsMadeOf}
use Rattle.pair_texts.specs.Start.{HaveBegun, Texts, names_of}

pub parts_are : (t : TypedTree) (a : Accepted) (hosts : Hosts) (input : List ℕ) (turns : ℕ) (slave : SlaveTree) (monitor : MonitorTree) (boot : BootTree)
    → AreHalves t a slave monitor → boot ≡ boot_of slave (models_of hosts.models) input turns → AreParts t a hosts input turns boot monitor
parts_are t a hosts input turns slave monitor boot halves is = record {
  boot_is = is ∙ ap (λ (s : SlaveTree). boot_of s (models_of hosts.models) input turns) halves.0;
  monitor_is = halves.1;
}

-- the monitor with what it was given, which is all the same
same_monitor : (input : List ℕ) (turns : ℕ) (half half' : MonitorTree) (given hosts : Hosts) (policy policy' : Standing) → half ≡ half'
    → given ≡ record hosts { input = input } → policy ≡ policy'
    → monitor_start half (models_of given.models) given.input policy turns ≡ monitor_start half' (models_of hosts.models) input policy' turns
same_monitor input turns half half' given hosts policy policy' h g p = λ i. monitor_start (h i) (models_of (g i).models) (g i).input (p i) turns

pub started : (t : Texts) (turns : ℕ) (tree : TypedTree) (a : Accepted) (hosts given : Hosts) (policy : Standing) (boot : BootTree) (monitor : MonitorTree) (names : List (List ℕ))
    → HasTypedTree t.program tree → IsTrue (is_well_formed tree) → GivesHosts t.host tree hosts → HasHosts hosts (signatures_of tree) → IsPolicy (signatures_of tree) t.policy policy.rules → policy ≡ start policy.rules
    → IsAccepted tree a → length t.input ≤ most → given ≡ record hosts { input = t.input } → AreParts tree a given t.input turns boot monitor → names ≡ names_of tree
    → (b : HaveBegun t turns boot (monitor_start monitor (models_of given.models) given.input policy turns)) × (names ≡ names_of b.started.tree)
started t turns tree a hosts given policy boot monitor names has well gives fit is begins accepted short same parts named = (
  record {
    well_formed = well;
    has_hosts = fit;
    started = record {
      tree = tree;
      hosts = hosts;
      rules = policy.rules;
      accepted = a;
      read = record { program = has; table = gives; policy = is };
      is = accepted;
      short = short;
      boot_is = parts.boot_is ∙ (λ i. boot_of (slave_half tree a) (models_of (same i).models) t.input turns);
      monitor_is = same_monitor t.input turns monitor (monitor_half tree a) given hosts policy (start policy.rules) parts.monitor_is same begins;
    };
  },
  named,
)

-- the pair that is made of texts that pass
pub has_pair : (t : Texts) (turns : ℕ) (passed : PassedTexts) (input : List ℕ) (p : Pair) → HavePassed t passed → t.input ≡ input → length input ≤ most
    → IsMadeOf (view_typed passed.program) passed.accepted (hosts_of passed.hosts) passed.policy input turns p → HasPair t turns p
has_pair t turns passed input p have same short made =
    let tree = view_typed passed.program in
    let few : length t.input ≤ most = subst (λ (xs : List ℕ). length xs ≤ most) (sym same) short in
    let is : IsMadeOf tree passed.accepted (hosts_of passed.hosts) passed.policy t.input turns p =
    subst (λ (xs : List ℕ). IsMadeOf tree passed.accepted (hosts_of passed.hosts) passed.policy xs turns p) (sym same) made in
    let rules : IsPolicy (signatures_of tree) t.policy p.policy.rules = subst (λ (s : Standing). IsPolicy (signatures_of tree) t.policy s.rules) (sym is.policy_is) have.rules in
    let begins : p.policy ≡ start p.policy.rules = subst (λ (s : Standing). s ≡ start s.rules) (sym is.policy_is) have.begins in
    started t turns tree passed.accepted (hosts_of passed.hosts) (hosts_of p.hosts) p.policy (view_boot p.boot) (view_monitor p.monitor) p.names
    have.tree passed.program.well_formed have.given have.fit rules begins have.accepted few is.hosts_are is.parts is.names_are

-- where the stages before it pass, the input stops texts
pub input_stops : (t : Texts) (passed : PassedTexts) (stop : Stop) → HavePassed t passed → IsHalt (stage.inputs ∷ []) t (view_typed passed.program) stop → IsStop of_pair t stop
input_stops t passed stop have is =
    let tree = view_typed passed.program in
    halted of_pair t tree stop have.tree
    (halted_behind stage.hosts (stage.rules ∷ stage.flows ∷ stage.inputs ∷ []) t tree stop (hosts_of passed.hosts, have.given)
    (halted_behind stage.rules (stage.flows ∷ stage.inputs ∷ []) t tree stop (passed.policy.rules, have.rules)
    (halted_behind stage.flows (stage.inputs ∷ []) t tree stop (passed.accepted, have.accepted) is)))
