-- Texts come to one outcome at most, but for the ways that their faults show; and those that pass come to what starts.
use Rattle.std.proofs.Common.{◌≡◌, ◌∙◌, ℕ, List, Some, refl, sym, subst}
use Rattle.typed_tree.specs.TypedTree.{TypedTree, signatures_of}
use Rattle.host_table.specs.Hosts.{Hosts}
use Rattle.host_table.specs.RunHosts.{models_of}
use Rattle.policy.specs.declared.rule.Rule.{Rule}
use Rattle.policy.specs.PolicyFault.{IsPolicy}
use Rattle.policy.specs.Verdicts.{start}
use Rattle.policy.proofs.LawLemmas.{policy_is_one}
use Rattle.lowering.specs.Functions.{functions_from}
use Rattle.flow_rules.specs.Faults.{IsAccepted}
use Rattle.splitter.specs.Halves.{halves_of, slave_of, monitor_of}
use Rattle.program_halves.proofs.OneHalves.{same_halves}
use Rattle.program_halves.specs.ProgramHalves.{monitor_half, slave_half}
use Rattle.pair_meaning.specs.Start.{boot_of, monitor_start}
use Rattle.stages.specs.Climb.{HasPassed, of_pair}
use Rattle.stages.specs.GivenHosts.{GivesHosts}
use Rattle.stages.proofs.Commands.{one_climb}
use Rattle.stages.proofs.OneRefusal.{tree_is_one}
use Rattle.pair_texts.specs.Start.{AreRead, Begun, IsBegun, Texts}
use Rattle.pair_texts.specs.Laws.{OutcomeIsOne, PassedTextsBegin}

-- ---- what is read

some_is : (a b : Hosts) → Some a ≡ Some b → a ≡ b
some_is a b e = cc

pub hosts_are_one : (t : Texts) (tree : TypedTree) (a b : Hosts) → GivesHosts t.host tree a → GivesHosts t.host tree b → a ≡ b
hosts_are_one t tree a b x y = some_is a b (sym x.given ∙ y.given)

-- all that is read is one
pub record AreOne (tree tree' : TypedTree) (hosts hosts' : Hosts) (rules rules' : List Rule) : Type 0 where
  pub trees : tree ≡ tree'
  pub tables : hosts ≡ hosts'
  pub policies : rules ≡ rules'

pub read_is_one : (t : Texts) (tree tree' : TypedTree) (hosts hosts' : Hosts) (rules rules' : List Rule) → AreRead t tree hosts rules → AreRead t tree' hosts' rules' → AreOne tree tree' hosts hosts' rules rules'
read_is_one t tree tree' hosts hosts' rules rules' x y =
    let trees : tree ≡ tree' = tree_is_one t.program tree tree' x.program y.program in
    let table : GivesHosts t.host tree hosts' = subst (λ (z : TypedTree). GivesHosts t.host z hosts') (sym trees) y.table in
    let policy : IsPolicy (signatures_of tree) t.policy rules' = subst (λ (z : TypedTree). IsPolicy (signatures_of z) t.policy rules') (sym trees) y.policy in
    record {
      trees = trees;
      tables = hosts_are_one t tree hosts hosts' x.table table;
      policies = policy_is_one (signatures_of tree) t.policy rules rules' x.policy policy;
    }

-- ---- what starts

begun_is_one : (turns : ℕ) (t : Texts) (x y : Begun) → IsBegun turns t x → IsBegun turns t y → x ≡ y
begun_is_one turns t x y a b =
    let one : AreOne a.tree b.tree a.hosts b.hosts a.rules b.rules = read_is_one t a.tree b.tree a.hosts b.hosts a.rules b.rules a.read b.read in
    let accepted : IsAccepted a.tree b.accepted = subst (λ (z : TypedTree). IsAccepted z b.accepted) (sym one.trees) b.is in
    let halves : halves_of a.accepted.sides ≡ halves_of b.accepted.sides = same_halves a.tree a.accepted.sides b.accepted.sides a.is.sides accepted.sides in
    let boots : x.boot ≡ y.boot =
    a.boot_is
    ∙ (λ i. boot_of (slave_of (one.trees i) (halves i) (functions_from (one.trees i) 0 (one.trees i).functions)) (models_of (one.tables i).models) t.input turns)
    ∙ sym b.boot_is in
    let monitors : x.monitor ≡ y.monitor =
    a.monitor_is
    ∙ (λ i. monitor_start (monitor_of (one.trees i) (halves i) (functions_from (one.trees i) 0 (one.trees i).functions)) (models_of (one.tables i).models) t.input (start (one.policies i)) turns)
    ∙ sym b.monitor_is in
    λ i. record { boot = boots i; monitor = monitors i }

-- what starts has passed
pub begun_has_passed : (turns : ℕ) (t : Texts) (x : Begun) → IsBegun turns t x → (tree : TypedTree) × HasPassed of_pair t tree
begun_has_passed turns t x is = (
  is.tree,
  (is.read.program, ((is.hosts, is.read.table), ((is.rules, is.read.policy), ((is.accepted, is.is), (is.short, tt {0}))))),
)

pub outcome_is_one : OutcomeIsOne
outcome_is_one t turns a b x y = one_climb of_pair (IsBegun turns) (begun_has_passed turns) (begun_is_one turns) t a b x y

-- and what has passed starts
pub passed_begin : PassedTextsBegin
passed_begin t tree turns (has, ((hosts, gives), ((rules, is), ((accepted, fits), (short, done))))) = (
  boot_of (slave_half tree accepted) (models_of hosts.models) t.input turns,
  monitor_start (monitor_half tree accepted) (models_of hosts.models) t.input (start rules) turns,
  record {
    tree = tree;
    hosts = hosts;
    rules = rules;
    accepted = accepted;
    read = record { program = has; table = gives; policy = is };
    is = fits;
    short = short;
    boot_is = refl;
    monitor_is = refl;
  },
)
