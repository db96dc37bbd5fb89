-- Each stage but that of flows passes or fails; where that does too, so does the climb.
use Rattle.std.proofs.Common.{◌≡◌, ◌≤◌, ◌<◌, ◌⊎◌, ℕ, Bool, true, false, List, [], ◌∷◌, Some, None, length, refl, sym, ap, inl, inr}
use Rattle.std.specs.Prelude.{if◌then◌else◌, nat_lt, option_map}
use Rattle.std.proofs.lemmas.Bool.{cases_lt}
use Rattle.typed_tree.specs.TypedTree.{TypedTree, signatures_of}
use Rattle.host_table.specs.declared.fault.HostFault.{HostFault}
use Rattle.host_table.specs.declared.fault.HostFault.TheVariants.{TooLong}
use Rattle.host_table.specs.HostFaults.{faults_by, host_faults, reading_of, table_hosts}
use Rattle.host_table.specs.Hosts.{Hosts}
use Rattle.policy.specs.declared.error.PolicyFault.{PolicyFault}
use Rattle.policy.specs.declared.rule.Rule.{Rule}
use Rattle.policy.specs.PolicyFault.{IsPolicy, IsPolicyFault}
use Rattle.policy.proofs.LawLemmas.{policy_or_fault_lem}
use Rattle.stages.specs.Climb.{Fails, Pass, Passes, Refusal, Stage, StopsAt, Texts, host, policy, input, hosts, rules, inputs}
use Rattle.stages.specs.GivenHosts.{GivesHosts, most}

-- the stage passes or fails
abbrev pub StageEnds : Texts → TypedTree → Stage → Type 0
StageEnds t tree s = Passes s t tree ⊎ ((r : Refusal) × Fails s t tree r)

-- ---- hosts

-- a table without faults gives hosts
by_value : (table : List ℕ) (tree : TypedTree) (o : _) → reading_of table ≡ o → faults_by o (signatures_of tree) ≡ [] →
    (given : Hosts) × (option_map (λ value. table_hosts value (signatures_of tree)) (reading_of table) ≡ Some given)
by_value table tree None e none = cc
by_value table tree (Some value) e none = (table_hosts value (signatures_of tree), ap (λ o. option_map (λ value. table_hosts value (signatures_of tree)) o) e)

by_size : (table : List ℕ) (tree : TypedTree) (long : Bool) → (if long then TooLong ∷ [] else faults_by (reading_of table) (signatures_of tree)) ≡ [] → faults_by (reading_of table) (signatures_of tree) ≡ []
by_size table tree true none = cc
by_size table tree false none = none

pub hosts_given : (table : List ℕ) (tree : TypedTree) → host_faults table (signatures_of tree) ≡ [] → (given : Hosts) × GivesHosts table tree given
hosts_given table tree none =
    let given = by_value table tree (reading_of table) refl (by_size table tree (nat_lt 1048576 (length table)) none) in
    (given.0, record { faultless = none; given = given.1 })

by_faults : (t : Texts) (tree : TypedTree) (faults : List HostFault) → host_faults t.host (signatures_of tree) ≡ faults → StageEnds t tree hosts
by_faults t tree [] none = inl (hosts_given t.host tree none)
by_faults t tree (f ∷ fs) some = inr (host tree (f ∷ fs), (f ∷ fs, sym some, λ z. cc, refl))

pub hosts_end : (t : Texts) (tree : TypedTree) → StageEnds t tree hosts
hosts_end t tree = by_faults t tree (host_faults t.host (signatures_of tree)) refl

-- ---- policy and input

by_rules : (t : Texts) (tree : TypedTree) → ((read : List Rule) × IsPolicy (signatures_of tree) t.policy read) ⊎ ((fault : PolicyFault) × IsPolicyFault (signatures_of tree) t.policy fault)
    → StageEnds t tree rules
by_rules t tree (inl p) = inl p
by_rules t tree (inr f) = inr (policy f.0, (f.0, f.1, refl))

pub rules_end : (t : Texts) (tree : TypedTree) → StageEnds t tree rules
rules_end t tree = by_rules t tree (policy_or_fault_lem (signatures_of tree) t.policy).0

by_input : (t : Texts) (tree : TypedTree) → (most < length t.input) ⊎ (length t.input ≤ most) → StageEnds t tree inputs
by_input t tree (inl long) = inr (input, (long, refl))
by_input t tree (inr short) = inl short

pub inputs_end : (t : Texts) (tree : TypedTree) → StageEnds t tree inputs
inputs_end t tree = by_input t tree (cases_lt most (length t.input))

-- ---- a climb

abbrev pub ClimbEnds : Texts → TypedTree → List Stage → Type 0
ClimbEnds t tree ss = Pass ss t tree ⊎ ((r : Refusal) × StopsAt ss t tree r)

after_stage : (t : Texts) (tree : TypedTree) (s : Stage) (ss : List Stage) → StageEnds t tree s → ClimbEnds t tree ss → ClimbEnds t tree (s ∷ ss)
after_stage t tree s ss (inl p) (inl ps) = inl (p, ps)
after_stage t tree s ss (inl p) (inr x) = inr (x.0, inr (p, x.1))
after_stage t tree s ss (inr f) rest = inr (f.0, inl f.1)

-- where each stage passes or fails, the climb ends
pub climb_ends : (t : Texts) (tree : TypedTree) → ((s : Stage) → StageEnds t tree s) → (ss : List Stage) → ClimbEnds t tree ss
climb_ends t tree ends [] = inl tt
climb_ends t tree ends (s ∷ ss) = after_stage t tree s ss (ends s) (climb_ends t tree ends ss)
