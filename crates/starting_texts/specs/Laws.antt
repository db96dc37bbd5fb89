-- What is proved of the texts to start from.
use Rattle.std.specs.Prelude.{◌≡◌, ◌≤◌, ◌≢◌, ℕ, ℤ, List, [], length, Some, None, Contains}
use Rattle.pt_base.specs.declared.ids.FnId.{FnId}
use Rattle.serde_json.specs.Written.{compact_text}
use Rattle.typed_tree.specs.TypedTree.{TypedTree, signatures_of}
use Rattle.host_table.specs.HostFaults.{host_faults}
use Rattle.host_table.specs.declared.TheConstants.{TABLE_LIMIT}
use Rattle.policy.specs.Laws.{standing_after}
use Rattle.policy.specs.PolicyFault.{IsPolicy}
use Rattle.policy.specs.Verdicts.{Call, start, verdict_on}
use Rattle.policy.specs.declared.TheConstants.{TEXT_LIMIT, RULE_LIMIT}
use Rattle.policy.specs.declared.verdict.Verdict.TheVariants.{Allow}
use Rattle.starting_texts.specs.declared.texts.StartingPolicy.{StartingPolicy}
use Rattle.starting_texts.specs.declared.texts.StartingTable.{StartingTable}
use Rattle.starting_texts.specs.Names.{HasPlainNames}
use Rattle.starting_texts.specs.Policies.{policy_text, start_rules, AreGuarded, IsStartingPolicy}
use Rattle.starting_texts.specs.TableData.{table_data}
use Rattle.starting_texts.specs.Tables.{table_text, first_unfit, IsStartingTable}

-- the table is the compact text of its value
abbrev pub TablesAreCompact : Type 0
TablesAreCompact = (t : TypedTree) → HasPlainNames t → table_text t ≡ compact_text (table_data t)

-- where an entry fits each host, and it isn't too long, the table has no fault
abbrev pub TablesHaveNoFault : Type 0
TablesHaveNoFault = (t : TypedTree) → HasPlainNames t → first_unfit t ≡ None → length (table_text t) ≤ TABLE_LIMIT
    → host_faults (table_text t) (signatures_of t) ≡ []

-- where no entry fits some host, each text has a fault
abbrev pub UnfitHostsAreAtFault : Type 0
UnfitHostsAreAtFault = (t : TypedTree) (f : ℕ) (text : List ℕ) → first_unfit t ≡ Some f → host_faults text (signatures_of t) ≢ []

-- a policy of privileged functions that isn't too long has no fault, and these are its rules
abbrev pub PoliciesHaveNoFault : Type 0
PoliciesHaveNoFault = (t : TypedTree) (fs : List FnId) → HasPlainNames t → AreGuarded t fs
    → length fs ≤ RULE_LIMIT → length (policy_text t fs) ≤ TEXT_LIMIT
    → IsPolicy (signatures_of t) (policy_text t fs) (start_rules fs)

-- whatever was called before, a call of one of the functions is allowed, whatever its numbers are
abbrev pub PoliciesAllow : Type 0
PoliciesAllow = (fs : List FnId) (before : List Call) (f : FnId) (plain : List ℤ) → Contains fs f
    → (k : ℕ) × (verdict_on (standing_after (start (start_rules fs)) before) f plain ≡ Allow k)

-- whatever is called, the policy stands where it starts
abbrev pub PoliciesStay : Type 0
PoliciesStay = (fs : List FnId) (calls : List Call) → standing_after (start (start_rules fs)) calls ≡ start (start_rules fs)

-- each program has a table to start from, or a cause why it has none
abbrev pub ProgramsHaveTables : Type 0
ProgramsHaveTables = (t : TypedTree) → (table : StartingTable) × IsStartingTable t table

-- and for whatever functions a policy, or it would be too long
abbrev pub ProgramsHavePolicies : Type 0
ProgramsHavePolicies = (t : TypedTree) (fs : List FnId) → (policy : StartingPolicy) × IsStartingPolicy t fs policy
