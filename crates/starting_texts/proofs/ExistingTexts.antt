-- Of each program there is a table to start from, and of functions a policy, or why there is none.
use Rattle.std.proofs.Common.{◌≡◌, ◌<◌, ◌≤◌, ◌^◌, ◌⊎◌, ℕ, List, length, Option, Some, None, Vec, refl, inl, inr, arith}
use Rattle.std.proofs.lemmas.Bool.{cases_lt}
use Rattle.std.specs.declared.alloc.Global.{Global}
use denote.RawPtr.{null_ptr}
use Rattle.pt_base.specs.declared.ids.FnId.{FnId}
use Rattle.typed_tree.specs.TypedTree.{TypedTree}
use Rattle.host_table.specs.declared.TheConstants.{TABLE_LIMIT}
use Rattle.policy.specs.declared.TheConstants.{TEXT_LIMIT, RULE_LIMIT}
use Rattle.starting_texts.specs.declared.texts.StartingPolicy.{StartingPolicy}
use Rattle.starting_texts.specs.declared.texts.StartingPolicy.TheVariants as in_policy
use Rattle.starting_texts.specs.declared.texts.StartingTable.{StartingTable}
use Rattle.starting_texts.specs.declared.texts.StartingTable.TheVariants as in_table
use Rattle.starting_texts.specs.Laws.{ProgramsHavePolicies, ProgramsHaveTables}
use Rattle.starting_texts.specs.Policies.{policy_text, IsStartingPolicy}
use Rattle.starting_texts.specs.Tables.{table_text, first_unfit, IsStartingTable}

-- ---- bytes that aren't too many are those of some `Vec`

some_memory : Global
some_memory = record { memory = record { seal = tt } }

abbrev vec_of : (bytes : List ℕ) → length bytes < 2 ^ 63 → Vec ℕ Global
vec_of bytes few = record { ptr = null_ptr; len = length bytes; cap = length bytes; alloc = some_memory; items = bytes; ok = (refl, omega arith); small = few }

small : (bytes : List ℕ) → length bytes ≤ 1048576 → length bytes < 2 ^ 63
small bytes most = omega (arith, most)

-- ---- tables

table_by_size : (t : TypedTree) → first_unfit t ≡ None → (TABLE_LIMIT < length (table_text t)) ⊎ (length (table_text t) ≤ TABLE_LIMIT) → (table : StartingTable) × IsStartingTable t table
table_by_size t fits (inl long) = (in_table.TooLong, (fits, long))
table_by_size t fits (inr short) = (in_table.Text (vec_of (table_text t) (small (table_text t) short)), (fits, refl, short))

table_by_unfit : (t : TypedTree) (o : Option ℕ) → first_unfit t ≡ o → (table : StartingTable) × IsStartingTable t table
table_by_unfit t None fits = table_by_size t fits (cases_lt TABLE_LIMIT (length (table_text t)))
table_by_unfit t (Some f) unfit = (in_table.NoneFits (record { 0 = f }), unfit)

pub tables_exist : ProgramsHaveTables
tables_exist t = table_by_unfit t (first_unfit t) refl

-- ---- policies

policy_by_size : (t : TypedTree) (fs : List FnId) → length fs ≤ RULE_LIMIT → (TEXT_LIMIT < length (policy_text t fs)) ⊎ (length (policy_text t fs) ≤ TEXT_LIMIT) → (policy : StartingPolicy) × IsStartingPolicy t fs policy
policy_by_size t fs few (inl long) = (in_policy.TooLong, inr long)
policy_by_size t fs few (inr short) = (in_policy.Text (vec_of (policy_text t fs) (small (policy_text t fs) short)), (refl, few, short))

policy_by_rules : (t : TypedTree) (fs : List FnId) → (RULE_LIMIT < length fs) ⊎ (length fs ≤ RULE_LIMIT) → (policy : StartingPolicy) × IsStartingPolicy t fs policy
policy_by_rules t fs (inl many) = (in_policy.TooLong, inl many)
policy_by_rules t fs (inr few) = policy_by_size t fs few (cases_lt TEXT_LIMIT (length (policy_text t fs)))

pub policies_exist : ProgramsHavePolicies
policies_exist t fs = policy_by_rules t fs (cases_lt RULE_LIMIT (length fs))
