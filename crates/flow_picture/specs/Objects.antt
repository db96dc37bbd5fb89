-- Which objects are shown, and which of them may hold secrets.
use Rattle.std.specs.Prelude.{◌≡◌, ◌<◌, ◌↔◌, ◌⊎◌, ℕ, List, Bool, true, false, IsTrue, if◌then◌else◌, ◌&&◌, ◌||◌, is_none, is_some, length, ltb}
use Rattle.std.specs.List.{Contains, filter}
use Rattle.std.specs.List.Sorted.{IsStrictlySortedBy}
use Rattle.std.specs.Option.{option_map_or}
use Rattle.pt_base.specs.declared.ids.FnId.{FnId}
use Rattle.host_models.specs.Mixed.{is_mixed}
use Rattle.propagation.specs.Paths.{IsPriv}
use Rattle.reach.specs.Contexts.{Calls, InSlave, IsOwned, test_function}
use Rattle.reach.specs.Tables.{function_id, global_id, slot_number}
use Rattle.sides.specs.declared.halves.Sides.{Sides}
use Rattle.sides.specs.Seeds.{IsSeed}
use Rattle.sides.specs.Slots.{slots_of}
use Rattle.typed_tree.specs.Lookup.{function_at}
use Rattle.typed_tree.specs.TypedTree.{FunctionTree, TypedTree}
use Rattle.flow_rules.specs.Faults.{edges_of_all}
use Rattle.flow_picture.specs.declared.node.Node.{Node}
use Rattle.flow_picture.specs.declared.node.Node.TheVariants.{Global, Variable, Result}
use Rattle.flow_picture.specs.Nodes.{is_in, node_at, node_cmp}

-- ---- functions and hosts

abbrev pub returns_value : FunctionTree → Bool
returns_value f = is_some f.signature.result

-- the monitor does it for the slave: it is privileged, or a mixed host
abbrev pub is_asked : FunctionTree → Bool
is_asked f = f.signature.privileged || (is_none f.body && is_mixed f.signature)

-- what it returns is shown, if it is used
abbrev pub has_result : FunctionTree → Bool
has_result f = returns_value f || is_asked f

-- the slave runs it, or the body of a function that the slave runs calls it
abbrev pub IsUsed : TypedTree → FnId → Type 0
IsUsed t g = InSlave t g ⊎ ((f : FnId) × InSlave t f × Calls t f g)

-- ---- objects that are shown

abbrev pub variable_count : TypedTree → ℕ → ℕ
variable_count t f = option_map_or (λ x. length x.vars) (function_at t (function_id f)) 0

-- the globals that the slave owns, the variables of the functions that it runs, and what functions and hosts
-- return that its code uses
abbrev pub IsObject : TypedTree → Node → Type 0
IsObject t (Global g) = IsOwned t (global_id g)
IsObject t (Variable f v) = InSlave t (function_id f) × (v < variable_count t f)
IsObject t (Result f) = IsUsed t (function_id f) × IsTrue (test_function has_result t (function_id f))

-- what a privileged function or host or a mixed host returns stands in the monitor's cluster
abbrev pub is_monitors : TypedTree → Node → Bool
is_monitors t (Global g) = false
is_monitors t (Variable f v) = false
is_monitors t (Result f) = test_function is_asked t (function_id f)

-- ---- secrets

-- values come to it: not to what a function returns that returns nothing
abbrev pub has_values : TypedTree → Node → Bool
has_values t (Global g) = true
has_values t (Variable f v) = true
has_values t (Result f) = test_function returns_value t (function_id f)

-- the slot of this number is a part of the object
abbrev pub IsPartOf : TypedTree → Node → ℕ → Type 0
IsPartOf t x n = (n < length (slots_of t)) × (node_at t n ≡ x) × (has_values t x ≡ true)

-- a way of edges leads from a seed to a slot of the object
abbrev pub HoldsSecret : TypedTree → Sides → Node → Type 0
HoldsSecret t s x = (n : ℕ) × IsPartOf t x n × IsPriv s.seeds (edges_of_all t s) (slot_number n)

-- a secret begins in a slot of the object
abbrev pub BeginsSecret : TypedTree → Node → Type 0
BeginsSecret t x = (n : ℕ) × IsPartOf t x n × IsSeed t (slot_number n)

-- ---- lists

-- all nodes of which this holds, each once and in order
pub record AreNodes (Has : Node → Type 0) (nodes : List Node) : Type 0 where
  pub sorted : IsStrictlySortedBy node_cmp nodes
  pub same : (x : Node) → Contains nodes x ↔ Has x

-- more than 2000 aren't shown
abbrev pub are_many : ℕ → Bool
are_many count = ltb 2000 count

-- of many only those that may hold secrets are shown
abbrev pub shown_of : List Node → List Node → List Node
shown_of objects secrets = if are_many (length objects) then filter (is_in secrets) objects else objects
