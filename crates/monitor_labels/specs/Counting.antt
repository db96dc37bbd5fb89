-- Numbers, as code counts them: each run of them behind the one before.
use Rattle.std.specs.Prelude.{◌≡◌, ℕ, ◌+◌, List, [], ◌∷◌, ◌++◌, Bool, ◌&&◌, if◌then◌else◌, nat_lt, sum_by}
use Rattle.pt_base.specs.declared.slot.Slot.{Slot}
use Rattle.pt_tree.specs.declared.signature.Signature.{Signature}
use Rattle.typed_tree.specs.declared.variable.Var.{Var}
use Rattle.pt_core.specs.CodeTree.{FunctionTree, GlobalTree, MonitorTree}
use Rattle.monitor_labels.specs.declared.places.Numbers.{Numbers}
use Rattle.monitor_labels.specs.declared.places.Places.{Places}
use Rattle.monitor_labels.specs.Nodes.{gives_result, own_count, result_one, results_start, globals_start, controls_start, node_count}
use Rattle.monitor_labels.specs.Seeds.{begins_secret}

-- ---- where runs begin

-- the first number of each run, where each has so many and the first begins at n
abbrev pub sums_from : {A : Type 0} → (A → ℕ) → ℕ → List A → List ℕ
sums_from size n [] = []
sums_from size n (x ∷ xs) = n ∷ sums_from size (n + size x) xs

pub record AreNumbers {A : Type 0} (size : A → ℕ) (from : ℕ) (xs : List A) (numbers : Numbers) : Type 0 where
  pub starts : numbers.starts.items ≡ sums_from size from xs
  pub end : numbers.end ≡ from + sum_by size xs

-- where the nodes of each kind begin
pub record ArePlaces (p : MonitorTree) (places : Places) : Type 0 where
  pub variables : AreNumbers own_count 0 p.functions places.variables
  pub results : AreNumbers result_one (results_start p) p.signatures places.results
  pub globals : places.globals ≡ globals_start p
  pub controls : places.controls ≡ controls_start p
  pub count : places.count ≡ node_count p

-- ---- where secrets begin

abbrev pub slot : ℕ → Slot
slot n = record { 0 = n }

abbrev pub slot_if : Bool → ℕ → List Slot
slot_if b n = if b then slot n ∷ [] else []

-- such ones among variables, of which the first has the node of number n
abbrev pub slots_with : (Var → Bool) → ℕ → List Var → List Slot
slots_with such n [] = []
slots_with such n (x ∷ xs) = slot_if (such x) n ++ slots_with such (n + 1) xs

abbrev pub function_slots : List Bool → ℕ → List FunctionTree → List Slot
function_slots known n [] = []
function_slots known n (f ∷ fs) = slots_with (begins_secret known) n f.vars ++ function_slots known (n + own_count f) fs

abbrev pub result_slots : ℕ → List (ℕ × Signature) → List Slot
result_slots n [] = []
result_slots n (s ∷ ss) = slot_if (s.1.host && gives_result s.1) n ++ result_slots (n + result_one s) ss

abbrev pub global_slots : List Bool → ℕ → List GlobalTree → List Slot
global_slots known n [] = []
global_slots known n (g ∷ gs) = slot_if (begins_secret known g.var) n ++ global_slots known (n + 1) gs

-- a slot of a program with so many
abbrev pub is_below : ℕ → Slot → Bool
is_below count s = nat_lt s.0 count
