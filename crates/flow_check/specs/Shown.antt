-- The privileged slots that are shown of a program: those of the slave's variables and globals.
use Rattle.std.specs.Prelude.{◌<◌, ◌↔◌, ℕ, List, Option, None, Some, length, option_and_then, option_map, slice_get, Contains}
use Rattle.std.specs.List.Sorted.{IsStrictlySortedBy}
use Rattle.std.specs.Option.{option_map_or}
use Rattle.std.specs.Ordering.{nat_cmp, ordering_then}
use Rattle.std.specs.declared.cmp.Ordering.{Ordering}
use Rattle.propagation.specs.Paths.{IsPriv}
use Rattle.sides.specs.declared.halves.Sides.{Sides}
use Rattle.sides.specs.declared.slots.Owner.{Owner}
use Rattle.sides.specs.declared.slots.Owner.TheVariants.{Variable, Global, Result}
use Rattle.reach.specs.Contexts.{InSlave, IsOwned}
use Rattle.sides.specs.Slots.{slot_at, slots_of}
use Rattle.reach.specs.Tables.{slot_number}
use Rattle.typed_tree.specs.declared.variable.Var.{Var}
use Rattle.typed_tree.specs.Lookup.{function_at}
use Rattle.typed_tree.specs.TypedTree.{TypedTree}
use Rattle.flow_rules.specs.Faults.{edges_of_all}

-- the variable or global of which a slot is a part; what a function returns is none
abbrev pub variable_of : TypedTree → Owner → Option Var
variable_of t (Variable f v) = option_and_then (λ x. slice_get x.vars v.0) (function_at t f)
variable_of t (Global g) = option_map (λ x. x.var) (slice_get t.globals g.0)
variable_of t (Result f) = None

-- a variable of a function of the slave, or a global that the slave owns
abbrev pub IsSlaves : TypedTree → Owner → Type 0
IsSlaves t (Variable f v) = InSlave t f
IsSlaves t (Global g) = IsOwned t g
IsSlaves t (Result f) = ⊥

-- the slot is shown: it is the slave's, and a way of edges leads to it from a seed
pub record IsShown (t : TypedTree) (s : Sides) (n : ℕ) : Type 0 where
  pub within : n < length (slots_of t)
  pub slaves : IsSlaves t (slot_at t n).owner
  pub privileged : IsPriv s.seeds (edges_of_all t s) (slot_number n)

-- where the name of its variable begins
abbrev pub name_at : TypedTree → Owner → ℕ
name_at t owner = option_map_or (λ x. x.span.from) (variable_of t owner) 0

-- by where the names of their variables begin; the slots of one variable by leaf, in whose order they are
-- numbered
abbrev pub shown_cmp : TypedTree → ℕ → ℕ → Ordering
shown_cmp t m n = ordering_then (nat_cmp (name_at t (slot_at t m).owner) (name_at t (slot_at t n).owner)) (nat_cmp m n)

-- the slots that are shown, each once and in order
pub record AreShown (t : TypedTree) (s : Sides) (slots : List ℕ) : Type 0 where
  pub sorted : IsStrictlySortedBy (shown_cmp t) slots
  pub same : (n : ℕ) → Contains slots n ↔ IsShown t s n
