-- What code keeps of what was found; no public clause speaks of it. It is the first of its privileged slots, to which a way is shown.
use Rattle.std.specs.Prelude.{ℕ, suc, ◌+◌, List, [], ◌∷◌, ◌++◌, Option, None, Some, Bool, true, false, map, not, ◌&&◌, get_or, slice_index_or}
use Rattle.std.specs.List.{filter, range_with_len}
use Rattle.pt_base.specs.declared.span.Span.{Span}
use Rattle.sides.specs.declared.slots.SlotInfo.{SlotInfo}
use Rattle.sides.specs.Carried.{Scope, carried}
use Rattle.sides.specs.Slots.{no_slot}
use Rattle.typed_tree.specs.declared.variable.TypedGlobal.{TypedGlobal}
use Rattle.typed_tree.specs.ExpressionTree.{ExprTree}
use Rattle.typed_tree.specs.WellFormedExpression.{ty_of}
use Rattle.flow_rules.specs.declared.found.Found.{Found}
use Rattle.flow_rules.specs.declared.rule.Rule.{Rule}
use Rattle.flow_rules.specs.declared.rule.Rule.TheVariants.{SharedGlobal}
use Rattle.flow_rules.specs.Findings.{Finding, found_if}
use Rattle.flow_rules.specs.Secrets.{Flows, secret_slots, value_leaves}

abbrev pub first_of : List ℕ → Option ℕ
first_of [] = None
first_of (s ∷ ss) = Some s

abbrev pub kept : Finding → Found
kept x = record { span = x.span; rule = x.rule; slot = first_of x.slots }

-- broken where there is such a slot
abbrev pub found_at : Rule → Span → Option ℕ → List Found
found_at rule span None = []
found_at rule span (Some s) = record { span = span; rule = rule; slot = Some s } ∷ []

-- the privileged slots among these leaves of what begins at this slot
abbrev pub secrets_from : Flows → List ℕ → ℕ → List ℕ
secrets_from p leaves s = filter p.is_priv (map (λ j. s + j) leaves)

-- the privileged slots that the value of an expression may come from, in this scope
abbrev pub secrets_in : Flows → Scope → ExprTree → List ℕ
secrets_in p c e = secret_slots p (carried c e) (value_leaves c.structs (ty_of e))

-- ---- unmarked leaves

abbrev pub unmarked_leaf : Bool → ℕ → List ℕ
unmarked_leaf true j = []
unmarked_leaf false j = j ∷ []

-- the leaf j of what begins at this slot lies under no marked field
abbrev pub is_unmarked_at : List SlotInfo → ℕ → ℕ → Bool
is_unmarked_at slots start j = not (slice_index_or slots (start + j) no_slot).marked

-- such leaves among so many
abbrev pub unmarked_slots : List SlotInfo → ℕ → ℕ → List ℕ
unmarked_slots slots start count = filter (is_unmarked_at slots start) (range_with_len 0 count)

-- ---- shared globals

-- globals that are in both of these sets, of which the first has the number g
abbrev pub shared_in : List Bool → List Bool → ℕ → List TypedGlobal → List Finding
shared_in slave monitor g [] = []
shared_in slave monitor g (x ∷ xs) = found_if (get_or slave g false && get_or monitor g false) SharedGlobal x.var.span ++ shared_in slave monitor (suc g) xs
