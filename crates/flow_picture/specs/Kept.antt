-- How code finds what is drawn; no public clause speaks of it.
use Rattle.std.specs.Prelude.{◌≡◌, ◌↔◌, ℕ, suc, List, [], ◌∷◌, ◌++◌, Bool, Option, None, Some, Result as Answer, Ok, Err, if◌then◌else◌, ◌&&◌, is_some, map, slice_index_or}
use Rattle.std.specs.List.{Contains, flat_map, list_any}
use Rattle.std.specs.Option.{option_map_or}
use Rattle.std.specs.Ordering.{is_eq}
use Rattle.pt_base.specs.declared.ids.FnId.{FnId}
use Rattle.pt_base.specs.declared.ids.GlobalId.{GlobalId}
use Rattle.pt_base.specs.declared.slot.Edge.{Edge}
use Rattle.pt_base.specs.declared.slot.Slot.{Slot}
use Rattle.pt_base.specs.declared.span.Span.{Span}
use Rattle.propagation.specs.Marks.{Shown, path_shown}
use Rattle.reach.specs.Contexts.{callees_in, test_function}
use Rattle.reach.specs.Tables.{item_if, slot_number}
use Rattle.sides.specs.declared.halves.Sides.{Sides}
use Rattle.sides.specs.Placed.{AreSides}
use Rattle.sides.specs.Slots.{slots_of}
use Rattle.typed_tree.specs.declared.variable.Var.{Var}
use Rattle.typed_tree.specs.Lookup.{function_at}
use Rattle.typed_tree.specs.TypedTree.{TypedTree}
use Rattle.flow_rules.specs.declared.accepted.Accepted.{Accepted}
use Rattle.flow_rules.specs.declared.fault.FlowError.{FlowError}
use Rattle.flow_rules.specs.declared.fault.FlowError.TheVariants.{Faults, Memory}
use Rattle.flow_rules.specs.declared.fault.FlowFault.{FlowFault}
use Rattle.flow_rules.specs.Faults.{edges_of_all, span_cmp}
use Rattle.flow_picture.specs.declared.arrow.Arrow.{Arrow}
use Rattle.flow_picture.specs.declared.node.Node.{Node}
use Rattle.flow_picture.specs.declared.node.Node.TheVariants.{Global, Variable, Result}
use Rattle.flow_picture.specs.declared.objects.Objects.{Objects}
use Rattle.flow_picture.specs.Nodes.{is_in, nodes_of}
use Rattle.flow_picture.specs.Objects.{AreNodes, BeginsSecret, HoldsSecret, IsObject, has_result, has_values}

-- both have the same members
abbrev pub HasSame : {X : Type 0} → List X → List X → Type 0
HasSame {X} xs ys = (x : X) → Contains xs x ↔ Contains ys x

-- ---- objects

-- variables of the function f, of which the first has the number v
abbrev pub variables_from : ℕ → ℕ → List Var → List Node
variables_from f v [] = []
variables_from f v (x ∷ xs) = Variable f v ∷ variables_from f (suc v) xs

abbrev pub vars_of : TypedTree → FnId → List Var
vars_of t f = option_map_or (λ x. x.vars) (function_at t f) []

abbrev pub result_nodes : TypedTree → FnId → List Node
result_nodes t f = item_if (test_function has_result t f) (Result f.0)

abbrev pub callee_nodes : TypedTree → FnId → List Node
callee_nodes t f = flat_map (result_nodes t) (callees_in t f)

-- of a function that the slave runs
abbrev pub function_nodes : TypedTree → FnId → List Node
function_nodes t f = variables_from f.0 0 (vars_of t f) ++ (result_nodes t f ++ callee_nodes t f)

abbrev pub global_nodes : List GlobalId → List Node
global_nodes gs = map (λ g. Global g.0) gs

abbrev pub object_nodes : TypedTree → List GlobalId → List FnId → List Node
object_nodes t owned slave = global_nodes owned ++ flat_map (function_nodes t) slave

-- ---- secrets

-- the slot of this number, of which this is the node, is privileged
abbrev pub is_secret : TypedTree → Shown → ℕ → Node → Bool
is_secret t marks k x = is_some (path_shown marks (slot_number k)) && has_values t x

abbrev pub secret_nodes : TypedTree → Shown → ℕ → Node → List Node
secret_nodes t marks k x = item_if (is_secret t marks k x) x

-- of slots of which these are the nodes, and the first has the number k
abbrev pub secrets_from : TypedTree → Shown → ℕ → List Node → List Node
secrets_from t marks k [] = []
secrets_from t marks k (x ∷ xs) = secret_nodes t marks k x ++ secrets_from t marks (suc k) xs

-- of the slot of this number, by the nodes of all slots
abbrev pub node_in : List Node → ℕ → Node
node_in nodes n = slice_index_or nodes n (Result 0)

abbrev pub seed_nodes : TypedTree → List Node → Slot → List Node
seed_nodes t nodes s = item_if (has_values t (node_in nodes s.0)) (node_in nodes s.0)

-- what is found of a program before its rules are asked
pub record AreObjects (t : TypedTree) (edges : List Edge) (o : Objects) : Type 0 where
  pub sides : Sides
  pub placed : AreSides t sides
  pub edges_are : edges ≡ edges_of_all t sides
  pub nodes : o.nodes.items ≡ nodes_of (slots_of t)
  pub all : AreNodes (IsObject t) o.all.items
  pub secrets : AreNodes (HoldsSecret t sides) o.secrets.items
  pub seeds : AreNodes (BeginsSecret t) o.seeds.items

-- ---- arrows

abbrev pub arrow_of : List Node → Edge → Arrow
arrow_of nodes e = record { from = node_in nodes e.from.0; to = node_in nodes e.to.0 }

-- both of its nodes are shown
abbrev pub is_drawn : List Node → Arrow → Bool
is_drawn shown a = is_in shown a.from && is_in shown a.to

abbrev pub drawn_arrows : List Node → Arrow → List Arrow
drawn_arrows shown a = item_if (is_drawn shown a) a

abbrev pub edge_arrows : List Node → List Node → Edge → List Arrow
edge_arrows nodes shown e = drawn_arrows shown (arrow_of nodes e)

-- the stretch of the text stands among these
abbrev pub is_told : List Span → Span → Bool
is_told told span = list_any (λ x. is_eq (span_cmp x span)) told

abbrev pub way_arrows : List Node → List Node → List Span → Edge → List Arrow
way_arrows nodes shown told e = if is_told told e.span then edge_arrows nodes shown e else []

-- ---- faults

-- those that the rules answer, none of a program that is accepted; want of memory tells nothing
abbrev pub answered : Answer Accepted FlowError → Option (List FlowFault)
answered (Ok a) = Some []
answered (Err (Faults fs)) = Some fs
answered (Err Memory) = None

-- all steps of the ways of faults
abbrev pub told_steps : List FlowFault → List Span
told_steps faults = flat_map (λ f. f.path) faults
