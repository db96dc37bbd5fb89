-- Objects as nodes: each global, each variable, and what each function or host returns.
use Rattle.std.specs.Prelude.{ℕ, List, ◌++◌, Bool, codes, map}
use Rattle.std.specs.Fmt.{decimal}
use Rattle.std.specs.List.{list_any}
use Rattle.std.specs.Ordering.{is_eq, nat_cmp, ordering_then}
use Rattle.std.specs.declared.cmp.Ordering.{Ordering}
use Rattle.reach.specs.Tables.{function_id, global_id}
use Rattle.sides.specs.declared.slots.Owner.{Owner}
use Rattle.sides.specs.declared.slots.Owner.TheVariants as o
use Rattle.sides.specs.declared.slots.SlotInfo.{SlotInfo}
use Rattle.sides.specs.Slots.{slot_at}
use Rattle.typed_tree.specs.TypedTree.{TypedTree}
use Rattle.flow_picture.specs.declared.node.Node.{Node}
use Rattle.flow_picture.specs.declared.node.Node.TheVariants.{Global, Variable, Result}
pub use Rattle.pt_base.specs.Ids.{var_id}

-- the node of what a slot is a part of
abbrev pub node_of : Owner → Node
node_of (o.Variable f v) = Variable f.0 v.0
node_of (o.Global g) = Global g.0
node_of (o.Result f) = Result f.0

-- the node of the slot of this number
abbrev pub node_at : TypedTree → ℕ → Node
node_at t n = node_of (slot_at t n).owner

-- ---- names

-- `gG`, `vF_V` and `rF`, by the numbers of the typed tree
abbrev pub name_of : Node → List ℕ
name_of (Global g) = codes "g" ++ decimal g
name_of (Variable f v) = codes "v" ++ decimal f ++ codes "_" ++ decimal v
name_of (Result f) = codes "r" ++ decimal f

-- ---- order

abbrev pub kind : Node → ℕ
kind (Global g) = 0
kind (Variable f v) = 1
kind (Result f) = 2

-- a global's number, or a function's
abbrev pub number : Node → ℕ
number (Global g) = g
number (Variable f v) = f
number (Result f) = f

-- a variable's number
abbrev pub part : Node → ℕ
part (Global g) = 0
part (Variable f v) = v
part (Result f) = 0

-- globals, then variables by function and number, then results
abbrev pub node_cmp : Node → Node → Ordering
node_cmp a b = ordering_then (nat_cmp (kind a) (kind b)) (ordering_then (nat_cmp (number a) (number b)) (nat_cmp (part a) (part b)))

-- it stands among these
abbrev pub is_in : List Node → Node → Bool
is_in nodes x = list_any (λ y. is_eq (node_cmp y x)) nodes

-- ---- as code keeps them; no public clause speaks of it

abbrev pub owner_of : Node → Owner
owner_of (Global g) = o.Global (global_id g)
owner_of (Variable f v) = o.Variable (function_id f) (var_id v)
owner_of (Result f) = o.Result (function_id f)

abbrev pub nodes_of : List SlotInfo → List Node
nodes_of slots = map (λ s. node_of s.owner) slots
