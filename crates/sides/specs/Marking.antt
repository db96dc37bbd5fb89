-- Seeds, as code finds them.
use Rattle.std.specs.Prelude.{List, Bool, true, false, ◌&&◌, ◌||◌, get_or, map}
use Rattle.std.specs.List.{flat_map}
use Rattle.pt_base.specs.declared.ids.FnId.{FnId}
use Rattle.typed_tree.specs.TypedTree.{TypedTree}
use Rattle.sides.specs.declared.slots.Owner.{Owner}
use Rattle.sides.specs.declared.slots.Owner.TheVariants.{Variable, Global, Result}
use Rattle.sides.specs.declared.slots.SlotInfo.{SlotInfo}
use Rattle.sides.specs.Seeds.{owner_marked, sealed_in}
use Rattle.reach.specs.Tables.{set_all}

-- Whether the owner stands in the slave's code. One table tells which functions are the slave's, the other which
-- globals it owns.
abbrev pub stands_in : List Bool → List Bool → Owner → Bool
stands_in table owned (Variable f v) = get_or table f.0 false
stands_in table owned (Global g) = get_or owned g.0 false
stands_in table owned (Result f) = true

abbrev pub is_marked_slot : TypedTree → List Bool → List Bool → SlotInfo → Bool
is_marked_slot t table owned s = stands_in table owned s.owner && (owner_marked t s.owner || s.marked)

-- the seeds, where the slave's functions are these
abbrev pub seed_table : TypedTree → List Bool → List Bool → List SlotInfo → List FnId → List Bool
seed_table t table owned slots fs = set_all (map (is_marked_slot t table owned) slots) (flat_map (sealed_in t) fs)
