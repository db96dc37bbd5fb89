-- What holds of lifted trees.
use Rattle.std.specs.Prelude.{◌≤◌, ◌<◌, ◌^◌, ℕ, List, Bool, not, IsTrue, length, map, nat_eq}
use Rattle.std.specs.List.{list_all, list_any}
use Rattle.typed_tree.specs.Nodes.{nodes_of}
use Rattle.typed_tree.specs.TypedTree.{TypedTree}
use Rattle.typed_tree.specs.WellFormed.{is_well_formed, name_of}
use Rattle.lifted_trees.specs.Lifted.{Lifting, IsOrdered, HasNamedSecrets, all_sites, lifted}

-- no byte of a name is a dot
abbrev pub is_undotted : List ℕ → Bool
is_undotted name = not (list_any (nat_eq 46) name)

-- no function has a name with a dot, as no word of a text has
abbrev pub names_undotted : TypedTree → Bool
names_undotted t = list_all is_undotted (map name_of t.functions)

abbrev pub LiftedTreesAreWellFormed : Type 0
LiftedTreesAreWellFormed = (l : Lifting) → IsTrue (is_well_formed l.tree) → IsOrdered l → HasNamedSecrets l → IsTrue (names_undotted l.tree)
    → length (all_sites l) ≤ 4_096 → length l.order ≤ 4_096 → nodes_of l.tree < 2 ^ 24 → IsTrue (is_well_formed (lifted l))
