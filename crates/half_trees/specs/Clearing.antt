-- How the integers of a variable are cleared, by what leads to each.
use Rattle.std.specs.Prelude.{ℕ, List, [], ◌∷◌, ◌++◌, map, take}
use Rattle.pt_tree.specs.ExpressionTree as e
use Rattle.pt_tree.specs.StatementTree as c
use Rattle.typed_tree.specs.declared.types.StructInfo.{StructInfo}
use Rattle.typed_tree.specs.declared.types.VarTy.{VarTy}
use Rattle.pt_tree.specs.declared.signature.Elem.{Elem}
use Rattle.typed_tree.specs.Sizes.{fields_of}
use Rattle.half_trees.specs.Names.{nowhere, word, field_by}
use Rattle.half_trees.specs.Expressions.{zero_tree, postfixed}
use Rattle.half_trees.specs.Leaves.{Leaf, element, element_leaves, field_leaves, object_leaves, leaves_from}
use Rattle.half_trees.specs.Statements.{evaluated, stored, variable}
use Rattle.half_trees.specs.declared.step.Step.{Step}
use Rattle.half_trees.specs.declared.step.Step.TheVariants.{Field, Element}

abbrev pub step : List StructInfo → Step → e.PostfixTree
step structs (Field n k) = e.dot nowhere (word (field_by (fields_of structs n) k))
step structs (Element n) = element n

abbrev pub steps : List StructInfo → List Step → List e.PostfixTree
steps structs path = map (step structs) path

-- 0 in what these postfixes lead to from a variable
abbrev pub zeroed : ℕ → Leaf → c.StmtTree
zeroed v leaf = evaluated (stored (postfixed (variable v) leaf) zero_tree)

-- 0 in each of these, which lie behind the first postfixes
abbrev pub cleared_behind : ℕ → Leaf → List Leaf → List c.StmtTree
cleared_behind v path leaves = map (λ leaf. zeroed v (path ++ leaf)) leaves

-- the leaves of an object and of an element whose structs are among the first ones
abbrev pub object_below : List StructInfo → ℕ → VarTy → List Leaf
object_below structs below ty = object_leaves (leaves_from [] (take below structs)) ty

abbrev pub element_below : List StructInfo → ℕ → Elem → List Leaf
element_below structs below elem = element_leaves (leaves_from [] (take below structs)) elem

-- of the struct of this number
abbrev pub struct_at : List StructInfo → ℕ → List Leaf
struct_at structs n = field_leaves (leaves_from [] (take n structs)) (fields_of structs n) 0 (fields_of structs n)
