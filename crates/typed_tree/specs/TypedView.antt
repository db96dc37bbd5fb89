-- What contracts see of a typed program.
use Rattle.typed_tree.specs.declared.typed.Typed.{Typed}
use Rattle.typed_tree.specs.TypedTree.{TypedTree, tree_of}

abbrev pub view_typed : Typed → TypedTree
view_typed t = tree_of t.structs t.globals t.functions.items t.exprs.items
