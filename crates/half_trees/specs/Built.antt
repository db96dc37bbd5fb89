-- The C tree of an expression or a place, with its type.
use Rattle.pt_tree.specs.ExpressionTree as c
use Rattle.typed_tree.specs.declared.types.VarTy.{VarTy}
use Rattle.pt_core.specs.CodeTree.{ExprTree, PlaceTree}
use Rattle.pt_core.specs.Types.{Context, type_of, place_type}
use Rattle.half_trees.specs.declared.built.Built.{Built}
use Rattle.half_trees.specs.Expressions.{expression_tree, place_tree}

abbrev pub seen : Built → c.ExprTree × VarTy
seen b = (c.view_expr b.tree, b.ty)

abbrev pub expression : Context → ExprTree → c.ExprTree × VarTy
expression k e = (expression_tree k e, type_of k e)

abbrev pub place : Context → PlaceTree → c.ExprTree × VarTy
place k p = (place_tree k p, place_type k p)
