-- The types of what is well formed. What isn't has none.
use Rattle.std.specs.Prelude.{Option}
use Rattle.std.specs.Bool.{then_some}
use Rattle.typed_tree.specs.declared.types.VarTy.{VarTy}
use Rattle.pt_core.specs.CodeTree.{ExprTree, PlaceTree, RootTree}
use Rattle.pt_core.specs.Types.{Context, type_of, place_type, root_type}
use Rattle.pt_core.specs.WellFormedExpression.{expr_fits, place_fits, root_fits}

unfoldable pub typed : Context → ExprTree → Option VarTy
typed c a = then_some (expr_fits c a) (type_of c a)

unfoldable pub placed : Context → PlaceTree → Option VarTy
placed c p = then_some (place_fits c p) (place_type c p)

-- of where a place begins
unfoldable pub rooted : Context → RootTree → Option VarTy
rooted c r = then_some (root_fits c r) (root_type c r)
