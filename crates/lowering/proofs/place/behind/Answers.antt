use Rattle.typed_tree.specs.ExpressionTree.{view_expr}
use Rattle.lowering.proofs.PieceLemmas.{behind_found}
use Rattle.lowering.proofs.place.behind.Goals as goal

pub returns : goal.returns
returns c = λ low h. behind_found _ (view_expr c.args.pointer.now) low _ _ _ _ _ _ _ c.new.ensures.items c.in_ok-deref.ensures h c.type_of-ty.ensures c.pointee_type.ensures c.points_to_const.ensures c.holding.ensures
