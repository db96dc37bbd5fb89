use Rattle.lowering.proofs.PieceLemmas.{element_found}
use Rattle.lowering.proofs.place.element.Goals as goal

pub returns : goal.returns
returns c = λ first e b v h k. element_found _ first e _ b v _ _ _ _ _ _ _ _ c.new.ensures.items c.in_ok-deref.ensures c.in_ok-pointer.ensures h k c.pointee_type.ensures c.points_to_const.ensures c.holding.ensures
