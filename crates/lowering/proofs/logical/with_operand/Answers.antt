use Rattle.lowering.proofs.FormLemmas.{operand_is}
use Rattle.lowering.proofs.OutputLemmas.{also}
use Rattle.lowering.proofs.logical.with_operand.Goals as goal

pub returns : goal.returns
returns c = λ o before far low d eo g.
    also _ _ _
    (λ e. operand_is o before _ _ _ _ c.args.op c.args.k.0 c.args.span c.args.ty far low _ _ _ _ _ d eo g c.in_ok-truth.ensures c.in_ok-give.ensures c.end-inner.ensures.inner c.end-inner.ensures.output c.where_open.ensures e)
    c.add.ensures
