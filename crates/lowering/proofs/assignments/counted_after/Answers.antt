use Rattle.std.proofs.Common.{◌∙◌, ap}
use Rattle.pt_core.specs.CodeTree.{read}
use Rattle.lowering.proofs.PieceLemmas.{kept_at, counted_after_is}
use Rattle.lowering.proofs.assignments.counted_after.Goals as goal

pub returns : goal.returns
returns c = λ o x low h e.
    let kept = kept_at o _ _ x _ _ low _ _ h e c.holding.ensures (c.read-old.ensures ∙ ap read c.in_ok-copy.ensures) c.in_ok-k.ensures.output in
    rw c.temp.ensures (counted_after_is o _ _ _ _ x low _ _ _ h c.in_ok-k.ensures.number (c.in_ok-counted.ensures o _ kept))
