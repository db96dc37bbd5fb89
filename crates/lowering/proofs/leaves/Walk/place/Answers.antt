use Rattle.std.proofs.Common.{◌∙◌, ◌+◌, ap, sym, drop}
use Rattle.std.proofs.lemmas.List.{drop_all}
use Rattle.pt_base.proofs.Places.{drop_step}
use Rattle.pt_core.specs.CodeTree.{view_place}
use Rattle.lowering.specs.Leaves.{at_end_of}
use Rattle.lowering.specs.Walks.{way_of}
use Rattle.lowering.proofs.leaves.Walk.place.Goals as goal

pub loop-level-init : goal.loop-level-init
loop-level-init c = ap (at_end_of c.args.span (way_of c.as_slice-levels.result.now)) c.local-place.ensures

pub loop-level-preserved : goal.loop-level-preserved
loop-level-preserved c =
    let levels = c.as_slice-levels.result.now in
    let i = c.loop-level.level-index in
    ap (λ p. at_end_of c.args.span (way_of (drop (i + 1) levels)) p) c.in_ok-place.ensures
    ∙ sym (ap (λ ls. at_end_of c.args.span (way_of ls) (view_place c.loop-level.place)) (drop_step levels i _ c.loop-level-test.true))
    ∙ c.loop-level.invariant

pub returns : goal.returns
returns c =
    rw (← c.as_slice-levels.ensures.value)
    (sym (ap (λ ls. at_end_of c.args.span (way_of ls) (view_place c.loop-level.place)) (drop_all c.loop-level.level-index c.as_slice-levels.result.now c.loop-level-test.false)) ∙ c.loop-level.invariant)
