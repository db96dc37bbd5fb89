use Rattle.std.proofs.Common.{◌∙◌, List, ap, subst, sym}
use Rattle.std.specs.List.Sorted.{IsSorted}
use Rattle.pt_base.specs.declared.span.Span.{Span}
use Rattle.flow_rules.specs.Faults.{span_cmp}
use Rattle.flow_picture.specs.declared.arrow.Arrow.{Arrow}
use Rattle.flow_picture.specs.Kept.{HasSame, is_told}
use Rattle.flow_picture.proofs.ArrowLemmas.{ways_alike}
use Rattle.flow_picture.proofs.arrows.ways_of.Goals as goal

pub ways_along-requires-clause-steps : goal.ways_along-requires-clause-steps
ways_along-requires-clause-steps c = subst (λ (xs : List Span). IsSorted span_cmp xs) (sym c.as_slice.ensures.value) c.in_ok-steps.ensures.sorted

pub returns-clause-same : goal.returns-clause-same
returns-clause-same c =
    subst (λ (xs : List Arrow). HasSame c.in_ok-ways.ways.items xs)
    (ways_alike c.args.nodes.now c.args.shown.now _ _ c.args.edges.now (λ span. ap (λ (xs : List Span). is_told xs span) c.as_slice.ensures.value ∙ c.in_ok-steps.ensures.told span))
    c.in_ok-ways.ensures.same
