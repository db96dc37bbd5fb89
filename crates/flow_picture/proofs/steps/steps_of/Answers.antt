use Rattle.std.proofs.Common.{◌∙◌, List, ap}
use Rattle.pt_base.specs.declared.span.Span.{Span}
use Rattle.flow_picture.specs.Kept.{is_told}
use Rattle.flow_picture.proofs.ArrowLemmas.{told_alike}
use Rattle.flow_picture.proofs.steps.steps_of.Goals as goal

pub returns-clause-told : goal.returns-clause-told
returns-clause-told c = λ span. told_alike _ _ c.arrange_spans.ensures.moved span ∙ ap (λ (xs : List Span). is_told xs span) c.in_ok-steps.ensures
