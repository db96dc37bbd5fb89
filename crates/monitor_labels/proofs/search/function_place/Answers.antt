use Rattle.std.proofs.Common.{rules}
use Rattle.std.proofs.lemmas.List.Sorted.{answers_always}
use Rattle.pt_core.specs.declared.function.CoreFn.{CoreFn}
use Rattle.monitor_labels.proofs.OrderLemmas.{at_place}
use Rattle.monitor_labels.proofs.search.function_place.Goals as goal

pub returns-in-Ok : goal.returns-in-Ok
returns-in-Ok c = at_place (λ (g : CoreFn). g.id.0) _ _ c.in-Ok.place c.in-Ok.ensures.bound (c.in-Ok.ensures.position (λ m. m.id.0) (answers_always _ _ _ (λ f a r g called. search rules)))
