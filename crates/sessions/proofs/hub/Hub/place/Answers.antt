use Rattle.std.proofs.Common.{rules}
use Rattle.std.proofs.lemmas.List.Sorted.{answers_always}
use Rattle.sessions.proofs.Searches.{found_place, no_place}
use Rattle.sessions.proofs.hub.Hub.place.Goals as goal

pub returns-in-Ok : goal.returns-in-Ok
returns-in-Ok c =
    rw (← c.as_slice.ensures.value) (found_place c.args.session c.as_slice.result.now c.in-Ok.place c.in-Ok.ensures.bound
    (c.in-Ok.ensures.position (λ m. m.0) (answers_always _ _ _ (λ f a r g called. search rules))))

pub returns-in-Err : goal.returns-in-Err
returns-in-Err c =
    rw (← c.as_slice.ensures.value) (no_place c.requires.0 c.args.session c.as_slice.result.now c.in-Err.field-0 (rw c.as_slice.ensures.value c.requires.1)
    (c.in-Err.ensures.position (λ m. m.0) (answers_always _ _ _ (λ f a r g called. search rules))))
