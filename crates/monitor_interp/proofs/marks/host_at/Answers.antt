use Rattle.std.proofs.Common.{false, get_or, rules, sym}
use Rattle.std.proofs.lemmas.List.{get_or_default}
use Rattle.std.proofs.lemmas.List.Sorted.{answers_always}
use Rattle.serving_rules.proofs.SearchLemmas.{found_entry, no_entry}
use Rattle.monitor_interp.specs.declared.marks.Mark.{Mark}
use Rattle.monitor_interp.proofs.marks.host_at.Goals as goal

pub returns-in-Ok : goal.returns-in-Ok
returns-in-Ok c =
    let x : Mark = get_or c.args.marks.now c.in-Ok.place (record { number = 0; host = false }) in
    sym (found_entry (λ (m : Mark). m.number) (λ (m : Mark). m.host) c.args.f.0 c.args.marks.now c.in-Ok.place x c.requires c.in-Ok.ensures.bound
    (c.in-Ok.ensures.position (λ m. m.number) (answers_always _ _ _ (λ f a r g called. search rules))) (get_or_default c.args.marks.now c.in-Ok.place (record { number = 0; host = false }) x c.in-Ok.ensures.bound))

pub returns-in-Err : goal.returns-in-Err
returns-in-Err c =
    sym (no_entry (λ (m : Mark). m.number) (λ (m : Mark). m.host) c.args.f.0 c.args.marks.now c.in-Err.field-0 c.requires
    (c.in-Err.ensures.position (λ m. m.number) (answers_always _ _ _ (λ f a r g called. search rules))))
