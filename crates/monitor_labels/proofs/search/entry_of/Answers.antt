use Rattle.std.proofs.Common.{rules, sym}
use Rattle.std.proofs.lemmas.List.Sorted.{answers_always}
use Rattle.pt_core.specs.declared.monitor.Entry.{Entry}
use Rattle.monitor_labels.proofs.OrderLemmas.{found_entry, none_there}
use Rattle.monitor_labels.proofs.search.entry_of.Goals as goal

pub returns-in-Ok : goal.returns-in-Ok
returns-in-Ok c =
    sym (found_entry (λ (e : Entry). e.function.0) c.args.f.0 c.args.entries.now c.in-Ok.place c.index-entries-place.result c.requires c.in-Ok.ensures.bound
    (c.in-Ok.ensures.position (λ m. m.function.0) (answers_always _ _ _ (λ f a r g called. search rules))) c.index-entries-place.is)

pub returns-in-Err : goal.returns-in-Err
returns-in-Err c =
    sym (none_there (λ (e : Entry). e.function.0) c.args.f.0 c.args.entries.now c.in-Err.field-0 c.requires
    (c.in-Err.ensures.position (λ m. m.function.0) (answers_always _ _ _ (λ f a r g called. search rules))))
