use Rattle.std.proofs.Common.{◌∙◌, Some, ap, rules, sym}
use Rattle.std.proofs.lemmas.List.Sorted.{answers_always}
use Rattle.pt_base.proofs.Booleans.{both_hold_second}
use Rattle.pt_core.specs.declared.global.GlobalVar.{GlobalVar}
use Rattle.code_rules.proofs.SearchLemmas.{found_global, no_global}
use Rattle.code_rules.proofs.names.type_by_number.Goals as goal

pub returns-in-Ok : goal.returns-in-Ok
returns-in-Ok c =
    ap (λ (z : GlobalVar). Some z.var.ty) (sym c.index-globals-place.is)
    ∙ sym (found_global c.args.names.now.globals.now c.args.g.0 c.in-Ok.place c.index-globals-place.result (both_hold_second _ _ c.requires) c.in-Ok.ensures.bound
    (c.in-Ok.ensures.position (λ m. m.id.0) (answers_always _ _ _ (λ f a r g called. search rules))) c.index-globals-place.is)

pub returns-in-Err : goal.returns-in-Err
returns-in-Err c =
    sym (no_global c.args.names.now.globals.now c.args.g.0 c.in-Err.field-0 (both_hold_second _ _ c.requires)
    (c.in-Err.ensures.position (λ m. m.id.0) (answers_always _ _ _ (λ f a r g called. search rules))))
