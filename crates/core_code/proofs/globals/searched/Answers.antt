use Rattle.std.proofs.Common.{◌∙◌, ap, rules, sym}
use Rattle.std.proofs.lemmas.List.Sorted.{answers_always}
use Rattle.pt_core.specs.declared.global.GlobalVar.{GlobalVar}
use Rattle.core_code.proofs.GlobalLemmas.{found_there, none_there}
use Rattle.core_code.proofs.globals.searched.Goals as goal

pub returns-in-Ok : goal.returns-in-Ok
returns-in-Ok c =
    sym (ap (λ (x : GlobalVar). x.var.ty) c.index-globals-place.is)
    ∙ found_there c.args.globals.now c.args.g.0 c.in-Ok.place c.requires.rising c.index-globals-place.result c.in-Ok.ensures.bound
    (c.in-Ok.ensures.position (λ m. m.id.0) (answers_always _ _ _ (λ f a r g called. search rules))) c.index-globals-place.is

pub returns-in-Err : goal.returns-in-Err
returns-in-Err c =
    none_there c.args.globals.now c.args.g.0 c.in-Err.field-0 c.requires.rising
    (c.in-Err.ensures.position (λ m. m.id.0) (answers_always _ _ _ (λ f a r g called. search rules))) c.in-Err.ensures.bound
