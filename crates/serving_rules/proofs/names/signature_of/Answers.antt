use Rattle.std.proofs.Common.{◌∙◌, Some, ap, rules, sym}
use Rattle.std.proofs.lemmas.List.Sorted.{answers_always}
use Rattle.pt_base.specs.declared.ids.FnId.{FnId}
use Rattle.pt_tree.specs.declared.signature.Signature.{Signature}
use Rattle.code_rules.proofs.SearchLemmas.{found_signature, no_signature}
use Rattle.serving_rules.proofs.names.signature_of.Goals as goal

pub returns-in-Ok : goal.returns-in-Ok
returns-in-Ok c =
    ap (λ (z : FnId × Signature). Some z.1) (sym c.index-signatures-place.is)
    ∙ sym (found_signature c.args.signatures.now c.args.f.0 c.in-Ok.place c.index-signatures-place.result c.requires c.in-Ok.ensures.bound
    (c.in-Ok.ensures.position (λ m. m.0.0) (answers_always _ _ _ (λ f a r g called. search rules))) c.index-signatures-place.is)

pub returns-in-Err : goal.returns-in-Err
returns-in-Err c =
    sym (no_signature c.args.signatures.now c.args.f.0 c.in-Err.field-0 c.requires
    (c.in-Err.ensures.position (λ m. m.0.0) (answers_always _ _ _ (λ f a r g called. search rules))))
