use Rattle.std.proofs.Common.{◌∙◌, Err, not, subst, sym}
use Rattle.std.specs.Prelude.{◌&&◌}
use Rattle.marshalling.specs.Handles.{Answers, handle_fault, unpacked, unpacking}
use Rattle.marshalling.specs.Shape.{is_shaped}
use Rattle.pair_meaning.specs.Rules.{has_depth, tells}
use Rattle.serving_rules.proofs.OpenedLemmas.{of_handles, shape_breaks}
use Rattle.serving_rules.proofs.opened.opened_call.Goals as goal

pub returns-in-Err-Shape : goal.returns-in-Err-Shape
returns-in-Err-Shape c =
    shape_breaks (has_depth c.args.sig.now c.args.depth) (is_shaped c.args.structs.now c.args.sig.now.params c.args.body.now) (not c.args.wants && tells c.args.structs.now c.args.sig.now c.args.body.now)
    (handle_fault c.args.store.now c.args.sig.now.params c.args.body.now) (unpacked c.args.store.now c.args.body.now) (of_handles c.args.store.now c.args.sig.now.params c.args.body.now)
    (sym c.has_depth.ensures ∙ c.if-not-has_depth.false)
    (subst (λ f. Answers (Err f) (unpacking c.args.store.now c.args.structs.now c.args.sig.now.params c.args.body.now)) c.in-Err-Shape.field-0-is c.in-Err-Shape.ensures.answer)
