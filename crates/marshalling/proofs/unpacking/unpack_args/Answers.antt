use Rattle.std.proofs.Common.{◌≡◌, ◌∙◌, ap, sym}
use Rattle.marshalling.specs.Shape.{is_shaped}
use Rattle.marshalling.proofs.ReachLemmas.{shaped_within}
use Rattle.marshalling.proofs.unpacking.unpack_args.Goals as goal

pub returns-in-Ok-true-clause-within : goal.returns-in-Ok-true-clause-within
returns-in-Ok-true-clause-within c = λ wanting.
    let params = c.args.sig.now.params in
    let body = c.args.body.now in
    let same : is_shaped c.args.structs.now params body ≡ is_shaped c.args.structs.now c.as_slice-params.result.now body =
    ap (λ ps. is_shaped c.args.structs.now ps body) (sym c.as_slice-params.ensures) in
    shaped_within c.args.structs.now params body (same ∙ sym c.in-Ok-true.ensures.answer ∙ c.in-Ok-true.field-0-test)
