use Rattle.std.proofs.Common.{◌∙◌, ap}
use Rattle.boot_rules.specs.Shapes.{is_small_by}
use Rattle.boot_rules.proofs.SizeLemmas.{small_by}
use Rattle.boot_rules.proofs.objects.is_small.Goals as goal

pub returns : goal.returns
returns c =
    c.is_small.ensures
    ∙ ap (λ xs. is_small_by xs c.args.ty) (c.as_slice.ensures.value ∙ c.args.candidate.now.known)
    ∙ small_by c.args.candidate.now.boot.now.structs c.args.ty
