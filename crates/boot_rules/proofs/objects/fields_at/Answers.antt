use Rattle.std.proofs.Common.{◌∙◌, ap}
use Rattle.typed_tree.specs.Sizes.{fields_of}
use Rattle.boot_rules.proofs.WholeLemmas.{fields_below}
use Rattle.boot_rules.proofs.objects.fields_at.Goals as goal

pub returns : goal.returns
returns c =
    let same = c.struct_fields.ensures ∙ ap (λ xs. fields_of xs c.args.n) c.as_slice.ensures in
    record { is = same; below = fields_below c.args.candidate.now.boot.now.structs c.args.n c.struct_fields.result.now c.args.candidate.now.sound same }
