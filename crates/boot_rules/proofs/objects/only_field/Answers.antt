use Rattle.std.proofs.Common.{◌∙◌, ap}
use Rattle.boot_rules.specs.Shapes.{shape_at}
use Rattle.boot_rules.proofs.WholeLemmas.{only_facts}
use Rattle.boot_rules.proofs.objects.only_field.Goals as goal

pub returns : goal.returns
returns c =
    let facts = only_facts c.args.candidate.now.boot.now.structs c.args.candidate.now.shapes.items c.args.n c.only_at.result c.args.candidate.now.sound c.args.candidate.now.known
    (c.only_at.ensures ∙ ap (λ xs. (shape_at xs c.args.n).only) c.as_slice.ensures.value) in
    record { leaves = facts.0; below = facts.1 }
