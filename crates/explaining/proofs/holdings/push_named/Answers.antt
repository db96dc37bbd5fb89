use Rattle.std.proofs.Common.{◌∙◌, ◌++◌, ℕ, List, ap, codes}
use Rattle.pt_base.proofs.Lists.{joined_three}
use Rattle.flow_check.specs.SlotLines.{fields_text}
use Rattle.explaining.proofs.holdings.push_named.Goals as goal

pub returns : goal.returns
returns c =
    joined_three c.args.text.now.items c.args.variable.now.name (fields_text c.args.structs.now c.args.variable.now.ty c.args.path.now) (codes " holds a secret\n") _ _ _
    (c.in_ok-extend_from_slice.ensures.items ∙ ap (λ (xs : List ℕ). c.args.text.now.items ++ xs) c.as_slice.ensures) c.in_ok-push_fields.ensures c.in_ok-extend_from_slice-2.ensures.items
