use Rattle.std.proofs.Common.{◌∙◌, ◌++◌, ap, arith}
use Rattle.pt_base.proofs.Results.{on_ok_implies}
use Rattle.sides.proofs.PatternLemmas.{alike_is}
use Rattle.sides.proofs.objects.add_slots.Goals as goal

pub returns : goal.returns
returns c =
    on_ok_implies c.add_alike.result _ _ (λ h. h ∙ ap (λ xs. c.args.slots.now.items ++ xs) (alike_is c.args.structs.now c.args.patterns.now c.args.owner c.args.ty _ c.requires c.pattern_at-pattern.ensures (grind arith))) c.add_alike.ensures
