use Rattle.std.proofs.Common.{◌∙◌, ◌++◌, ap, refl}
use Rattle.pt_base.proofs.Results.{on_ok_implies}
use Rattle.sides.proofs.LeafLemmas.{object_is}
use Rattle.sides.proofs.leaves.add_leaves.Goals as goal

pub returns : goal.returns
returns c =
    on_ok_implies c.add_behind.result _ _ (λ h. h ∙ ap (λ xs. c.args.slots.now.items ++ xs) (object_is c.args.structs.now c.args.owner c.args.ty _ _ _ c.new-path.ensures.items refl c.struct_of.ensures)) c.add_behind.ensures.slots
