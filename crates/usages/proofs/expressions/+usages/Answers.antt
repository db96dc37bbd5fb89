use Rattle.std.proofs.Common.{◌∙◌, ap, map, refl}
use Rattle.pt_base.proofs.Results.{on_ok_implies}
use Rattle.typed_tree.specs.ExpressionTree as tree
use Rattle.typed_tree.proofs.Rows.{view_read, view_decay, view_address, view_chain, view_logical, view_assign, view_compound, view_increment, view_call}
use Rattle.usages.proofs.Joined.{two}
use Rattle.usages.proofs.UsageLemmas.{chain_whole, logical_whole, assign_whole, compound_whole}
use Rattle.usages.proofs.expressions.+usages.Goals as goal

pub add_parts-returns-in-Read : goal.add_parts-returns-in-Read
add_parts-returns-in-Read t c = rw (ap tree.view_form c.in-Read.is ∙ view_read c.in-Read.place) c.add_place.ensures

pub add_parts-returns-in-Decay : goal.add_parts-returns-in-Decay
add_parts-returns-in-Decay t c = rw (ap tree.view_form c.in-Decay.is ∙ view_decay c.in-Decay.place) c.add_place-in-Decay.ensures

pub add_parts-returns-in-Address : goal.add_parts-returns-in-Address
add_parts-returns-in-Address t c = rw (ap tree.view_form c.in-Address.is ∙ view_address c.in-Address.place) c.add_place-in-Address.ensures

pub add_parts-returns-in_ok-add_usages-in-Chain : goal.add_parts-returns-in_ok-add_usages-in-Chain
add_parts-returns-in_ok-add_usages-in-Chain t c =
    on_ok_implies c.add_links.result _ _ (λ h. two _ _ _ _ _ _ (chain_whole c.args.e.now.ty _ (tree.view_expr c.in-Chain.a.value) _ (tree.link_trees (map tree.view_link c.in-Chain.links.items)) _
    (ap tree.view_form c.in-Chain.is ∙ view_chain c.in-Chain.a.value c.in-Chain.links c.in-Chain.a refl) (ap tree.view_expr c.deref-in-Chain.ensures)
    (ap (λ xs. tree.link_trees (map tree.view_link xs)) c.deref-in-Chain-2.ensures.value)) c.in_ok-add_usages-in-Chain.ensures h) c.add_links.ensures

pub add_parts-returns-in_ok-add_usages-in-Logical : goal.add_parts-returns-in_ok-add_usages-in-Logical
add_parts-returns-in_ok-add_usages-in-Logical t c =
    on_ok_implies c.add_operands.result _ _ (λ h. two _ _ _ _ _ _ (logical_whole c.args.e.now.ty _ _ (tree.view_expr c.in-Logical.a.value) _ (tree.operand_trees (map tree.view_operand c.in-Logical.operands.items)) _
    (ap tree.view_form c.in-Logical.is ∙ view_logical _ c.in-Logical.a.value c.in-Logical.operands c.in-Logical.a refl) (ap tree.view_expr c.deref-in-Logical.ensures)
    (ap (λ xs. tree.operand_trees (map tree.view_operand xs)) c.deref-in-Logical-2.ensures.value)) c.in_ok-add_usages-in-Logical.ensures h) c.add_operands.ensures

pub add_parts-returns-in_ok-add_place-in-Assign : goal.add_parts-returns-in_ok-add_place-in-Assign
add_parts-returns-in_ok-add_place-in-Assign t c =
    on_ok_implies c.add_usages-in-Assign.result _ _ (λ h. two _ _ _ _ _ _ (assign_whole c.args.e.now.ty _ (tree.view_place c.in-Assign.place) (tree.view_expr c.in-Assign.a.value) _
    (ap tree.view_form c.in-Assign.is ∙ view_assign c.in-Assign.place c.in-Assign.a.value c.in-Assign.a refl) (ap tree.view_expr c.deref-in-Assign.ensures)) c.in_ok-add_place-in-Assign.ensures h) c.add_usages-in-Assign.ensures

pub add_parts-returns-in_ok-add_place-in-Compound : goal.add_parts-returns-in_ok-add_place-in-Compound
add_parts-returns-in_ok-add_place-in-Compound t c =
    on_ok_implies c.add_usages-in-Compound.result _ _ (λ h. two _ _ _ _ _ _ (compound_whole c.args.e.now.ty _ (tree.view_place c.in-Compound.place) _ _ (tree.view_expr c.in-Compound.operand.value) _
    (ap tree.view_form c.in-Compound.is ∙ view_compound c.in-Compound.place _ _ c.in-Compound.operand.value c.in-Compound.operand refl) (ap tree.view_expr c.deref-in-Compound.ensures)) c.in_ok-add_place-in-Compound.ensures h) c.add_usages-in-Compound.ensures

pub add_parts-returns-in-Step : goal.add_parts-returns-in-Step
add_parts-returns-in-Step t c = rw (ap tree.view_form c.in-Step.is ∙ view_increment c.in-Step.place _ _ _) c.add_place-in-Step.ensures

pub add_parts-returns-in-Call : goal.add_parts-returns-in-Call
add_parts-returns-in-Call t c = rw (ap tree.view_form c.in-Call.is ∙ view_call c.in-Call.callee c.in-Call.arguments, ← c.deref-in-Call.ensures.value) c.add_arguments.ensures
