use Rattle.std.proofs.Common.{◌≡◌, ◌∙◌, ap, arith, length, map, refl, sym}
use Rattle.pt_base.proofs.Results.{on_ok_implies}
use Rattle.typed_tree.specs.ExpressionTree as tree
use Rattle.typed_tree.proofs.Rows.{view_read, view_decay, view_address, view_chain, view_assign, view_compound, view_increment}
use Rattle.sides.specs.ScopeView.{view_scope}
use Rattle.sides.proofs.CarriedLemmas.{chain_done, place_done}
use Rattle.sides.proofs.carried.+carried.Goals as goal

pub add_carried-returns-in-Read : goal.add_carried-returns-in-Read
add_carried-returns-in-Read t c = rw (ap tree.view_form c.in-Read.is ∙ view_read c.in-Read.place) c.add_place.ensures

pub add_carried-returns-in-Decay : goal.add_carried-returns-in-Decay
add_carried-returns-in-Decay t c = rw (ap tree.view_form c.in-Decay.is ∙ view_decay c.in-Decay.place) c.add_place-in-Decay.ensures

pub add_carried-returns-in-Address : goal.add_carried-returns-in-Address
add_carried-returns-in-Address t c = rw (ap tree.view_form c.in-Address.is ∙ view_address c.in-Address.place) c.add_place-in-Address.ensures

pub add_carried-returns-in_ok-add_carried-in-Chain : goal.add_carried-returns-in_ok-add_carried-in-Chain
add_carried-returns-in_ok-add_carried-in-Chain t c =
    let before : c.len-before.result ≡ length c.args.slots.now.items = omega (arith, c.len-before.ensures, c.args.slots.now.ok.0) in
    on_ok_implies c.add_links.result _ _ (λ h. chain_done (view_scope c.args.scope.now) c.args.behind c.args.e.now.ty _ (tree.view_expr c.in-Chain.a.value) _ (tree.link_trees (map tree.view_link c.in-Chain.links.items)) _ _ _ _ _
    (ap tree.view_form c.in-Chain.is ∙ view_chain c.in-Chain.a.value c.in-Chain.links c.in-Chain.a refl) (ap tree.view_expr c.deref-in-Chain.ensures)
    (ap (λ xs. tree.link_trees (map tree.view_link xs)) c.deref-in-Chain-2.ensures.value) before c.in_ok-add_carried-in-Chain.ensures h) c.add_links.ensures

pub add_carried-returns-in-Assign : goal.add_carried-returns-in-Assign
add_carried-returns-in-Assign t c = rw (ap tree.view_form c.in-Assign.is ∙ view_assign c.in-Assign.place c.in-Assign.field-1.value c.in-Assign.field-1 refl) c.add_place-in-Assign.ensures

pub add_carried-returns-in-Compound : goal.add_carried-returns-in-Compound
add_carried-returns-in-Compound t c = rw (ap tree.view_form c.in-Compound.is ∙ view_compound c.in-Compound.place _ _ c.in-Compound.operand.value c.in-Compound.operand refl) c.add_place-in-Compound.ensures

pub add_carried-returns-then-is_pointer : goal.add_carried-returns-then-is_pointer
add_carried-returns-then-is_pointer t c =
    rw (ap tree.view_form c.in-Step.is ∙ view_increment c.in-Step.place _ _ _, sym c.is_pointer.ensures ∙ c.if-is_pointer.true) c.add_place-then-is_pointer.ensures

pub add_place-returns : goal.add_place-returns
add_place-returns t c =
    on_ok_implies c.add_root.result _ _ (λ h. place_done (view_scope c.args.scope.now) c.args.behind _ _ (tree.view_root c.args.place.now.root) (tree.step_trees (map tree.view_step c.args.place.now.steps.items)) _ _ _ _
    c.root_type-ty.ensures c.in_ok-by.ensures (ap (λ xs. tree.step_trees (map tree.view_step xs)) c.deref.ensures.value) c.in_ok-more.ensures h) c.add_root.ensures
