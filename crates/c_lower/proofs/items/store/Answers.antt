use Rattle.std.proofs.Common.{ap, refl, ◌∙◌, drop, ◌+◌}
use Rattle.std.proofs.lemmas.List.{drop_all}
use Rattle.pt_base.proofs.Places.{drop_step}
use Rattle.lowering.specs.Leaves.{ways_of}
use Rattle.lowering.specs.Names.{code_in}
use Rattle.lowering.specs.Output.{output_of}
use Rattle.lowering.specs.Statements.{variable}
use Rattle.lowering.proofs.WaysLemmas.{arrives, none_comes}
use Rattle.c_lower.proofs.LeafLemmas.{items_begin, item_stored, no_way_left, no_item_left}
use Rattle.c_lower.proofs.items.store.Goals as goal

pub loop-item-init : goal.loop-item-init
loop-item-init c =
    let code = code_in c.args.names.now in
    items_begin code c.args.span (variable code c.args.var.0) _ _ c.args.items.now (output_of c.args.lowering.now) (c.in_ok-walk.ensures ∙ ap (ways_of code.scope.structs) c.variable_type.ensures)

pub loop-item-preserved : goal.loop-item-preserved
loop-item-preserved c =
    let code = code_in c.args.names.now in
    let split = drop_step c.args.items.now c.loop-item.item-index _ c.loop-item-test.true in
    item_stored code c.args.span (variable code c.args.var.0) _ _ _ _ _ _ (drop (c.loop-item.item-index + 1) c.args.items.now) (output_of c.args.lowering.now) (output_of c.loop-item.lowering) _ _
    (arrives _ c.in_ok-found.found _ _ c.if-not-found.false c.in_ok-found.ensures).first split c.in_ok-place.ensures c.in_ok-store_item.ensures c.loop-item.invariant

pub returns-then-not-found : goal.returns-then-not-found
returns-then-not-found c =
    let code = code_in c.args.names.now in
    no_way_left code c.args.span (variable code c.args.var.0) _ _ (output_of c.args.lowering.now) (output_of c.loop-item.lowering) _ (none_comes _ c.in_ok-found.found _ _ c.if-not-found.true c.in_ok-found.ensures) c.loop-item.invariant

pub returns : goal.returns
returns c =
    let code = code_in c.args.names.now in
    no_item_left code c.args.span (variable code c.args.var.0) _ _ (output_of c.args.lowering.now) (output_of c.loop-item.lowering) _ (drop_all c.loop-item.item-index c.args.items.now c.loop-item-test.false) c.loop-item.invariant
