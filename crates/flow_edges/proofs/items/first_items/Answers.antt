-- One part after the other, until none is left or there are as many items as are wanted.
use Rattle.std.proofs.Common.{◌∙◌, ◌++◌, ap, arith}
use Rattle.std.specs.Prelude.{option_to_list}
use Rattle.flow_edges.proofs.PartLemmas.{begun, finished_full, part_none, part_on}
use Rattle.flow_edges.proofs.items.first_items.Goals as goal

pub loop-step-init : goal.loop-step-init
loop-step-init c =
    begun c.args.scope.now.structs.now c.args.wanted c.new-parts.result.items _ _ c.args.x.ty c.args.x.start _ c.new-parts.ensures.items c.in_ok-push.ensures.items c.new-slots.ensures.items (grind arith)

pub returns-then-len-wanted : goal.returns-then-len-wanted
returns-then-len-wanted c = finished_full c.args.scope.now.structs.now c.args.wanted c.loop-step.parts.items _ _ (grind arith) c.loop-step.invariant

pub returns-in_default : goal.returns-in_default
returns-in_default c = part_none c.args.scope.now.structs.now c.args.wanted c.loop-step.parts.items _ _ (grind arith) c.loop-step.invariant

pub loop-step-preserved : goal.loop-step-preserved
loop-step-preserved c =
    part_on c.args.scope.now.structs.now c.args.wanted c.loop-step.parts.items c.pop.new.self.items c.add_part.new.parts.items c.in-Some.part c.loop-step.slots.items c.add_part.new.slots.items _
    (c.pop.ensures.items ∙ ap (λ o. c.pop.new.self.items ++ option_to_list o) c.in-Some.is) c.in_ok-add_part.ensures c.loop-step.invariant
