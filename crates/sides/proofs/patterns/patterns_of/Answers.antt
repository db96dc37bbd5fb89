use Rattle.std.proofs.Common.{arith, length, ap, ◌∙◌}
use Rattle.std.proofs.lemmas.Grind.{common_steps}
use Rattle.std.proofs.lemmas.List.{length-append}
use Rattle.sides.proofs.PatternLemmas.{no_patterns, push_pattern}
use Rattle.sides.proofs.patterns.patterns_of.Goals as goal

pub loop-truth-init : goal.loop-truth-init
loop-truth-init c = record {
  count = grind (arith, common_steps);
  are = no_patterns _ _ c.new-patterns.ensures.items;
}

pub loop-truth-preserved : goal.loop-truth-preserved
loop-truth-preserved c = record {
  count = grind (arith, common_steps);
  are = push_pattern c.args.structs.now _ _ c.new.result c.loop-truth.number c.loop-truth.invariant.count c.in_ok-push.ensures.items (rw c.new.ensures c.in_ok-slots.ensures) c.loop-truth.invariant.are;
}
