use Rattle.std.proofs.Common.{◌≡◌, map, drop}
use Rattle.typed_tree.specs.ExpressionTree as t
use Rattle.lowering.specs.Purity.{are_pure_links, are_pure_steps}
use Rattle.lowering.proofs.purity.+purity.Given as goal

abbrev pub invariant-are_pure_links-loop-link : goal.invariant-are_pure_links-loop-link
invariant-are_pure_links-loop-link l = are_pure_links (t.link_trees (map t.view_link (drop l.link-index l.links))) ≡ are_pure_links (t.link_trees (map t.view_link l.fn.links))

abbrev pub invariant-are_pure_steps-loop-step : goal.invariant-are_pure_steps-loop-step
invariant-are_pure_steps-loop-step l = are_pure_steps (t.step_trees (map t.view_step (drop l.step-index l.steps))) ≡ are_pure_steps (t.step_trees (map t.view_step l.fn.steps))
