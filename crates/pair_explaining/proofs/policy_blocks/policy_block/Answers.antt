use Rattle.std.proofs.Common.{◌∙◌, ℕ, List, ap}
use Rattle.pair_explaining.specs.PolicyBlocks.{policy_block}
use Rattle.pair_explaining.proofs.policy_blocks.policy_block.Goals as goal

pub returns : goal.returns
returns c = c.in_ok-text.ensures ∙ ap (λ (text : List ℕ). policy_block c.args.name.now text c.args.fault) c.in_ok-lines.ensures
