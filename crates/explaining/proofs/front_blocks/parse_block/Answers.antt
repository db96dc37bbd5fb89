use Rattle.std.proofs.Common.{◌∙◌, List, ap, Bool, ℕ}
use Rattle.explaining.specs.FrontBlocks.{parse_block_in}
use Rattle.explaining.proofs.front_blocks.parse_block.Goals as goal

pub returns : goal.returns
returns c =
    c.in_ok-text.ensures ∙ ap (λ (text : List ℕ). parse_block_in c.args.name.now text c.args.fault c.is_within-within.result) c.in_ok-lines.ensures
    ∙ ap (λ (b : Bool). parse_block_in c.args.name.now c.args.program.now c.args.fault b) c.is_within-within.ensures
