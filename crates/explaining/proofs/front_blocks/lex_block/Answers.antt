use Rattle.std.proofs.Common.{◌∙◌, ℕ, List, ap}
use Rattle.explaining.specs.FrontBlocks.{lex_block_at}
use Rattle.explaining.proofs.front_blocks.lex_block.Goals as goal

pub returns : goal.returns
returns c =
    c.in_ok-text.ensures ∙ ap (λ (text : List ℕ). lex_block_at c.args.name.now text c.args.fault c.byte_at-byte.result) c.in_ok-lines.ensures
    ∙ ap (λ (b : ℕ). lex_block_at c.args.name.now c.args.program.now c.args.fault b) c.byte_at-byte.ensures
