use Rattle.std.proofs.Common.{◌∙◌, ◌++◌, ◌∷◌, [], ap}
use Rattle.block_memory.specs.Block.{Block}
use Rattle.block_memory.specs.Table.{numbered}
use Rattle.block_memory.proofs.TableLemmas.{numbered-push}
use Rattle.block_memory.proofs.table.Table.grow.Goals as goal

pub loop-self-preserved : goal.loop-self-preserved
loop-self-preserved c = λ k.
    ap (λ bs. numbered bs k) c.in_ok-push.ensures.items
    ∙ ap (λ (b : Block). numbered (c.loop-self.self-inside.blocks.items ++ b ∷ []) k) c.new.ensures
    ∙ numbered-push c.loop-self.self-inside.blocks.items k
    ∙ c.loop-self.invariant k
