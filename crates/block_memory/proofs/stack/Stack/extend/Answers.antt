use Rattle.pt_base.proofs.Results.{on_err_of}
use Rattle.block_memory.proofs.StackLemmas.{prefix_kept}
use Rattle.block_memory.proofs.stack.Stack.extend.Goals as goal

pub returns-in_err-push-clause-err : goal.returns-in_err-push-clause-err
returns-in_err-push-clause-err c =
    on_err_of _ (prefix_kept c.args.self.now c.loop-shape.self c.push.new.self _ c.loop-shape.invariant c.in_err-push.ensures.err)
