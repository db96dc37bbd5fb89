use Rattle.program_gen.specs.Functions.{function_at}
use Rattle.program_gen.proofs.Drawing.{one_more}
use Rattle.program_gen.proofs.functions.draw_functions.Goals as goal

pub loop-number-preserved : goal.loop-number-preserved
loop-number-preserved c =
    let drawn = c.draw_function.ensures in
    let seed = c.args.seed in
    let before = c.loop-number.invariant in
    (one_more (function_at seed) c.loop-number.number _ _ _ before.0 (drawn.function seed before.1) c.in_ok-push.ensures.items, drawn.state seed before.1)
