use Rattle.program_gen.proofs.Drawing.{next_three}
use Rattle.program_gen.proofs.functions.draw_function.Goals as goal

pub returns-clause-state : goal.returns-clause-state
returns-clause-state c = λ seed is. next_three seed c.args.number _ _ _ _ is c.draw-choice.ensures.moves c.draw-first.ensures.moves c.draw-second.ensures.moves
