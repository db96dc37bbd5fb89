use Rattle.std.proofs.Common.{◌≡◌, ◌*◌, map}
use Rattle.std.specs.List.{range_with_len}
use Rattle.program_gen.specs.Draws.{state}
use Rattle.program_gen.specs.Functions.{function_at}
use Rattle.program_gen.proofs.functions.draw_functions.Given as goal

-- those so far are drawn, and nothing else
abbrev pub invariant-loop-number : goal.invariant-loop-number
invariant-loop-number l = (l.functions.items ≡ map (function_at l.seed) (range_with_len 0 l.number)) × (l.draws ≡ state l.seed (3 * l.number))
