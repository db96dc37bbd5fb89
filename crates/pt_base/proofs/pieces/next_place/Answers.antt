use Rattle.std.proofs.Common.{arith}
use Rattle.pt_base.proofs.PieceLemmas.{piece_at-is, given-next, left-next}
use Rattle.pt_base.proofs.pieces.next_place.Goals as goal

pub returns-then-from-len-clause-inside : goal.returns-then-from-len-clause-inside
returns-then-from-len-clause-inside c = grind (arith, piece_at-is)

pub loop-at-preserved : goal.loop-at-preserved
loop-at-preserved c = record {
  within = omega arith;
  given = grind (arith, piece_at-is, given-next);
  left = grind (arith, piece_at-is, left-next);
}
