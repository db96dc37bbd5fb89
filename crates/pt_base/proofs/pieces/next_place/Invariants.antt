use Rattle.std.proofs.Common.{◌≡◌, ◌≤◌, ◌-◌, length}
use Rattle.pt_base.specs.Pieces.{given, left}
use Rattle.pt_base.proofs.pieces.next_place.Given as goal

abbrev pub invariant-loop-at : goal.invariant-loop-at
invariant-loop-at l = record {
  within : l.at ≤ length l.pieces;
  given : given l.pieces l.at l.from ≡ given l.initial.pieces l.initial.at l.initial.from;
  left : left l.pieces l.at l.from ≡ left l.initial.pieces l.initial.at l.initial.from;
}

abbrev pub decreases-loop-at : goal.decreases-loop-at
decreases-loop-at l = length l.pieces - l.at
