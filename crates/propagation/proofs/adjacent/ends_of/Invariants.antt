use Rattle.std.proofs.Common.{◌≡◌, ◌<◌, ◌≤◌, ◌+◌, ℕ, length, get_or}
use Rattle.propagation.specs.Adjacent.{ahead}
use Rattle.propagation.proofs.adjacent.ends_of.Given as goal

abbrev pub invariant-loop-e : goal.invariant-loop-e
invariant-loop-e l = record {
  size : length l.ends.items ≡ l.slots + 1;
  counts : (s : ℕ) → s < l.slots + 1 → ahead l.edges s l.e-index + get_or l.ends.items s 0 ≡ ahead l.edges s 0;
}

abbrev pub invariant-loop-s : goal.invariant-loop-s
invariant-loop-s l = record {
  size : length l.ends.items ≡ l.slots + 1;
  total : l.total ≡ ahead l.edges l.s (length l.edges);
  sums : (t : ℕ) → t < l.s → get_or l.ends.items t 0 ≡ ahead l.edges t 0;
  counts : (t : ℕ) → l.s ≤ t → t < l.slots + 1 → ahead l.edges t (length l.edges) + get_or l.ends.items t 0 ≡ ahead l.edges t 0;
}
