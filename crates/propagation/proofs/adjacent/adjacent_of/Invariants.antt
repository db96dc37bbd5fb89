use Rattle.std.proofs.Common.{◌≡◌, ◌<◌, ◌+◌, ℕ, length, get_or}
use Rattle.propagation.specs.Adjacent.{ahead, no_link}
use Rattle.propagation.proofs.PlaceLemmas.{link_of}
use Rattle.propagation.proofs.AheadLemmas.{place_of_edge}
use Rattle.propagation.proofs.adjacent.adjacent_of.Given as goal

abbrev pub invariant-loop-k : goal.invariant-loop-k
invariant-loop-k l = record {
  size : length l.starts.items ≡ l.slots + 1;
  count : length l.links.items ≡ length l.edges;
  starts : (s : ℕ) → s < l.slots + 1 → get_or l.starts.items s 0 ≡ ahead l.edges s l.k;
  placed : (j : ℕ) → j < l.k → get_or l.links.items (place_of_edge l.edges j) no_link ≡ link_of l.edges j;
}
