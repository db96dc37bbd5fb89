use Rattle.std.proofs.Common.{◌≡◌, ◌++◌, drop}
use Rattle.flow_edges.specs.Moves as is
use Rattle.flow_edges.proofs.DistinctLemmas.{fresh}
use Rattle.flow_edges.proofs.distinct.first_of_each.Given as goal

abbrev pub invariant-loop-number : goal.invariant-loop-number
invariant-loop-number l = record {
  same : l.seen.keys ≡ l.kept.items;
  all : l.kept.items ++ fresh l.kept.items (drop l.number-index l.number-items) ≡ is.first_of_each l.fn.numbers.items;
}
