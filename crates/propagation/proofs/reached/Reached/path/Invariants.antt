use Rattle.std.proofs.Common.{◌≡◌, ◌<◌, ◌++◌, length, reverse}
use Rattle.propagation.specs.Shown.{path_of}
use Rattle.propagation.proofs.reached.Reached.path.Given as goal

abbrev pub invariant-loop-step : goal.invariant-loop-step
invariant-loop-step l = record {
  within : l.at < length l.self.order.items;
  path : path_of l.self.order.items l.at ++ reverse l.path.items ≡ path_of l.self.order.items l.place;
}

abbrev pub decreases-loop-step : goal.decreases-loop-step
decreases-loop-step l = l.at
