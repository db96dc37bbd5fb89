use Rattle.pair_cases.specs.Begun.{IsServed}
use Rattle.pair_cases.proofs.hubs.push_calls.Given as goal

abbrev pub invariant-loop-call : goal.invariant-loop-call
invariant-loop-call l = IsServed l.hub
