use Rattle.pair_cases.specs.Begun.{IsServed}
use Rattle.pair_cases.proofs.crowds.Crowd.serve.Given as goal

abbrev pub invariant-loop-number : goal.invariant-loop-number
invariant-loop-number l = IsServed l.hub
