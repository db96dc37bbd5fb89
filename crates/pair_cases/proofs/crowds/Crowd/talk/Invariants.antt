use Rattle.pair_cases.specs.Begun.{IsServed}
use Rattle.pair_cases.proofs.crowds.Crowd.talk.Given as goal

abbrev pub invariant-loop : goal.invariant-loop
invariant-loop l = IsServed l.hub
