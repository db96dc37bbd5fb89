use Rattle.std.proofs.Common.{refl, sym}
use Rattle.lowering.proofs.SwitchLemmas.{counted}
use Rattle.lowering.proofs.switches.otherwise.Goals as goal

pub returns-in-Some : goal.returns-in-Some
returns-in-Some c = rw (← c.default_place.ensures, c.in-Some.is) refl

pub returns-in-None : goal.returns-in-None
returns-in-None c = rw (← c.default_place.ensures, c.in-None.is) (sym (counted c.args.sections.now))
