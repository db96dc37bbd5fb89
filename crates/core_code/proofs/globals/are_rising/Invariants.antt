use Rattle.std.proofs.Common.{◌≡◌, drop}
use Rattle.core_code.specs.Globals.{numbers_rise, rise_from}
use Rattle.core_code.proofs.globals.are_rising.Given as goal

abbrev pub invariant-loop-global : goal.invariant-loop-global
invariant-loop-global l = rise_from l.least (drop l.global-index l.globals) ≡ numbers_rise l.fn.globals
