use Rattle.std.proofs.Common.{◌≡◌, drop}
use Rattle.boot_rules.specs.Structs.{all_name_earlier}
use Rattle.boot_rules.proofs.structs.all_name_earlier.Given as goal

abbrev pub invariant-loop-earlier : goal.invariant-loop-earlier
invariant-loop-earlier l = all_name_earlier l.earlier (drop l.earlier l.structs) ≡ all_name_earlier 0 l.fn.structs
