use Rattle.std.proofs.Common.{◌≡◌, false, drop, replicate}
use Rattle.reach.specs.Tables.{set_all}
use Rattle.splitter.specs.Sets.{global_numbers}
use Rattle.splitter.proofs.globals.globals_set.Given as goal

abbrev pub invariant-loop-global : goal.invariant-loop-global
invariant-loop-global l = set_all l.set (global_numbers (drop l.global-index l.globals)) ≡ set_all (replicate l.fn.bound false) (global_numbers l.fn.globals)
