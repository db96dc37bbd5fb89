use Rattle.std.proofs.Common.{◌≡◌, drop}
use Rattle.reach.specs.Tables.{set_all}
use Rattle.splitter.specs.Sets.{function_numbers}
use Rattle.splitter.proofs.functions.add_functions.Given as goal

abbrev pub invariant-loop-f : goal.invariant-loop-f
invariant-loop-f l = set_all l.set (function_numbers (drop l.f-index l.functions)) ≡ set_all l.fn.set (function_numbers l.fn.functions)
