use Rattle.std.proofs.Common.{◌≡◌, ◌++◌, drop}
use Rattle.std.specs.List.{flat_map}
use Rattle.program_gen.specs.Programs.{call_of}
use Rattle.program_gen.proofs.programs.push_calls.Given as goal

-- with those that are left, the program has all
abbrev pub invariant-loop-function : goal.invariant-loop-function
invariant-loop-function l =
    l.program.items ++ flat_map call_of (drop l.function-index l.functions) ≡ l.fn.program.items ++ flat_map call_of l.fn.functions
