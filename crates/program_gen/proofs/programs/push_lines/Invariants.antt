use Rattle.std.proofs.Common.{◌≡◌, ◌++◌, drop}
use Rattle.std.specs.List.{flat_map}
use Rattle.program_gen.specs.Programs.{line_of}
use Rattle.program_gen.proofs.programs.push_lines.Given as goal

-- with those that are left, the program has all
abbrev pub invariant-loop-function : goal.invariant-loop-function
invariant-loop-function l =
    l.program.items ++ flat_map line_of (drop l.function-index l.functions) ≡ l.fn.program.items ++ flat_map line_of l.fn.functions
