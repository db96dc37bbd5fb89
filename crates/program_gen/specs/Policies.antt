-- The policy of a program: it allows whatever is guarded, in one state.
use Rattle.std.specs.Prelude.{ℕ, List, [], ◌++◌, codes, if◌then◌else◌}
use Rattle.std.specs.List.{flat_map}
use Rattle.program_gen.specs.declared.functions.Function.{Function}
use Rattle.program_gen.specs.Functions.{is_guarded, name_of}

-- the line that allows the function of this name
abbrev pub rule_for : List ℕ → List ℕ
rule_for name = codes "from a allow " ++ name ++ codes " to a\n"

abbrev pub rule_of : Function → List ℕ
rule_of f = if is_guarded f then rule_for (name_of f) else []

-- a line for each host that is guarded and each such function
abbrev pub policy_of : List Function → List ℕ
policy_of fs = rule_for (codes "load") ++ rule_for (codes "sign") ++ flat_map rule_of fs
