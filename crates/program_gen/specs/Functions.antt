-- The functions of a program, each chosen by three draws.
use Rattle.std.specs.Prelude.{ℕ, ◌+◌, ◌*◌, ◌%◌, List, ◌++◌, Bool, true, false, if◌then◌else◌, nat_eq, codes, map}
use Rattle.std.specs.Fmt.{decimal}
use Rattle.std.specs.List.{range_with_len}
use Rattle.program_gen.specs.declared.functions.Function.{Function}
use Rattle.program_gen.specs.declared.functions.Kind.{Kind}
use Rattle.program_gen.specs.declared.functions.Kind.TheVariants.{Adds, Loops, Signs, Declassifies}
use Rattle.program_gen.specs.Draws.{draw}

abbrev pub kind_for : ℕ → Kind
kind_for draw = if nat_eq (draw % 4) 0 then Adds else (if nat_eq (draw % 4) 1 then Loops else (if nat_eq (draw % 4) 2 then Signs else Declassifies))

-- the function of this number, from 0
abbrev pub function_at : ℕ → ℕ → Function
function_at seed n = record {
  number = n;
  kind = kind_for (draw seed (3 * n));
  addend = draw seed (3 * n + 1) % 1000;
  times = 1 + draw seed (3 * n + 2) % 9;
}

-- the first so many
abbrev pub functions_of : ℕ → ℕ → List Function
functions_of seed count = map (function_at seed) (range_with_len 0 count)

abbrev pub name_of : Function → List ℕ
name_of f = codes "f" ++ decimal f.number

-- the monitor does it, where the policy allows that
abbrev pub is_guarded_kind : Kind → Bool
is_guarded_kind Adds = false
is_guarded_kind Loops = false
is_guarded_kind Signs = false
is_guarded_kind Declassifies = true

abbrev pub is_guarded : Function → Bool
is_guarded f = is_guarded_kind f.kind
