-- Walking along the integers of an object and numbers at once.
use Rattle.std.specs.Prelude.{ℤ, List, [], ◌∷◌, Option, Some, None, if◌then◌else◌}
use Rattle.pt_base.specs.declared.int_type.IntType.{IntType}
use Rattle.pt_int.specs.Conversion.{is_in_range}

-- the numbers behind those of these integers, each being in its range; None where one isn't, or is wanting
abbrev pub past : List IntType → List ℤ → Option (List ℤ)
past [] numbers = Some numbers
past (t ∷ ts) [] = None
past (t ∷ ts) (v ∷ vs) = if is_in_range t v then past ts vs else None
