-- The values that a store keeps.
use Rattle.std.specs.Prelude.{List, All, ℤ}
use Rattle.pt_base.specs.declared.int_type.IntType.{IntType}
use Rattle.pt_base.specs.IntTypes.{InRange}

-- each value is in its type's range
abbrev pub AreInRange : List (IntType × ℤ) → Type 0
AreInRange entries = All (λ entry. InRange entry.0 entry.1) entries
