-- Lists that were made apart.
use Rattle.std.specs.Prelude.{List, [], ◌∷◌, ◌++◌, Result, Ok, Err, Vec, Option, Some, None}
use Rattle.std.specs.Option.{option_map}
use Rattle.std.specs.declared.alloc.Global.{Global}
use Rattle.std.specs.declared.alloc.AllocError.{AllocError}

-- the items of all parts, where all of them came
abbrev pub joined : {X : Type 0} → List (Result (Vec X Global) AllocError) → Option (List X)
joined [] = Some []
joined (Ok v ∷ parts) = option_map (λ xs. v.items ++ xs) (joined parts)
joined (Err e ∷ parts) = None
