-- A list that isn't too long is that of some `Vec`.
use Rattle.std.proofs.Common.{◌<◌, ◌^◌, List, length, refl, arith}
use Rattle.std.specs.Prelude.{Vec}
use Rattle.std.specs.declared.alloc.Global.{Global}
use denote.RawPtr.{null_ptr}

pub some_memory : Global
some_memory = record { memory = record { seal = tt } }

abbrev pub vec_of : {X : Type 0} (xs : List X) → length xs < 2 ^ 63 → Vec X Global
vec_of xs few = record { ptr = null_ptr; len = length xs; cap = length xs; alloc = some_memory; items = xs; ok = (refl, omega arith); small = few }
