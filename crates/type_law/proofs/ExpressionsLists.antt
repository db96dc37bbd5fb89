-- Tests that hold only where others do.
use Rattle.std.proofs.Common.{◌≡◌, refl, Bool, true, false}
use Rattle.std.specs.Prelude.{IsTrue, ◌||◌, not}

-- what is so only where the second is
pub only_where : (a b : Bool) → (a ≡ true → b ≡ true) → IsTrue (not a || b)
only_where true b h = h refl
only_where false b h = refl

pub nowhere_where : (a b : Bool) → (a ≡ true → b ≡ true) → b ≡ false → IsTrue (not a)
nowhere_where true b h e = let k = h refl in cc
nowhere_where false b h e = refl
