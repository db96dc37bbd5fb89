-- Which handles stand for a number of which type.
use Rattle.std.specs.Prelude.{ℕ, ℤ, Bool, true, false, List, Option, Some, None, IsTrue, slice_get}
use Rattle.pt_base.specs.declared.int_type.IntType.{IntType}
use Rattle.typed_tree.specs.TypeTests.{same_int}
pub use Rattle.typed_tree.specs.TypeTests.{is_stored}

-- whether the handle with this number stands for a number of the type
abbrev pub Kept : Type 0
Kept = IntType → ℕ → Bool

-- each handle that stands for a number of a type by the first does so by the second
abbrev pub IsWithin : Kept → Kept → Type 0
IsWithin kept more = (t : IntType) (handle : ℕ) → IsTrue (kept t handle) → IsTrue (more t handle)

-- ---- three ways to say it

-- Every handle stands for a number of every type: so it is where nothing is known of who gave them.
abbrev pub any : Kept
any t handle = true

-- No handle stands for a number: so it is in a monitor, which computes with numbers alone.
abbrev pub none : Kept
none t handle = false

-- Each handle stands for what a store with these entries has under its number, and for a number of that entry's type.
abbrev pub by_store : List (IntType × ℤ) → Kept
by_store store t handle = is_stored t (slice_get store handle)

-- ---- what a slave knows of a store

abbrev pub is_given : IntType → Option IntType → Bool
is_given t None = false
is_given t (Some of) = same_int t of

-- by the types of a store's entries alone
abbrev pub by_types : List IntType → Kept
by_types types t handle = is_given t (slice_get types handle)
