-- What is computed with pointers, whatever names blocks have (C99 6.5.6, 6.5.8, 6.5.9).
use Rattle.std.specs.Prelude.{ℕ, ◌+◌, ◌*◌, ℤ, pos, negsuc, ◌+ℤ◌, ◌-ℤ◌, neg_ℤ, Bool, true, false, not, ◌&&◌, Option, Some, None, Result, Ok, Err, if◌then◌else◌, nat_eq, nat_lt, nat_le, int_lt, int_le}
use Rattle.pt_base.specs.declared.trap.Trap.{Trap}
use Rattle.pt_base.specs.declared.trap.Trap.TheVariants.{Bounds, Null, PtrRange, PtrCompare}
use Rattle.pt_int.specs.declared.operator.BinOp.{BinOp}
use Rattle.pt_int.specs.declared.operator.BinOp.TheVariants.{Lt, Gt, Le, Ge, Eq, Ne}

-- What a pointer that isn't null points into: a block, from a base cell on, a count of elements, and an
-- index from 0 to the count. None is a null pointer.
pub record Target (B : Type 0) : Type 0 where
  pub block : B
  pub base : ℕ
  pub count : ℕ
  pub index : ℕ

-- the cell that it points to, where elements have so many cells
abbrev pub cell_at : ℕ → ℕ → ℕ → ℕ
cell_at size base index = base + index * size

-- n, where it is at most the count
abbrev pub up_to : ℕ → ℤ → Option ℕ
up_to count (pos n) = if nat_le n count then Some n else None
up_to count (negsuc n) = None

-- the amount with its sign, back or forth
abbrev pub directed : Bool → ℤ → ℤ
directed back amount = if back then neg_ℤ amount else amount

-- the index moved by an amount, as far as one past the last element (C99 6.5.6p8)
abbrev pub moved_index : ℕ → ℕ → ℤ → Option ℕ
moved_index count index amount = up_to count (pos index +ℤ amount)

-- the pointer at this index
abbrev pub at_index : {B : Type 0} → Target B → Option ℕ → Result (Target B) Trap
at_index p None = Err PtrRange
at_index p (Some index) = Ok (record p { index = index })

-- the pointer moved by an amount (C99 6.5.6p8)
abbrev pub moved : {B : Type 0} → ℤ → Option (Target B) → Result (Target B) Trap
moved amount None = Err Null
moved amount (Some p) = at_index p (moved_index p.count p.index amount)

-- the block and the cell to which it points, where elements have so many cells (C99 6.5.3.2p4); one
-- past the last element there is nothing
abbrev pub reached : {B : Type 0} → ℕ → Option (Target B) → Result (B × ℕ) Trap
reached size None = Err Null
reached size (Some p) = if nat_lt p.index p.count then Ok (p.block, cell_at size p.base p.index) else Err Bounds

-- two pointers are equal where both are null, or both point to one cell of one block (C99 6.5.9p6)
abbrev pub are_equal : {B : Type 0} → (B → B → Bool) → ℕ → Option (Target B) → Option (Target B) → Bool
are_equal same size None None = true
are_equal same size None (Some q) = false
are_equal same size (Some p) None = false
are_equal same size (Some p) (Some q) = same p.block q.block && nat_eq (cell_at size p.base p.index) (cell_at size q.base q.index)

-- the indices of two pointers into one array, which are ordered and subtracted (C99 6.5.6p9, 6.5.8p5)
abbrev pub both_indices : Bool → ℕ → ℕ → Result (ℤ × ℤ) Trap
both_indices together i j = if together then Ok (pos i, pos j) else Err PtrCompare

abbrev pub indices_of : {B : Type 0} → (B → B → Bool) → Option (Target B) → Option (Target B) → Result (ℤ × ℤ) Trap
indices_of same None q = Err PtrCompare
indices_of same (Some p) None = Err PtrCompare
indices_of same (Some p) (Some q) = both_indices (same p.block q.block && (nat_eq p.base q.base && nat_eq p.count q.count)) p.index q.index

abbrev pub if_ok : {A B : Type 0} → Result A Trap → (A → B) → Result B Trap
if_ok (Ok a) f = Ok (f a)
if_ok (Err trap) f = Err trap

-- a comparison of pointers, which for order wants them in one array
abbrev pub compared : {B : Type 0} → (B → B → Bool) → BinOp → ℕ → Option (Target B) → Option (Target B) → Result Bool Trap
compared same Eq size p q = Ok (are_equal same size p q)
compared same Ne size p q = Ok (not (are_equal same size p q))
compared same Lt size p q = if_ok (indices_of same p q) (λ ij. int_lt ij.0 ij.1)
compared same Gt size p q = if_ok (indices_of same p q) (λ ij. int_lt ij.1 ij.0)
compared same Le size p q = if_ok (indices_of same p q) (λ ij. int_le ij.0 ij.1)
compared same Ge size p q = if_ok (indices_of same p q) (λ ij. int_le ij.1 ij.0)
compared same op size p q = Ok false

-- how many elements the first is past the second (C99 6.5.6p9)
abbrev pub difference : {B : Type 0} → (B → B → Bool) → Option (Target B) → Option (Target B) → Result ℤ Trap
difference same p q = if_ok (indices_of same p q) (λ ij. ij.0 -ℤ ij.1)
