-- Of the calls of the outside one at most fails, and what failed is told: none is made again and fails again, is made good unseen, or
-- is told as something else.
use Rattle.std.specs.Prelude.{◌≡◌, ◌≢◌, ◌≤◌, ◌&&◌, ◌||◌, ℕ, suc, Bool, false, nat_eq, nat_le}

-- the statuses that tell of a fault of the outside, 2, 3, 4 and 9
abbrev pub is_of_fault : ℕ → Bool
is_of_fault status = (nat_le 2 status && nat_le status 4) || nat_eq status 9

-- Of an ending with this status: the count of calls that failed rises by one at most, so none is made again that failed and fails once more.
-- It stands still where the status tells of no fault of the outside, so none is made again that failed and serves then, and none that
-- failed is told as want of memory.
pub record FailsOnce (before now status : ℕ) : Type 0 where
  pub once : now ≤ suc before
  pub quiet : is_of_fault status ≡ false → now ≡ before

-- The same of a call with this status, where memory may have been wanting to report how it ended: then the status is 12 whatever it tells of.
pub record CallFailsOnce (before now status : ℕ) : Type 0 where
  pub once : now ≤ suc before
  pub quiet : is_of_fault status ≡ false → status ≢ 12 → now ≡ before

-- Of an ending with this status: the count of reads that failed rises by one at most, and where it is 3 alone. So none that failed is told
-- as one that found no file.
pub record ReadsFail (before now status : ℕ) : Type 0 where
  pub later : before ≤ now
  pub once : now ≤ suc before
  pub quiet : nat_eq status 3 ≡ false → now ≡ before
