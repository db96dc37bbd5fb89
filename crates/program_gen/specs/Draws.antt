-- The numbers that are drawn from a seed.
use Rattle.std.specs.Prelude.{ℕ, zero, suc, ◌+◌, ◌*◌, ◌/◌, ◌%◌}

-- the state after one more draw
abbrev pub moved : ℕ → ℕ
moved s = (s * 1103515245 + 12345) % 2147483648

-- the number that is drawn with a state
abbrev pub shown : ℕ → ℕ
shown s = s / 65536

-- the state after so many draws
abbrev pub state : ℕ → ℕ → ℕ
state seed zero = seed
state seed (suc n) = moved (state seed n)

-- the number that is drawn after so many others
abbrev pub draw : ℕ → ℕ → ℕ
draw seed n = shown (state seed (n + 1))
