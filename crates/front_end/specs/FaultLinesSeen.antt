-- What is seen of a command by who gave it.
use Rattle.std.specs.Prelude.{ℕ, List, []}

-- the bytes that it writes to out, the lines that it reports, and its status
pub record Seen : Type 0 where
  pub out : List ℕ
  pub report : List ℕ
  pub status : ℕ

-- a stage has faults, which these lines report
abbrev pub faulty : List ℕ → Seen
faulty lines = record { out = []; report = lines; status = 5 }
