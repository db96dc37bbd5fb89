-- The names under which the files of a pair are told.
use Rattle.std.specs.Prelude.{ℕ, List}

pub record Names : Type 0 where
  pub program : List ℕ
  pub host : List ℕ
  pub policy : List ℕ
