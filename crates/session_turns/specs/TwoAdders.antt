-- Two pairs by example, which come to the same ends whichever of them goes on first.
use Rattle.std.specs.Prelude.{ℕ, List, [], ◌∷◌, false}
use Rattle.pair_protocol.specs.Pair.{Who, slaves, parents}
use Rattle.pair_protocol.specs.OrderAdder.{think, post, Slave, slave, adder}
use Rattle.session_turns.specs.Turns.{Reach, AreWhole}

-- the first posts 5 and then the 0 at which its monitor ends; the second is silent for a step and posts its 0
abbrev pub starts : List (Slave × ℕ)
starts = (slave (post 5 ∷ post 0 ∷ []) [] false, 0) ∷ (slave (think ∷ post 0 ∷ []) [] false, 7) ∷ []

abbrev pub ends : List (List ℕ × ℕ)
ends = (5 ∷ 9 ∷ [], 5) ∷ (9 ∷ [], 7) ∷ []

pub record AddersTurn : Type 0 where
  -- the second goes on first, and then the first alone, whatever is answered
  pub second_first : AreWhole adder starts (slaves ∷ parents ∷ parents ∷ slaves ∷ []) ends
  -- two `slaves` come round to the first, which ends before the second goes on
  pub first_first : AreWhole adder starts (slaves ∷ slaves ∷ parents ∷ parents ∷ []) ends
  -- of three the last is reached
  pub last_of_three : Reach 3 (slaves ∷ slaves ∷ parents ∷ []) 2
  -- where none runs, nothing is answered
  pub none_reached : (answers : List Who) (k : ℕ) → Reach 0 answers k → ⊥
