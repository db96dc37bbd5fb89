-- Lists, modes, and a slave that goes on.
use Rattle.std.proofs.Common.{◌≡◌, ℕ, suc, List, [], ◌∷◌, ◌∙◌, ap, Bool, true, false}
use Rattle.pair_protocol.specs.Sides.{Mode, going, waits, over, Sides, waiting}
use Rattle.pair_protocol.specs.SlaveRun.{having, moved_on, slave_at}
use Rattle.pair_protocol.proofs.OrderSlaveFacts.{ready_idle}

abbrev empty : {A : Type 0} → List A → Bool
empty [] = true
empty (x ∷ xs) = false

abbrev pub first : {A : Type 0} → A → List A → A
first x [] = x
first x (y ∷ ys) = y

abbrev pub others : {A : Type 0} → List A → List A
others [] = []
others (y ∷ ys) = ys

-- ---- modes

abbrev is_going' : Mode → Bool
is_going' going = true
is_going' waits = false
is_going' over = false

-- ---- a slave that goes on makes a step first

pub opens : {S M X R E Q : Type 0} (g : Sides S M X R E Q) (n : ℕ) (s : S) (rs : List R) → g.mode s ≡ going → slave_at g (suc n) s rs ≡ moved_on g going (having s rs) (slave_at g n (g.step s).slave rs)
opens g n s rs is =
    ap (λ c. moved_on g (g.mode c.slave) c (slave_at g n (g.step c.slave).slave c.left)) (ready_idle g s rs (ap waiting is)) ∙ ap (λ mode. moved_on g mode (having s rs) (slave_at g n (g.step s).slave rs)) is
