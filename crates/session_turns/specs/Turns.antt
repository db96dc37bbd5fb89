-- Several pairs of two sides that go on by turns: in each turn one of them goes on by one whole message.
use Rattle.std.specs.Prelude.{◌≡◌, ◌+◌, ◌<◌, ◌⊎◌, ℕ, zero, suc, List, [], ◌∷◌, ◌++◌, map, take, replicate, slice_get, slice_set, Bool, true, false, Some}
use Rattle.pair_protocol.specs.Sides.{Sides, of_bool}
use Rattle.pair_protocol.specs.SlaveRun.{came, slave_at}
use Rattle.pair_protocol.specs.Pair.{Both, run, done, wrong, answered, Who, slaves, parents}

-- ---- one pair goes on

-- The slave makes so many steps, of which the last alone says something; that is served, and its reply taken.
pub record GoesOn {S M X R E Q : Type 0} (g : Sides S M X R E Q) (s : S) (m : M) (written : List ℕ) (next : Both S M E Q) : Type 0 where
  pub steps : ℕ
  pub to : S
  pub word : X
  pub came_to : slave_at g steps s [] ≡ came to (word ∷ []) [] steps
  pub quiet : (j : ℕ) → j < steps → (slave_at g j s []).said ≡ []
  pub next_is : next ≡ answered g to written (g.serve m word)

-- ---- whose turn it is

abbrev pub is_running : {S M E Q : Type 0} → Both S M E Q → Bool
is_running (run s m written) = true
is_running (done bytes e) = false
is_running (wrong bytes q) = false

abbrev pub count_running : {S M E Q : Type 0} → List (Both S M E Q) → ℕ
count_running [] = 0
count_running (b ∷ bs) = of_bool (is_running b) + count_running bs

-- Of so many that run, these answers reach the one before which k run. Each `slaves` passes on to the next one; `parents` is the turn's
-- last answer, and so are as many `slaves` as run, which come round to the first.
abbrev pub Reach : ℕ → List Who → ℕ → Type 0
Reach count answers k = ((k < count) × (answers ≡ replicate k slaves ++ parents ∷ [])) ⊎ ((0 < count) × (answers ≡ replicate count slaves) × (k ≡ 0))

-- ---- turns

-- a turn under exactly these answers
pub record IsTurn {S M X R E Q : Type 0} (g : Sides S M X R E Q) (answers : List Who) (pairs next_pairs : List (Both S M E Q)) : Type 0 where
  pub place : ℕ
  pub slave : S
  pub monitor : M
  pub written : List ℕ
  pub next : Both S M E Q
  pub stands : slice_get pairs place ≡ Some (run slave monitor written)
  pub reached : Reach (count_running pairs) answers (count_running (take place pairs))
  pub onward : GoesOn g slave monitor written next
  pub others_stay : next_pairs ≡ slice_set pairs place next

-- so many turns under exactly these answers lead from these pairs to those
abbrev pub TurnsLead : {S M X R E Q : Type 0} → Sides S M X R E Q → ℕ → List Who → List (Both S M E Q) → List (Both S M E Q) → Type 0
TurnsLead g zero answers pairs end = (answers ≡ []) × (end ≡ pairs)
TurnsLead {S = S} {M = M} {E = E} {Q = Q} g (suc n) answers pairs end =
    (first : List Who) × (rest : List Who) × (at : List (Both S M E Q)) × (answers ≡ first ++ rest) × IsTurn g first pairs at × TurnsLead g n rest at end

abbrev pub begun : {S M E Q : Type 0} → S × M → Both S M E Q
begun x = run x.0 x.1 []

abbrev pub over : {S M E Q : Type 0} → List ℕ × E → Both S M E Q
over x = done x.0 x.1

-- These answers bring each pair to its end, the last one with the last answer and not before: no turn can be taken where none runs.
pub record AreWhole {S M X R E Q : Type 0} (g : Sides S M X R E Q) (starts : List (S × M)) (answers : List Who) (ends : List (List ℕ × E)) : Type 0 where
  pub turns : ℕ
  pub lead : TurnsLead g turns answers (map begun starts) (map over ends)
