-- What the order of turns can't change.
use Rattle.std.specs.Prelude.{◌≡◌, ◌+◌, ℕ, zero, suc, List, [], ◌∷◌, ◌++◌}
use Rattle.pair_protocol.specs.Sides.{Sides}
use Rattle.pair_protocol.specs.Pair.{Both, done, both_from, both, Who}
use Rattle.session_turns.specs.Turns.{TurnsLead, AreWhole}

-- one for one, some steps of the pair in which each message is served at once lead from these to those
abbrev pub AreLater : {S M X R E Q : Type 0} → Sides S M X R E Q → List (Both S M E Q) → List (Both S M E Q) → Type 0
AreLater g [] [] = Unit {0}
AreLater g [] (c ∷ cs) = ⊥
AreLater g (b ∷ bs) [] = ⊥
AreLater g (b ∷ bs) (c ∷ cs) = ((k : ℕ) × (both_from g k b ≡ c)) × AreLater g bs cs

-- one for one, these pairs come to these ends, each alone
abbrev pub ComeTo : {S M X R E Q : Type 0} → Sides S M X R E Q → List (S × M) → List (List ℕ × E) → Type 0
ComeTo g [] [] = Unit {0}
ComeTo g [] (e ∷ es) = ⊥
ComeTo g (x ∷ xs) [] = ⊥
ComeTo g (x ∷ xs) (e ∷ es) = ((k : ℕ) × (both g x.0 x.1 k ≡ done e.0 e.1)) × ComeTo g xs es

-- Wherever turns lead, each pair has made steps of its own and nothing else.
abbrev pub TurnsAreSteps : (S M X R E Q : Type 0) → Type 0
TurnsAreSteps S M X R E Q = (g : Sides S M X R E Q) (n : ℕ) (answers : List Who) (pairs at : List (Both S M E Q)) → TurnsLead g n answers pairs at → AreLater g pairs at

-- So the ends of whole turns are those to which each pair comes alone.
abbrev pub WholeTurnsAreAlone : (S M X R E Q : Type 0) → Type 0
WholeTurnsAreAlone S M X R E Q = (g : Sides S M X R E Q) (starts : List (S × M)) (answers : List Who) (ends : List (List ℕ × E)) → AreWhole g starts answers ends → ComeTo g starts ends

-- And they are the same under any other answers.
abbrev pub WholeTurnsAgree : (S M X R E Q : Type 0) → Type 0
WholeTurnsAgree S M X R E Q = (g : Sides S M X R E Q) (starts : List (S × M)) (answers others : List Who) (ends other_ends : List (List ℕ × E)) →
    AreWhole g starts answers ends → AreWhole g starts others other_ends → ends ≡ other_ends

-- Whole turns end with their last answer: no answers behind them make whole turns again.
abbrev pub WholeTurnsEndOnce : (S M X R E Q : Type 0) → Type 0
WholeTurnsEndOnce S M X R E Q = (g : Sides S M X R E Q) (starts : List (S × M)) (answers more : List Who) (ends other_ends : List (List ℕ × E)) →
    AreWhole g starts answers ends → AreWhole g starts (answers ++ more) other_ends → more ≡ []

-- Turns go on where others stopped.
abbrev pub TurnsJoin : (S M X R E Q : Type 0) → Type 0
TurnsJoin S M X R E Q = (g : Sides S M X R E Q) (n k : ℕ) (answers more : List Who) (pairs at end : List (Both S M E Q)) →
    TurnsLead g n answers pairs at → TurnsLead g k more at end → TurnsLead g (n + k) (answers ++ more) pairs end

-- so many answers, from the first on
abbrev pub first_of : ℕ → (ℕ → Who) → List Who
first_of zero told = []
first_of (suc n) told = told 0 ∷ first_of n (λ k. told (suc k))

-- Where each pair comes to an end alone, every chooser comes to whole turns with these ends.
abbrev pub TurnsEnd : (S M X R E Q : Type 0) → Type 0
TurnsEnd S M X R E Q = (g : Sides S M X R E Q) (starts : List (S × M)) (ends : List (List ℕ × E)) → ComeTo g starts ends → (told : ℕ → Who) → (n : ℕ) × AreWhole g starts (first_of n told) ends
