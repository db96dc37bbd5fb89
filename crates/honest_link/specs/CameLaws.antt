-- It is reflexive and transitive.
use Rattle.std.specs.Prelude.{ℕ, Bool, List, [], ◌∷◌, ◌++◌, Option}
use Rattle.pt_base.specs.Talk.{Event, gave, took}
use Rattle.honest_link.specs.Came.{Came, IsHonest}
use Rattle.honest_link.specs.Talks.{Along}

further : (says : List ℕ → List ℕ) (form : List ℕ → Bool) (After Later : List ℕ → List ℕ → Type 0) (more : List Event) → ((s g : List ℕ) → After s g → Along says form Later s g more) →
    (talk : List Event) (s g : List ℕ) → Along says form After s g talk → Along says form Later s g (talk ++ more)
further says form After Later more on [] s g h = on s g h
further says form After Later more on (took bytes ∷ talk) s g h = λ is. further says form After Later more on talk (s ++ bytes) g (h is)
further says form After Later more on (gave piece ∷ talk) s g h = (h.0, h.1, further says form After Later more on talk s (g ++ piece) h.2)

loosened : (says : List ℕ → List ℕ) (form : List ℕ → Bool) (After Later : List ℕ → List ℕ → Type 0) → ((s g : List ℕ) → After s g → Later s g) → (talk : List Event) (s g : List ℕ) → Along says form After s g talk → Along says form Later s g talk
loosened says form After Later on [] s g h = on s g h
loosened says form After Later on (took bytes ∷ talk) s g h = λ is. loosened says form After Later on talk (s ++ bytes) g (h is)
loosened says form After Later on (gave piece ∷ talk) s g h = (h.0, h.1, loosened says form After Later on talk s (g ++ piece) h.2)

pub came-same : {L : Type 0} (honest : L → (List ℕ → List ℕ) → (List ℕ → Bool) → Type 0) (sent given : L → Option (List ℕ)) (l : L) → Came honest sent given l [] l
came-same honest sent given l = λ says form s g h. h

pub came-further : {L : Type 0} (honest : L → (List ℕ → List ℕ) → (List ℕ → Bool) → Type 0) (sent given : L → Option (List ℕ)) (a b c : L) (x y : List Event) → Came honest sent given a x b → Came honest sent given b y c → Came honest sent given a (x ++ y) c
came-further honest sent given a b c x y one other = λ says form s g h.
    further says form (IsHonest honest sent given b says form) (IsHonest honest sent given c says form) y (λ s g. other says form s g) x s g (one says form s g h)

-- what a link tells of another that it has, it tells of itself
pub along-witness : {W L : Type 0} (link : W → L) (honest : L → (List ℕ → List ℕ) → (List ℕ → Bool) → Type 0) (sent given : L → Option (List ℕ)) (a b : W) (talk : List Event) →
    Came honest sent given (link a) talk (link b) → Came (λ w. honest (link w)) (λ w. sent (link w)) (λ w. given (link w)) a talk b
along-witness link honest sent given a b talk came = λ says form s g h.
    loosened says form (IsHonest honest sent given (link b) says form) (IsHonest (λ w. honest (link w)) (λ w. sent (link w)) (λ w. given (link w)) b says form)
    (λ s g x. record { is = x.is; sent_so = x.sent_so; given_so = x.given_so; in_form = x.in_form }) talk s g (came says form s g (record { is = h.is; sent_so = h.sent_so; given_so = h.given_so; in_form = h.in_form }))
