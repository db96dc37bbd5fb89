-- Where a link that is used by another came from.
use Rattle.std.specs.Prelude.{◌≡◌, ℕ, Bool, List, Option, Some, IsTrue}
use Rattle.pt_base.specs.Talk.{Event}
use Rattle.honest_link.specs.Talks.{Along}

-- it is honest, and tells what it was sent, which has the form, and what it gave
pub record IsHonest {L : Type 0} (honest : L → (List ℕ → List ℕ) → (List ℕ → Bool) → Type 0) (sent given : L → Option (List ℕ)) (link : L) (says : List ℕ → List ℕ) (form : List ℕ → Bool) (s g : List ℕ) : Type 0 where
  pub is : honest link says form
  pub sent_so : sent link ≡ Some s
  pub given_so : given link ≡ Some g
  pub in_form : IsTrue (form s)

-- where it was honest, the talk went along what its peer says, and it is honest still
abbrev pub Came : {L : Type 0} → (L → (List ℕ → List ℕ) → (List ℕ → Bool) → Type 0) → (L → Option (List ℕ)) → (L → Option (List ℕ)) → L → List Event → L → Type 0
Came honest sent given a talk b =
    (says : List ℕ → List ℕ) (form : List ℕ → Bool) (s g : List ℕ) → IsHonest honest sent given a says form s g → Along says form (IsHonest honest sent given b says form) s g talk

-- It started its peer and so became a link, from which the other came by this talk; and where it was honest, the talk went along what its
-- peer says.
pub record Started {L : Type 0} (starts : L → L → Type 0) (came : L → List Event → L → Type 0) (honest : L → (List ℕ → List ℕ) → (List ℕ → Bool) → Type 0) (sent given : L → Option (List ℕ)) (a : L) (talk : List Event) (b : L) : Type 0 where
  pub link : L
  pub became : starts a link
  pub came_by : came link talk b
  pub along : Came honest sent given a talk b
