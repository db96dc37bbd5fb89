-- A link whose talk is written down.
use Rattle.std.specs.Prelude.{◌≡◌, ℕ, Bool, List, [], ◌++◌, Option, Some, ⊤}
use Rattle.pt_base.specs.Talk.{Event}
use Rattle.honest_link.specs.Talks.{Along}
use Rattle.pair_runner.specs.Sending.{given_in, sent_in}

-- what it was sent, what it gave, and the talk that is left
pub record Planned : Type 0 where
  pub sent : List ℕ
  pub given : List ℕ
  pub left : List Event

-- nothing went over it yet
abbrev pub planned : List Event → Planned
planned talk = record { sent = []; given = []; left = talk }

-- ---- what it tells

abbrev pub sent_to : Planned → Option (List ℕ)
sent_to link = Some link.sent

abbrev pub given_by : Planned → Option (List ℕ)
given_by link = Some link.given

-- it is honest where what is left goes along what its peer says
abbrev pub is_honest : Planned → (List ℕ → List ℕ) → (List ℕ → Bool) → Type 0
is_honest link says form = Along says form (λ sent given. ⊤) link.sent link.given link.left

-- it comes by the talk that stands there
pub record CameBy (a : Planned) (talk : List Event) (b : Planned) : Type 0 where
  pub left : a.left ≡ talk ++ b.left
  pub sent : b.sent ≡ a.sent ++ sent_in talk
  pub given : b.given ≡ a.given ++ given_in talk
