-- A monitor that serves a list of messages.
use Rattle.std.specs.Prelude.{◌≡◌, ℕ, List, [], ◌∷◌, ◌++◌, Bool, true, false}
use Rattle.pair_protocol.specs.Sides.{Served, goes_on, ends, bad, Sides}
use Rattle.pair_protocol.specs.SlaveRun.{said, listed}

pub data Stop (M E Q : Type 0) : Type 0 where
  still : M → Stop M E Q
  ended : E → Stop M E Q
  broken : Q → Stop M E Q

pub record All (M R E Q : Type 0) : Type 0 where
  pub replies : List R
  pub bytes : List ℕ
  pub stop : Stop M E Q

abbrev pub all : {M R E Q : Type 0} → List R → List ℕ → Stop M E Q → All M R E Q
all replies bytes stop = record { replies = replies; bytes = bytes; stop = stop }

abbrev pub after : {M R E Q : Type 0} → Served M R E Q → (M → All M R E Q) → All M R E Q
after (goes_on m reply bytes) rest = all (listed reply ++ (rest m).replies) (bytes ++ (rest m).bytes) (rest m).stop
after (ends bytes e) rest = all [] bytes (ended e)
after (bad q) rest = all [] [] (broken q)

abbrev pub serve_all : {S M X R E Q : Type 0} → Sides S M X R E Q → M → List X → All M R E Q
serve_all g m [] = all [] [] (still m)
serve_all g m (x ∷ xs) = after (g.serve m x) (λ m. serve_all g m xs)

-- ---- a peer

-- what is given is a first part of what the slave says under the replies sent; the end comes after all
pub record IsHonest {S M X R E Q : Type 0} (g : Sides S M X R E Q) (longest : ℕ) (s : S) (given : List X) (at_end : Bool) (replies : List R) : Type 0 where
  pub rest : List X
  pub first : given ++ rest ≡ said g longest s replies
  pub whole : at_end ≡ true → rest ≡ []

-- what the monitor comes to: the expected end and bytes; or a first part of the bytes, as long as the peer gives no end
abbrev pub IsExpectedBy : {M E Q : Type 0} → List ℕ → E → Bool → List ℕ → Stop M E Q → Type 0
IsExpectedBy bytes e at_end written (still m) = (at_end ≡ false) × (rest : List ℕ) × (bytes ≡ written ++ rest)
IsExpectedBy bytes e at_end written (ended e') = (written ≡ bytes) × (e' ≡ e)
IsExpectedBy bytes e at_end written (broken q) = ⊥

abbrev pub IsExpected : {M R E Q : Type 0} → List ℕ → E → Bool → All M R E Q → Type 0
IsExpected bytes e at_end a = IsExpectedBy bytes e at_end a.bytes a.stop
