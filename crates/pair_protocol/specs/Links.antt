-- A link in memory: the slave's half of the pair under the answers of a chooser, and the talk of a monitor over it.
use Rattle.std.specs.Prelude.{◌≡◌, ℕ, List, [], ◌∷◌, ◌++◌, length, Bool, true, false, ◌&&◌, ◌||◌, not, nat_lt, Option, Some, None}
use Rattle.pair_protocol.specs.Sides.{Served, goes_on, ends, bad, Sides}
use Rattle.pair_protocol.specs.SlaveRun.{listed}
use Rattle.pair_protocol.specs.Pair.{Who, is_going, is_empty, moves}

-- a message was given, or a reply sent
pub data Event (X R : Type 0) : Type 0 where
  gave : X → Event X R
  took : R → Event X R

abbrev pub told : {X R : Type 0} → Option R → List (Event X R)
told None = []
told (Some r) = took r ∷ []

abbrev pub talk_after : {M X R E Q : Type 0} → Served M R E Q → (M → List (Event X R)) → List (Event X R)
talk_after (goes_on m o bytes) rest = told o ++ rest m
talk_after (ends bytes e) rest = []
talk_after (bad q) rest = []

-- what goes between a monitor and the link while it serves these messages
abbrev pub talk_of : {S M X R E Q : Type 0} → Sides S M X R E Q → M → List X → List (Event X R)
talk_of g m [] = []
talk_of g m (x ∷ xs) = gave x ∷ talk_after (g.serve m x) (λ m. talk_of g m xs)

pub record Half (S X : Type 0) : Type 0 where
  pub slave : S
  pub queue : List X

abbrev pub half : {S X : Type 0} → S → List X → Half S X
half s queue = record { slave = s; queue = queue }

abbrev pub moved : {S M X R E Q : Type 0} → Sides S M X R E Q → Half S X → Half S X
moved g h = half (g.step h.slave).slave (h.queue ++ listed (g.step h.slave).said)

abbrev pub front : {X : Type 0} → List X → Option X
front [] = None
front (x ∷ xs) = Some x

abbrev pub behind : {X : Type 0} → List X → List X
behind [] = []
behind (x ∷ xs) = xs

abbrev pub is_live : {S M X R E Q : Type 0} → Sides S M X R E Q → ℕ → Half S X → Bool
is_live g window h = (is_going (g.mode h.slave) && nat_lt (length h.queue) window) || not (is_empty h.queue)

abbrev pub Either : Bool → Type 0 → Type 0 → Type 0
Either true A B = A
Either false A B = B

-- nobody is asked any more, and the front of the queue is handed over
abbrev pub Pops : {S X : Type 0} → List Who → Half S X → Option X → Half S X → Type 0
Pops answers h o h' = (answers ≡ []) × (o ≡ front h.queue) × (h' ≡ half h.slave (behind h.queue))

-- under exactly these answers it hands over this message; where all is said nobody is asked
abbrev pub Hands : {S M X R E Q : Type 0} → Sides S M X R E Q → ℕ → List Who → Half S X → Option X → Half S X → Type 0
Hands g window [] h o h' = (is_live g window h ≡ false) × (o ≡ None) × (h' ≡ h)
Hands g window (who ∷ answers) h o h' = Either (moves g window who h.slave h.queue) (Hands g window answers (moved g h) o h') (Pops answers h o h')

abbrev pub Leads : {S M X R E Q : Type 0} → Sides S M X R E Q → ℕ → List Who → Half S X → List (Event X R) → Half S X → Type 0
Leads g window answers h [] h' = (answers ≡ []) × (h' ≡ h)
Leads g window answers h (took r ∷ talk) h' = Leads g window answers (half (g.take r h.slave) h.queue) talk h'
Leads {S = S} {X = X} g window answers h (gave x ∷ talk) h' =
    (first : List Who) × (rest : List Who) × (at : Half S X) × (answers ≡ first ++ rest) × Hands g window first h (Some x) at × Leads g window rest at talk h'
