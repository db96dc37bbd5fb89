-- What handing over a message does to the pair, and where nothing moves it any more.
use Rattle.std.proofs.Common.{◌≡◌, ◌∙◌, ℕ, List, [], ◌∷◌, ◌++◌, length, refl, sym, ap, subst, Bool, true, false, Option, Some, None}
use Rattle.std.specs.Prelude.{◌&&◌, ◌||◌, nat_lt}
use Rattle.pt_base.proofs.Booleans.{or_with_true, true_not_false}
use Rattle.pair_protocol.specs.Sides.{Sides}
use Rattle.pair_protocol.specs.Pair.{Who, Going, going_with, Pair, goes, stops, breaks, is_going, is_slaves, moves, replied, monitor_turn, turn, pair_step, pair_from, IsWholeFrom}
use Rattle.pair_protocol.specs.Links.{Half, half, moved, front, behind, is_live, Either, Pops, Hands}

abbrev is_some : {X : Type 0} → Option X → Bool
is_some None = false
is_some (Some x) = true

abbrev some_or : {X : Type 0} → X → Option X → X
some_or x None = x
some_or x (Some y) = y

-- ---- a message is handed over

-- it holds of a pair that goes on, if it holds a step later
abbrev pub IsEarlier : {S M X R E Q : Type 0} → Sides S M X R E Q → ℕ → (List Who → Pair S M X E Q → Type 0) → Type 0
IsEarlier {S = S} {M = M} {X = X} g window T = (who : Who) (answers : List Who) (p : Going S M X) → T answers (pair_step g window who (goes p)) → T (who ∷ answers) (goes p)

popped : {S M X R E Q : Type 0} (g : Sides S M X R E Q) (T : Pair S M X E Q → Type 0) (s : S) (queue : List X) (at : Half S X) (m : M) (w : List ℕ) (x : X) → Some x ≡ front queue → at ≡ half s (behind queue) →
    T (replied g at.slave at.queue w (g.serve m x)) → T (monitor_turn g s m w queue)
popped g T s [] at m w x is same h = true_not_false (ap is_some is)
popped g T s (y ∷ queue) at m w x is same h =
    subst (λ y. T (replied g s queue w (g.serve m y))) (ap (some_or x) is) (subst (λ at. T (replied g at.slave at.queue w (g.serve m x))) same h)

handed_in : {S M X R E Q : Type 0} (g : Sides S M X R E Q) (window : ℕ) (T : List Who → Pair S M X E Q → Type 0) (first rest : List Who) (h at : Half S X) (m : M) (w : List ℕ) (x : X) →
    (Hands g window first (moved g h) (Some x) at → T (first ++ rest) (goes (going_with (moved g h).slave (moved g h).queue m w))) →
    T rest (replied g at.slave at.queue w (g.serve m x)) → (b : Bool) → Either b (Hands g window first (moved g h) (Some x) at) (Pops first h (Some x) at) →
    T (first ++ rest) (turn g b (going_with h.slave h.queue m w))
handed_in g window T first rest h at m w x more holds true hands = more hands
handed_in g window T first rest h at m w x more holds false hands =
    subst (λ (answers : List Who). T (answers ++ rest) (monitor_turn g h.slave m w h.queue)) (sym hands.0)
    (popped g (T rest) h.slave h.queue at m w x hands.1 hands.2 holds)

-- under the answers by which a message is handed over, the monitor serves it with the last
pub handed : {S M X R E Q : Type 0} (g : Sides S M X R E Q) (window : ℕ) (T : List Who → Pair S M X E Q → Type 0) → IsEarlier g window T → (first rest : List Who) (h at : Half S X) (m : M) (w : List ℕ) (x : X) →
    Hands g window first h (Some x) at → T rest (replied g at.slave at.queue w (g.serve m x)) → T (first ++ rest) (goes (going_with h.slave h.queue m w))
handed g window T earlier [] rest h at m w x hands holds = true_not_false (ap is_some hands.1)
handed g window T earlier (who ∷ first) rest h at m w x hands holds =
    earlier who (first ++ rest) (going_with h.slave h.queue m w)
    (handed_in g window T first rest h at m w x (λ hands. handed g window T earlier first rest (moved g h) at m w x hands holds) holds (moves g window who h.slave h.queue) hands)

-- ---- nothing moves it

-- it broke a rule, or goes on and stays as it is whoever is named
abbrev pub Rests : {S M X R E Q : Type 0} → Sides S M X R E Q → ℕ → Pair S M X E Q → Type 0
Rests g window (goes p) = (who : Who) → pair_step g window who (goes p) ≡ goes p
Rests g window (stops bytes e) = ⊥
Rests g window (breaks bytes q) = Unit {0}

first_false : (a b : Bool) → (a && (b || true)) ≡ false → a ≡ false
first_false true b e = true_not_false (sym (or_with_true b) ∙ e)
first_false false b e = refl

left_false : (a : Bool) → (a || false) ≡ false → a ≡ false
left_false true e = e
left_false false e = e

-- the slave doesn't go on, and nothing waits
quiet : {S M X R E Q : Type 0} (g : Sides S M X R E Q) (window : ℕ) (s : S) (m : M) (w : List ℕ) → (is_going (g.mode s) && nat_lt 0 window) ≡ false → Rests g window (goes (going_with s [] m w))
quiet g window s m w idle who = ap (λ b. turn g (b && (is_slaves who || true)) (going_with s [] m w)) idle

no_live : {S M X R E Q : Type 0} (g : Sides S M X R E Q) (window : ℕ) (s : S) (queue : List X) (m : M) (w : List ℕ) → is_live g window (half s queue) ≡ false → Rests g window (goes (going_with s queue m w))
no_live g window s [] m w idle = quiet g window s m w (left_false (is_going (g.mode s) && nat_lt 0 window) idle)
no_live g window s (y ∷ queue) m w idle = true_not_false (sym (or_with_true (is_going (g.mode s) && nat_lt (length (y ∷ queue)) window)) ∙ idle)

-- an empty queue's front was asked for
none_popped : {S M X R E Q : Type 0} (g : Sides S M X R E Q) (window : ℕ) (who : Who) (s : S) (queue : List X) (m : M) (w : List ℕ) → None ≡ front queue → moves g window who s queue ≡ false →
    Rests g window (monitor_turn g s m w queue)
none_popped g window who s [] m w none stays = quiet g window s m w (first_false (is_going (g.mode s) && nat_lt 0 window) (is_slaves who) stays)
none_popped g window who s (y ∷ queue) m w none stays = true_not_false (sym (ap is_some none))

ended_in : {S M X R E Q : Type 0} (g : Sides S M X R E Q) (window : ℕ) (who : Who) (first : List Who) (h at : Half S X) (m : M) (w : List ℕ) →
    (Hands g window first (moved g h) None at → Rests g window (pair_from g window first (goes (going_with (moved g h).slave (moved g h).queue m w)))) →
    (b : Bool) → moves g window who h.slave h.queue ≡ b → Either b (Hands g window first (moved g h) None at) (Pops first h None at) → Rests g window (pair_from g window first (turn g b (going_with h.slave h.queue m w)))
ended_in g window who first h at m w more true is hands = more hands
ended_in g window who first h at m w more false is hands =
    subst (λ (answers : List Who). Rests g window (pair_from g window answers (monitor_turn g h.slave m w h.queue))) (sym hands.0)
    (none_popped g window who h.slave h.queue m w hands.1 is)

-- under the answers by which nothing is handed over, the pair comes to where nothing moves it
pub ended : {S M X R E Q : Type 0} (g : Sides S M X R E Q) (window : ℕ) (first : List Who) (h at : Half S X) (m : M) (w : List ℕ) → Hands g window first h None at →
    Rests g window (pair_from g window first (goes (going_with h.slave h.queue m w)))
ended g window [] h at m w hands = no_live g window h.slave h.queue m w hands.0
ended g window (who ∷ first) h at m w hands =
    ended_in g window who first h at m w (λ hands. ended g window first (moved g h) at m w hands) (moves g window who h.slave h.queue) refl hands

-- ---- whatever the answers behind

pub steps_append : {S M X R E Q : Type 0} (g : Sides S M X R E Q) (window : ℕ) (front back : List Who) (p : Pair S M X E Q) → pair_from g window (front ++ back) p ≡ pair_from g window back (pair_from g window front p)
steps_append g window [] back p = refl
steps_append g window (who ∷ front) back p = steps_append g window front back (pair_step g window who p)

pub rests_on : {S M X R E Q : Type 0} (g : Sides S M X R E Q) (window : ℕ) (answers : List Who) (p : Pair S M X E Q) → Rests g window p → Rests g window (pair_from g window answers p)
rests_on g window [] p rests = rests
rests_on g window (who ∷ answers) (goes p) rests = subst (λ p. Rests g window (pair_from g window answers p)) (sym (rests who)) (rests_on g window answers (goes p) rests)
rests_on g window (who ∷ answers) (stops bytes e) rests = absurd rests
rests_on g window (who ∷ answers) (breaks bytes q) rests = rests_on g window answers (breaks bytes q) rests

stopped : {S M X R E Q : Type 0} (g : Sides S M X R E Q) (window : ℕ) (answers : List Who) (bytes : List ℕ) (e : E) → Rests g window (pair_from g window answers (stops bytes e)) → ⊥
stopped g window [] bytes e rests = rests
stopped g window (who ∷ answers) bytes e rests = stopped g window answers bytes e rests

-- what came to an end doesn't rest
pub whole_moves : {S M X R E Q : Type 0} (g : Sides S M X R E Q) (window : ℕ) (front back : List Who) (p : Pair S M X E Q) (bytes : List ℕ) (e : E) → IsWholeFrom g window front p bytes e → Rests g window (pair_from g window (front ++ back) p) → ⊥
whole_moves g window [] back (goes p) bytes e whole rests = whole
whole_moves g window [] back (stops written e') bytes e whole rests = stopped g window back written e' rests
whole_moves g window [] back (breaks written q) bytes e whole rests = whole
whole_moves g window (who ∷ front) back (goes p) bytes e whole rests = whole_moves g window front back (pair_step g window who (goes p)) bytes e whole rests
whole_moves g window (who ∷ front) back (stops written e') bytes e whole rests = whole
whole_moves g window (who ∷ front) back (breaks written q) bytes e whole rests = whole
