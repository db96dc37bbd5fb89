-- A monitor over the slave's half is the pair.
use Rattle.std.proofs.Common.{◌≡◌, ℕ, List, [], ◌∷◌, ◌++◌, refl, sym, ap, subst, Bool, true, false, Option, Some, None}
use Rattle.facts.proofs.Booleans.{true_not_false}
use Rattle.facts.proofs.Lists.{append_grouped}
use Rattle.pair_protocol.specs.Sides.{Served, goes_on, ends, bad, Sides}
use Rattle.pair_protocol.specs.Serving.{Stop, still, ended, broken, after, serve_all}
use Rattle.pair_protocol.specs.Pair.{Who, going_with, goes, stops, moves, replied, monitor_turn, turn, IsWholeFrom}
use Rattle.pair_protocol.specs.Links.{talk_after, talk_of, Half, half, moved, front, behind, Either, Pops, Hands, Leads}
use Rattle.pair_protocol.specs.OrderLaws.{LinksAreWhole}

abbrev is_some : {X : Type 0} → Option X → Bool
is_some None = false
is_some (Some x) = true

abbrev some_or : {X : Type 0} → X → Option X → X
some_or x None = x
some_or x (Some y) = y

abbrev is_ended : {M E Q : Type 0} → Stop M E Q → Bool
is_ended (still m) = false
is_ended (ended e) = true
is_ended (broken q) = false

abbrev end_in : {M E Q : Type 0} → E → Stop M E Q → E
end_in e (still m) = e
end_in e (ended e') = e'
end_in e (broken q) = e

popped : {S M X R E Q : Type 0} (g : Sides S M X R E Q) (window : ℕ) (rest : List Who) (s : S) (queue : List X) (at : Half S X) (m : M) (w : List ℕ) (x : X) (bytes : List ℕ) (e : E) → Some x ≡ front queue → at ≡ half s (behind queue) →
    IsWholeFrom g window rest (replied g at.slave at.queue w (g.serve m x)) bytes e → IsWholeFrom g window rest (monitor_turn g s m w queue) bytes e
popped g window rest s [] at m w x bytes e is same h = true_not_false (ap is_some is)
popped g window rest s (y ∷ queue) at m w x bytes e is same h =
    subst (λ y. IsWholeFrom g window rest (replied g s queue w (g.serve m y)) bytes e) (ap (some_or x) is)
    (subst (λ at. IsWholeFrom g window rest (replied g at.slave at.queue w (g.serve m x)) bytes e) same h)

handed_in : {S M X R E Q : Type 0} (g : Sides S M X R E Q) (window : ℕ) (first rest : List Who) (h at : Half S X) (m : M) (w : List ℕ) (x : X) (bytes : List ℕ) (e : E) →
    (Hands g window first (moved g h) (Some x) at → IsWholeFrom g window (first ++ rest) (goes (going_with (moved g h).slave (moved g h).queue m w)) bytes e) →
    IsWholeFrom g window rest (replied g at.slave at.queue w (g.serve m x)) bytes e → (b : Bool) → Either b (Hands g window first (moved g h) (Some x) at) (Pops first h (Some x) at) →
    IsWholeFrom g window (first ++ rest) (turn g b (going_with h.slave h.queue m w)) bytes e
handed_in g window first rest h at m w x bytes e more whole true hands = more hands
handed_in g window first rest h at m w x bytes e more whole false hands =
    subst (λ (answers : List Who). IsWholeFrom g window (answers ++ rest) (monitor_turn g h.slave m w h.queue) bytes e) (sym hands.0)
    (popped g window rest h.slave h.queue at m w x bytes e hands.1 hands.2 whole)

handed : {S M X R E Q : Type 0} (g : Sides S M X R E Q) (window : ℕ) (first rest : List Who) (h at : Half S X) (m : M) (w : List ℕ) (x : X) (bytes : List ℕ) (e : E) → Hands g window first h (Some x) at →
    IsWholeFrom g window rest (replied g at.slave at.queue w (g.serve m x)) bytes e → IsWholeFrom g window (first ++ rest) (goes (going_with h.slave h.queue m w)) bytes e
handed g window [] rest h at m w x bytes e hands whole = true_not_false (ap is_some hands.1)
handed g window (who ∷ first) rest h at m w x bytes e hands whole =
    handed_in g window first rest h at m w x bytes e (λ hands. handed g window first rest (moved g h) at m w x bytes e hands whole) whole (moves g window who h.slave h.queue) hands

abbrev Whole : {S M X R E Q : Type 0} → Sides S M X R E Q → ℕ → List X → Type 0
Whole {S = S} {M = M} {X = X} {E = E} g window xs = (answers : List Who) (h left : Half S X) (m : M) (w : List ℕ) (e : E) → (serve_all g m xs).stop ≡ ended e → Leads g window answers h (talk_of g m xs) left →
    IsWholeFrom g window answers (goes (going_with h.slave h.queue m w)) (w ++ (serve_all g m xs).bytes) e

served : {S M X R E Q : Type 0} (g : Sides S M X R E Q) (window : ℕ) (xs : List X) → Whole g window xs → (answers : List Who) (h left : Half S X) (w : List ℕ) (e : E) (r : Served M R E Q) → (after r (λ m. serve_all g m xs)).stop ≡ ended e →
    Leads g window answers h (talk_after r (λ m. talk_of g m xs)) left → IsWholeFrom g window answers (replied g h.slave h.queue w r) (w ++ (after r (λ m. serve_all g m xs)).bytes) e
served g window xs more answers h left w e (goes_on m None bytes) is leads =
    subst (λ v. IsWholeFrom g window answers (goes (going_with h.slave h.queue m (w ++ bytes))) v e) (append_grouped w bytes (serve_all g m xs).bytes) (more answers h left m (w ++ bytes) e is leads)
served g window xs more answers h left w e (goes_on m (Some r) bytes) is leads =
    subst (λ v. IsWholeFrom g window answers (goes (going_with (g.take r h.slave) h.queue m (w ++ bytes))) v e) (append_grouped w bytes (serve_all g m xs).bytes)
    (more answers (half (g.take r h.slave) h.queue) left m (w ++ bytes) e is leads)
served g window xs more answers h left w e (ends bytes e') is leads =
    subst (λ (answers : List Who). IsWholeFrom g window answers (stops (w ++ bytes) e') (w ++ bytes) e) (sym leads.0) (refl, ap (end_in e) is)
served g window xs more answers h left w e (bad q) is leads = true_not_false (sym (ap is_ended is))

wholes : {S M X R E Q : Type 0} (g : Sides S M X R E Q) (window : ℕ) (xs : List X) → Whole g window xs
wholes g window [] answers h left m w e is leads = true_not_false (sym (ap is_ended is))
wholes g window (x ∷ xs) answers h left m w e is (first, rest, at, both, hands, leads) =
    subst (λ (answers : List Who). IsWholeFrom g window answers (goes (going_with h.slave h.queue m w)) (w ++ (serve_all g m (x ∷ xs)).bytes) e) (sym both)
    (handed g window first rest h at m w x (w ++ (serve_all g m (x ∷ xs)).bytes) e hands (served g window xs (wholes g window xs) rest at left w e (g.serve m x) is leads))

pub links_are_whole : (S M X R E Q : Type 0) → LinksAreWhole S M X R E Q
links_are_whole S M X R E Q g s m window answers given e left is leads = wholes g window given answers (half s []) left m [] e is leads
