-- A chooser that names the parent alone.
use Rattle.std.proofs.Common.{◌≡◌, ◌+◌, ◌<◌, ◌≤◌, ℕ, zero, suc, List, [], ◌∷◌, ◌++◌, replicate, refl, sym, ◌∙◌, ap, subst, arith, true, ◌&&◌, nat_lt, Option, Some, None}
use Rattle.std.proofs.lemmas.Bool.{lt-ltb}
use Rattle.facts.proofs.Booleans.{and_with_false, true_not_false}
use Rattle.pair_protocol.specs.Sides.{Mode, going, waits, over, Served, goes_on, ends, bad, Sides}
use Rattle.pair_protocol.specs.SlaveRun.{listed}
use Rattle.pair_protocol.specs.Pair.{delivered, run, done, wrong, answered, heard, both_in, both_from, parents, Going, going_with, Pair, goes, is_going, replied, turn, pair_step, IsWholeFrom}
use Rattle.pair_protocol.proofs.OrderSynchronous.{is_done, ends_once, same_end}

abbrev Comes : {S M X R E Q : Type 0} → Sides S M X R E Q → ℕ → ℕ → List ℕ → E → Pair S M X E Q → Type 0
Comes g window most bytes e p = (n : ℕ) × (n ≤ most) × IsWholeFrom g window (replicate n parents) p bytes e

comes_later : {S M X R E Q : Type 0} (g : Sides S M X R E Q) (window most : ℕ) (bytes : List ℕ) (e : E) (p : Going S M X) (p' : Pair S M X E Q) → pair_step g window parents (goes p) ≡ p' → Comes g window most bytes e p' → Comes g window (suc most) bytes e (goes p)
comes_later g window most bytes e p p' is h = let below = h.1 in (suc h.0, omega (arith, below), subst (λ p. IsWholeFrom g window (replicate h.0 parents) p bytes e) (sym is) h.2)

comes_within : {S M X R E Q : Type 0} (g : Sides S M X R E Q) (window most most' : ℕ) (bytes : List ℕ) (e : E) (p : Pair S M X E Q) → most ≤ most' → Comes g window most bytes e p → Comes g window most' bytes e p
comes_within g window most most' bytes e p h c = let below = c.1 in (c.0, omega (arith, below, h), c.2)

abbrev From : {S M X R E Q : Type 0} → Sides S M X R E Q → ℕ → ℕ → Type 0
From {S = S} {M = M} {E = E} g window k = (s : S) (m : M) (w bytes : List ℕ) (e : E) → both_from g k (run s m w) ≡ done bytes e → Comes g window (k + k) bytes e (goes (going_with s [] m w))

served : {S M X R E Q : Type 0} (g : Sides S M X R E Q) (window k : ℕ) → From g window k → (s : S) (w bytes : List ℕ) (e : E) (r : Served M R E Q) → both_from g k (answered g s w r) ≡ done bytes e → Comes g window (k + k) bytes e (replied g s [] w r)
served g window k more s w bytes e (goes_on m o b) end = more (delivered g s o) m (w ++ b) bytes e end
served g window k more s w bytes e (ends b e') end = (0, omega arith, same_end g 0 k (done (w ++ b) e') (w ++ b) bytes e' e refl end)
served g window k more s w bytes e (bad q) end = true_not_false (sym (ap is_done (ends_once g 0 k (wrong w q) (wrong w q) (done bytes e) refl end refl refl)))

said : {S M X R E Q : Type 0} (g : Sides S M X R E Q) (window k : ℕ) → From g window k → (s : S) (o : Option X) (m : M) (w bytes : List ℕ) (e : E) → both_from g k (heard g s o m w) ≡ done bytes e → Comes g window (suc (k + k)) bytes e (goes (going_with s (listed o) m w))
said g window k more s None m w bytes e end = comes_within g window (k + k) (suc (k + k)) bytes e (goes (going_with s [] m w)) (omega arith) (more s m w bytes e end)
said g window k more s (Some x) m w bytes e end =
    comes_later g window (k + k) bytes e (going_with s (x ∷ []) m w) (replied g s [] w (g.serve m x))
    (ap (λ b. turn g b (going_with s (x ∷ []) m w)) (and_with_false (is_going (g.mode s) && nat_lt 1 window))) (served g window k more s w bytes e (g.serve m x) end)

parent_moves : {S M X R E Q : Type 0} (g : Sides S M X R E Q) (window k : ℕ) → 0 < window → From g window k → (s : S) (m : M) (w bytes : List ℕ) (e : E) (mode : Mode) → g.mode s ≡ mode →
    both_from g k (both_in g mode s m w) ≡ done bytes e → Comes g window (suc (suc (k + k))) bytes e (goes (going_with s [] m w))
parent_moves g window k room more s m w bytes e going is end =
    comes_later g window (suc (k + k)) bytes e (going_with s [] m w) (goes (going_with (g.step s).slave (listed (g.step s).said) m w))
    (ap (λ mode. turn g ((is_going mode && nat_lt 0 window) && true) (going_with s [] m w)) is ∙ ap (λ b. turn g (b && true) (going_with s [] m w)) (lt-ltb 0 window room))
    (said g window k more (g.step s).slave (g.step s).said m w bytes e end)
parent_moves g window k room more s m w bytes e waits is end =
    true_not_false (sym (ap is_done (ends_once g 0 k (run s m w) (run s m w) (done bytes e) refl end (ap (λ mode. both_in g mode s m w) is) refl)))
parent_moves g window k room more s m w bytes e over is end =
    true_not_false (sym (ap is_done (ends_once g 0 k (run s m w) (run s m w) (done bytes e) refl end (ap (λ mode. both_in g mode s m w) is) refl)))

pub parents_come : {S M X R E Q : Type 0} (g : Sides S M X R E Q) (window : ℕ) → 0 < window → (k : ℕ) → From g window k
parents_come g window room zero s m w bytes e end = true_not_false (sym (ap is_done end))
parents_come g window room (suc k) s m w bytes e end =
    comes_within g window (suc (suc (k + k))) (suc k + suc k) bytes e (goes (going_with s [] m w)) (omega arith)
    (parent_moves g window k room (parents_come g window room k) s m w bytes e (g.mode s) refl end)
