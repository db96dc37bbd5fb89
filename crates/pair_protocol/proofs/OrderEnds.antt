-- Every order comes to the end.
use Rattle.std.proofs.Common.{◌≡◌, ◌+◌, ◌<◌, ◌≤◌, ℕ, zero, suc, List, [], ◌∷◌, ◌++◌, length, refl, sym, ◌∙◌, ap, subst, arith, Bool, true, false, ◌&&◌, ◌||◌, nat_lt, Option, Some, None, length-append}
use Rattle.std.proofs.lemmas.Bool.{lt-ltb}
use Rattle.facts.proofs.Booleans.{or_with_true, true_not_false}
use Rattle.pair_protocol.specs.Sides.{Mode, going, waits, over, Served, goes_on, ends, bad, Sides, AreFair, waiting}
use Rattle.pair_protocol.specs.SlaveRun.{At, Ready, ready, listed, with_said, moved_on, slave_at, IsLongest}
use Rattle.pair_protocol.specs.Pair.{delivered, run, done, wrong, both_in, both, Who, Going, going_with, Pair, goes, is_going, is_slaves, moves, replied, monitor_turn, turn, pair_step, IsWholeFrom}
use Rattle.pair_protocol.specs.OrderLaws.{IsAfter}
use Rattle.pair_protocol.proofs.OrderSlaveFacts.{ready_none}
use Rattle.pair_protocol.proofs.OrderSynchronous.{is_done, ends_once, same_end}
use Rattle.pair_protocol.proofs.OrderEvery.{slave_turn, monitor_goes, monitor_ends, monitor_breaks, moves_going}

-- ---- a slave says at most one message a step

short_in : {S M X R E Q : Type 0} (g : Sides S M X R E Q) (c : Ready S R) (mode : Mode) (a : At S X R) → length a.said ≤ a.made → length (moved_on g mode c a).said ≤ (moved_on g mode c a).made
short_in {X = X} g c going a h = go (g.step c.slave).said
  where
    go : (o : Option X) → length (with_said o a.said) ≤ suc a.made
    go None = omega (arith, h)
    go (Some x) = omega (arith, h)
short_in g c waits a h = omega arith
short_in g c over a h = omega arith

pub said_short : {S M X R E Q : Type 0} (g : Sides S M X R E Q) (k : ℕ) (s : S) (rs : List R) → length (slave_at g k s rs).said ≤ (slave_at g k s rs).made
said_short g zero s rs = omega arith
said_short g (suc k) s rs =
    let c = ready g s rs in
    short_in g c (g.mode c.slave) (slave_at g k (g.step c.slave).slave c.left) (said_short g k (g.step c.slave).slave c.left)

within : {S M X R E Q : Type 0} (g : Sides S M X R E Q) (s : S) (m : M) (longest : ℕ) → IsLongest g longest s → (k : ℕ) (served : List X) (replies : List R) (p : Going S M X) →
    IsAfter g s m k served replies p → k + length served ≤ longest + longest
within g s m longest bound k served replies p d =
    let made : (slave_at g k s replies).made ≡ k = ap (λ a. a.made) d.slave_so in
    let most : (slave_at g k s replies).made ≤ longest = bound replies k in
    let short : length (slave_at g k s replies).said ≤ (slave_at g k s replies).made = said_short g k s replies in
    let all' : length (slave_at g k s replies).said ≡ length (served ++ p.queue) = ap (λ a. length a.said) d.slave_so in
    let sum : length (served ++ p.queue) ≡ length served + length p.queue = length-append served p.queue in
    omega (arith, made, most, short, all', sum)

-- ---- where nothing moves, the synchronous pair doesn't end

abbrev Reaches : {S M X R E Q : Type 0} → Sides S M X R E Q → ℕ → List ℕ → E → List Who → Pair S M X E Q → Type 0
Reaches g window bytes e answers p = (front : List Who) × (back : List Who) × (answers ≡ front ++ back) × IsWholeFrom g window front p bytes e

one_more : {S M X R E Q : Type 0} (g : Sides S M X R E Q) (window : ℕ) (bytes : List ℕ) (e : E) (who : Who) (answers : List Who) (p : Going S M X) (p' : Pair S M X E Q) →
    pair_step g window who (goes p) ≡ p' → Reaches g window bytes e answers p' → Reaches g window bytes e (who ∷ answers) (goes p)
one_more g window bytes e who answers p p' is h =
    (who ∷ h.0, h.1, ap (λ xs. who ∷ xs) h.2, subst (λ p. IsWholeFrom g window h.0 p bytes e) (sym is) h.3)

idle_mode : {S M X R E Q : Type 0} (g : Sides S M X R E Q) (s : S) (mode : Mode) (b : Bool) → g.mode s ≡ mode → b ≡ true → ((is_going mode && b) && (false || true)) ≡ false → waiting mode ≡ 0 → (m : M) (w : List ℕ) → both_in g mode s m w ≡ run s m w
idle_mode g s going true is room e idle m w = true_not_false e
idle_mode g s going false is room e idle m w = true_not_false (sym room)
idle_mode g s waits b is room e idle m w = refl
idle_mode g s over b is room e idle m w = refl

idle : {S M X R E Q : Type 0} (g : Sides S M X R E Q) (s : S) (m : M) (j : ℕ) (bytes : List ℕ) (e : E) → both g s m j ≡ done bytes e →
    (k : ℕ) (served : List X) (replies : List R) (s1 : S) (m1 : M) (w : List ℕ) → IsAfter g s m k served replies (going_with s1 [] m1 w) → (window : ℕ) (who : Who) → 0 < window →
    moves g window who s1 [] ≡ false → ⊥
idle g s m j bytes e ends' k served replies s1 m1 w d window who room none =
    let v = w ++ [] in
    let at_last = sym d.ahead ∙ ap (λ c. run c.slave m1 v) (ready_none g s1) in
    let quiet = idle_mode g s1 (g.mode s1) (nat_lt 0 window) refl (lt-ltb 0 window room) (sym (ap (λ b. (is_going (g.mode s1) && nat_lt 0 window) && b) (or_with_true (is_slaves who))) ∙ none) (sym d.waits_for) m1 v in
    true_not_false (sym (ap is_done (ends_once g k j (run s m []) (run s1 m1 v) (done bytes e) at_last ends' quiet refl)))

-- ---- whatever the answers

abbrev Ready' : {S M X R E Q : Type 0} → Sides S M X R E Q → S → M → ℕ → ℕ → List ℕ → E → List Who → Type 0
Ready' {S = S} {M = M} {X = X} {R = R} g s m longest window bytes e answers = (k : ℕ) (served : List X) (replies : List R) (p : Going S M X) → IsAfter g s m k served replies p →
    longest + longest < length answers + (k + length served) → Reaches g window bytes e answers (goes p)

reach_served : {S M X R E Q : Type 0} (g : Sides S M X R E Q) → AreFair g → (s : S) (m : M) (longest window j : ℕ) (bytes : List ℕ) (e : E) → both g s m j ≡ done bytes e → (answers : List Who) → Ready' g s m longest window bytes e answers →
    (k : ℕ) (served : List X) (replies : List R) (s1 : S) (m1 : M) (w : List ℕ) (x : X) (queue : List X) → IsAfter g s m k served replies (going_with s1 (x ∷ queue) m1 w) →
    longest + longest < suc (length answers) + (k + length served) → (r : Served M R E Q) → g.serve m1 x ≡ r → Reaches g window bytes e answers (replied g s1 queue w r)
reach_served g fair s m longest window j bytes e end answers more k served replies s1 m1 w x queue d h (goes_on m2 o b) is =
    let longer : length (served ++ x ∷ []) ≡ length served + 1 = length-append served (x ∷ []) in
    more k (served ++ x ∷ []) (replies ++ listed o) (going_with (delivered g s1 o) queue m2 (w ++ b)) (monitor_goes g fair s m k served replies s1 m1 w x queue d m2 o b is) (omega (arith, h, longer))
reach_served g fair s m longest window j bytes e end answers more k served replies s1 m1 w x queue d h (ends b e') is =
    let over' = monitor_ends g s m k served replies s1 m1 w x queue d b e' is in
    ([], answers, refl, same_end g over'.steps j (run s m []) (w ++ b) bytes e' e over'.ahead end)
reach_served g fair s m longest window j bytes e end answers more k served replies s1 m1 w x queue d h (bad q) is =
    let over' = monitor_breaks g s m k served replies s1 m1 w x queue d q is in
    true_not_false (sym (ap is_done (ends_once g over'.steps j (run s m []) (wrong w q) (done bytes e) over'.ahead end refl refl)))

reach_monitor : {S M X R E Q : Type 0} (g : Sides S M X R E Q) → AreFair g → (s : S) (m : M) (longest window j : ℕ) → 0 < window → (bytes : List ℕ) (e : E) → both g s m j ≡ done bytes e → (who : Who) (answers : List Who) → Ready' g s m longest window bytes e answers →
    (k : ℕ) (served : List X) (replies : List R) (s1 : S) (m1 : M) (w : List ℕ) (queue : List X) → IsAfter g s m k served replies (going_with s1 queue m1 w) →
    longest + longest < suc (length answers) + (k + length served) → moves g window who s1 queue ≡ false → Reaches g window bytes e answers (monitor_turn g s1 m1 w queue)
reach_monitor g fair s m longest window j room bytes e end who answers more k served replies s1 m1 w [] d h none = absurd (idle g s m j bytes e end k served replies s1 m1 w d window who room none)
reach_monitor g fair s m longest window j room bytes e end who answers more k served replies s1 m1 w (x ∷ queue) d h none =
    reach_served g fair s m longest window j bytes e end answers more k served replies s1 m1 w x queue d h (g.serve m1 x) refl

reach_turn : {S M X R E Q : Type 0} (g : Sides S M X R E Q) → AreFair g → (s : S) (m : M) (longest window j : ℕ) → 0 < window → (bytes : List ℕ) (e : E) → both g s m j ≡ done bytes e → (who : Who) (answers : List Who) → Ready' g s m longest window bytes e answers →
    (k : ℕ) (served : List X) (replies : List R) (p : Going S M X) → IsAfter g s m k served replies p →
    longest + longest < suc (length answers) + (k + length served) → (b : Bool) → moves g window who p.slave p.queue ≡ b → Reaches g window bytes e answers (turn g b p)
reach_turn g fair s m longest window j room bytes e end who answers more k served replies p d h true is =
    more (suc k) served replies (going_with (g.step p.slave).slave (p.queue ++ listed (g.step p.slave).said) p.monitor p.written) (slave_turn g fair s m k served replies p d (moves_going g window who p.slave p.queue is)) (omega (arith, h))
reach_turn g fair s m longest window j room bytes e end who answers more k served replies p d h false is =
    reach_monitor g fair s m longest window j room bytes e end who answers more k served replies p.slave p.monitor p.written p.queue d h is

pub reach : {S M X R E Q : Type 0} (g : Sides S M X R E Q) → AreFair g → (s : S) (m : M) (longest window j : ℕ) → IsLongest g longest s → 0 < window → (bytes : List ℕ) (e : E) → both g s m j ≡ done bytes e → (answers : List Who) → Ready' g s m longest window bytes e answers
reach g fair s m longest window j bound room bytes e end [] k served replies p d h =
    let most : k + length served ≤ longest + longest = within g s m longest bound k served replies p d in
    absurd (omega (arith, most, h))
reach g fair s m longest window j bound room bytes e end (who ∷ answers) k served replies p d h =
    one_more g window bytes e who answers p (turn g (moves g window who p.slave p.queue) p) refl
    (reach_turn g fair s m longest window j room bytes e end who answers (reach g fair s m longest window j bound room bytes e end answers) k served replies p d h (moves g window who p.slave p.queue) refl)
