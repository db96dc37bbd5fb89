-- A pair that goes on makes the steps that its slave makes; and where it comes to an end, it goes on.
use Rattle.std.proofs.Common.{◌≡◌, ◌<◌, ℕ, zero, suc, List, [], ◌∷◌, Option, Some, None, refl, sym, ◌∙◌, ap, arith}
use Rattle.facts.proofs.Booleans.{true_not_false}
use Rattle.facts.proofs.Lists.{cons_not_nil}
use Rattle.facts.proofs.Numbers.{suc_below, suc_same, zero_not_suc}
use Rattle.pair_protocol.specs.Sides.{AreFair, Mode, going, waits, over, Sides, asks, of_bool, waiting}
use Rattle.pair_protocol.specs.SlaveRun.{At, came, having, with_said, moved_on, slave_at}
use Rattle.pair_protocol.specs.Pair.{Both, run, done, answered, heard, both_in, both_from}
use Rattle.pair_protocol.proofs.OrderFacts.{first}
use Rattle.pair_protocol.proofs.OrderSlaveFacts.{ready_none}
use Rattle.session_turns.specs.Turns.{GoesOn, is_running}

-- ---- a slave without replies

made_by : {S M X R E Q : Type 0} (g : Sides S M X R E Q) (k : ℕ) (s : S) → slave_at g (suc k) s [] ≡ moved_on g (g.mode s) (having s []) (slave_at g k (g.step s).slave [])
made_by g k s = ap (λ c. moved_on g (g.mode c.slave) c (slave_at g k (g.step c.slave).slave c.left)) (ready_none g s)

abbrev behind_step : {S X R : Type 0} → Option X → At S X R → At S X R
behind_step said rest = came rest.slave (with_said said rest.said) rest.left (suc rest.made)

made_going : {S M X R E Q : Type 0} (g : Sides S M X R E Q) (k : ℕ) (s : S) → g.mode s ≡ going → slave_at g (suc k) s [] ≡ behind_step (g.step s).said (slave_at g k (g.step s).slave [])
made_going g k s mode = made_by g k s ∙ ap (λ mode. moved_on g mode (having s []) (slave_at g k (g.step s).slave [])) mode

-- it goes on where it makes a step
going_in : {S M X R E Q : Type 0} (g : Sides S M X R E Q) (k : ℕ) (s : S) (mode : Mode) → (moved_on g mode (having s []) (slave_at g k (g.step s).slave [])).made ≡ suc k → mode ≡ going
going_in g k s going made = refl
going_in g k s waits made = zero_not_suc k made
going_in g k s over made = zero_not_suc k made

goes : {S M X R E Q : Type 0} (g : Sides S M X R E Q) (k : ℕ) (s : S) → (slave_at g (suc k) s []).made ≡ suc k → g.mode s ≡ going
goes g k s made = going_in g k s (g.mode s) (sym (ap (λ a. a.made) (made_by g k s)) ∙ made)

-- ---- a slave that says one word, with its last step

abbrev pub Says : {S M X R E Q : Type 0} → Sides S M X R E Q → ℕ → S → S → X → Type 0
Says g k s to word = (slave_at g k s [] ≡ came to (word ∷ []) [] k) × ((j : ℕ) → j < k → (slave_at g j s []).said ≡ [])

-- behind a silent step the word is to come
silent : {S M X R E Q : Type 0} (g : Sides S M X R E Q) (k : ℕ) (s to : S) (word : X) → g.mode s ≡ going → (g.step s).said ≡ None → Says g (suc k) s to word → Says g k (g.step s).slave to word
silent {S = S} {X = X} {R = R} g k s to word mode is (e, quiet) =
    let rest : At S X R = slave_at g k (g.step s).slave [] in
    let same : behind_step None rest ≡ came to (word ∷ []) [] (suc k) = ap (λ o. behind_step o rest) (sym is) ∙ sym (made_going g k s mode) ∙ e in
    let slave : rest.slave ≡ to = ap (λ (a : At S X R). a.slave) same in
    let words : rest.said ≡ word ∷ [] = ap (λ (a : At S X R). a.said) same in
    let left : rest.left ≡ [] = ap (λ (a : At S X R). a.left) same in
    let made : rest.made ≡ k = suc_same rest.made k (ap (λ (a : At S X R). a.made) same) in (
      λ i. came (slave i) (words i) (left i) (made i),
      λ j less.
          ap (λ o. with_said o (slave_at g j (g.step s).slave []).said) (sym is)
          ∙ sym (ap (λ a. a.said) (made_going g j s mode)) ∙ quiet (suc j) (suc_below j k less),
    )

-- what one step says
said_once : {S M X R E Q : Type 0} (g : Sides S M X R E Q) (s : S) (o : Option X) → g.mode s ≡ going → (g.step s).said ≡ o → slave_at g 1 s [] ≡ came (g.step s).slave (with_said o []) [] 1
said_once g s o mode is =
    made_going g 0 s mode ∙ ap (λ o. behind_step o (slave_at g 0 (g.step s).slave [])) is ∙ ap (λ c. came c.slave (with_said o []) c.left 1) (ready_none g (g.step s).slave)

says_on : {S M X R E Q : Type 0} (g : Sides S M X R E Q) (k : ℕ) (s to : S) (word : X) (m : M) (written : List ℕ) → g.mode s ≡ going → Says g (suc k) s to word →
    (Says g k (g.step s).slave to word → both_from g k (run (g.step s).slave m written) ≡ answered g to written (g.serve m word)) →
    (o : Option X) → (g.step s).said ≡ o → both_from g k (heard g (g.step s).slave o m written) ≡ answered g to written (g.serve m word)
says_on g k s to word m written mode says more None is = more (silent g k s to word mode is says)
says_on g zero s to word m written mode (e, quiet) more (Some y) is =
    let same = sym (said_once g s (Some y) mode is) ∙ e in
    ap (λ s. answered g s written (g.serve m y)) (ap (λ a. a.slave) same) ∙ ap (λ y. answered g to written (g.serve m y)) (ap (first y) (ap (λ a. a.said) same))
says_on g (suc k) s to word m written mode (e, quiet) more (Some y) is =
    absurd (cons_not_nil y [] (sym (ap (λ a. a.said) (said_once g s (Some y) mode is)) ∙ quiet 1 (omega arith)))

says_steps : {S M X R E Q : Type 0} (g : Sides S M X R E Q) (k : ℕ) (s to : S) (word : X) (m : M) (written : List ℕ) → Says g k s to word → both_from g k (run s m written) ≡ answered g to written (g.serve m word)
says_steps g zero s to word m written (e, quiet) = absurd (cons_not_nil word [] (sym (ap (λ a. a.said) e)))
says_steps g (suc k) s to word m written says =
    let mode = goes g k s (ap (λ a. a.made) says.0) in
    ap (λ mode. both_from g k (both_in g mode s m written)) mode ∙ says_on g k s to word m written mode says (says_steps g k (g.step s).slave to word m written) (g.step s).said refl

-- a pair that goes on has made so many steps
pub onward_steps : {S M X R E Q : Type 0} (g : Sides S M X R E Q) (s : S) (m : M) (written : List ℕ) (next : Both S M E Q) → (h : GoesOn g s m written next) → both_from g h.steps (run s m written) ≡ next
onward_steps g s m written next h = says_steps g h.steps s h.to h.word m written (h.came_to, h.quiet) ∙ sym h.next_is

-- ---- there is one way to go on

same_number : (a b : ℕ) → (a < b → ⊥) → (b < a → ⊥) → a ≡ b
same_number zero zero h k = refl
same_number zero (suc b) h k = absurd (h (omega arith))
same_number (suc a) zero h k = absurd (k (omega arith))
same_number (suc a) (suc b) h k = ap (λ n. suc n) (same_number a b (λ less. h (suc_below a b less)) (λ less. k (suc_below b a less)))

says_before : {S M X R E Q : Type 0} (g : Sides S M X R E Q) (s : S) (m : M) (written : List ℕ) (a b : Both S M E Q) (h : GoesOn g s m written a) (k : GoesOn g s m written b) → h.steps < k.steps → ⊥
says_before g s m written a b h k less = cons_not_nil h.word [] (sym (ap (λ a. a.said) h.came_to) ∙ k.quiet h.steps less)

pub onward_once : {S M X R E Q : Type 0} (g : Sides S M X R E Q) (s : S) (m : M) (written : List ℕ) (a b : Both S M E Q) → GoesOn g s m written a → GoesOn g s m written b → a ≡ b
onward_once g s m written a b h k =
    sym (onward_steps g s m written a h)
    ∙ ap (λ n. both_from g n (run s m written)) (same_number h.steps k.steps (says_before g s m written a b h k) (says_before g s m written b a k h))
    ∙ onward_steps g s m written b k

-- ---- where a pair comes to an end, it goes on, and has fewer steps to go

pub quiet_first : {S M X R E Q : Type 0} (g : Sides S M X R E Q) (s : S) (j : ℕ) → j < 1 → (slave_at g j s []).said ≡ []
quiet_first g s zero less = refl
quiet_first g s (suc j) less = absurd (omega (arith, less))

pub record Comes {S M X R E Q : Type 0} (g : Sides S M X R E Q) (k : ℕ) (s : S) (m : M) (written bytes : List ℕ) (e : E) : Type 0 where
  pub next : Both S M E Q
  pub onward : GoesOn g s m written next
  pub left : ℕ
  pub fewer : left < k
  pub comes : both_from g left next ≡ done bytes e

abbrev AllCome : {S M X R E Q : Type 0} → Sides S M X R E Q → ℕ → Type 0
AllCome {S = S} {M = M} {E = E} g k = (s : S) (m : M) (written bytes : List ℕ) (e : E) → both_from g k (run s m written) ≡ done bytes e → Comes g k s m written bytes e

later : {S M X R E Q : Type 0} (g : Sides S M X R E Q) (k : ℕ) (s : S) (m : M) (written bytes : List ℕ) (e : E) → Comes g k s m written bytes e → Comes g (suc k) s m written bytes e
later g k s m written bytes e h = let fewer = h.fewer in record { next = h.next; onward = h.onward; left = h.left; fewer = omega (arith, fewer); comes = h.comes }

silent_before : {S M X R E Q : Type 0} (g : Sides S M X R E Q) (s : S) (k : ℕ) → g.mode s ≡ going → (g.step s).said ≡ None → ((j : ℕ) → j < k → (slave_at g j (g.step s).slave []).said ≡ []) →
    (j : ℕ) → j < suc k → (slave_at g j s []).said ≡ []
silent_before g s k mode is quiet zero less = refl
silent_before g s k mode is quiet (suc j) less =
    ap (λ a. a.said) (made_going g j s mode) ∙ ap (λ o. with_said o (slave_at g j (g.step s).slave []).said) is ∙ quiet j (omega (arith, less))

-- a silent step first
onward_behind : {S M X R E Q : Type 0} (g : Sides S M X R E Q) (s : S) (m : M) (written : List ℕ) (next : Both S M E Q) → g.mode s ≡ going → (g.step s).said ≡ None → GoesOn g (g.step s).slave m written next → GoesOn g s m written next
onward_behind g s m written next mode is h = record {
  steps = suc h.steps;
  to = h.to;
  word = h.word;
  came_to = made_going g h.steps s mode ∙ ap (λ o. behind_step o (slave_at g h.steps (g.step s).slave [])) is ∙ ap (behind_step None) h.came_to;
  quiet = silent_before g s h.steps mode is h.quiet;
  next_is = h.next_is;
}

comes_heard : {S M X R E Q : Type 0} (g : Sides S M X R E Q) (k : ℕ) → AllCome g k → (s : S) (m : M) (written bytes : List ℕ) (e : E) → g.mode s ≡ going → (o : Option X) → (g.step s).said ≡ o →
    both_from g k (heard g (g.step s).slave o m written) ≡ done bytes e → Comes g (suc k) s m written bytes e
comes_heard g k all s m written bytes e mode None is h =
    let rest = all (g.step s).slave m written bytes e h in
    let fewer = rest.fewer in
    record { next = rest.next; onward = onward_behind g s m written rest.next mode is rest.onward; left = rest.left; fewer = omega (arith, fewer); comes = rest.comes }
comes_heard g k all s m written bytes e mode (Some y) is h = record {
  next = answered g (g.step s).slave written (g.serve m y);
  onward = record { steps = 1; to = (g.step s).slave; word = y; came_to = said_once g s (Some y) mode is; quiet = quiet_first g s; next_is = refl };
  left = k;
  fewer = omega arith;
  comes = h;
}

comes_in : {S M X R E Q : Type 0} (g : Sides S M X R E Q) (k : ℕ) → AllCome g k → (s : S) (m : M) (written bytes : List ℕ) (e : E) (mode : Mode) → g.mode s ≡ mode →
    both_from g k (both_in g mode s m written) ≡ done bytes e → Comes g (suc k) s m written bytes e
comes_in g k all s m written bytes e going is h = comes_heard g k all s m written bytes e is (g.step s).said refl h
comes_in g k all s m written bytes e waits is h = later g k s m written bytes e (all s m written bytes e h)
comes_in g k all s m written bytes e over is h = later g k s m written bytes e (all s m written bytes e h)

pub all_come : {S M X R E Q : Type 0} (g : Sides S M X R E Q) (k : ℕ) → AllCome g k
all_come g zero s m written bytes e h = true_not_false (ap is_running h)
all_come g (suc k) s m written bytes e h = comes_in g k (all_come g k) s m written bytes e (g.mode s) refl h

-- ---- behind its word a slave waits exactly where that asks for a reply

waits_behind : {S M X R E Q : Type 0} (g : Sides S M X R E Q) → AreFair g → (k : ℕ) → ((s to : S) (word : X) → Says g k s to word → waiting (g.mode to) ≡ of_bool (g.wants word)) →
    (s to : S) (word : X) → g.mode s ≡ going → Says g (suc k) s to word → (o : Option X) → (g.step s).said ≡ o → waiting (g.mode to) ≡ of_bool (g.wants word)
waits_behind g fair k more s to word mode says None is = more (g.step s).slave to word (silent g k s to word mode is says)
waits_behind g fair zero more s to word mode (e, quiet) (Some y) is =
    let same = sym (said_once g s (Some y) mode is) ∙ e in
    ap (λ s. waiting (g.mode s)) (sym (ap (λ a. a.slave) same)) ∙ fair.steps s mode ∙ ap (asks g.wants) is ∙ ap (λ y. of_bool (g.wants y)) (ap (first y) (ap (λ a. a.said) same))
waits_behind g fair (suc k) more s to word mode (e, quiet) (Some y) is =
    absurd (cons_not_nil y [] (sym (ap (λ a. a.said) (said_once g s (Some y) mode is)) ∙ quiet 1 (omega arith)))

pub says_waits : {S M X R E Q : Type 0} (g : Sides S M X R E Q) → AreFair g → (k : ℕ) (s to : S) (word : X) → Says g k s to word → waiting (g.mode to) ≡ of_bool (g.wants word)
says_waits g fair zero s to word (e, quiet) = absurd (cons_not_nil word [] (sym (ap (λ a. a.said) e)))
says_waits g fair (suc k) s to word says = waits_behind g fair k (says_waits g fair k) s to word (goes g k s (ap (λ a. a.made) says.0)) says (g.step s).said refl
