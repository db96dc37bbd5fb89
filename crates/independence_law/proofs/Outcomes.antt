-- What is so of parts of runs, where they give something: in one run, and in two.
use Rattle.std.proofs.Common.{◌≡◌, ℕ, zero, suc, subst, Option, Result, Ok, Err, IfOk}
use Rattle.runs.specs.State.{gives, trapped, spent, ◌>>=◌, take_turn}
use Rattle.pt_base.specs.declared.span.Span.{Span}
use Rattle.pt_base.specs.declared.trap.Trap.{Trap}
use Rattle.block_memory.specs.declared.cell.Cell.{Cell}
use Rattle.pt_core.specs.Values.{Stop}
use Rattle.pt_core.specs.Statements.{State, Outcome, Flow, goes_on, broke, continues, returned, after_flow, after_round, evaluated, looped}

-- ---- one run

abbrev pub Leaves : {A : Type 0} → (A → State → Type 0) → Outcome A → Type 0
Leaves P (gives a st) = P a st
Leaves P (trapped trap s st) = Unit {0}
Leaves P (spent st) = Unit {0}

pub leaves_then : {A B : Type 0} (P : A → State → Type 0) (Q : B → State → Type 0) (o : Outcome A) (next : A → State → Outcome B) → Leaves P o → ((a : A) (st : State) → P a st → Leaves Q (next a st)) → Leaves Q (o >>= next)
leaves_then P Q (gives a st) next h k = k a st h
leaves_then P Q (trapped trap s st) next h k = tt {0}
leaves_then P Q (spent st) next h k = tt {0}

pub leaves_evaluated : {A B : Type 0} (P : A → Type 0) (Q : B → State → Type 0) (r : Result A Stop) (st : State) (next : A → State → Outcome B) → IfOk r P → ((a : A) → P a → Leaves Q (next a st)) → Leaves Q (evaluated r st next)
leaves_evaluated P Q (Ok a) st next h k = k a h
leaves_evaluated P Q (Err stop) st next h k = tt {0}

pub leaves_weaken : {A : Type 0} (P Q : A → State → Type 0) (o : Outcome A) → Leaves P o → ((a : A) (st : State) → P a st → Q a st) → Leaves Q o
leaves_weaken P Q (gives a st) h k = k a st h
leaves_weaken P Q (trapped trap s st) h k = tt {0}
leaves_weaken P Q (spent st) h k = tt {0}

-- with a turn less
pub leaves_turn : {A : Type 0} (Q : A → State → Type 0) (left : ℕ) (st : State) (next : State → Outcome A) → ((n : ℕ) → Leaves Q (next (record st { left = n }))) → Leaves Q (take_turn left st next)
leaves_turn Q zero st next k = tt {0}
leaves_turn Q (suc left) st next k = k left

-- what a part gave
pub given : {A : Type 0} (P : A → State → Type 0) (o : Outcome A) (a : A) (st : State) → Leaves P o → o ≡ gives a st → P a st
given P (gives b st') a st h is = let same : gives b st' ≡ gives a st = is in subst (Leaves P) same h
given P (trapped trap s st') a st h is = cc
given P (spent st') a st h is = cc

-- ---- a loop

-- what holds of a state holds with another number of turns
abbrev pub IgnoresTurns : (State → Type 0) → Type 0
IgnoresTurns I = (st : State) (n : ℕ) → I st → I (record st { left = n })

pub record Turned (I : State → Type 0) (G : Flow → Type 0) (flow : Flow) (st : State) : Type 0 where
  pub holds : I st
  pub flows : G flow

after_turn : (I : State → Type 0) (G : Flow → Type 0) (more : State → Outcome Flow) → G goes_on → ((st : State) → I st → Leaves (Turned I G) (more st)) → (flow : Flow) (st : State) → Turned I G flow st → Leaves (Turned I G) (after_round more flow st)
after_turn I G more on each goes_on st t = each st t.holds
after_turn I G more on each continues st t = each st t.holds
after_turn I G more on each broke st t = record { holds = t.holds; flows = on }
after_turn I G more on each (returned v) st t = record { holds = t.holds; flows = t.flows }

pub loop_leaves : (I : State → Type 0) (G : Flow → Type 0) (round : State → Outcome Flow) → IgnoresTurns I → G goes_on → ((st : State) → I st → Leaves (Turned I G) (round st)) → (n : ℕ) (st : State) → I st → Leaves (Turned I G) (looped n round st)
loop_leaves I G round free on each zero st h = tt {0}
loop_leaves I G round free on each (suc n) st h =
    leaves_turn (Turned I G) st.left st (λ st1. round st1 >>= after_round (looped n round))
    (λ left. leaves_then (Turned I G) (Turned I G) (round (record st { left = left })) (after_round (looped n round)) (each (record st { left = left }) (free st left h))
    (after_turn I G (looped n round) on (λ st1 h1. loop_leaves I G round free on each n st1 h1)))

-- ---- two runs

abbrev pub BothOk : {A : Type 0} → (A → A → Type 0) → Result A Stop → Result A Stop → Type 0
BothOk R (Ok a) (Ok b) = R a b
BothOk R (Ok a) (Err stop) = Unit {0}
BothOk R (Err stop) r = Unit {0}

abbrev pub BothLeave : {A : Type 0} → (A → State → A → State → Type 0) → Outcome A → Outcome A → Type 0
BothLeave R (gives a st) (gives b st') = R a st b st'
BothLeave R (gives a st) (trapped trap s st') = Unit {0}
BothLeave R (gives a st) (spent st') = Unit {0}
BothLeave R (trapped trap s st) o = Unit {0}
BothLeave R (spent st) o = Unit {0}

none_trapped : {A : Type 0} (R : A → State → A → State → Type 0) (o : Outcome A) (trap : Trap) (s : Span) (st : State) → BothLeave R o (trapped trap s st)
none_trapped R (gives a st') trap s st = tt {0}
none_trapped R (trapped trap' s' st') trap s st = tt {0}
none_trapped R (spent st') trap s st = tt {0}

none_spent : {A : Type 0} (R : A → State → A → State → Type 0) (o : Outcome A) (st : State) → BothLeave R o (spent st)
none_spent R (gives a st') st = tt {0}
none_spent R (trapped trap' s' st') st = tt {0}
none_spent R (spent st') st = tt {0}

pub both_then : {A B : Type 0} (P P' : A → State → Type 0) (R : A → State → A → State → Type 0) (S : B → State → B → State → Type 0) (o o' : Outcome A) (next next' : A → State → Outcome B) →
    Leaves P o → Leaves P' o' → BothLeave R o o' → ((a : A) (st : State) (b : A) (st' : State) → P a st → P' b st' → R a st b st' → BothLeave S (next a st) (next' b st')) → BothLeave S (o >>= next) (o' >>= next')
both_then P P' R S (gives a st) (gives b st') next next' h h' r k = k a st b st' h h' r
both_then P P' R S (gives a st) (trapped trap s st') next next' h h' r k = none_trapped S (next a st) trap s st'
both_then P P' R S (gives a st) (spent st') next next' h h' r k = none_spent S (next a st) st'
both_then P P' R S (trapped trap s st) o' next next' h h' r k = tt {0}
both_then P P' R S (spent st) o' next next' h h' r k = tt {0}

pub both_evaluated : {A B : Type 0} (R : A → A → Type 0) (S : B → State → B → State → Type 0) (r r' : Result A Stop) (st st' : State) (next next' : A → State → Outcome B) → BothOk R r r' → ((a b : A) → R a b → BothLeave S (next a st) (next' b st')) →
    BothLeave S (evaluated r st next) (evaluated r' st' next')
both_evaluated R S (Ok a) (Ok b) st st' next next' h k = k a b h
both_evaluated R S (Ok a) (Err stop) st st' next next' h k = none_trapped S (next a st) stop.trap stop.span st'
both_evaluated R S (Err stop) r' st st' next next' h k = tt {0}

pub both_turns : {A : Type 0} (S : A → State → A → State → Type 0) (left left' : ℕ) (st st' : State) (next next' : State → Outcome A) → ((n m : ℕ) → BothLeave S (next (record st { left = n })) (next' (record st' { left = m }))) →
    BothLeave S (take_turn left st next) (take_turn left' st' next')
both_turns S zero left' st st' next next' k = tt {0}
both_turns S (suc left) zero st st' next next' k = none_spent S (next (record st { left = left })) st'
both_turns S (suc left) (suc left') st st' next next' k = k left left'

pub both_given : {A : Type 0} (R : A → State → A → State → Type 0) (o o' : Outcome A) (a b : A) (st st' : State) → BothLeave R o o' → o ≡ gives a st → o' ≡ gives b st' → R a st b st'
both_given R o o' a b st st' h is is' = subst (λ x. BothLeave R (gives a st) x) is' (subst (λ x. BothLeave R x o') is h)

-- ---- the same result

pub same_ok : {A : Type 0} (r r' : Result A Stop) → r ≡ r' → BothOk (λ (a : A) (b : A). a ≡ b) r r'
same_ok (Ok a) (Ok b) h = cc
same_ok (Ok a) (Err stop) h = tt {0}
same_ok (Err stop) r' h = tt {0}

pub both_weaken : {A : Type 0} (R S : A → State → A → State → Type 0) (o o' : Outcome A) → BothLeave R o o' → ((a : A) (st : State) (b : A) (st' : State) → R a st b st' → S a st b st') → BothLeave S o o'
both_weaken R S (gives a st) (gives b st') h k = k a st b st' h
both_weaken R S (gives a st) (trapped trap s st') h k = tt {0}
both_weaken R S (gives a st) (spent st') h k = tt {0}
both_weaken R S (trapped trap s st) o' h k = tt {0}
both_weaken R S (spent st) o' h k = tt {0}

-- ---- two loops

-- how both go on: in the same way
pub record BothTurned (A : State → State → Type 0) (F : Flow → Flow → Type 0) (flow : Flow) (st : State) (flow' : Flow) (st' : State) : Type 0 where
  pub alike : A st st'
  pub flows : F flow flow'

-- ways to go on that are the same, where what is given may be compared
abbrev pub SameFlow : (Option Cell → Option Cell → Type 0) → Flow → Flow → Type 0
SameFlow V goes_on goes_on = Unit {0}
SameFlow V goes_on broke = ⊥
SameFlow V goes_on continues = ⊥
SameFlow V goes_on (returned v) = ⊥
SameFlow V broke goes_on = ⊥
SameFlow V broke broke = Unit {0}
SameFlow V broke continues = ⊥
SameFlow V broke (returned v) = ⊥
SameFlow V continues goes_on = ⊥
SameFlow V continues broke = ⊥
SameFlow V continues continues = Unit {0}
SameFlow V continues (returned v) = ⊥
SameFlow V (returned v) goes_on = ⊥
SameFlow V (returned v) broke = ⊥
SameFlow V (returned v) continues = ⊥
SameFlow V (returned v) (returned u) = V v u

-- what both do after the same way to go on
pub same_after : (I I' : State → Type 0) (A : State → State → Type 0) (V : Option Cell → Option Cell → Type 0) (rest rest' : State → Outcome Flow) →
    ((st st' : State) → I st → I' st' → A st st' → BothLeave (BothTurned A (SameFlow V)) (rest st) (rest' st')) →
    (flow flow' : Flow) (st st' : State) → I st → I' st' → A st st' → SameFlow V flow flow' → BothLeave (BothTurned A (SameFlow V)) (after_flow rest flow st) (after_flow rest' flow' st')
same_after I I' A V rest rest' on goes_on goes_on st st' i i' a h = on st st' i i' a
same_after I I' A V rest rest' on goes_on broke st st' i i' a h = elim h [ ]
same_after I I' A V rest rest' on goes_on continues st st' i i' a h = elim h [ ]
same_after I I' A V rest rest' on goes_on (returned u) st st' i i' a h = elim h [ ]
same_after I I' A V rest rest' on broke goes_on st st' i i' a h = elim h [ ]
same_after I I' A V rest rest' on broke broke st st' i i' a h = record { alike = a; flows = h }
same_after I I' A V rest rest' on broke continues st st' i i' a h = elim h [ ]
same_after I I' A V rest rest' on broke (returned u) st st' i i' a h = elim h [ ]
same_after I I' A V rest rest' on continues goes_on st st' i i' a h = elim h [ ]
same_after I I' A V rest rest' on continues broke st st' i i' a h = elim h [ ]
same_after I I' A V rest rest' on continues continues st st' i i' a h = record { alike = a; flows = h }
same_after I I' A V rest rest' on continues (returned u) st st' i i' a h = elim h [ ]
same_after I I' A V rest rest' on (returned v) goes_on st st' i i' a h = elim h [ ]
same_after I I' A V rest rest' on (returned v) broke st st' i i' a h = elim h [ ]
same_after I I' A V rest rest' on (returned v) continues st st' i i' a h = elim h [ ]
same_after I I' A V rest rest' on (returned v) (returned u) st st' i i' a h = record { alike = a; flows = h }

-- after the same way out of a round
same_round : (I I' : State → Type 0) (A : State → State → Type 0) (V : Option Cell → Option Cell → Type 0) (more more' : State → Outcome Flow) →
    ((st st' : State) → I st → I' st' → A st st' → BothLeave (BothTurned A (SameFlow V)) (more st) (more' st')) →
    (flow flow' : Flow) (st st' : State) → I st → I' st' → A st st' → SameFlow V flow flow' → BothLeave (BothTurned A (SameFlow V)) (after_round more flow st) (after_round more' flow' st')
same_round I I' A V more more' on goes_on goes_on st st' i i' a h = on st st' i i' a
same_round I I' A V more more' on goes_on broke st st' i i' a h = elim h [ ]
same_round I I' A V more more' on goes_on continues st st' i i' a h = elim h [ ]
same_round I I' A V more more' on goes_on (returned u) st st' i i' a h = elim h [ ]
same_round I I' A V more more' on broke goes_on st st' i i' a h = elim h [ ]
same_round I I' A V more more' on broke broke st st' i i' a h = record { alike = a; flows = tt {0} }
same_round I I' A V more more' on broke continues st st' i i' a h = elim h [ ]
same_round I I' A V more more' on broke (returned u) st st' i i' a h = elim h [ ]
same_round I I' A V more more' on continues goes_on st st' i i' a h = elim h [ ]
same_round I I' A V more more' on continues broke st st' i i' a h = elim h [ ]
same_round I I' A V more more' on continues continues st st' i i' a h = on st st' i i' a
same_round I I' A V more more' on continues (returned u) st st' i i' a h = elim h [ ]
same_round I I' A V more more' on (returned v) goes_on st st' i i' a h = elim h [ ]
same_round I I' A V more more' on (returned v) broke st st' i i' a h = elim h [ ]
same_round I I' A V more more' on (returned v) continues st st' i i' a h = elim h [ ]
same_round I I' A V more more' on (returned v) (returned u) st st' i i' a h = record { alike = a; flows = h }

-- Rounds that both keep what holds of their states, and that are alike, make loops that are, whatever the turns of each.
pub both_loops : (I I' : State → Type 0) (G G' : Flow → Type 0) (A : State → State → Type 0) (V : Option Cell → Option Cell → Type 0) (round round' : State → Outcome Flow) → IgnoresTurns I → IgnoresTurns I' →
    ((st st' : State) (n m : ℕ) → A st st' → A (record st { left = n }) (record st' { left = m })) →
    ((st : State) → I st → Leaves (Turned I G) (round st)) → ((st : State) → I' st → Leaves (Turned I' G') (round' st)) →
    ((st st' : State) → I st → I' st' → A st st' → BothLeave (BothTurned A (SameFlow V)) (round st) (round' st')) →
    (n m : ℕ) (st st' : State) → I st → I' st' → A st st' → BothLeave (BothTurned A (SameFlow V)) (looped n round st) (looped m round' st')
both_loops I I' G G' A V round round' free free' turns each each' both zero m st st' h h' a = tt {0}
both_loops I I' G G' A V round round' free free' turns each each' both (suc n) zero st st' h h' a = none_spent (BothTurned A (SameFlow V)) (looped (suc n) round st) st'
both_loops I I' G G' A V round round' free free' turns each each' both (suc n) (suc m) st st' h h' a =
    both_turns (BothTurned A (SameFlow V)) st.left st'.left st st' (λ st1. round st1 >>= after_round (looped n round)) (λ st1. round' st1 >>= after_round (looped m round'))
    (λ x y. both_then (Turned I G) (Turned I' G') (BothTurned A (SameFlow V)) (BothTurned A (SameFlow V)) (round (record st { left = x })) (round' (record st' { left = y })) (after_round (looped n round)) (after_round (looped m round'))
    (each (record st { left = x }) (free st x h)) (each' (record st' { left = y }) (free' st' y h')) (both (record st { left = x }) (record st' { left = y }) (free st x h) (free' st' y h') (turns st st' x y a))
    (λ flow st1 flow' st2 t t' b. same_round I I' A V (looped n round) (looped m round') (λ u u' i i' c. both_loops I I' G G' A V round round' free free' turns each each' both n m u u' i i' c) flow flow' st1 st2 t.holds t'.holds b.alike b.flows))
