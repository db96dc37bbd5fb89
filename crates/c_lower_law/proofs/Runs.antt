-- Parts of runs side by side, one after the other.
use Rattle.std.proofs.Common.{◌≡◌, ◌∙◌, refl, ap, sym, subst, Option, List, [], ◌∷◌, ◌++◌, Result, Ok, Err}
use Rattle.pt_base.specs.declared.span.Span.{Span}
use Rattle.pt_base.specs.declared.trap.Trap.{Trap}
use Rattle.runs.specs.State as r
use Rattle.runs.specs.State.{gives, trapped, spent, ◌>>=◌}
use Rattle.block_memory.specs.declared.cell.Cell as core
use Rattle.block_memory.specs.Blocks.{Blocks}
use Rattle.source_meaning.specs.State.{State, Outcome}
use Rattle.pt_core.specs.CodeTree.{StmtTree, stmt_trees}
use Rattle.pt_core.specs.Values.{Stop, ◌>>?◌}
use Rattle.pt_core.specs.Statements as c
use Rattle.pt_core.specs.Statements.{Flow, goes_on, broke, continues, returned, after_flow, evaluated, does, do_all}
use Rattle.c_lower_law.proofs.Relations.{Scene, frame_of, SameSeen, Same}
use Rattle.c_lower_law.proofs.Expressions.{run_all, asked, SameAsked}

abbrev pub pair : {A B : Type 0} → A → B → A × B
pair a b = (a, b)

-- ---- equations

pub bind_bind : {M A B D : Type 0} (o : r.Outcome M A) (f : A → r.State M → r.Outcome M B) (g : B → r.State M → r.Outcome M D) → ((o >>= f) >>= g) ≡ (o >>= λ a st. f a st >>= g)
bind_bind (gives a st) f g = refl
bind_bind (trapped trap span st) f g = refl
bind_bind (spent st) f g = refl

pub bind_gives : {M A : Type 0} (o : r.Outcome M A) → (o >>= λ a st. gives a st) ≡ o
bind_gives (gives a st) = refl
bind_gives (trapped trap span st) = refl
bind_gives (spent st) = refl

bind_flow : (o : c.Outcome Flow) (f g : c.State → c.Outcome Flow) → ((o >>= after_flow f) >>= after_flow g) ≡ (o >>= after_flow (λ st. f st >>= after_flow g))
bind_flow (gives goes_on st) f g = refl
bind_flow (gives broke st) f g = refl
bind_flow (gives continues st) f g = refl
bind_flow (gives (returned v) st) f g = refl
bind_flow (trapped trap span st) f g = refl
bind_flow (spent st) f g = refl

-- of two continuations that are equal everywhere
bind_equal : (o : c.Outcome Flow) (f g : c.State → c.Outcome Flow) → ((st : c.State) → f st ≡ g st) → (o >>= after_flow f) ≡ (o >>= after_flow g)
bind_equal (gives goes_on st) f g e = e st
bind_equal (gives broke st) f g e = refl
bind_equal (gives continues st) f g e = refl
bind_equal (gives (returned v) st) f g e = refl
bind_equal (trapped trap span st) f g e = refl
bind_equal (spent st) f g e = refl

-- statements behind statements
pub run_append : (s : Scene) (xs ys : List StmtTree) (st : c.State) → run_all s (xs ++ ys) st ≡ (run_all s xs st >>= after_flow (run_all s ys))
run_append s [] ys st = refl
run_append s (x ∷ xs) ys st =
    bind_equal (does x (frame_of s) s.core_calls st) (run_all s (xs ++ ys)) (λ st1. run_all s xs st1 >>= after_flow (run_all s ys)) (run_append s xs ys)
    ∙ sym (bind_flow (does x (frame_of s) s.core_calls st) (run_all s xs) (run_all s ys))

-- ---- what comes to the same

-- by what the second comes to
pub ok_then : {A B X : Type 0} (Q : A → State → X → c.State → Type 0) (P : Outcome B → Type 0) (o : Outcome A) (k : A → State → Outcome B) (x : X) (st' : c.State) →
    Same Q o (gives x st') → ((a : A) (st : State) → Q a st x st' → P (k a st)) → P (o >>= k)
ok_then Q P (gives a st) k x st' q on = on a st q
ok_then Q P (trapped trap span st) k x st' q on = absurd q
ok_then Q P (spent st) k x st' q on = absurd q

pub err_then : {A B X : Type 0} (Q : A → State → X → c.State → Type 0) (R : B → State → X → c.State → Type 0) (o : Outcome A) (k : A → State → Outcome B) (trap : Trap) (span : Span) (st' : c.State) →
    Same Q o (trapped trap span st') → Same R (o >>= k) (trapped trap span st')
err_then Q R (gives a st) k trap span st' q = absurd q
err_then Q R (trapped trap1 span1 st) k trap span st' q = q
err_then Q R (spent st) k trap span st' q = absurd q

pub spent_then : {A B X : Type 0} (Q : A → State → X → c.State → Type 0) (R : B → State → X → c.State → Type 0) (o : Outcome A) (k : A → State → Outcome B) (st' : c.State) →
    Same Q o (spent st') → Same R (o >>= k) (spent st')
spent_then Q R (gives a st) k st' q = absurd q
spent_then Q R (trapped trap span st) k st' q = absurd q
spent_then Q R (spent st) k st' q = q

-- the type of what is given doesn't matter where nothing is
pub err_as : {A B X Y : Type 0} (Q : A → State → X → c.State → Type 0) (R : B → State → Y → c.State → Type 0) (o : Outcome A) (k : A → State → Outcome B) (trap : Trap) (span : Span) (st' : c.State) →
    Same Q o (trapped trap span st') → Same R (o >>= k) (trapped trap span st')
err_as Q R (gives a st) k trap span st' q = absurd q
err_as Q R (trapped trap1 span1 st) k trap span st' q = q
err_as Q R (spent st) k trap span st' q = absurd q

pub spent_as : {A B X Y : Type 0} (Q : A → State → X → c.State → Type 0) (R : B → State → Y → c.State → Type 0) (o : Outcome A) (k : A → State → Outcome B) (st' : c.State) →
    Same Q o (spent st') → Same R (o >>= k) (spent st')
spent_as Q R (gives a st) k st' q = absurd q
spent_as Q R (trapped trap span st) k st' q = absurd q
spent_as Q R (spent st) k st' q = q

-- one after the other
pub same_bind : {A B X Y : Type 0} (Q : A → State → X → c.State → Type 0) (R : B → State → Y → c.State → Type 0) (o : Outcome A) (o' : c.Outcome X) (k : A → State → Outcome B) (k' : X → c.State → c.Outcome Y) →
    Same Q o o' → ((a : A) (st : State) (x : X) (st' : c.State) → Q a st x st' → Same R (k a st) (k' x st')) → Same R (o >>= k) (o' >>= k')
same_bind Q R o (gives x st') k k' q on = ok_then Q (λ z. Same R z (k' x st')) o k x st' q (λ a st h. on a st x st' h)
same_bind Q R o (trapped trap span st') k k' q on = err_as Q R o k trap span st' q
same_bind Q R o (spent st') k k' q on = spent_as Q R o k st' q

-- what is known of the same parts is less
pub same_weaken : {A X : Type 0} (Q R : A → State → X → c.State → Type 0) (o : Outcome A) (o' : c.Outcome X) → Same Q o o' → ((a : A) (st : State) (x : X) (st' : c.State) → Q a st x st' → R a st x st') → Same R o o'
same_weaken Q R (gives a st) (gives x st') q on = on a st x st' q
same_weaken Q R (gives a st) (trapped trap span st') q on = q
same_weaken Q R (gives a st) (spent st') q on = q
same_weaken Q R (trapped trap span st) (gives x st') q on = q
same_weaken Q R (trapped trap span st) (trapped trap' span' st') q on = q
same_weaken Q R (trapped trap span st) (spent st') q on = q
same_weaken Q R (spent st) (gives x st') q on = q
same_weaken Q R (spent st) (trapped trap span st') q on = q
same_weaken Q R (spent st) (spent st') q on = q

-- ---- what ends where something was to be evaluated

-- it ends in this trap, and nothing more was seen
abbrev pub Stops : {A : Type 0} → Stop → c.State → c.Outcome A → Type 0
Stops stop st (gives a st1) = ⊥
Stops stop st (trapped trap span st1) = (trap ≡ stop.trap) × (span ≡ stop.span) × (st1.events ≡ st.events) × (st1.left ≡ st.left)
Stops stop st (spent st1) = ⊥

pub stops_at : {A : Type 0} (stop : Stop) (st : c.State) (o : c.Outcome A) → o ≡ trapped stop.trap stop.span st → Stops stop st o
stops_at stop st o e = subst (λ z. Stops stop st z) (sym e) (refl, refl, refl, refl)

-- the source traps, and the normal form stops there
pub stops_same : {A X : Type 0} (Q : A → State → X → c.State → Type 0) (trap : Trap) (span : Span) (st : State) (st' : c.State) (o : c.Outcome X) → SameSeen st st' → Stops (record { trap = trap; span = span }) st' o → Same Q (trapped trap span st) o
stops_same Q trap span st st' (gives x st1) seen h = absurd h
stops_same Q trap span st st' (trapped trap1 span1 st1) seen h = (h.0, h.1, record { events = h.2 ∙ seen.events; left = h.3 ∙ seen.left })
stops_same Q trap span st st' (spent st1) seen h = absurd h

pub stops_same_asked : {A X : Type 0} (P : Blocks → Type 0) (Q : A → State → X → c.State → Type 0) (ask : Blocks → Result X Stop) (trap : Trap) (span : Span) (st : State) (st' : c.State) (o : c.Outcome Flow) → SameSeen st st' → Stops (record { trap = trap; span = span }) st' o → SameAsked P Q ask (trapped trap span st) o
stops_same_asked P Q ask trap span st st' (gives x st1) seen h = absurd h
stops_same_asked P Q ask trap span st st' (trapped trap1 span1 st1) seen h = (h.0, h.1, record { events = h.2 ∙ seen.events; left = h.3 ∙ seen.left })
stops_same_asked P Q ask trap span st st' (spent st1) seen h = absurd h

stopped : {A B X Y : Type 0} (Q : A → State → X → c.State → Type 0) (R : B → State → Y → c.State → Type 0) (o : Outcome A) (k : A → State → Outcome B) (stop : Stop) (st' : c.State) (o' : c.Outcome Y) →
    Same Q o (trapped stop.trap stop.span st') → Stops stop st' o' → Same R (o >>= k) o'
stopped Q R (gives a st) k stop st' o' q h = absurd q
stopped Q R (trapped trap span st) k stop st' (gives y st1) q h = absurd h
stopped Q R (trapped trap span st) k stop st' (trapped trap1 span1 st1) q h = (h.0 ∙ q.0, h.1 ∙ q.1, record { events = h.2 ∙ q.2.events; left = h.3 ∙ q.2.left })
stopped Q R (trapped trap span st) k stop st' (spent st1) q h = absurd h
stopped Q R (spent st) k stop st' o' q h = absurd q

stopped_asked : {A B X Y : Type 0} (P : Blocks → Type 0) (Q : A → State → X → c.State → Type 0) (R : B → State → Y → c.State → Type 0) (ask : Blocks → Result Y Stop) (o : Outcome A) (k : A → State → Outcome B) (stop : Stop) (st' : c.State) (o' : c.Outcome Flow) →
    Same Q o (trapped stop.trap stop.span st') → Stops stop st' o' → SameAsked P R ask (o >>= k) o'
stopped_asked P Q R ask o k stop st' (gives y st1) q h = absurd h
stopped_asked P Q R ask (gives a st) k stop st' (trapped trap1 span1 st1) q h = absurd q
stopped_asked P Q R ask (trapped trap span st) k stop st' (trapped trap1 span1 st1) q h = (h.0 ∙ q.0, h.1 ∙ q.1, record { events = h.2 ∙ q.2.events; left = h.3 ∙ q.2.left })
stopped_asked P Q R ask (spent st) k stop st' (trapped trap1 span1 st1) q h = absurd q
stopped_asked P Q R ask o k stop st' (spent st1) q h = absurd h

-- ---- something is evaluated, and statements follow

no_break : {X : Type 0} → broke ≡ goes_on → X
no_break e = cc

no_continue : {X : Type 0} → continues ≡ goes_on → X
no_continue e = cc

no_return : {X : Type 0} (v : Option core.Cell) → returned v ≡ goes_on → X
no_return v e = cc

-- a run of statements
pub asked_run : {A B X : Type 0} (P : Blocks → Type 0) (Q : A → State → X → c.State → Type 0) (R : B → State → Flow → c.State → Type 0) (ask : Blocks → Result X Stop) (o : Outcome A) (o' : c.Outcome Flow) (k : A → State → Outcome B) (k' : c.State → c.Outcome Flow) →
    SameAsked P Q ask o o' → ((stop : Stop) (st' : c.State) → P st'.memory → ask st'.memory ≡ Err stop → Stops stop st' (k' st')) →
    ((a : A) (st : State) (x : X) (st' : c.State) → Q a st x st' → ask st'.memory ≡ Ok x → Same R (k a st) (k' st')) → Same R (o >>= k) (o' >>= after_flow k')
asked_run {A} {B} {X} P Q R ask o (gives goes_on st') k k' h strict on = go (ask st'.memory) refl h.2
  where
    go : (z : Result X Stop) → ask st'.memory ≡ z → Same Q o (evaluated z st' (λ b. gives b)) → Same R (o >>= k) (k' st')
    go (Ok x) e q = ok_then Q (λ z. Same R z (k' st')) o k x st' q (λ a st h1. on a st x st' h1 e)
    go (Err stop) e q = stopped Q R o k stop st' (k' st') q (strict stop st' h.1 e)
asked_run P Q R ask o (gives broke st') k k' h strict on = no_break h.0
asked_run P Q R ask o (gives continues st') k k' h strict on = no_continue h.0
asked_run P Q R ask o (gives (returned v) st') k k' h strict on = no_return v h.0
asked_run P Q R ask o (trapped trap span st') k k' h strict on = err_as Q R o k trap span st' h
asked_run P Q R ask o (spent st') k k' h strict on = spent_as Q R o k st' h

-- statements, behind which something else is evaluated
pub asked_asked : {A B X Y : Type 0} (P P1 : Blocks → Type 0) (Q : A → State → X → c.State → Type 0) (R : B → State → Y → c.State → Type 0) (ask : Blocks → Result X Stop) (ask1 : Blocks → Result Y Stop) (o : Outcome A) (o' : c.Outcome Flow) (k : A → State → Outcome B) (k' : c.State → c.Outcome Flow) →
    SameAsked P Q ask o o' → ((stop : Stop) (st' : c.State) → P st'.memory → ask st'.memory ≡ Err stop → Stops stop st' (k' st')) →
    ((a : A) (st : State) (x : X) (st' : c.State) → Q a st x st' → ask st'.memory ≡ Ok x → SameAsked P1 R ask1 (k a st) (k' st')) → SameAsked P1 R ask1 (o >>= k) (o' >>= after_flow k')
asked_asked {A} {B} {X} {Y} P P1 Q R ask ask1 o (gives goes_on st') k k' h strict on = go (ask st'.memory) refl h.2
  where
    go : (z : Result X Stop) → ask st'.memory ≡ z → Same Q o (evaluated z st' (λ b. gives b)) → SameAsked P1 R ask1 (o >>= k) (k' st')
    go (Ok x) e q = ok_then Q (λ z. SameAsked P1 R ask1 z (k' st')) o k x st' q (λ a st h1. on a st x st' h1 e)
    go (Err stop) e q = stopped_asked P1 Q R ask1 o k stop st' (k' st') q (strict stop st' h.1 e)
asked_asked P P1 Q R ask ask1 o (gives broke st') k k' h strict on = no_break h.0
asked_asked P P1 Q R ask ask1 o (gives continues st') k k' h strict on = no_continue h.0
asked_asked P P1 Q R ask ask1 o (gives (returned v) st') k k' h strict on = no_return v h.0
asked_asked P P1 Q R ask ask1 o (trapped trap span st') k k' h strict on = err_as Q R o k trap span st' h
asked_asked P P1 Q R ask ask1 o (spent st') k k' h strict on = spent_as Q R o k st' h

-- no statements, and something else is evaluated
pub asked_else : {A B X Y : Type 0} (P P1 : Blocks → Type 0) (Q : A → State → X → c.State → Type 0) (R : B → State → Y → c.State → Type 0) (ask : Blocks → Result X Stop) (ask1 : Blocks → Result Y Stop) (o : Outcome A) (o' : c.Outcome Flow) (k : A → State → Outcome B) →
    SameAsked P Q ask o o' → ((blocks : Blocks) → P blocks → P1 blocks) → ((stop : Stop) (blocks : Blocks) → P blocks → ask blocks ≡ Err stop → ask1 blocks ≡ Err stop) →
    ((a : A) (st : State) (x : X) (st' : c.State) → Q a st x st' → ask st'.memory ≡ Ok x → Same R (k a st) (asked ask1 st')) → SameAsked P1 R ask1 (o >>= k) o'
asked_else {A} {B} {X} {Y} P P1 Q R ask ask1 o (gives flow st') k h up strict on = (h.0, up st'.memory h.1, go (ask st'.memory) refl h.2)
  where
    go : (z : Result X Stop) → ask st'.memory ≡ z → Same Q o (evaluated z st' (λ b. gives b)) → Same R (o >>= k) (asked ask1 st')
    go (Ok x) e q = ok_then Q (λ z. Same R z (asked ask1 st')) o k x st' q (λ a st h1. on a st x st' h1 e)
    go (Err stop) e q = stopped Q R o k stop st' (asked ask1 st') q (stops_at stop st' (asked ask1 st') (ap (λ z. evaluated z st' (λ b. gives b)) (strict stop st'.memory h.1 e)))
asked_else P P1 Q R ask ask1 o (trapped trap span st') k h up strict on = err_as Q R o k trap span st' h
asked_else P P1 Q R ask ask1 o (spent st') k h up strict on = spent_as Q R o k st' h

-- ---- statements, and more statements

-- after statements that go on
pub ran_run : {A B : Type 0} (Q : A → State → Flow → c.State → Type 0) (R : B → State → Flow → c.State → Type 0) (o : Outcome A) (o' : c.Outcome Flow) (k : A → State → Outcome B) (k' : c.State → c.Outcome Flow) →
    Same Q o o' → ((a : A) (st : State) (flow : Flow) (st' : c.State) → Q a st flow st' → flow ≡ goes_on) →
    ((a : A) (st : State) (st' : c.State) → Q a st goes_on st' → Same R (k a st) (k' st')) → Same R (o >>= k) (o' >>= after_flow k')
ran_run {A} {B} Q R o (gives flow st') k k' h goes on = ok_then Q (λ z. Same R z (after_flow k' flow st')) o k flow st' h (λ a st q. go flow (goes a st flow st' q) a st q)
  where
    go : (flow : Flow) → flow ≡ goes_on → (a : A) (st : State) → Q a st flow st' → Same R (k a st) (after_flow k' flow st')
    go goes_on e a st q = on a st st' q
    go broke e a st q = no_break e
    go continues e a st q = no_continue e
    go (returned v) e a st q = no_return v e
ran_run {A} {B} Q R o (trapped trap span st') k k' h goes on = err_as Q R o k trap span st' h
ran_run {A} {B} Q R o (spent st') k k' h goes on = spent_as Q R o k st' h

-- and behind them something is evaluated
pub ran_asked : {A B X : Type 0} (P : Blocks → Type 0) (Q : A → State → Flow → c.State → Type 0) (R : B → State → X → c.State → Type 0) (ask : Blocks → Result X Stop) (o : Outcome A) (o' : c.Outcome Flow) (k : A → State → Outcome B) (k' : c.State → c.Outcome Flow) →
    Same Q o o' → ((a : A) (st : State) (flow : Flow) (st' : c.State) → Q a st flow st' → flow ≡ goes_on) →
    ((a : A) (st : State) (st' : c.State) → Q a st goes_on st' → SameAsked P R ask (k a st) (k' st')) → SameAsked P R ask (o >>= k) (o' >>= after_flow k')
ran_asked {A} {B} {X} P Q R ask o (gives flow st') k k' h goes on = ok_then Q (λ z. SameAsked P R ask z (after_flow k' flow st')) o k flow st' h (λ a st q. go flow (goes a st flow st' q) a st q)
  where
    go : (flow : Flow) → flow ≡ goes_on → (a : A) (st : State) → Q a st flow st' → SameAsked P R ask (k a st) (after_flow k' flow st')
    go goes_on e a st q = on a st st' q
    go broke e a st q = no_break e
    go continues e a st q = no_continue e
    go (returned v) e a st q = no_return v e
ran_asked P Q R ask o (trapped trap span st') k k' h goes on = err_as Q R o k trap span st' h
ran_asked P Q R ask o (spent st') k k' h goes on = spent_as Q R o k st' h
