-- A slave and a monitor: the synchronous pair, and the pair with a queue under a window and the answers of a chooser.
use Rattle.std.specs.Prelude.{◌≡◌, ◌+◌, ℕ, zero, suc, List, [], ◌∷◌, ◌++◌, length, Bool, true, false, ◌&&◌, ◌||◌, nat_lt, Option, Some, None}
use Rattle.pair_protocol.specs.Sides.{Mode, going, waits, over, Served, goes_on, ends, bad, Sides, of_bool}
use Rattle.pair_protocol.specs.SlaveRun.{ready, listed}
use Rattle.pair_protocol.specs.Serving.{Stop, still, ended, broken, All, serve_all}

abbrev pub delivered : {S M X R E Q : Type 0} → Sides S M X R E Q → S → Option R → S
delivered g s None = s
delivered g s (Some r) = g.take r s

-- ---- the synchronous pair: what a step says is served at once, and its reply taken at once

pub data Both (S M E Q : Type 0) : Type 0 where
  run : S → M → List ℕ → Both S M E Q
  done : List ℕ → E → Both S M E Q
  wrong : List ℕ → Q → Both S M E Q

abbrev pub answered : {S M X R E Q : Type 0} → Sides S M X R E Q → S → List ℕ → Served M R E Q → Both S M E Q
answered g s written (goes_on m reply bytes) = run (delivered g s reply) m (written ++ bytes)
answered g s written (ends bytes e) = done (written ++ bytes) e
answered g s written (bad q) = wrong written q

abbrev pub heard : {S M X R E Q : Type 0} → Sides S M X R E Q → S → Option X → M → List ℕ → Both S M E Q
heard g s None m written = run s m written
heard g s (Some x) m written = answered g s written (g.serve m x)

abbrev pub both_in : {S M X R E Q : Type 0} → Sides S M X R E Q → Mode → S → M → List ℕ → Both S M E Q
both_in g going s m written = heard g (g.step s).slave (g.step s).said m written
both_in g waits s m written = run s m written
both_in g over s m written = run s m written

abbrev pub both_step : {S M X R E Q : Type 0} → Sides S M X R E Q → Both S M E Q → Both S M E Q
both_step g (run s m written) = both_in g (g.mode s) s m written
both_step g (done bytes e) = done bytes e
both_step g (wrong bytes q) = wrong bytes q

abbrev pub both_from : {S M X R E Q : Type 0} → Sides S M X R E Q → ℕ → Both S M E Q → Both S M E Q
both_from g zero b = b
both_from g (suc k) b = both_from g k (both_step g b)

abbrev pub both : {S M X R E Q : Type 0} → Sides S M X R E Q → S → M → ℕ → Both S M E Q
both g s m k = both_from g k (run s m [])

-- ---- the pair

pub data Who : Type 0 where
  slaves : Who
  parents : Who

pub record Going (S M X : Type 0) : Type 0 where
  pub slave : S
  pub queue : List X
  pub monitor : M
  pub written : List ℕ

abbrev pub going_with : {S M X : Type 0} → S → List X → M → List ℕ → Going S M X
going_with s queue m written = record { slave = s; queue = queue; monitor = m; written = written }

pub data Pair (S M X E Q : Type 0) : Type 0 where
  goes : Going S M X → Pair S M X E Q
  stops : List ℕ → E → Pair S M X E Q
  breaks : List ℕ → Q → Pair S M X E Q

abbrev pub is_going : Mode → Bool
is_going going = true
is_going waits = false
is_going over = false

abbrev pub is_slaves : Who → Bool
is_slaves slaves = true
is_slaves parents = false

abbrev pub is_empty : {X : Type 0} → List X → Bool
is_empty [] = true
is_empty (x ∷ xs) = false

abbrev pub moves : {S M X R E Q : Type 0} → Sides S M X R E Q → ℕ → Who → S → List X → Bool
moves g window who s queue = (is_going (g.mode s) && nat_lt (length queue) window) && (is_slaves who || is_empty queue)

abbrev pub replied : {S M X R E Q : Type 0} → Sides S M X R E Q → S → List X → List ℕ → Served M R E Q → Pair S M X E Q
replied g s queue written (goes_on m reply bytes) = goes (going_with (delivered g s reply) queue m (written ++ bytes))
replied g s queue written (ends bytes e) = stops (written ++ bytes) e
replied g s queue written (bad q) = breaks written q

abbrev pub monitor_turn : {S M X R E Q : Type 0} → Sides S M X R E Q → S → M → List ℕ → List X → Pair S M X E Q
monitor_turn g s m written [] = goes (going_with s [] m written)
monitor_turn g s m written (x ∷ queue) = replied g s queue written (g.serve m x)

abbrev pub turn : {S M X R E Q : Type 0} → Sides S M X R E Q → Bool → Going S M X → Pair S M X E Q
turn g true p = goes (going_with (g.step p.slave).slave (p.queue ++ listed (g.step p.slave).said) p.monitor p.written)
turn g false p = monitor_turn g p.slave p.monitor p.written p.queue

abbrev pub pair_step : {S M X R E Q : Type 0} → Sides S M X R E Q → ℕ → Who → Pair S M X E Q → Pair S M X E Q
pair_step g window who (goes p) = turn g (moves g window who p.slave p.queue) p
pair_step g window who (stops bytes e) = stops bytes e
pair_step g window who (breaks bytes q) = breaks bytes q

abbrev pub pair_from : {S M X R E Q : Type 0} → Sides S M X R E Q → ℕ → List Who → Pair S M X E Q → Pair S M X E Q
pair_from g window [] p = p
pair_from g window (who ∷ answers) p = pair_from g window answers (pair_step g window who p)

abbrev pub start : {S M X E Q : Type 0} → S → M → Pair S M X E Q
start s m = goes (going_with s [] m [])

abbrev pub pair_steps : {S M X R E Q : Type 0} → Sides S M X R E Q → S → M → ℕ → List Who → Pair S M X E Q
pair_steps g s m window answers = pair_from g window answers (start s m)

-- the steps under these answers reach this end with the last answer and not before
abbrev pub IsWholeFrom : {S M X R E Q : Type 0} → Sides S M X R E Q → ℕ → List Who → Pair S M X E Q → List ℕ → E → Type 0
IsWholeFrom g window [] (goes p) bytes e = ⊥
IsWholeFrom g window [] (stops written e') bytes e = (written ≡ bytes) × (e' ≡ e)
IsWholeFrom g window [] (breaks written q) bytes e = ⊥
IsWholeFrom g window (who ∷ answers) (goes p) bytes e = IsWholeFrom g window answers (pair_step g window who (goes p)) bytes e
IsWholeFrom g window (who ∷ answers) (stops written e') bytes e = ⊥
IsWholeFrom g window (who ∷ answers) (breaks written q) bytes e = ⊥

abbrev pub IsWhole : {S M X R E Q : Type 0} → Sides S M X R E Q → S → M → ℕ → List Who → List ℕ → E → Type 0
IsWhole g s m window answers bytes e = IsWholeFrom g window answers (start s m) bytes e

-- ---- caught up: the queue folded from the monitor as it is, and the reply taken where the slave waits

abbrev pub seen_by : {S M X R E Q : Type 0} → Sides S M X R E Q → S → List R → List ℕ → Stop M E Q → Both S M E Q
seen_by g s replies bytes (still m) = run (ready g s replies).slave m bytes
seen_by g s replies bytes (ended e) = done bytes e
seen_by g s replies bytes (broken q) = wrong bytes q

abbrev pub seen : {S M X R E Q : Type 0} → Sides S M X R E Q → S → List ℕ → All M R E Q → Both S M E Q
seen g s written a = seen_by g s a.replies (written ++ a.bytes) a.stop

abbrev pub caught_up : {S M X R E Q : Type 0} → Sides S M X R E Q → Going S M X → Both S M E Q
caught_up g p = seen g p.slave p.written (serve_all g p.monitor p.queue)

abbrev pub asked : {S M X R E Q : Type 0} → Sides S M X R E Q → List X → ℕ
asked g [] = 0
asked g (x ∷ queue) = of_bool (g.wants x) + asked g queue
