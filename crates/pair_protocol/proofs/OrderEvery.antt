-- What every turn keeps.
use Rattle.std.proofs.Common.{◌≡◌, ◌+◌, ℕ, suc, List, [], ◌∷◌, ◌++◌, length, refl, sym, ◌∙◌, ap, subst, arith, Bool, true, false, ◌&&◌, ◌||◌, nat_lt, Option, Some, None}
use Rattle.facts.proofs.Booleans.{true_not_false}
use Rattle.facts.proofs.Lists.{append_grouped, append_nil}
use Rattle.pair_protocol.specs.Sides.{Mode, going, waits, over, Served, goes_on, ends, bad, Sides, AreFair, IsReply, HasReply, of_bool, waiting}
use Rattle.pair_protocol.specs.SlaveRun.{came, slave_at, listed}
use Rattle.pair_protocol.specs.Serving.{still, ended, broken, all, after, serve_all}
use Rattle.pair_protocol.specs.Pair.{delivered, run, done, wrong, both_step, Who, Going, going_with, Pair, goes, stops, breaks, is_going, is_slaves, is_empty, moves, replied, monitor_turn, turn, pair_step, pair_from, start, pair_steps, seen, asked}
use Rattle.pair_protocol.specs.OrderLaws.{IsAfter, Described, Over}
use Rattle.pair_protocol.proofs.OrderSlaveFacts.{ready_none, one_step, one_reply}
use Rattle.pair_protocol.proofs.OrderFolds.{last_by, last, push, asked_more}
use Rattle.pair_protocol.proofs.OrderAhead.{slave_ahead, monitor_ahead}
use Rattle.pair_protocol.proofs.OrderSynchronous.{step_last}

-- ---- a turn of the slave

pub slave_turn : {S M X R E Q : Type 0} (g : Sides S M X R E Q) → AreFair g → (s : S) (m : M) (k : ℕ) (served : List X) (replies : List R) (p : Going S M X) →
    IsAfter g s m k served replies p → g.mode p.slave ≡ going →
    IsAfter g s m (suc k) served replies (going_with (g.step p.slave).slave (p.queue ++ listed (g.step p.slave).said) p.monitor p.written)
slave_turn g fair s m k served replies p d mode =
    let none : asked g p.queue ≡ 0 = d.waits_for ∙ ap waiting mode in
    record {
      slave_so = one_step g k s replies p.slave (served ++ p.queue) d.slave_so mode ∙ ap (λ xs. came (g.step p.slave).slave xs [] (suc k)) (append_grouped served p.queue (listed (g.step p.slave).said));
      monitor_so = d.monitor_so;
      ahead = slave_ahead g fair p.slave p.monitor p.written p.queue mode none ∙ ap (both_step g) d.ahead ∙ step_last g k (run s m []);
      waits_for = asked_more g p.queue (g.step p.slave).said none ∙ sym (fair.steps p.slave mode);
    }

-- ---- a turn of the monitor

is_waits : (mode : Mode) (n : ℕ) → 1 + n ≡ waiting mode → mode ≡ waits
is_waits going n e = absurd (omega (arith, e))
is_waits waits n e = refl
is_waits over n e = absurd (omega (arith, e))

pub no_more : (mode : Mode) (n : ℕ) → 1 + n ≡ waiting mode → n ≡ 0
no_more going n e = absurd (omega (arith, e))
no_more waits n e = omega (arith, e)
no_more over n e = absurd (omega (arith, e))

-- what was served is one more
served_more : {S M X R E Q : Type 0} (g : Sides S M X R E Q) (m m1 : M) (served : List X) (replies : List R) (w : List ℕ) (x : X) (r : Served M R E Q) →
    serve_all g m served ≡ all replies w (still m1) → g.serve m1 x ≡ r → serve_all g m (served ++ x ∷ []) ≡ last_by replies w r
served_more g m m1 served replies w x r e is = push g served x m ∙ ap (last g x) e ∙ ap (last_by replies w) is

told_slave : {S M X R E Q : Type 0} (g : Sides S M X R E Q) → AreFair g → (s s1 : S) (k : ℕ) (served queue : List X) (replies : List R) (x : X) (o : Option R) →
    slave_at g k s replies ≡ came s1 (served ++ x ∷ queue) [] k → (IsReply true o → g.mode s1 ≡ waits) →
    slave_at g k s (replies ++ listed o) ≡ came (delivered g s1 o) ((served ++ x ∷ []) ++ queue) [] k
told_slave g fair s s1 k served queue replies x None e h =
    ap (slave_at g k s) (append_nil replies) ∙ e ∙ ap (λ xs. came s1 xs [] k) (sym (append_grouped served (x ∷ []) queue))
told_slave g fair s s1 k served queue replies x (Some r) e h =
    one_reply g fair r k s replies s1 (served ++ x ∷ queue) e (h (tt {0})) ∙ ap (λ xs. came (g.take r s1) xs [] k) (sym (append_grouped served (x ∷ []) queue))

told_waits : {S M X R E Q : Type 0} (g : Sides S M X R E Q) → AreFair g → (s1 : S) (queue : List X) (wants : Bool) (o : Option R) → IsReply wants o →
    of_bool wants + asked g queue ≡ waiting (g.mode s1) → (IsReply true o → g.mode s1 ≡ waits) → asked g queue ≡ waiting (g.mode (delivered g s1 o))
told_waits g fair s1 queue true None h e w = absurd h
told_waits g fair s1 queue true (Some r) h e w = no_more (g.mode s1) (asked g queue) e ∙ sym (fair.takes s1 r (w (tt {0})))
told_waits g fair s1 queue false None h e w = omega (arith, e)
told_waits g fair s1 queue false (Some r) h e w = absurd h

takes_now : {S M X R E Q : Type 0} (g : Sides S M X R E Q) (s1 : S) (n : ℕ) (wants : Bool) (o : Option R) → IsReply wants o → of_bool wants + n ≡ waiting (g.mode s1) → IsReply true o → g.mode s1 ≡ waits
takes_now g s1 n true o h e t = is_waits (g.mode s1) n e
takes_now g s1 n false None h e t = absurd t
takes_now g s1 n false (Some r) h e t = absurd h

pub monitor_goes : {S M X R E Q : Type 0} (g : Sides S M X R E Q) → AreFair g → (s : S) (m : M) (k : ℕ) (served : List X) (replies : List R) (s1 : S) (m1 : M) (w : List ℕ) (x : X) (queue : List X) →
    IsAfter g s m k served replies (going_with s1 (x ∷ queue) m1 w) → (m2 : M) (o : Option R) (bytes : List ℕ) → g.serve m1 x ≡ goes_on m2 o bytes →
    IsAfter g s m k (served ++ x ∷ []) (replies ++ listed o) (going_with (delivered g s1 o) queue m2 (w ++ bytes))
monitor_goes g fair s m k served replies s1 m1 w x queue d m2 o bytes is =
    let has : IsReply (g.wants x) o = subst (HasReply (g.wants x)) is (fair.serves m1 x) in
    let taking : IsReply true o → g.mode s1 ≡ waits = takes_now g s1 (asked g queue) (g.wants x) o has d.waits_for in
    record {
      slave_so = told_slave g fair s s1 k served queue replies x o d.slave_so taking;
      monitor_so = served_more g m m1 served replies w x (goes_on m2 o bytes) d.monitor_so is;
      ahead = monitor_ahead g fair s1 w bytes o (serve_all g m2 queue) taking ∙ ap (λ r. seen g s1 w (after r (λ m. serve_all g m queue))) (sym is) ∙ d.ahead;
      waits_for = told_waits g fair s1 queue (g.wants x) o has d.waits_for taking;
    }

pub monitor_ends : {S M X R E Q : Type 0} (g : Sides S M X R E Q) → (s : S) (m : M) (k : ℕ) (served : List X) (replies : List R) (s1 : S) (m1 : M) (w : List ℕ) (x : X) (queue : List X) →
    IsAfter g s m k served replies (going_with s1 (x ∷ queue) m1 w) → (bytes : List ℕ) (e : E) → g.serve m1 x ≡ ends bytes e → Over g s m (w ++ bytes) (ended e) (done (w ++ bytes) e)
monitor_ends g s m k served replies s1 m1 w x queue d bytes e is = record {
  steps = k;
  served = served ++ x ∷ [];
  rest = queue;
  replies = replies;
  slave = ap (λ a. a.said) d.slave_so ∙ sym (append_grouped served (x ∷ []) queue);
  made = ap (λ a. a.made) d.slave_so;
  monitor = served_more g m m1 served replies w x (ends bytes e) d.monitor_so is;
  ahead = sym d.ahead ∙ ap (λ r. seen g s1 w (after r (λ m. serve_all g m queue))) is;
}

pub monitor_breaks : {S M X R E Q : Type 0} (g : Sides S M X R E Q) → (s : S) (m : M) (k : ℕ) (served : List X) (replies : List R) (s1 : S) (m1 : M) (w : List ℕ) (x : X) (queue : List X) →
    IsAfter g s m k served replies (going_with s1 (x ∷ queue) m1 w) → (q : Q) → g.serve m1 x ≡ bad q → Over g s m w (broken q) (wrong w q)
monitor_breaks g s m k served replies s1 m1 w x queue d q is = record {
  steps = k;
  served = served ++ x ∷ [];
  rest = queue;
  replies = replies;
  slave = ap (λ a. a.said) d.slave_so ∙ sym (append_grouped served (x ∷ []) queue);
  made = ap (λ a. a.made) d.slave_so;
  monitor = served_more g m m1 served replies w x (bad q) d.monitor_so is;
  ahead = sym d.ahead ∙ ap (λ r. seen g s1 w (after r (λ m. serve_all g m queue))) is ∙ ap (λ v. wrong v q) (append_nil w);
}

-- ---- every order

abbrev pub Inv : {S M X R E Q : Type 0} → Sides S M X R E Q → S → M → Pair S M X E Q → Type 0
Inv g s m (goes p) = Described g s m p
Inv g s m (stops bytes e) = Over g s m bytes (ended e) (done bytes e)
Inv g s m (breaks bytes q) = Over g s m bytes (broken q) (wrong bytes q)

abbrev pub both_true : (a b : Bool) → (a && b) ≡ true → a ≡ true
both_true true b e = refl
both_true false b e = e

pub is_going_so : (mode : Mode) → is_going mode ≡ true → mode ≡ going
is_going_so going e = refl
is_going_so waits e = true_not_false (sym e)
is_going_so over e = true_not_false (sym e)

pub moves_going : {S M X R E Q : Type 0} (g : Sides S M X R E Q) (window : ℕ) (who : Who) (s : S) (queue : List X) → moves g window who s queue ≡ true → g.mode s ≡ going
moves_going g window who s queue e =
    is_going_so (g.mode s) (both_true (is_going (g.mode s)) (nat_lt (length queue) window) (both_true (is_going (g.mode s) && nat_lt (length queue) window) (is_slaves who || is_empty queue) e))

inv_serves : {S M X R E Q : Type 0} (g : Sides S M X R E Q) → AreFair g → (s : S) (m : M) (k : ℕ) (served : List X) (replies : List R) (s1 : S) (m1 : M) (w : List ℕ) (x : X) (queue : List X) →
    IsAfter g s m k served replies (going_with s1 (x ∷ queue) m1 w) → (r : Served M R E Q) → g.serve m1 x ≡ r → Inv g s m (replied g s1 queue w r)
inv_serves g fair s m k served replies s1 m1 w x queue d (goes_on m2 o bytes) is = (k, served ++ x ∷ [], replies ++ listed o, monitor_goes g fair s m k served replies s1 m1 w x queue d m2 o bytes is)
inv_serves g fair s m k served replies s1 m1 w x queue d (ends bytes e) is = monitor_ends g s m k served replies s1 m1 w x queue d bytes e is
inv_serves g fair s m k served replies s1 m1 w x queue d (bad q) is = monitor_breaks g s m k served replies s1 m1 w x queue d q is

inv_monitor : {S M X R E Q : Type 0} (g : Sides S M X R E Q) → AreFair g → (s : S) (m : M) (s1 : S) (m1 : M) (w : List ℕ) (queue : List X) →
    Described g s m (going_with s1 queue m1 w) → Inv g s m (monitor_turn g s1 m1 w queue)
inv_monitor g fair s m s1 m1 w [] d = d
inv_monitor g fair s m s1 m1 w (x ∷ queue) (k, served, replies, d) = inv_serves g fair s m k served replies s1 m1 w x queue d (g.serve m1 x) refl

inv_turn : {S M X R E Q : Type 0} (g : Sides S M X R E Q) → AreFair g → (s : S) (m : M) (p : Going S M X) → Described g s m p → (b : Bool) → (b ≡ true → g.mode p.slave ≡ going) → Inv g s m (turn g b p)
inv_turn g fair s m p (k, served, replies, d) true h = (suc k, served, replies, slave_turn g fair s m k served replies p d (h refl))
inv_turn g fair s m p d false h = inv_monitor g fair s m p.slave p.monitor p.written p.queue d

inv_step : {S M X R E Q : Type 0} (g : Sides S M X R E Q) → AreFair g → (s : S) (m : M) (window : ℕ) (who : Who) (p : Pair S M X E Q) → Inv g s m p → Inv g s m (pair_step g window who p)
inv_step g fair s m window who (goes p) d = inv_turn g fair s m p d (moves g window who p.slave p.queue) (moves_going g window who p.slave p.queue)
inv_step g fair s m window who (stops bytes e) d = d
inv_step g fair s m window who (breaks bytes q) d = d

pub inv_from : {S M X R E Q : Type 0} (g : Sides S M X R E Q) → AreFair g → (s : S) (m : M) (window : ℕ) (answers : List Who) (p : Pair S M X E Q) → Inv g s m p → Inv g s m (pair_from g window answers p)
inv_from g fair s m window [] p d = d
inv_from g fair s m window (who ∷ answers) p d = inv_from g fair s m window answers (pair_step g window who p) (inv_step g fair s m window who p d)

pub begins : {S M X R E Q : Type 0} (g : Sides S M X R E Q) (s : S) (m : M) → waiting (g.mode s) ≡ 0 → IsAfter g s m 0 [] [] (going_with s [] m [])
begins g s m idle = record {
  slave_so = ap (λ c. came c.slave [] c.left 0) (ready_none g s);
  monitor_so = refl;
  ahead = ap (λ c. run c.slave m []) (ready_none g s);
  waits_for = sym idle;
}

pub inv_steps : {S M X R E Q : Type 0} (g : Sides S M X R E Q) → AreFair g → (s : S) (m : M) → waiting (g.mode s) ≡ 0 → (window : ℕ) (answers : List Who) → Inv g s m (pair_steps g s m window answers)
inv_steps g fair s m idle window answers = inv_from g fair s m window answers (start s m) (0, [], [], begins g s m idle)
