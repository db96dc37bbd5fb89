-- The queue folded: a turn of the slave is a step of the synchronous pair, a turn of the monitor is none.
use Rattle.std.proofs.Common.{◌≡◌, ℕ, List, [], ◌∷◌, ◌++◌, refl, sym, ◌∙◌, ap, Bool, true, false, Option, Some, None}
use Rattle.facts.proofs.Lists.{append_grouped, append_nil}
use Rattle.facts.proofs.Numbers.{zero_not_suc}
use Rattle.pair_protocol.specs.Sides.{Mode, going, waits, over, Served, goes_on, ends, bad, Sides, AreFair, IsReply, HasReply, of_bool, waiting, asks}
use Rattle.pair_protocol.specs.SlaveRun.{ready_in, ready, listed}
use Rattle.pair_protocol.specs.Serving.{Stop, still, ended, broken, All, all, serve_all}
use Rattle.pair_protocol.specs.Pair.{delivered, run, done, answered, heard, both_in, both_step, seen_by, seen, asked}
use Rattle.pair_protocol.proofs.OrderSlaveFacts.{ready_none, ready_takes}
use Rattle.pair_protocol.proofs.OrderFolds.{last_by, last_in, push, none_asked}

-- ---- a turn of the slave

takes_reply : {S M X R E Q : Type 0} (g : Sides S M X R E Q) (s : S) (o : Option R) (wants : Bool) → IsReply wants o → waiting (g.mode s) ≡ of_bool wants → (ready g s (listed o)).slave ≡ delivered g s o
takes_reply g s None wants h e = ap (λ c. c.slave) (ready_none g s)
takes_reply g s (Some r) false h e = absurd h
takes_reply g s (Some r) true h e = go (g.mode s) e
  where
    go : (mode : Mode) → waiting mode ≡ 1 → (ready_in g mode s (r ∷ [])).slave ≡ g.take r s
    go going e = zero_not_suc 0 e
    go waits e = refl
    go over e = zero_not_suc 0 e

heard_by : {S M X R E Q : Type 0} (g : Sides S M X R E Q) (s : S) (w bs : List ℕ) (wants : Bool) (r : Served M R E Q) → HasReply wants r → waiting (g.mode s) ≡ of_bool wants →
    seen g s w (last_by [] bs r) ≡ answered g s (w ++ bs) r
heard_by g s w bs wants (goes_on m o more) h e =
    ap (λ s'. run s' m (w ++ (bs ++ more))) (takes_reply g s o wants h e) ∙ ap (λ us. run (delivered g s o) m us) (sym (append_grouped w bs more))
heard_by g s w bs wants (ends more e') h e = ap (λ us. done us e') (sym (append_grouped w bs more))
heard_by g s w bs wants (bad q) h e = refl

-- while the slave goes on, what is seen steps as it does
going_step : {S M X R E Q : Type 0} (g : Sides S M X R E Q) (s : S) (m : M) (v : List ℕ) → g.mode s ≡ going → both_step g (run (ready g s []).slave m v) ≡ heard g (g.step s).slave (g.step s).said m v
going_step g s m v e = ap (λ c. both_step g (run c.slave m v)) (ready_none g s) ∙ ap (λ mode. both_in g mode s m v) e

ahead_quiet : {S M X R E Q : Type 0} (g : Sides S M X R E Q) (s : S) (w bs : List ℕ) (stop : Stop M E Q) → g.mode s ≡ going → (g.step s).said ≡ None →
    seen_by g (g.step s).slave [] (w ++ bs) stop ≡ both_step g (seen_by g s [] (w ++ bs) stop)
ahead_quiet g s w bs (still m) e none =
    ap (λ c. run c.slave m (w ++ bs)) (ready_none g (g.step s).slave) ∙ sym (going_step g s m (w ++ bs) e ∙ ap (λ o. heard g (g.step s).slave o m (w ++ bs)) none)
ahead_quiet g s w bs (ended e') e none = refl
ahead_quiet g s w bs (broken q) e none = refl

ahead_says : {S M X R E Q : Type 0} (g : Sides S M X R E Q) → AreFair g → (s : S) (w bs : List ℕ) (x : X) (stop : Stop M E Q) → g.mode s ≡ going → (g.step s).said ≡ Some x →
    seen g (g.step s).slave w (last_in g x [] bs stop) ≡ both_step g (seen_by g s [] (w ++ bs) stop)
ahead_says g fair s w bs x (still m) e some =
    heard_by g (g.step s).slave w bs (g.wants x) (g.serve m x) (fair.serves m x) (fair.steps s e ∙ ap (asks g.wants) some) ∙
    sym (going_step g s m (w ++ bs) e ∙ ap (λ o. heard g (g.step s).slave o m (w ++ bs)) some)
ahead_says g fair s w bs x (ended e') e some = refl
ahead_says g fair s w bs x (broken q) e some = refl

pub slave_ahead : {S M X R E Q : Type 0} (g : Sides S M X R E Q) → AreFair g → (s : S) (m : M) (w : List ℕ) (queue : List X) → g.mode s ≡ going → asked g queue ≡ 0 →
    seen g (g.step s).slave w (serve_all g m (queue ++ listed (g.step s).said)) ≡ both_step g (seen g s w (serve_all g m queue))
slave_ahead {X = X} {R = R} g fair s m w queue e none = go (g.step s).said refl
  where
    no : (serve_all g m queue).replies ≡ []
    no = none_asked g fair queue m none

    before : both_step g (seen_by g s [] (w ++ (serve_all g m queue).bytes) (serve_all g m queue).stop) ≡ both_step g (seen g s w (serve_all g m queue))
    before = ap (λ rs. both_step g (seen_by g s rs (w ++ (serve_all g m queue).bytes) (serve_all g m queue).stop)) (sym no)

    go : (o : Option X) → (g.step s).said ≡ o → seen g (g.step s).slave w (serve_all g m (queue ++ listed o)) ≡ both_step g (seen g s w (serve_all g m queue))
    go None is =
        ap (λ q. seen g (g.step s).slave w (serve_all g m q)) (append_nil queue) ∙
        ap (λ rs. seen_by g (g.step s).slave rs (w ++ (serve_all g m queue).bytes) (serve_all g m queue).stop) no ∙
        ahead_quiet g s w (serve_all g m queue).bytes (serve_all g m queue).stop e is ∙ before
    go (Some x) is =
        ap (seen g (g.step s).slave w) (push g queue x m) ∙
        ap (λ rs. seen g (g.step s).slave w (last_in g x rs (serve_all g m queue).bytes (serve_all g m queue).stop)) no ∙
        ahead_says g fair s w (serve_all g m queue).bytes x (serve_all g m queue).stop e is ∙ before

-- ---- a turn of the monitor

same_seen : {S M X R E Q : Type 0} (g : Sides S M X R E Q) (s s' : S) (rs rs' : List R) (v : List ℕ) (stop : Stop M E Q) → (ready g s rs).slave ≡ (ready g s' rs').slave → seen_by g s rs v stop ≡ seen_by g s' rs' v stop
same_seen g s s' rs rs' v (still m) e = ap (λ s. run s m v) e
same_seen g s s' rs rs' v (ended e') e = refl
same_seen g s s' rs rs' v (broken q) e = refl

pub monitor_ahead : {S M X R E Q : Type 0} (g : Sides S M X R E Q) → AreFair g → (s : S) (w bytes : List ℕ) (o : Option R) (a : All M R E Q) → (IsReply true o → g.mode s ≡ waits) →
    seen g (delivered g s o) (w ++ bytes) a ≡ seen g s w (all (listed o ++ a.replies) (bytes ++ a.bytes) a.stop)
monitor_ahead g fair s w bytes None a h = ap (λ v. seen_by g s a.replies v a.stop) (append_grouped w bytes a.bytes)
monitor_ahead g fair s w bytes (Some r) a h =
    ap (λ v. seen_by g (g.take r s) a.replies v a.stop) (append_grouped w bytes a.bytes) ∙
    same_seen g (g.take r s) s a.replies (r ∷ a.replies) (w ++ (bytes ++ a.bytes)) a.stop (sym (ap (λ c. c.slave) (ready_takes g fair s r a.replies (h (tt {0})))))
