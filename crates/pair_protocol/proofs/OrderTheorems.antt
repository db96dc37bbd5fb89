-- The laws.
use Rattle.std.proofs.Common.{◌≡◌, ◌+◌, ◌≤◌, ℕ, suc, List, [], ◌∷◌, ◌++◌, refl, sym, ◌∙◌, ap, subst, arith, Bool, true, false}
use Rattle.facts.proofs.Booleans.{true_not_false}
use Rattle.facts.proofs.Lists.{append_grouped, append_nil}
use Rattle.pair_protocol.specs.Sides.{Sides, AreFair, waiting}
use Rattle.pair_protocol.specs.SlaveRun.{came, listed, slave_at, IsLongest}
use Rattle.pair_protocol.specs.Serving.{Stop, still, ended, broken, serve_all, IsHonest, IsExpectedBy}
use Rattle.pair_protocol.specs.Pair.{Both, run, done, wrong, both_in, both, Who, Going, going_with, Pair, goes, stops, breaks, pair_step, pair_from, start, pair_steps, IsWholeFrom, caught_up}
use Rattle.pair_protocol.specs.OrderLaws.{IsAfter, ComesTo, SaidBy, IsDescribed, PairIsDescribed, EveryOrderEnds, OrdersAreExpected, HonestPeersAreExpected, FirstPartsAgree, FirstPartsBegin, SlavesAreCounted, ParentsReach, IsServedHonestly, PairsAreHonest}
use Rattle.pair_protocol.proofs.OrderSlaveFacts.{ready_none, one_step, one_reply, said_grows, at_rest}
use Rattle.pair_protocol.proofs.OrderSynchronous.{is_done, ends_once, same_end, bytes_grow}
use Rattle.pair_protocol.proofs.OrderEvery.{Inv, inv_steps, begins}
use Rattle.pair_protocol.proofs.OrderWalks.{walks, is_open, rests}
use Rattle.pair_protocol.proofs.OrderFolds.{first_parts}
use Rattle.pair_protocol.proofs.OrderEnds.{reach}
use Rattle.pair_protocol.proofs.OrderParents.{parents_come}

-- ---- every order, described

agrees : {S M X R E Q : Type 0} (g : Sides S M X R E Q) → AreFair g → (s : S) (m : M) → waiting (g.mode s) ≡ 0 → (k : ℕ) (served : List X) (replies : List R) (p : Going S M X) → IsAfter g s m k served replies p →
    ComesTo g (SaidBy g k s replies served) (run s m []) p.written (still p.monitor)
agrees g fair s m idle k served replies p d =
    let mine = ap (λ a. a.replies) d.monitor_so in
    subst (λ a. ComesTo g (SaidBy g k s a.replies served) (run s m []) ([] ++ a.bytes) a.stop) d.monitor_so
    (walks g fair k s m [] served p.queue idle (ap (λ rs. (slave_at g k s rs).said) mine ∙ ap (λ a. a.said) d.slave_so))

described : {S M X R E Q : Type 0} (g : Sides S M X R E Q) → AreFair g → (s : S) (m : M) → waiting (g.mode s) ≡ 0 → (p : Pair S M X E Q) → Inv g s m p → IsDescribed g s m p
described g fair s m idle (goes p) (k, served, replies, d) = (k, served, replies, d, agrees g fair s m idle k served replies p d)
described g fair s m idle (stops bytes e) d = d
described g fair s m idle (breaks bytes q) d = d

pub pair_is_described : (S M X R E Q : Type 0) → PairIsDescribed S M X R E Q
pair_is_described S M X R E Q g s m fair idle window answers = described g fair s m idle (pair_steps g s m window answers) (inv_steps g fair s m idle window answers)

-- a fact of every step of the synchronous pair is one of the queue folded, and of every end
abbrev pub Keeps : {S M X R E Q : Type 0} → Sides S M X R E Q → (Both S M E Q → Type 0) → Pair S M X E Q → Type 0
Keeps g P (goes p) = P (caught_up g p)
Keeps g P (stops bytes e) = P (done bytes e)
Keeps g P (breaks bytes q) = P (wrong bytes q)

kept : {S M X R E Q : Type 0} (g : Sides S M X R E Q) (s : S) (m : M) (P : Both S M E Q → Type 0) → ((k : ℕ) → P (both g s m k)) → (p : Pair S M X E Q) → Inv g s m p → Keeps g P p
kept g s m P h (goes p) (k, served, replies, d) = subst P (sym d.ahead) (h k)
kept g s m P h (stops bytes e) d = subst P d.ahead (h d.steps)
kept g s m P h (breaks bytes q) d = subst P d.ahead (h d.steps)

pub every_order_keeps : {S M X R E Q : Type 0} (g : Sides S M X R E Q) (s : S) (m : M) → AreFair g → waiting (g.mode s) ≡ 0 → (P : Both S M E Q → Type 0) → ((k : ℕ) → P (both g s m k)) →
    (window : ℕ) (answers : List Who) → Keeps g P (pair_steps g s m window answers)
every_order_keeps g s m fair idle P h window answers = kept g s m P h (pair_steps g s m window answers) (inv_steps g fair s m idle window answers)

-- ---- ends

whole_ends : {S M X R E Q : Type 0} (g : Sides S M X R E Q) (window : ℕ) (answers : List Who) (p : Pair S M X E Q) (bytes : List ℕ) (e : E) → IsWholeFrom g window answers p bytes e → pair_from g window answers p ≡ stops bytes e
whole_ends g window [] (goes p) bytes e h = absurd h
whole_ends g window [] (stops written e') bytes e h = ap (λ b. stops b e') h.0 ∙ ap (λ e. stops bytes e) h.1
whole_ends g window [] (breaks written q) bytes e h = absurd h
whole_ends g window (who ∷ answers) (goes p) bytes e h = whole_ends g window answers (pair_step g window who (goes p)) bytes e h
whole_ends g window (who ∷ answers) (stops written e') bytes e h = absurd h
whole_ends g window (who ∷ answers) (breaks written q) bytes e h = absurd h

pub orders_are_expected : (S M X R E Q : Type 0) → OrdersAreExpected S M X R E Q
orders_are_expected S M X R E Q g s m fair idle window answers bytes e h =
    let d : Inv g s m (stops bytes e) = subst (λ p. Inv g s m p) (whole_ends g window answers (start s m) bytes e h) (inv_steps g fair s m idle window answers) in
    (d.steps, d.ahead)

pub every_order_ends : (S M X R E Q : Type 0) → EveryOrderEnds S M X R E Q
every_order_ends S M X R E Q g s m fair idle k bytes e end = record {
  alike = λ window answers bytes' e' h. (
      let there = orders_are_expected S M X R E Q g s m fair idle window answers bytes' e' h in
      same_end g there.0 k (run s m []) bytes' bytes e' e there.1 end);
  reached = λ longest bound window answers room h.
      reach g fair s m longest window k bound room bytes e end answers 0 [] [] (going_with s [] m []) (begins g s m idle) (omega (arith, h));
}

-- ---- honest peers

expected_by : {S M X R E Q : Type 0} (g : Sides S M X R E Q) (s : S) (m : M) (k : ℕ) (bytes : List ℕ) (e : E) → both g s m k ≡ done bytes e → (at_end : Bool) (T : ℕ → Type 0) (written : List ℕ) (stop : Stop M E Q) → ComesTo g T (run s m []) written stop →
    (is_open stop ≡ true → at_end ≡ false) → IsExpectedBy bytes e at_end written stop
expected_by g s m k bytes e end at_end T written (still m') h none =
    let grown = bytes_grow g h.0 k (run s m []) h.1 m' written bytes e h.2 end in
    (none refl, grown.0, grown.1)
expected_by g s m k bytes e end at_end T written (ended e') h none = same_end g h.0 k (run s m []) written bytes e' e h.1 end
expected_by g s m k bytes e end at_end T written (broken q) h none =
    true_not_false (sym (ap is_done (ends_once g h.0 k (run s m []) (wrong written q) (done bytes e) h.1 end refl refl)))

never_open : {S M X R E Q : Type 0} (g : Sides S M X R E Q) → AreFair g → (s : S) (m : M) → waiting (g.mode s) ≡ 0 → (k : ℕ) (bytes : List ℕ) (e : E) → both g s m k ≡ done bytes e → (longest : ℕ) → IsLongest g longest s →
    (given : List X) (at_end : Bool) → IsHonest g longest s given at_end (serve_all g m given).replies → is_open (serve_all g m given).stop ≡ true → at_end ≡ false
never_open g fair s m idle k bytes e end longest bound given false honest open' = refl
never_open g fair s m idle k bytes e end longest bound given true honest open' =
    let replies = (serve_all g m given).replies in
    let all' : (slave_at g longest s replies).said ≡ given = sym honest.first ∙ ap (λ rest. given ++ rest) (honest.whole refl) ∙ append_nil given in
    let there = rests g fair longest s m [] given idle (at_rest g longest s bound replies) all' open' in
    true_not_false (sym (ap is_done (ends_once g there.0 k (run s m []) (run there.1 there.2 there.3) (done bytes e) there.4 end (ap (λ mode. both_in g mode there.1 there.2 there.3) there.5) refl)))

pub honest_peers_are_expected : (S M X R E Q : Type 0) → HonestPeersAreExpected S M X R E Q
honest_peers_are_expected S M X R E Q g s m fair idle k bytes e end longest bound given at_end honest =
    expected_by g s m k bytes e end at_end (SaidBy g longest s (serve_all g m given).replies given) (serve_all g m given).bytes (serve_all g m given).stop
    (walks g fair longest s m [] given honest.rest idle (sym honest.first))
    (never_open g fair s m idle k bytes e end longest bound given at_end honest)

-- ---- what a pair serves is given honestly

honest_by : {S M X R E Q : Type 0} (g : Sides S M X R E Q) (s : S) (longest k : ℕ) → IsLongest g longest s → (served rest : List X) (replies : List R) → (slave_at g k s replies).said ≡ served ++ rest → (slave_at g k s replies).made ≡ k → (replies' : List R) → replies ≡ replies' →
    IsHonest g longest s served false replies'
honest_by g s longest k bound served rest replies said' made replies' same =
    let most : (slave_at g k s replies).made ≤ longest = bound replies k in
    let grown = said_grows g k longest s replies (omega (arith, made, most)) in
    record {
      rest = rest ++ grown.0;
      first = sym (append_grouped served rest grown.0) ∙ ap (λ xs. xs ++ grown.0) (sym said') ∙ sym grown.1 ∙ ap (λ rs. (slave_at g longest s rs).said) same;
      whole = λ no'. true_not_false (sym no');
    }

honest_in : {S M X R E Q : Type 0} (g : Sides S M X R E Q) (s : S) (m : M) (longest : ℕ) → IsLongest g longest s → (p : Pair S M X E Q) → Inv g s m p → IsServedHonestly g longest s m p
honest_in g s m longest bound (goes p) (k, served, replies, d) = (
  served,
  ap (λ a. a.stop) d.monitor_so,
  ap (λ a. a.bytes) d.monitor_so,
  honest_by g s longest k bound served p.queue replies (ap (λ a. a.said) d.slave_so) (ap (λ a. a.made) d.slave_so) (serve_all g m served).replies (sym (ap (λ a. a.replies) d.monitor_so)),
)
honest_in g s m longest bound (stops bytes e) d = (
  d.served,
  ap (λ a. a.stop) d.monitor,
  ap (λ a. a.bytes) d.monitor,
  honest_by g s longest d.steps bound d.served d.rest d.replies d.slave d.made (serve_all g m d.served).replies (sym (ap (λ a. a.replies) d.monitor)),
)
honest_in g s m longest bound (breaks bytes q) d = (
  d.served,
  ap (λ a. a.stop) d.monitor,
  ap (λ a. a.bytes) d.monitor,
  honest_by g s longest d.steps bound d.served d.rest d.replies d.slave d.made (serve_all g m d.served).replies (sym (ap (λ a. a.replies) d.monitor)),
)

pub pairs_are_honest : (S M X R E Q : Type 0) → PairsAreHonest S M X R E Q
pairs_are_honest S M X R E Q g s m fair idle longest bound window answers = honest_in g s m longest bound (pair_steps g s m window answers) (inv_steps g fair s m idle window answers)

pub first_parts_agree : (S M X R E Q : Type 0) → FirstPartsAgree S M X R E Q
first_parts_agree S M X R E Q g s m fair idle n given rest e = walks g fair n s m [] given rest idle e

pub first_parts_begin : (S M X R E Q : Type 0) → FirstPartsBegin S M X R E Q
first_parts_begin S M X R E Q g m xs ys = first_parts g m xs ys

pub slaves_are_counted : (S M X R E Q : Type 0) → SlavesAreCounted S M X R E Q
slaves_are_counted S M X R E Q g s fair = record {
  starts = ap (λ c. came c.slave [] c.left 0) (ready_none g s);
  steps = λ k replies s' xs e mode. (let more : suc k ≡ k + 1 = omega arith in
      subst (λ n. slave_at g n s replies ≡ came (g.step s').slave (xs ++ listed (g.step s').said) [] n) more (one_step g k s replies s' xs e mode));
  takes = λ r k replies s' xs e mode. one_reply g fair r k s replies s' xs e mode;
}

pub parents_reach : (S M X R E Q : Type 0) → ParentsReach S M X R E Q
parents_reach S M X R E Q g s m k bytes e end window room = parents_come g window room k s m [] bytes e end
