-- Sessions by the places at which they stand: which of them run, which one the answers of a turn reach, and what a turn leaves.
use Rattle.std.proofs.Common.{◌≡◌, ◌∙◌, ◌+◌, ◌-◌, ◌<◌, ◌≤◌, ◌++◌, ℕ, zero, suc, List, [], ◌∷◌, Bool, true, false, not, Option, Some, None, inl, inr, get_or, length, map, take, drop, replicate, slice_get, slice_set, refl, sym, ap, subst, arith}
use Rattle.std.proofs.lemmas.List.{replicate_more}
use Rattle.std.proofs.lemmas.Option.{slice_get_read, slice_get_within}
use Rattle.std.specs.Option.{is_none}
use Rattle.std.specs.Prelude.{IfSome}
use Rattle.pt_base.specs.Turns.{DropsFirst}
use Rattle.pt_base.specs.declared.chooser.Who as base
use Rattle.pt_base.specs.declared.chooser.Who.TheVariants as half
use Rattle.pt_base.specs.declared.end.End.{End}
use Rattle.pt_base.proofs.Booleans.{false_not_true, true_not_false}
use Rattle.pt_base.proofs.Numbers.{plus_one, zero_not_suc, zero_plus}
use Rattle.pt_base.proofs.Options.{none_not_some, some_not_none, some_same}
use Rattle.pair_protocol.specs.Sides.{of_bool}
use Rattle.pair_protocol.specs.Pair.{run, done, wrong, Who, slaves, parents}
use Rattle.pair_meaning.specs.LinkChoosing.{AreTaken, half_named}
use Rattle.pair_meaning.specs.Monitors.{Monitor}
use Rattle.pair_meaning.specs.SlaveRun.{Slave}
use Rattle.memory_link.specs.CameLaws.{taken_append, taken_none, taken_one}
use Rattle.session_turns.specs.Turns.{Reach, begun, count_running, is_running}
use Rattle.sessions.specs.declared.hub.Hub.{Hub as code_hub}
use Rattle.sessions.specs.Hubs.{Hub, OthersStay}
use Rattle.pair_running.specs.declared.served_pairs.served.SessionEnd.{SessionEnd}
use Rattle.pair_running.specs.declared.served_pairs.turning.Talk.{Talk}
use Rattle.pair_running.specs.ServedPairsTurns.{AreApart, AreEnds, AreTalks, ComesToEnd, HasReached, HasTaken, HasTurned, HaveGone, IsEndOf, IsOpenAt, IsPlace, IsRunning, IsTalk, Pair, StandAt, count_open, is_open, numbers_of}
use Rattle.pair_running.proofs.ServedPairsTurning.{as_many_before, as_many_run, lead_more, onward_ends, talk_stays, talks_stay}

-- what is read at a place stands there
pub item_at : {X : Type 0} (xs : List X) (i : ℕ) (x : X) → i < length xs → x ≡ get_or xs i x → slice_get xs i ≡ Some x
item_at xs i x below is = slice_get_read xs (length xs) i x refl below is

-- ---- how many run up to a place, and from it on

first_sum : (a b : ℕ) → a ≡ b → a + 0 ≡ 0 + b
first_sum a b e = omega (arith, e)

sum_grouped : (a b c : ℕ) → a + (b + c) ≡ (a + b) + c
sum_grouped a b c = omega arith

open_up_to : (xs : List Talk) (k : ℕ) (x : Talk) → slice_get xs k ≡ Some x → count_open (take (suc k) xs) ≡ count_open (take k xs) + is_open x.end
open_up_to [] k x at = none_not_some x at
open_up_to (y ∷ ys) zero x at = first_sum (is_open y.end) (is_open x.end) (ap (λ (z : Talk). is_open z.end) (some_same y x at))
open_up_to (y ∷ ys) (suc k) x at = ap (λ n. is_open y.end + n) (open_up_to ys k x at) ∙ sum_grouped (is_open y.end) (count_open (take k ys)) (is_open x.end)

open_from : (xs : List Talk) (k : ℕ) (x : Talk) → slice_get xs k ≡ Some x → count_open (drop k xs) ≡ is_open x.end + count_open (drop (suc k) xs)
open_from [] k x at = none_not_some x at
open_from (y ∷ ys) zero x at = ap (λ (z : Talk). is_open z.end + count_open ys) (some_same y x at)
open_from (y ∷ ys) (suc k) x at = open_from ys k x at

none_past : (xs : List Talk) (n : ℕ) → length xs ≤ n → count_open (drop n xs) ≡ 0
none_past [] zero past = refl
none_past [] (suc n) past = refl
none_past (x ∷ xs) zero past = absurd (omega (arith, past))
none_past (x ∷ xs) (suc n) past = none_past xs n (omega (arith, past))

no_open_at : (a b : ℕ) → a + b ≡ 0 → a ≡ 0
no_open_at a b e = omega (arith, e)

no_open_behind : (a b : ℕ) → a + b ≡ 0 → b ≡ 0
no_open_behind a b e = omega (arith, e)

-- where none runs, none runs at any place
pub all_closed : (xs : List Talk) (k : ℕ) (x : Talk) → count_open xs ≡ 0 → slice_get xs k ≡ Some x → is_open x.end ≡ 0
all_closed [] k x none at = none_not_some x at
all_closed (y ∷ ys) zero x none at = ap (λ (z : Talk). is_open z.end) (sym (some_same y x at)) ∙ no_open_at (is_open y.end) (count_open ys) none
all_closed (y ∷ ys) (suc k) x none at = all_closed ys k x (no_open_behind (is_open y.end) (count_open ys) none) at

-- the same of one that is read there
pub closed_at : (xs : List Talk) (k : ℕ) (x : Talk) → count_open xs ≡ 0 → (k < length xs) × (x ≡ get_or xs k x) → is_open x.end ≡ 0
closed_at xs k x none read = all_closed xs k x none (item_at xs k x read.0 read.1)

pub open_by : (o : Option End) → is_open o ≡ of_bool (is_none o)
open_by None = refl
open_by (Some end) = refl

-- ---- ends, one more at a time

pub ends_push : (xs : List Talk) (es : List SessionEnd) (x : Talk) (e : SessionEnd) → AreEnds xs es → IsEndOf x e → AreEnds (xs ++ x ∷ []) (es ++ e ∷ [])
ends_push [] [] x e all is = (is, tt)
ends_push [] (d ∷ ds) x e all is = absurd all
ends_push (y ∷ ys) [] x e all is = absurd all
ends_push (y ∷ ys) (d ∷ ds) x e all is = (all.0, ends_push ys ds x e all.1 is)

-- ---- the search of a place

-- so many that run were passed, and the one that is sought stands behind
pub record Seeks (xs : List Talk) (sought place left : ℕ) : Type 0 where
  pub passed : count_open (take place xs) + left ≡ sought
  pub behind : left < count_open (drop place xs)

pub seek_first : (xs : List Talk) (sought : ℕ) → sought < count_open xs → Seeks xs sought 0 sought
seek_first xs sought below = record { passed = zero_plus sought; behind = below }

past_passed : (a b c left next sought : ℕ) → b ≡ a + c → next + c ≡ left → a + left ≡ sought → b + next ≡ sought
past_passed a b c left next sought e f g = omega (arith, e, f, g)

past_behind : (d e c left next : ℕ) → d ≡ c + e → next + c ≡ left → left < d → next < e
past_behind d e c left next f g h = omega (arith, f, g, h)

-- one place further on
pub seek_on : (xs : List Talk) (sought place left next : ℕ) (runs : Bool) → IsOpenAt xs place runs → next + of_bool runs ≡ left → Seeks xs sought place left → Seeks xs sought (place + 1) next
seek_on xs sought place left next runs there is seeks =
    let fewer : next + is_open there.talk.end ≡ left = ap (λ n. next + n) there.counts ∙ is in
    subst (λ n. Seeks xs sought n next) (sym (plus_one place)) (record {
      passed = past_passed (count_open (take place xs)) (count_open (take (suc place) xs)) (is_open there.talk.end) left next sought (open_up_to xs place there.talk there.stands) fewer seeks.passed;
      behind = past_behind (count_open (drop place xs)) (count_open (drop (suc place) xs)) (is_open there.talk.end) left next (open_from xs place there.talk there.stands) fewer seeks.behind;
    })

runs_by : (o : Option End) → is_open o ≡ 1 → o ≡ None
runs_by None e = refl
runs_by (Some end) e = zero_not_suc 0 e

no_more : (a left sought : ℕ) → left ≡ 0 → a + left ≡ sought → a ≡ sought
no_more a left sought e f = omega (arith, e, f)

-- it is here
pub seek_here : (xs : List Talk) (sought place left : ℕ) → IsOpenAt xs place true → left ≡ 0 → Seeks xs sought place left → IsPlace xs sought place
seek_here xs sought place left there none seeks = record {
  talk = there.talk;
  stands = there.stands;
  runs = runs_by there.talk.end there.counts;
  before = no_more (count_open (take place xs)) left sought none seeks.passed;
}

below_none : (n m : ℕ) → n < m → m ≡ 0 → ⊥
below_none n m below none = omega (arith, below, none)

pub seek_ends : (xs : List Talk) (sought place left : ℕ) → length xs ≤ place → Seeks xs sought place left → ⊥
seek_ends xs sought place left past seeks = below_none left (count_open (drop place xs)) seeks.behind (none_past xs place past)

-- ---- the answers of a turn

joined : (n : ℕ) (a b c : Option (ℕ → base.Who)) (who which : base.Who) → who ≡ which → AreTaken (replicate n slaves) a b → IfSome b (λ told. who ≡ told 0) → DropsFirst b c → AreTaken (replicate n slaves ++ half_named which ∷ []) a c
joined n a b c who which is before gives rest =
    taken_append (replicate n slaves) (half_named which ∷ []) a b c before (subst (λ (w : base.Who). AreTaken (half_named w ∷ []) b c) is (taken_one who b c gives rest))

-- one more passes on
pub passes_on : (n : ℕ) (a b c : Option (ℕ → base.Who)) (who : base.Who) → who ≡ half.Slave → AreTaken (replicate n slaves) a b → IfSome b (λ told. who ≡ told 0) → DropsFirst b c → AreTaken (replicate (n + 1) slaves) a c
passes_on n a b c who is before gives rest = subst (λ (answers : List Who). AreTaken answers a c) (replicate_more n slaves) (joined n a b c who half.Slave is before gives rest)

-- one lets the session go on that was reached
pub reaches : (xs : List Talk) (count n place : ℕ) (a b c : Option (ℕ → base.Who)) (who : base.Who) → who ≡ half.Parent → AreTaken (replicate n slaves) a b → IfSome b (λ told. who ≡ told 0) → DropsFirst b c → n < count → IsPlace xs n place
    → HasReached xs count a c place
reaches xs count n place a b c who is before gives rest below there = record {
  answers = replicate n slaves ++ parents ∷ [];
  taken = joined n a b c who half.Parent is before gives rest;
  passed = n;
  reach = inl (below, refl);
  is = there;
}

-- all passed on, so the first goes on
pub comes_round : (xs : List Talk) (count n place : ℕ) (a b : Option (ℕ → base.Who)) → n ≡ count → AreTaken (replicate n slaves) a b → 0 < count → IsPlace xs 0 place → HasReached xs count a b place
comes_round xs count n place a b all taken some there = record {
  answers = replicate count slaves;
  taken = subst (λ k. AreTaken (replicate k slaves) a b) all taken;
  passed = 0;
  reach = inr (some, refl, refl);
  is = there;
}

-- ---- a session that runs

abbrev pub running : Slave → Monitor → List ℕ → Pair
running s m written = run s m written

-- at this place the talk runs, with this slave and this monitor
pub record RunsAt (h : Hub) (x : Talk) (bs : List Pair) (place : ℕ) : Type 0 where
  pub slave : Slave
  pub monitor : Monitor
  pub stands : slice_get bs place ≡ Some (running slave monitor x.written.items)
  pub talks : IsTalk h x (running slave monitor x.written.items)
  pub ends : ComesToEnd (running slave monitor x.written.items)

runs_first : (h : Hub) (x : Talk) (b : Pair) (bs : List Pair) → x.end ≡ None → IsTalk h x b → ComesToEnd b → RunsAt h x (b ∷ bs) 0
runs_first h x (run s m written) bs none is comes =
    let same : written ≡ x.written.items = sym is.1 in
    record {
      slave = s;
      monitor = m;
      stands = ap (λ (bytes : List ℕ). Some (running s m bytes)) same;
      talks = (is.0, refl, is.2, is.3);
      ends = subst (λ (bytes : List ℕ). ComesToEnd (running s m bytes)) same comes;
    }
runs_first h x (done bytes end) bs none is comes = some_not_none end (sym is.0 ∙ none)
runs_first h x (wrong bytes q) bs none is comes = absurd is

pub runs_at : (h : Hub) (xs : List Talk) (bs : List Pair) (place : ℕ) (x : Talk) → AreTalks h xs bs → slice_get xs place ≡ Some x → x.end ≡ None → RunsAt h x bs place
runs_at h [] bs place x all at none = none_not_some x at
runs_at h (y ∷ ys) [] place x all at none = absurd all
runs_at h (y ∷ ys) (b ∷ bs) zero x all at none = runs_first h x b bs none (subst (λ (z : Talk). IsTalk h z b) (some_same y x at) all.0) all.1
runs_at h (y ∷ ys) (b ∷ bs) (suc place) x all at none =
    let there = runs_at h ys bs place x all.2 at none in
    record { slave = there.slave; monitor = there.monitor; stands = there.stands; talks = there.talks; ends = there.ends }

-- the one that the answers reach runs
reached_runs : (hub : code_hub) (h : Hub) (xs : List Talk) (bs : List Pair) (count place : ℕ) (told told' : Option (ℕ → base.Who)) (x : Talk) → StandAt hub h xs bs count → HasReached xs count told told' place → slice_get xs place ≡ Some x → RunsAt h x bs place
reached_runs hub h xs bs count place told told' x stand reached at =
    runs_at h xs bs place x stand.talks at (ap (λ (z : Talk). z.end) (some_same x reached.is.talk (sym at ∙ reached.is.stands)) ∙ reached.is.runs)

-- what is known where a turn begins
pub record Begins (hub : code_hub) (h : Hub) (xs : List Talk) (bs : List Pair) (count place : ℕ) (told told' : Option (ℕ → base.Who)) (x : Talk) : Type 0 where
  pub reached : HasReached xs count told told' place
  pub at : slice_get xs place ≡ Some x
  pub there : RunsAt h x bs place
  pub runs : IsRunning hub h x there.slave there.monitor

pub reached_within : (xs ys : List Talk) (count place : ℕ) (told told' : Option (ℕ → base.Who)) → ys ≡ xs → HasReached ys count told told' place → place < length xs
reached_within xs ys count place told told' same reached = subst (λ (zs : List Talk). place < length zs) same (slice_get_within ys place reached.is.talk reached.is.stands)

pub turn_begins : (hub : code_hub) (h : Hub) (xs ys : List Talk) (bs : List Pair) (count place : ℕ) (told told' : Option (ℕ → base.Who)) (x : Talk) → ys ≡ xs → x ≡ get_or xs place x → HasReached ys count told told' place → StandAt hub h xs bs count
    → Begins hub h xs bs count place told told' x
turn_begins hub h xs ys bs count place told told' x same read reached stand =
    let here : HasReached xs count told told' place = subst (λ (zs : List Talk). HasReached zs count told told' place) same reached in
    let at : slice_get xs place ≡ Some x = item_at xs place x (reached_within xs ys count place told told' same reached) read in
    let there : RunsAt h x bs place = reached_runs hub h xs bs count place told told' x stand here at in
    record { reached = here; at = at; there = there; runs = record { hub_is = stand.hub_is; talks = there.talks; ends = there.ends } }

-- ---- the others, where one went on

number_at : (xs : List Talk) (place : ℕ) (x : Talk) → slice_get xs place ≡ Some x → slice_get (numbers_of xs) place ≡ Some x.session
number_at [] place x at = none_not_some x at
number_at (y ∷ ys) zero x at = ap (λ (z : Talk). Some z.session) (some_same y x at)
number_at (y ∷ ys) (suc place) x at = number_at ys place x at

numbers_set : (xs : List Talk) (place : ℕ) (x x' : Talk) → slice_get xs place ≡ Some x → x'.session ≡ x.session → numbers_of (slice_set xs place x') ≡ numbers_of xs
numbers_set [] place x x' at same = none_not_some x at
numbers_set (y ∷ ys) zero x x' at same = ap (λ n. n ∷ numbers_of ys) (same ∙ sym (ap (λ (z : Talk). z.session) (some_same y x at)))
numbers_set (y ∷ ys) (suc place) x x' at same = ap (λ (ns : List ℕ). y.session ∷ ns) (numbers_set ys place x x' at same)

talks_set : (h next : Hub) (xs : List Talk) (bs : List Pair) (place : ℕ) (x x' : Talk) (b : Pair) → AreTalks h xs bs → AreApart (numbers_of xs) → slice_get xs place ≡ Some x → OthersStay x.session h next → IsTalk next x' b → ComesToEnd b
    → AreTalks next (slice_set xs place x') (slice_set bs place b)
talks_set h next [] bs place x x' b all apart at others is comes = none_not_some x at
talks_set h next (y ∷ ys) [] place x x' b all apart at others is comes = absurd all
talks_set h next (y ∷ ys) (c ∷ cs) zero x x' b all apart at others is comes =
    let same : y.session ≡ x.session = ap (λ (z : Talk). z.session) (some_same y x at) in
    (is, comes, talks_stay h next x.session ys cs others (λ k j there e. apart.0 k j there (e ∙ sym same)) all.2)
talks_set h next (y ∷ ys) (c ∷ cs) (suc place) x x' b all apart at others is comes = (
  talk_stays h next x.session y c others (λ e. apart.0 x.session place (number_at ys place x at) (sym e)) all.0,
  all.1,
  talks_set h next ys cs place x x' b all.2 apart.1 at others is comes,
)

-- ---- how many run then

swapped : (a b c n : ℕ) → c ≡ b → (a + n) + b ≡ (c + n) + a
swapped a b c n e = omega (arith, e)

swapped_behind : (y m n b a : ℕ) → m + b ≡ n + a → (y + m) + b ≡ (y + n) + a
swapped_behind y m n b a e = omega (arith, e)

count_set : (bs : List Pair) (place : ℕ) (b a : Pair) → slice_get bs place ≡ Some b → count_running (slice_set bs place a) + of_bool (is_running b) ≡ count_running bs + of_bool (is_running a)
count_set [] place b a at = none_not_some b at
count_set (c ∷ cs) zero b a at = swapped (of_bool (is_running a)) (of_bool (is_running b)) (of_bool (is_running c)) (count_running cs) (ap (λ (z : Pair). of_bool (is_running z)) (some_same c b at))
count_set (c ∷ cs) (suc place) b a at =
    swapped_behind (of_bool (is_running c)) (count_running (slice_set cs place a)) (count_running cs) (of_bool (is_running b)) (of_bool (is_running a)) (count_set cs place b a at)

left_over : (count before behind left : ℕ) → count ≡ before → behind + 1 ≡ before + 0 → left + 1 ≡ count → left ≡ behind
left_over count before behind left e f g = omega (arith, e, f, g)

left_running : (count before behind left : ℕ) → count ≡ before → behind + 1 ≡ before + 1 → left + 0 ≡ count → left ≡ behind
left_running count before behind left e f g = omega (arith, e, f, g)

left_count : (over runs : Bool) (count before behind left : ℕ) → over ≡ not runs → count ≡ before → behind + 1 ≡ before + of_bool runs → left + of_bool over ≡ count → left ≡ behind
left_count true true count before behind left is e f g = true_not_false is
left_count true false count before behind left is e f g = left_over count before behind left e f g
left_count false true count before behind left is e f g = left_running count before behind left e f g
left_count false false count before behind left is e f g = false_not_true is

-- ---- one turn

pub have_turned : (hub hub' : code_hub) (h : Hub) (xs : List Talk) (bs : List Pair) (count place left : ℕ) (told told' : Option (ℕ → base.Who)) (x x' : Talk) (over : Bool) → StandAt hub h xs bs count → (begins : Begins hub h xs bs count place told told' x)
    → HasTaken hub' h x x' begins.there.slave begins.there.monitor over → left + of_bool over ≡ count → HasTurned hub' (slice_set xs place x') bs told told' left
have_turned hub hub' h xs bs count place left told told' x x' over stand begins taken fewer =
    let reached : HasReached xs count told told' place = begins.reached in
    let there : RunsAt h x bs place = begins.there in
    let b : Pair = running there.slave there.monitor x.written.items in
    let passed : reached.passed ≡ count_running (take place bs) = sym reached.is.before ∙ as_many_before h place xs bs stand.talks in
    record {
      h = taken.next_hub;
      pairs = slice_set bs place taken.next;
      stand = record {
        hub_is = taken.hub_is;
        talks = talks_set h taken.next_hub xs bs place x x' taken.next stand.talks stand.apart begins.at taken.others taken.talks (onward_ends there.slave there.monitor x.written.items taken.next taken.onward there.ends);
        apart = subst AreApart (sym (numbers_set xs place x x' begins.at taken.same)) stand.apart;
        running = left_count over (is_running taken.next) count (count_running bs) (count_running (slice_set bs place taken.next)) left taken.over_is stand.running (count_set bs place b taken.next there.stands) fewer;
      };
      answers = reached.answers;
      taken = reached.taken;
      turn = record {
        place = place;
        slave = there.slave;
        monitor = there.monitor;
        written = x.written.items;
        next = taken.next;
        stands = there.stands;
        reached = subst (λ n. Reach n reached.answers (count_running (take place bs))) stand.running (subst (λ k. Reach count reached.answers k) passed reached.reach);
        onward = taken.onward;
        others_stay = refl;
      };
    }

-- how many are left, by whether it is over
pub fewer_run : (n : ℕ) (over : Bool) → over ≡ true → 0 < n → (n - 1) + of_bool over ≡ n
fewer_run n true is some = omega (arith, some)
fewer_run n false is some = false_not_true is

pub same_run : (n : ℕ) (over : Bool) → over ≡ false → n + of_bool over ≡ n
same_run n true is = true_not_false is
same_run n false is = omega arith

-- as many run as are open
pub open_count : (hub : code_hub) (h : Hub) (xs : List Talk) (bs : List Pair) (count : ℕ) → StandAt hub h xs bs count → count ≡ count_open xs
open_count hub h xs bs count stand = stand.running ∙ sym (as_many_run h xs bs stand.talks)

-- ---- turns

pub gone_nowhere : (hub : code_hub) (h : Hub) (xs : List Talk) (count : ℕ) (starts : List (Slave × Monitor)) (told : Option (ℕ → base.Who)) → StandAt hub h xs (map begun starts) count → HaveGone hub xs count starts told told
gone_nowhere hub h xs count starts told stand = record { h = h; pairs = map begun starts; stand = stand; turns = 0; answers = []; taken = taken_none told; lead = (refl, refl) }

pub gone_further : (hub hub' : code_hub) (xs ys : List Talk) (count left : ℕ) (starts : List (Slave × Monitor)) (a b c : Option (ℕ → base.Who)) (gone : HaveGone hub xs count starts a b) → HasTurned hub' ys gone.pairs b c left → HaveGone hub' ys left starts a c
gone_further hub hub' xs ys count left starts a b c gone turned = record {
  h = turned.h;
  pairs = turned.pairs;
  stand = turned.stand;
  turns = gone.turns + 1;
  answers = gone.answers ++ turned.answers;
  taken = taken_append gone.answers turned.answers a b c gone.taken turned.taken;
  lead = lead_more gone.turns gone.answers turned.answers (map begun starts) gone.pairs turned.pairs gone.lead turned.turn;
}
