-- Where sessions begin, and what they come to.
use Rattle.std.proofs.Common.{◌≡◌, ◌∙◌, ◌<◌, ◌≤◌, ◌+◌, ◌^◌, ℕ, zero, suc, List, [], ◌∷◌, ◌++◌, Bool, true, false, nat_le, if◌then◌else◌, Option, Some, Err, drop, length, map, slice_get, refl, sym, ap, subst, arith}
use Rattle.std.proofs.lemmas.List.{drop_all, drop_more}
use Rattle.std.proofs.lemmas.Option.{get_or_from_slice_get, slice_get_within}
use Rattle.std.specs.Prelude.{All, IsTrue, ⊤}
use Rattle.pt_base.proofs.Lists.{append_grouped, append_nil, length_pushed}
use Rattle.pt_base.proofs.Numbers.{below_not_at_most, nat_le_at_most, plus_one, zero_at_most}
use Rattle.pt_base.proofs.Options.{none_not_some, some_same}
use Rattle.pt_base.specs.declared.chooser.Who as base
use Rattle.pt_base.specs.declared.end.End.{End}
use Rattle.host_models.specs.Fitting.{fits}
use Rattle.host_table.specs.Hosts.{hosts_of}
use Rattle.host_table.specs.RunHosts.{models_of}
use Rattle.policy.specs.Verdicts.{start}
use Rattle.pt_core.specs.CodeTree.{BootTree, SlaveTree, view_monitor}
use Rattle.pt_core.specs.WellFormed.{is_well_formed_boot, is_well_formed_monitor}
use Rattle.runs.specs.Run.{Expected}
use Rattle.wire.specs.declared.message.Message.{Message}
use Rattle.wire.specs.declared.message.ReplyBody.{ReplyBody}
use Rattle.pair_protocol.specs.Pair.{run, done, both_from}
use Rattle.pair_meaning.specs.Monitors.{Monitor}
use Rattle.pair_meaning.specs.Pair.{the_sides}
use Rattle.pair_meaning.specs.Rules.{PeerRule}
use Rattle.pair_meaning.specs.SlaveRun.{Slave, slave_of}
use Rattle.pair_meaning.specs.Start.{boot_of, monitor_start}
use Rattle.monitor_interp.specs.Gates.{hosts_for}
use Rattle.pair_laws.specs.BegunPairsLaws.{BegunBootsAreWellFormed, BegunMonitorsAreWellFormed, BegunMonitorsHostsServe, BegunPairsAreExpected, DoesWhatIsExpected, HostsServe, expected_of}
use Rattle.session_turns.specs.TurnsLaws.{ComeTo}
use Rattle.session_turns.proofs.Laters.{same_end}
use Rattle.session_turns.proofs.TurnsTheorems.{whole_turns_are_alone}
use Rattle.sessions.specs.declared.hub.Hub.{Hub as code_hub}
use Rattle.sessions.specs.declared.hub.TheConstants.{MOST_OPEN}
use Rattle.sessions.specs.Alone.{after_call, after_calls, opens}
use Rattle.sessions.specs.Hubs.{Hub, IsKept, begun_with, fresh, is_full, monitor_at, with_opened}
use Rattle.sessions.specs.IsHub.{IsHub}
use Rattle.sessions.proofs.HubCalls.{IsMadeAlike, begun_alike, calls_made, opened_kept, opened_others, opened_own}
use Rattle.memory_link.specs.CameLaws.{taken_none}
use Rattle.stages.specs.GivenHosts.{most}
use Rattle.stages.specs.declared.refusal.Stop.{Stop}
use Rattle.stages.specs.declared.refusal.Stop.TheVariants.{Refused, Memory}
use Rattle.pair_texts.specs.declared.sharing.Shared.{Shared}
use Rattle.pair_texts.specs.Several.{AreShared, AreShort, SharedTexts, with_input}
use Rattle.pair_texts.specs.Start.{HaveBegun, names_of}
use Rattle.pair_texts.proofs.SharedLemmas.{shared_begin}
use Rattle.pair_running.specs.declared.served_pairs.beginning.Begun.{Begun}
use Rattle.pair_running.specs.declared.served_pairs.served.Served.{Served as code}
use Rattle.pair_running.specs.declared.served_pairs.served.SessionEnd.{SessionEnd}
use Rattle.pair_running.specs.declared.served_pairs.turning.Talk.{Talk}
use Rattle.pair_running.specs.LocalPairLocal.{IsPairRun}
use Rattle.pair_running.specs.LocalPairWhole.{alone}
use Rattle.pair_running.specs.ServedPairsBeginning.{AreMade, AreOfBytes, HasRoom, HaveOpened, IsFresh, IsMade, MayBegin, boot_in, monitor_in, openings, starts_of}
use Rattle.pair_running.specs.ServedPairsBeginning.{HaveBegun as AreBegun}
use Rattle.pair_running.specs.ServedPairsServed.{AreRan, IsServed, Session, ran_by}
use Rattle.pair_running.specs.ServedPairsTurns.{AreApart, AreStartedEach, AreWholeTurns, ComesToEnd, HaveRun, HaveTurns, SeatedEach, end_of, numbers_of, view_served, view_session}
use Rattle.pair_running.proofs.LocalPairBeginning.{own_hosts_are}

-- ---- one input

module _ (law : BegunPairsAreExpected) (t : SharedTexts) (x : Shared) (turns : ℕ) (small : turns < 2 ^ 32) (shared : AreShared t x) where
  -- what starts with it has the tree, the hosts and the rules that are shared
  abbrev began : (input : List ℕ) → length input ≤ most → HaveBegun (with_input t input) turns (boot_in x turns input) (monitor_in x turns input)
  began input short = record {
    well_formed = shared.well_formed;
    has_hosts = shared.fit;
    started = record {
      tree = shared.tree;
      hosts = hosts_of x.hosts;
      rules = x.policy.rules;
      accepted = shared.accepted;
      read = record { program = shared.has; table = shared.given; policy = shared.rules };
      is = shared.is;
      short = short;
      boot_is = ap (λ (half : SlaveTree). boot_of half (models_of (hosts_of x.hosts).models) input turns) shared.slave_is;
      monitor_is = λ i. monitor_start (shared.monitor_is i) (models_of (hosts_of x.hosts).models) input (shared.begins i) turns;
    };
  }

  abbrev expected_in : List ℕ → Expected
  expected_in input = expected_of shared.tree (start x.policy.rules) (hosts_of x.hosts) input turns

  does : (input : List ℕ) → length input ≤ most → All (λ b. b < 256) input → DoesWhatIsExpected (expected_in input) (boot_in x turns input) (alone (monitor_in x turns input))
  does input short bytes =
      let m = monitor_in x turns input in
      law (with_input t input) turns (boot_in x turns input) m (began input short) (hosts_for m.program m.hosts) bytes small (own_hosts_are m.program m.hosts)

  pub comes_to_end : (input : List ℕ) → length input ≤ most → All (λ b. b < 256) input → ComesToEnd (run (slave_of (boot_in x turns input)) (alone (monitor_in x turns input)) [])
  comes_to_end input short bytes =
      let e = expected_in input in
      let comes = (does input short bytes).ends in
      (comes.0, e.bytes, e.end, comes.1)

  -- the end to which it comes is what is expected
  pub pair_ran : (input : List ℕ) → length input ≤ most → All (λ b. b < 256) input → (k : ℕ) (written : List ℕ) (end : End)
      → both_from the_sides k (run (slave_of (boot_in x turns input)) (alone (monitor_in x turns input)) []) ≡ done written end
      → IsPairRun turns (with_input t input) (ran_by (names_of shared.tree) (record { bytes = written; end = end }))
  pair_ran input short bytes k written end comes =
      let e = expected_in input in
      let other = (does input short bytes).ends in
      let same = same_end the_sides k other.0 (run (slave_of (boot_in x turns input)) (alone (monitor_in x turns input)) []) (written, end) (e.bytes, e.end) comes other.1 in
      let s = (began input short).started in (
        shared.tree,
        e,
        record { hosts = s.hosts; rules = s.rules; accepted = s.accepted; read = s.read; is = s.is; short = s.short; expected_is = refl },
        ap (λ (z : List ℕ × End). z.0) same,
        refl,
        ap (λ (z : List ℕ × End). z.1) same,
      )

  -- ---- all inputs

  pub all_started : (inputs : List (List ℕ)) → AreShort inputs → AreStartedEach t turns inputs (starts_of x turns inputs)
  all_started [] short = tt
  all_started (input ∷ inputs) short = ((boot_in x turns input, monitor_in x turns input, (began input short.0).started, refl, refl), all_started inputs short.1)

  abbrev session_at : List ℕ × End → Session
  session_at e = record { bytes = e.0; end = e.1 }

  pub all_ran : (inputs : List (List ℕ)) (ends : List (List ℕ × End)) → AreShort inputs → AreOfBytes inputs → ComeTo the_sides (starts_of x turns inputs) ends
      → AreRan t turns (names_of shared.tree) inputs (map session_at ends)
  all_ran [] [] short bytes come = tt
  all_ran [] (e ∷ es) short bytes come = absurd come
  all_ran (input ∷ inputs) [] short bytes come = absurd come
  all_ran (input ∷ inputs) (e ∷ es) short bytes come = (pair_ran input short.0 bytes.0 come.0.0 e.0 e.1 come.0.1, all_ran inputs es short.1 bytes.1 come.1)

-- ---- sessions that were opened

-- each of these numbers, counted from there on, has the monitor of its input
abbrev pub Opened : Hub → Hub → ℕ → List (List ℕ) → Type 0
Opened made h n [] = ⊤
Opened made h n (input ∷ inputs) = (monitor_at h n ≡ Some (begun_with made input)) × Opened made h (suc n) inputs

not_full : (n : ℕ) (b : Bool) → nat_le MOST_OPEN n ≡ b → n < 64 → b ≡ false
not_full n true is few = absurd (below_not_at_most n 64 few (nat_le_at_most 64 n is))
not_full n false is few = refl

pub few_open : (h : Hub) → length h.seats < 64 → is_full h ≡ false
few_open h few = not_full (length h.seats) (is_full h) refl few

opens_by : (h : Hub) (input : List ℕ) → is_full h ≡ false → with_opened input h ≡ after_call (opens input) h
opens_by h input room = sym (ap (λ b. if b then h else with_opened input h) room)

fewer : (a b : ℕ) → a + suc b ≤ 64 → a < 64
fewer a b few = omega (arith, few)

one_less : (a b c : ℕ) → c ≡ suc a → a + suc b ≤ 64 → c + b ≤ 64
one_less a b c is few = omega (arith, is, few)

below_next : (n m : ℕ) → n < m → n < suc m
below_next n m below = omega (arith, below)

below_not : (n m : ℕ) → n < m → n ≡ m → ⊥
below_not n m below same = omega (arith, below, same)

self_below : (n : ℕ) → n < suc n
self_below n = omega arith

next_most : (n m : ℕ) → n ≤ m → n ≤ suc m
next_most n m most = omega (arith, most)

-- what opening leaves alone
opening_stays : (h : Hub) (inputs : List (List ℕ)) (n : ℕ) → IsKept h → n < h.opened → length h.seats + length inputs ≤ 64 → monitor_at (after_calls (openings inputs) h) n ≡ monitor_at h n
opening_stays h [] n kept given few = refl
opening_stays h (input ∷ inputs) n kept given few =
    let room : is_full h ≡ false = few_open h (fewer (length h.seats) (length inputs) few) in
    let next : Hub = with_opened input h in
    let left : length next.seats + length inputs ≤ 64 = one_less (length h.seats) (length inputs) (length next.seats) (length_pushed h.seats (h.opened, begun_with h input)) few in
    subst (λ (g : Hub). monitor_at (after_calls (openings inputs) g) n ≡ monitor_at h n) (opens_by h input room)
    (opening_stays next inputs n (opened_kept h input kept room) (below_next n h.opened given) left ∙ (opened_others h input).others n (below_not n h.opened given))

opened_alike : (made h : Hub) (input : List ℕ) → IsMadeAlike made h → IsMadeAlike made (with_opened input h)
opened_alike made h input alike = record { program = alike.program; hosts = alike.hosts; policy = alike.policy; budget = alike.budget; more = next_most made.opened h.opened alike.more }

-- each is open then, with its input and with what the hub was made with
pub all_opened : (made h : Hub) (inputs : List (List ℕ)) → IsKept h → IsMadeAlike made h → length h.seats + length inputs ≤ 64 → Opened made (after_calls (openings inputs) h) h.opened inputs
all_opened made h [] kept alike few = tt
all_opened made h (input ∷ inputs) kept alike few =
    let room : is_full h ≡ false = few_open h (fewer (length h.seats) (length inputs) few) in
    let next : Hub = with_opened input h in
    let next_kept : IsKept next = opened_kept h input kept room in
    let left : length next.seats + length inputs ≤ 64 = one_less (length h.seats) (length inputs) (length next.seats) (length_pushed h.seats (h.opened, begun_with h input)) few in
    subst (λ (g : Hub). Opened made (after_calls (openings inputs) g) h.opened (input ∷ inputs)) (opens_by h input room) (
      opening_stays next inputs h.opened next_kept (self_below h.opened) left ∙ opened_own h input kept ∙ ap Some (begun_alike made h input alike),
      all_opened made next inputs next_kept (opened_alike made h input alike) left,
    )

-- ---- inputs by their places

drop_at : {X : Type 0} (xs : List X) (i : ℕ) (x : X) → slice_get xs i ≡ Some x → drop i xs ≡ x ∷ drop (i + 1) xs
drop_at xs i x at = drop_more xs i x (slice_get_within xs i x at) ∙ ap (λ y. y ∷ drop (i + 1) xs) (get_or_from_slice_get xs i x x at)

pub bytes_on : (all : List (List ℕ)) (i : ℕ) (x : List ℕ) → slice_get all i ≡ Some x → All (λ b. b < 256) x → AreOfBytes (drop (i + 1) all) → AreOfBytes (drop i all)
bytes_on all i x at bytes rest = subst AreOfBytes (sym (drop_at all i x at)) (bytes, rest)

pub bytes_end : (all : List (List ℕ)) (i : ℕ) → length all ≤ i → AreOfBytes (drop i all)
bytes_end all i past = subst AreOfBytes (sym (drop_all i all past)) tt

pub short_at : (all : List (List ℕ)) (i : ℕ) (x : List ℕ) → AreShort all → slice_get all i ≡ Some x → length x ≤ most
short_at [] i x short at = none_not_some x at
short_at (y ∷ ys) zero x short at = subst (λ (bytes : List ℕ). length bytes ≤ most) (some_same y x at) short.0
short_at (y ∷ ys) (suc i) x short at = short_at ys i x short.1 at

-- ---- the talks that are made

-- those so far, with those of the inputs that are left
abbrev pub MadeSoFar : Shared → ℕ → ℕ → List (List ℕ) → List Talk → Type 0
MadeSoFar x turns i all talks = (ys : List Talk) → AreMade x turns i (drop i all) ys → AreMade x turns 0 all (talks ++ ys)

pub made_on : (x : Shared) (turns i : ℕ) (all : List (List ℕ)) (input : List ℕ) (talks : List Talk) (y : Talk) → slice_get all i ≡ Some input → IsMade x turns i input y → MadeSoFar x turns i all talks → MadeSoFar x turns (i + 1) all (talks ++ y ∷ [])
made_on x turns i all input talks y at made so_far ys rest =
    let later : AreMade x turns (suc i) (drop (i + 1) all) ys = subst (λ n. AreMade x turns n (drop (i + 1) all) ys) (plus_one i) rest in
    subst (AreMade x turns 0 all) (sym (append_grouped talks (y ∷ []) ys))
    (so_far (y ∷ ys) (subst (λ (inputs : List (List ℕ)). AreMade x turns i inputs (y ∷ ys)) (sym (drop_at all i input at)) (made, later)))

pub made_all : (x : Shared) (turns i : ℕ) (all : List (List ℕ)) (talks : List Talk) → length all ≤ i → MadeSoFar x turns i all talks → AreMade x turns 0 all talks
made_all x turns i all talks past so_far =
    subst (AreMade x turns 0 all) (append_nil talks) (so_far [] (subst (λ (inputs : List (List ℕ)). AreMade x turns i inputs []) (sym (drop_all i all past)) tt))

pub boot_fits : BegunBootsAreWellFormed → (t : SharedTexts) (x : Shared) (turns : ℕ) (input : List ℕ) (boot : BootTree) → AreShared t x → length input ≤ most → boot ≡ boot_in x turns input → IsTrue (is_well_formed_boot fits boot)
boot_fits law t x turns input boot shared short is =
    subst (λ (b : BootTree). IsTrue (is_well_formed_boot fits b)) (sym is) (law (with_input t input) turns (boot_in x turns input) (monitor_in x turns input) (shared_begin t x input turns shared short))

pub monitor_fits : BegunMonitorsAreWellFormed → (t : SharedTexts) (x : Shared) (turns : ℕ) → AreShared t x → IsTrue (is_well_formed_monitor (view_monitor x.monitor))
monitor_fits law t x turns shared = law (with_input t []) turns (boot_in x turns []) (monitor_in x turns []) (shared_begin t x [] turns shared (zero_at_most most))

pub hosts_fit : BegunMonitorsHostsServe → (t : SharedTexts) (x : Shared) (turns : ℕ) → AreShared t x → HostsServe (view_monitor x.monitor) (models_of (hosts_of x.hosts).models)
hosts_fit law t x turns shared = law (with_input t []) turns (boot_in x turns []) (monitor_in x turns []) (shared_begin t x [] turns shared (zero_at_most most))

-- no two have one number

number_from : (x : Shared) (turns n : ℕ) (inputs : List (List ℕ)) (ys : List Talk) (k j : ℕ) → AreMade x turns n inputs ys → slice_get (numbers_of ys) j ≡ Some k → n ≤ k
number_from x turns n inputs [] k j made at = none_not_some k at
number_from x turns n [] (y ∷ ys) k j made at = absurd made
number_from x turns n (input ∷ inputs) (y ∷ ys) k zero made at = at_most_same n k (sym made.0.0 ∙ some_same y.session k at)
  where
    at_most_same : (a b : ℕ) → a ≡ b → a ≤ b
    at_most_same a b e = omega (arith, e)
number_from x turns n (input ∷ inputs) (y ∷ ys) k (suc j) made at = below_from n k (number_from x turns (suc n) inputs ys k j made.1 at)
  where
    below_from : (a b : ℕ) → suc a ≤ b → a ≤ b
    below_from a b e = omega (arith, e)

past_it : (n k s : ℕ) → suc n ≤ k → s ≡ n → k ≡ s → ⊥
past_it n k s below is same = omega (arith, below, is, same)

made_apart : (x : Shared) (turns n : ℕ) (inputs : List (List ℕ)) (ys : List Talk) → AreMade x turns n inputs ys → AreApart (numbers_of ys)
made_apart x turns n inputs [] made = tt
made_apart x turns n [] (y ∷ ys) made = absurd made
made_apart x turns n (input ∷ inputs) (y ∷ ys) made = (
  λ k j at same. past_it n k y.session (number_from x turns (suc n) inputs ys k j made.1 at) made.0.0 same,
  made_apart x turns (suc n) inputs ys made.1,
)

-- ---- the sessions that are opened

-- it is open with so many inputs, and what is left of them leads where all lead from the first
pub record HasOpened (hub : code_hub) (first : Hub) (i : ℕ) (all : List (List ℕ)) : Type 0 where
  pub h : Hub
  pub hub_is : IsHub hub h
  pub opened : h.opened ≡ i
  pub seats : length h.seats ≡ i
  pub rest : after_calls (openings (drop i all)) h ≡ after_calls (openings all) first

pub opened_none : (hub : code_hub) (first : Hub) (all : List (List ℕ)) → IsHub hub first → IsFresh first → HasOpened hub first 0 all
opened_none hub first all is fresh = record { h = first; hub_is = is; opened = fresh.opened; seats = ap (λ (xs : List (ℕ × Monitor)). length xs) fresh.seats; rest = refl }

seats_few : (n i m : ℕ) → n ≡ i → i < m → m ≤ 64 → n < 64
seats_few n i m is below few = omega (arith, is, below, few)

numbers_few : (n i m : ℕ) → n ≡ i → i < m → m ≤ 64 → suc n < 2 ^ 32
numbers_few n i m is below few = omega (arith, is, below, few)

pub has_room : (hub : code_hub) (first : Hub) (i : ℕ) (all : List (List ℕ)) → i < length all → length all ≤ 64 → (so_far : HasOpened hub first i all) → HasRoom so_far.h
has_room hub first i all below few so_far = record { few = seats_few (length so_far.h.seats) i (length all) so_far.seats below few; numbered = numbers_few so_far.h.opened i (length all) so_far.opened below few }

pub opened_on : (hub hub' : code_hub) (first : Hub) (i : ℕ) (all : List (List ℕ)) (input : List ℕ) → slice_get all i ≡ Some input → length all ≤ 64 → (so_far : HasOpened hub first i all) → IsHub hub' (with_opened input so_far.h) → HasOpened hub' first (i + 1) all
opened_on hub hub' first i all input at few so_far is =
    let h : Hub = so_far.h in
    let room : is_full h ≡ false = few_open h (has_room hub first i all (slice_get_within all i input at) few so_far).few in
    record {
      h = with_opened input h;
      hub_is = is;
      opened = ap (λ n. suc n) so_far.opened ∙ sym (plus_one i);
      seats = length_pushed h.seats (h.opened, begun_with h input) ∙ ap (λ n. suc n) so_far.seats ∙ sym (plus_one i);
      rest = ap (after_calls (openings (drop (i + 1) all))) (opens_by h input room) ∙ ap (λ (inputs : List (List ℕ)). after_calls (openings inputs) h) (sym (drop_at all i input at)) ∙ so_far.rest;
    }

pub opened_all : (hub : code_hub) (first : Hub) (i : ℕ) (all : List (List ℕ)) → length all ≤ i → HasOpened hub first i all → HaveOpened hub first all
opened_all hub first i all past so_far =
    subst (λ (h : Hub). IsHub hub h) (ap (λ (inputs : List (List ℕ)). after_calls (openings inputs) so_far.h) (sym (drop_all i all past)) ∙ so_far.rest) so_far.hub_is

-- ---- where they begin

-- the hub of which none is open
abbrev pub first_hub : Shared → ℕ → Hub
first_hub x turns = fresh (view_monitor x.monitor) (hosts_for (view_monitor x.monitor) (models_of (hosts_of x.hosts).models)) x.policy turns

zero_few : (n : ℕ) → n ≤ 64 → 0 + n ≤ 64
zero_few n few = omega (arith, few)

module _ (law : BegunPairsAreExpected) (t : SharedTexts) (x : Shared) (turns : ℕ) (small : turns < 2 ^ 32) (shared : AreShared t x) where
  seated_each : (h : Hub) (n : ℕ) (inputs : List (List ℕ)) (ys : List Talk) → AreMade x turns n inputs ys → Opened (first_hub x turns) h n inputs → AreShort inputs → AreOfBytes inputs → SeatedEach h ys (starts_of x turns inputs)
  seated_each h n [] [] made opened short bytes = tt
  seated_each h n [] (y ∷ ys) made opened short bytes = absurd made
  seated_each h n (input ∷ inputs) [] made opened short bytes = absurd made
  seated_each h n (input ∷ inputs) (y ∷ ys) made opened short bytes = (
    record {
      slave = made.0.1;
      monitor = ap (monitor_at h) made.0.0 ∙ opened.0;
      written = made.0.2;
      runs = made.0.3;
      ends = comes_to_end law t x turns small shared input short.0 bytes.0;
    },
    seated_each h (suc n) inputs ys made.1 opened.1 short.1 bytes.1,
  )

pub have_begun : BegunPairsAreExpected → (t : SharedTexts) (x : Shared) (turns : ℕ) (all : List (List ℕ)) (begun : Begun) → turns < 2 ^ 32 → length all ≤ 64 → (may : MayBegin t x all) → IsKept (first_hub x turns)
    → HaveOpened begun.hub (first_hub x turns) all → AreMade x turns 0 all begun.talks.items → begun.names ≡ x.names → AreBegun t x all turns begun
have_begun law t x turns all begun small few may kept opened made named =
    let first : Hub = first_hub x turns in
    let h : Hub = after_calls (openings all) first in
    let are_open : Opened first h 0 all = all_opened first first all kept (calls_made first []) (zero_few (length all) few) in
    record {
      h = h;
      hub_is = opened;
      seated = record { apart = made_apart x turns 0 all begun.talks.items made; each = seated_each law t x turns small may.shared h 0 all begun.talks.items made are_open may.short may.bytes };
      started = all_started law t x turns small may.shared all may.short;
      names_are = named;
    }

-- ---- what all come to

sessions_seen : (xs : List SessionEnd) → map (λ (e : List ℕ × End). record { bytes = e.0; end = e.1 }) (map end_of xs) ≡ map view_session xs
sessions_seen [] = refl
sessions_seen (x ∷ xs) = ap (λ ys. view_session x ∷ ys) (sessions_seen xs)

bytes_seen : (xs : List SessionEnd) → map (λ (x : SessionEnd). x.bytes) xs ≡ map (λ (e : List ℕ × End). e.0) (map end_of xs)
bytes_seen [] = refl
bytes_seen (x ∷ xs) = ap (λ ys. x.bytes ∷ ys) (bytes_seen xs)

pub is_served : BegunPairsAreExpected → (t : SharedTexts) (x : Shared) (turns : ℕ) (inputs : List (List ℕ)) (told told' : Option (ℕ → base.Who)) (v : code) → turns < 2 ^ 32 → 1 ≤ length inputs → (may : MayBegin t x inputs)
    → v.names ≡ x.names → HaveRun (starts_of x turns inputs) told told' (map end_of v.sessions.items) → IsServed t inputs turns (view_served v)
is_served law t x turns inputs told told' v small some may named ran = record {
  some = some;
  ran = subst (λ (names : List (List ℕ)). AreRan t turns names inputs (map view_session v.sessions.items)) (sym (named ∙ may.shared.names_are))
      (subst (λ (xs : List Session). AreRan t turns (names_of may.shared.tree) inputs xs) (sessions_seen v.sessions.items)
      (all_ran law t x turns small may.shared inputs (map end_of v.sessions.items) may.short may.bytes
      (whole_turns_are_alone Slave Monitor Message ReplyBody End PeerRule the_sides (starts_of x turns inputs) ran.answers (map end_of v.sessions.items) ran.whole)));
}

pub have_turns : BegunPairsAreExpected → (t : SharedTexts) (x : Shared) (turns : ℕ) (inputs : List (List ℕ)) (told told' : Option (ℕ → base.Who)) (xs : List SessionEnd) → turns < 2 ^ 32 → (may : MayBegin t x inputs)
    → HaveRun (starts_of x turns inputs) told told' (map end_of xs) → HaveTurns t inputs turns told told' (map (λ x. x.bytes) xs)
have_turns law t x turns inputs told told' xs small may ran = record {
  starts = starts_of x turns inputs;
  started = all_started law t x turns small may.shared inputs may.short;
  answers = ran.answers;
  taken = ran.taken;
  ends = map end_of xs;
  whole = ran.whole;
  bytes_are = bytes_seen xs;
}

-- where nothing begins, no answer is taken
pub none_turned : (t : SharedTexts) (all : List (List ℕ)) (turns : ℕ) (told : Option (ℕ → base.Who)) (stop : Stop) → AreWholeTurns t all turns told told (Err stop)
none_turned t all turns told (Refused refusal) = taken_none told
none_turned t all turns told Memory = tt
