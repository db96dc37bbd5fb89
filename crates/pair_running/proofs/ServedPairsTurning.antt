-- Turns of sessions as the code takes them.
use Rattle.std.proofs.Common.{◌≡◌, ◌∙◌, ◌+◌, ℕ, zero, suc, List, [], ◌∷◌, ◌++◌, Option, Some, length, map, take, refl, sym, ap, subst, arith}
use Rattle.std.specs.Prelude.{slice_get}
use Rattle.pt_base.proofs.Lists.{as_append_nil}
use Rattle.pt_base.proofs.Options.{some_same}
use Rattle.pt_base.specs.declared.chooser.Who as base
use Rattle.pt_base.specs.declared.end.End.{End}
use Rattle.wire.specs.declared.message.Message.{Message}
use Rattle.wire.specs.declared.message.ReplyBody.{ReplyBody}
use Rattle.pair_protocol.specs.Sides.{of_bool}
use Rattle.pair_protocol.specs.Pair.{run, done, wrong, both_from, both_in, both_step, Who}
use Rattle.pair_meaning.specs.Monitors.{Monitor}
use Rattle.pair_meaning.specs.Pair.{the_sides}
use Rattle.pair_meaning.specs.Rules.{PeerRule}
use Rattle.pair_meaning.specs.SlaveRun.{Doing, Slave, is_over, mode_by}
use Rattle.session_turns.specs.Turns.{GoesOn as IsOnward, IsTurn, TurnsLead, begun, count_running, is_running, over}
use Rattle.session_turns.proofs.Onward.{onward_steps}
use Rattle.session_turns.proofs.Laters.{done_stays, steps_more, turns_join}
use Rattle.session_turns.proofs.Endings.{wrong_stays}
use Rattle.sessions.specs.declared.hub.Hub.{Hub as code_hub}
use Rattle.sessions.specs.Hubs.{Hub, OthersStay}
use Rattle.sessions.specs.IsHub.{IsHub}
use Rattle.pair_running.specs.declared.served_pairs.served.SessionEnd.{SessionEnd}
use Rattle.pair_running.specs.declared.served_pairs.turning.Talk.{Talk}
use Rattle.pair_running.specs.ServedPairsTurns.{AreEnds, AreSeated, AreTalks, ComesToEnd, HaveGone, HaveRun, IsTalk, Pair, SeatedEach, StandAt, count_open, end_of, is_open, numbers_of}

-- ---- ends of one pair

-- behind some steps it comes to an end still
pub later_ends : (j : ℕ) (b c : Pair) → both_from the_sides j b ≡ c → ComesToEnd b → ComesToEnd c
later_ends j b c is (k, bytes, end, comes) =
    let turned : k + j ≡ j + k = omega arith in
    (k, bytes, end, ap (both_from the_sides k) (sym is) ∙ sym (steps_more the_sides j k b) ∙ ap (λ n. both_from the_sides n b) (sym turned) ∙ steps_more the_sides k j b ∙ ap (both_from the_sides j) comes ∙ done_stays the_sides j bytes end)

pub onward_ends : (s : Slave) (m : Monitor) (written : List ℕ) (next : Pair) → IsOnward the_sides s m written next → ComesToEnd (run s m written) → ComesToEnd next
onward_ends s m written next h comes = later_ends h.steps (run s m written) next (onward_steps the_sides s m written next h) comes

-- one that breaks a rule comes to none
wrong_not_done : (bytes bytes' : List ℕ) (q : PeerRule) (end : End) → ◌≡◌ {A = Pair} (wrong bytes q) (done bytes' end) → ⊥
wrong_not_done bytes bytes' q end e = cc

pub wrong_never_ends : (bytes : List ℕ) (q : PeerRule) → ComesToEnd (wrong bytes q) → ⊥
wrong_never_ends bytes q (k, written, end, comes) = wrong_not_done bytes written q end (sym (wrong_stays the_sides k bytes q) ∙ comes)

-- nor does one whose slave has said its last
over_stays : (k : ℕ) (s : Slave) (m : Monitor) (bytes : List ℕ) → s.doing ≡ is_over → both_from the_sides k (run s m bytes) ≡ run s m bytes
over_stays zero s m bytes is = refl
over_stays (suc k) s m bytes is =
    let still : both_step the_sides (run s m bytes) ≡ run s m bytes = ap (λ (d : Doing). both_in the_sides (mode_by d) s m bytes) is in
    ap (both_from the_sides k) still ∙ over_stays k s m bytes is

run_not_done : (s : Slave) (m : Monitor) (bytes bytes' : List ℕ) (end : End) → ◌≡◌ {A = Pair} (run s m bytes) (done bytes' end) → ⊥
run_not_done s m bytes bytes' end e = cc

pub over_never_ends : (s : Slave) (m : Monitor) (bytes : List ℕ) → s.doing ≡ is_over → ComesToEnd (run s m bytes) → ⊥
over_never_ends s m bytes is (k, written, end, comes) = run_not_done s m bytes written end (sym (over_stays k s m bytes is) ∙ comes)

-- ---- what others did

-- a talk of another session stands where it stood
pub talk_stays : (h next : Hub) (session : ℕ) (x : Talk) (b : Pair) → OthersStay session h next → (x.session ≡ session → ⊥) → IsTalk h x b → IsTalk next x b
talk_stays h next session x (run s m written) others apart is = (is.0, is.1, is.2, others.others x.session apart ∙ is.3)
talk_stays h next session x (done bytes end) others apart is = is
talk_stays h next session x (wrong bytes rule) others apart is = is

pub talks_stay : (h next : Hub) (session : ℕ) (xs : List Talk) (bs : List Pair) → OthersStay session h next → ((k j : ℕ) → slice_get (numbers_of xs) j ≡ Some k → k ≡ session → ⊥) → AreTalks h xs bs → AreTalks next xs bs
talks_stay h next session [] [] others apart is = is
talks_stay h next session [] (b ∷ bs) others apart is = is
talks_stay h next session (x ∷ xs) [] others apart is = is
talks_stay h next session (x ∷ xs) (b ∷ bs) others apart is = (
  talk_stays h next session x b others (apart x.session 0 refl) is.0,
  is.1,
  talks_stay h next session xs bs others (λ k j at. apart k (suc j) at) is.2,
)

-- ---- how many run

-- as many of the talks haven't ended as pairs run
open_of : (h : Hub) (x : Talk) (b : Pair) → IsTalk h x b → is_open x.end ≡ of_bool (is_running b)
open_of h x (run s m written) is = ap is_open is.0
open_of h x (done bytes end) is = ap is_open is.0
open_of h x (wrong bytes rule) is = absurd is

pub as_many_run : (h : Hub) (xs : List Talk) (bs : List Pair) → AreTalks h xs bs → count_open xs ≡ count_running bs
as_many_run h [] [] is = refl
as_many_run h [] (b ∷ bs) is = absurd is
as_many_run h (x ∷ xs) [] is = absurd is
as_many_run h (x ∷ xs) (b ∷ bs) is = λ i. open_of h x b is.0 i + as_many_run h xs bs is.2 i

-- and so many of the first ones
pub as_many_before : (h : Hub) (n : ℕ) (xs : List Talk) (bs : List Pair) → AreTalks h xs bs → count_open (take n xs) ≡ count_running (take n bs)
as_many_before h zero xs bs is = refl
as_many_before h (suc n) [] [] is = refl
as_many_before h (suc n) [] (b ∷ bs) is = absurd is
as_many_before h (suc n) (x ∷ xs) [] is = absurd is
as_many_before h (suc n) (x ∷ xs) (b ∷ bs) is = λ i. open_of h x b is.0 i + as_many_before h n xs bs is.2 i

-- ---- ends

-- where none runs, all are over, and these are their ends
pub all_over : (h : Hub) (xs : List Talk) (bs : List Pair) (es : List SessionEnd) → AreTalks h xs bs → count_running bs ≡ 0 → AreEnds xs es → bs ≡ map over (map end_of es)
all_over h [] [] [] is none ends = refl
all_over h [] [] (e ∷ es) is none ends = absurd ends
all_over h [] (b ∷ bs) es is none ends = absurd is
all_over h (x ∷ xs) [] es is none ends = absurd is
all_over h (x ∷ xs) (b ∷ bs) [] is none ends = absurd ends
all_over h (x ∷ xs) (run s m written ∷ bs) (e ∷ es) is none ends = absurd (omega (arith, none))
all_over h (x ∷ xs) (wrong bytes rule ∷ bs) (e ∷ es) is none ends = absurd is.0
all_over h (x ∷ xs) (done bytes end ∷ bs) (e ∷ es) is none ends =
    let none_behind : count_running bs ≡ 0 = omega (arith, none) in
    let written : bytes ≡ e.bytes = sym is.0.1 ∙ sym ends.0.0 in
    let ended : end ≡ e.end = some_same end e.end (sym is.0.0 ∙ ends.0.1) in
    let others = all_over h xs bs es is.2 none_behind ends.1 in
    λ i. done (written i) (ended i) ∷ others i

-- ---- turns behind turns

-- one turn more
pub lead_more : (n : ℕ) (answers more : List Who) (pairs at end : List Pair) → TurnsLead the_sides n answers pairs at → IsTurn the_sides more at end → TurnsLead the_sides (n + 1) (answers ++ more) pairs end
lead_more n answers more pairs at end lead turn =
    turns_join Slave Monitor Message ReplyBody End PeerRule the_sides n 1 answers more pairs at end lead
    (more, [], end, as_append_nil more, turn, (refl, refl))

-- ---- where they begin and end

begin_each : (h : Hub) (xs : List Talk) (starts : List (Slave × Monitor)) → SeatedEach h xs starts → AreTalks h xs (map begun starts)
begin_each h [] [] each = each
begin_each h [] (s ∷ ss) each = absurd each
begin_each h (x ∷ xs) [] each = absurd each
begin_each h (x ∷ xs) (s ∷ ss) each = ((each.0.runs, each.0.written, each.0.slave, each.0.monitor), each.0.ends, begin_each h xs ss each.1)

-- where they begin
abbrev beginnings : List (Slave × Monitor) → List Pair
beginnings starts = map begun starts

one_more : (a b : ℕ) → a ≡ b → suc a ≡ 1 + b
one_more a b e = omega (arith, e)

all_open : (h : Hub) (xs : List Talk) (starts : List (Slave × Monitor)) → SeatedEach h xs starts → length xs ≡ count_running (beginnings starts)
all_open h [] [] each = refl
all_open h [] (s ∷ ss) each = absurd each
all_open h (x ∷ xs) [] each = absurd each
all_open h (x ∷ xs) (s ∷ ss) each = one_more (length xs) (count_running (beginnings ss)) (all_open h xs ss each.1)

pub seated_stand : (hub : code_hub) (h : Hub) (xs : List Talk) (starts : List (Slave × Monitor)) → IsHub hub h → AreSeated h xs starts → StandAt hub h xs (map begun starts) (length xs)
seated_stand hub h xs starts is seated = record { hub_is = is; talks = begin_each h xs starts seated.each; apart = seated.apart; running = all_open h xs starts seated.each }

pub none_open : (h : Hub) (xs : List Talk) (bs : List Pair) → AreTalks h xs bs → 0 ≡ count_running bs → count_open xs ≡ 0
none_open h xs bs talks none = as_many_run h xs bs talks ∙ sym none

pub have_run : {hub : code_hub} {xs : List Talk} (starts : List (Slave × Monitor)) (told told' : Option (ℕ → base.Who)) → HaveGone hub xs 0 starts told told' → (es : List SessionEnd) → AreEnds xs es → HaveRun starts told told' (map end_of es)
have_run {xs = xs} starts told told' gone es are = record {
  answers = gone.answers;
  taken = gone.taken;
  whole = record {
    turns = gone.turns;
    lead = subst (λ (bs : List Pair). TurnsLead the_sides gone.turns gone.answers (map begun starts) bs) (all_over gone.h xs gone.pairs es gone.stand.talks (sym gone.stand.running) are) gone.lead;
  };
}
