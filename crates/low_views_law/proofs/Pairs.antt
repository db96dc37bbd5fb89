-- Two pairs of one boot.
use Rattle.std.proofs.Common.{◌≡◌, ◌∙◌, ℕ, zero, suc, refl, ap, sym, subst, List, [], ◌∷◌, ◌++◌, Bool, true, false, Option, Some, None, if◌then◌else◌}
use Rattle.std.specs.Prelude.{◌&&◌, ◌||◌, IfSome, length, nat_lt}
use Rattle.pt_base.specs.declared.end.End.{End}
use Rattle.wire.specs.Limits.{KeepsCounts}
use Rattle.wire.specs.declared.message.Message.{Message}
use Rattle.wire.specs.declared.message.ReplyBody.{ReplyBody}
use Rattle.marshalling_law.specs.CallsSpelled.{HasSpelling}
use Rattle.pair_protocol.specs.Links.{front}
use Rattle.pair_protocol.specs.Pair.{Both, run, done, wrong, answered, both_from, both_in, both_step, delivered, heard, Who, Going, going_with, Pair, goes, stops, breaks, is_empty, is_going, is_slaves, monitor_turn, moves, pair_from, pair_step, replied, start, turn}
use Rattle.pair_protocol.specs.Sides.{goes_on, ends, bad}
use Rattle.pair_protocol.specs.SlaveRun.{listed}
use Rattle.pair_meaning.specs.LowView.{told_by}
use Rattle.pair_meaning.specs.Monitors.{Monitor, Low, low}
use Rattle.pair_meaning.specs.Pair.{the_sides}
use Rattle.pair_meaning.specs.Rules.{PeerRule}
use Rattle.pair_meaning.specs.Serving.{serve}
use Rattle.pair_meaning.specs.SlaveRun as slave
use Rattle.pair_meaning.specs.SlaveRun.{Slave, Doing, waits_for, is_over, mode_by, mode_of, slave_of, slave_step}
use Rattle.monitor_soundness_law.specs.ServingSound.{IsSound}
use Rattle.slave_soundness_law.specs.MessagesFormat.{IsInFormat}
use Rattle.slave_soundness_law.specs.MessagesLaws.{AllAreSpelled, SaysSpelled}
use Rattle.slave_soundness_law.proofs.MessagesBeginning.{slaves_begin_in_format}
use Rattle.slave_soundness_law.proofs.MessagesStepping.{steps_are_spelled}
use Rattle.slave_soundness_law.proofs.MessagesTaking.{takers_stay_in_format}
use Rattle.low_views_law.specs.Unserved.{Outcome}
use Rattle.low_views_law.specs.Alike.{WhereBothGoOn}
use Rattle.low_views_law.specs.Pairs.{ArePairsSeenAlike, AreSeenAlike, HasSameView, said_in, served_in, StepsTellAlike, StepTellsAlike, TellAlike, TurnsTellAlike, TurnTellsAlike}
use Rattle.low_views_law.specs.Laws.{PairsSeeAlike}
use Rattle.low_views_law.proofs.Replies.{serve_told}
use Rattle.low_views_law.proofs.Streams.{same_reply, serve_told_by, Told}

counts_of : (x : Message) → HasSpelling x → KeepsCounts x
counts_of x h = h.1.keeps.counts

-- two monitors of which the same may be known
record Alike (m m' : Monitor) : Type 0 where
  view : low m ≡ low m'
  first : IsSound m
  second : IsSound m'

stays_in_format : (x : Slave) (reply : Option ReplyBody) → IsInFormat x → IsInFormat (delivered the_sides x reply)
stays_in_format x None h = h
stays_in_format x (Some reply) h = takers_stay_in_format x reply h

-- ---- each message served at once

abbrev BothAlike : Both Slave Monitor End PeerRule → Both Slave Monitor End PeerRule → Type 0
BothAlike (run x m bytes) (run x' m' bytes') = (x ≡ x') × Alike m m' × IsInFormat x
BothAlike (run x m bytes) (done bytes' end) = Unit {0}
BothAlike (run x m bytes) (wrong bytes' rule) = Unit {0}
BothAlike (done bytes end) other = Unit {0}
BothAlike (wrong bytes rule) other = Unit {0}

-- both outcomes of one view and message
answered_alike : (view : Low) (x : Message) (s : Slave) (bytes bytes' : List ℕ) (o o' : Outcome) → IsInFormat s → Told view x o → Told view x o' → WhereBothGoOn o o' (λ next next'. told_by o ≡ told_by o') →
    BothAlike (answered the_sides s bytes o) (answered the_sides s bytes' o')
answered_alike view x s bytes bytes' (goes_on next reply more) (goes_on next' reply' more') format h h' told = (
  ap (λ o. delivered the_sides s o) (same_reply view x next next' reply reply' (told_by (goes_on next reply more)) (told_by (goes_on next' reply' more')) h.1 h'.1 told),
  record { view = h.1.view_is ∙ sym h'.1.view_is; first = h.1.sound; second = h'.1.sound },
  stays_in_format s reply format,
)
answered_alike view x s bytes bytes' (goes_on next reply more) (ends more' end) format h h' told = tt {0}
answered_alike view x s bytes bytes' (goes_on next reply more) (bad rule) format h h' told = tt {0}
answered_alike view x s bytes bytes' (ends more end) o' format h h' told = tt {0}
answered_alike view x s bytes bytes' (bad rule) o' format h h' told = tt {0}

heard_alike : (s : Slave) (m m' : Monitor) (bytes bytes' : List ℕ) (o : Option Message) → IsInFormat s → IfSome o HasSpelling → Alike m m' → TellAlike m m' o → BothAlike (heard the_sides s o m bytes) (heard the_sides s o m' bytes')
heard_alike s m m' bytes bytes' None format spelled same told = (refl, same, format)
heard_alike s m m' bytes bytes' (Some x) format spelled same told =
    answered_alike (low m) x s bytes bytes' (serve m x) (serve m' x) format (serve_told m x same.first (counts_of x spelled)) (serve_told_by (low m) m' x same.view same.second (counts_of x spelled)) told

run_alike : (s : Slave) (m m' : Monitor) (bytes bytes' : List ℕ) → IsInFormat s → Alike m m' → TellAlike m m' (said_in (mode_of s) s) → BothAlike (both_in the_sides (mode_of s) s m bytes) (both_in the_sides (mode_of s) s m' bytes')
run_alike s m m' bytes bytes' format same told = go s.doing refl told
  where
    go : (d : Doing) → s.doing ≡ d → TellAlike m m' (said_in (mode_by d) s) → BothAlike (both_in the_sides (mode_by d) s m bytes) (both_in the_sides (mode_by d) s m' bytes')
    go slave.goes e told = let says : SaysSpelled (slave_step s) = steps_are_spelled s format e in heard_alike (slave_step s).slave m m' bytes bytes' (slave_step s).said says.stays says.spelled same told
    go (waits_for f args) e told = (refl, same, format)
    go is_over e told = (refl, same, format)

over_alike : (p : Both Slave Monitor End PeerRule) (bytes : List ℕ) (end : End) → BothAlike p (done bytes end)
over_alike (run x m bytes) bytes' end = tt {0}
over_alike (done bytes end') bytes' end = tt {0}
over_alike (wrong bytes rule) bytes' end = tt {0}

wrong_alike : (p : Both Slave Monitor End PeerRule) (bytes : List ℕ) (rule : PeerRule) → BothAlike p (wrong bytes rule)
wrong_alike (run x m bytes) bytes' rule = tt {0}
wrong_alike (done bytes end) bytes' rule = tt {0}
wrong_alike (wrong bytes rule') bytes' rule = tt {0}

step_alike : (p p' : Both Slave Monitor End PeerRule) → BothAlike p p' → StepTellsAlike p p' → BothAlike (both_step the_sides p) (both_step the_sides p')
step_alike (run x m bytes) (run x' m' bytes') h told =
    subst (λ (s : Slave). BothAlike (both_in the_sides (mode_of x) x m bytes) (both_in the_sides (mode_of s) s m' bytes')) h.0 (run_alike x m m' bytes bytes' h.2 h.1 told)
step_alike (run x m bytes) (done bytes' end) h told = over_alike (both_step the_sides (run x m bytes)) bytes' end
step_alike (run x m bytes) (wrong bytes' rule) h told = wrong_alike (both_step the_sides (run x m bytes)) bytes' rule
step_alike (done bytes end) p' h told = tt {0}
step_alike (wrong bytes rule) p' h told = tt {0}

steps_alike : (k : ℕ) (p p' : Both Slave Monitor End PeerRule) → BothAlike p p' → StepsTellAlike k p p' → BothAlike (both_from the_sides k p) (both_from the_sides k p')
steps_alike zero p p' h told = h
steps_alike (suc k) p p' h told = steps_alike k (both_step the_sides p) (both_step the_sides p') (step_alike p p' h told.0) told.1

seen_alike : (p p' : Both Slave Monitor End PeerRule) → BothAlike p p' → AreSeenAlike p p'
seen_alike (run x m bytes) (run x' m' bytes') h = (h.0, h.1.view)
seen_alike (run x m bytes) (done bytes' end) h = tt {0}
seen_alike (run x m bytes) (wrong bytes' rule) h = tt {0}
seen_alike (done bytes end) p' h = tt {0}
seen_alike (wrong bytes rule) p' h = tt {0}

-- ---- with a queue

record GoAlike (p p' : Going Slave Monitor Message) : Type 0 where
  seen : HasSameView p p'
  monitors : Alike p.monitor p'.monitor
  format : IsInFormat p.slave
  spelled : AllAreSpelled p.queue

abbrev PairsAlike : Pair Slave Monitor Message End PeerRule → Pair Slave Monitor Message End PeerRule → Type 0
PairsAlike (goes p) (goes p') = GoAlike p p'
PairsAlike (goes p) (stops bytes end) = Unit {0}
PairsAlike (goes p) (breaks bytes rule) = Unit {0}
PairsAlike (stops bytes end) other = Unit {0}
PairsAlike (breaks bytes rule) other = Unit {0}

go_alike : (s : Slave) (queue : List Message) (m m' : Monitor) (bytes bytes' : List ℕ) → IsInFormat s → AllAreSpelled queue → Alike m m' → GoAlike (going_with s queue m bytes) (going_with s queue m' bytes')
go_alike s queue m m' bytes bytes' format spelled same = record {
  seen = record { slave = refl; queue = refl; view = same.view };
  monitors = same;
  format = format;
  spelled = spelled;
}

-- one more message
one_said : (o : Option Message) → IfSome o HasSpelling → AllAreSpelled (listed o)
one_said None h = tt
one_said (Some x) h = (h, tt)

more_said : (queue more : List Message) → AllAreSpelled queue → AllAreSpelled more → AllAreSpelled (queue ++ more)
more_said [] more h k = k
more_said (x ∷ queue) more h k = (h.0, more_said queue more h.1 k)

replied_alike : (view : Low) (x : Message) (s : Slave) (queue : List Message) (bytes bytes' : List ℕ) (o o' : Outcome) → IsInFormat s → AllAreSpelled queue → Told view x o → Told view x o' → WhereBothGoOn o o' (λ next next'. told_by o ≡ told_by o') →
    PairsAlike (replied the_sides s queue bytes o) (replied the_sides s queue bytes' o')
replied_alike view x s queue bytes bytes' (goes_on next reply more) (goes_on next' reply' more') format spelled h h' told = record {
  seen = record {
    slave = ap (λ o. delivered the_sides s o) (same_reply view x next next' reply reply' (told_by (goes_on next reply more)) (told_by (goes_on next' reply' more')) h.1 h'.1 told);
    queue = refl;
    view = h.1.view_is ∙ sym h'.1.view_is;
  };
  monitors = record { view = h.1.view_is ∙ sym h'.1.view_is; first = h.1.sound; second = h'.1.sound };
  format = stays_in_format s reply format;
  spelled = spelled;
}
replied_alike view x s queue bytes bytes' (goes_on next reply more) (ends more' end) format spelled h h' told = tt {0}
replied_alike view x s queue bytes bytes' (goes_on next reply more) (bad rule) format spelled h h' told = tt {0}
replied_alike view x s queue bytes bytes' (ends more end) o' format spelled h h' told = tt {0}
replied_alike view x s queue bytes bytes' (bad rule) o' format spelled h h' told = tt {0}

monitors_turn : (s : Slave) (queue : List Message) (m m' : Monitor) (bytes bytes' : List ℕ) → IsInFormat s → AllAreSpelled queue → Alike m m' → TellAlike m m' (front queue) → PairsAlike (monitor_turn the_sides s m bytes queue) (monitor_turn the_sides s m' bytes' queue)
monitors_turn s [] m m' bytes bytes' format spelled same told = go_alike s [] m m' bytes bytes' format spelled same
monitors_turn s (x ∷ queue) m m' bytes bytes' format spelled same told =
    replied_alike (low m) x s queue bytes bytes' (serve m x) (serve m' x) format spelled.1 (serve_told m x same.first (counts_of x spelled.0)) (serve_told_by (low m) m' x same.view same.second (counts_of x spelled.0)) told

going_goes : (d : Doing) (a b : Bool) → ((is_going (mode_by d) && a) && b) ≡ true → d ≡ slave.goes
going_goes slave.goes a b h = refl
going_goes (waits_for f args) a b h = cc
going_goes is_over a b h = cc

turns_alike : (window : ℕ) (who : Who) (s : Slave) (queue : List Message) (m m' : Monitor) (bytes bytes' : List ℕ) → IsInFormat s → AllAreSpelled queue → Alike m m' → TellAlike m m' (served_in window who (going_with s queue m bytes)) →
    PairsAlike (pair_step the_sides window who (goes (going_with s queue m bytes))) (pair_step the_sides window who (goes (going_with s queue m' bytes')))
turns_alike window who s queue m m' bytes bytes' format spelled same told = go (moves the_sides window who s queue) refl told
  where
    go : (b : Bool) → moves the_sides window who s queue ≡ b → TellAlike m m' (if b then None else front queue) → PairsAlike (turn the_sides b (going_with s queue m bytes)) (turn the_sides b (going_with s queue m' bytes'))
    go true e told =
        let says : SaysSpelled (slave_step s) = steps_are_spelled s format (going_goes s.doing (nat_lt (length queue) window) (is_slaves who || is_empty queue) e) in
        go_alike (slave_step s).slave (queue ++ listed (slave_step s).said) m m' bytes bytes' says.stays (more_said queue (listed (slave_step s).said) spelled (one_said (slave_step s).said says.spelled)) same
    go false e told = monitors_turn s queue m m' bytes bytes' format spelled same told

stopped_alike : (p : Pair Slave Monitor Message End PeerRule) (bytes : List ℕ) (end : End) → PairsAlike p (stops bytes end)
stopped_alike (goes p) bytes end = tt {0}
stopped_alike (stops bytes' end') bytes end = tt {0}
stopped_alike (breaks bytes' rule) bytes end = tt {0}

broken_alike : (p : Pair Slave Monitor Message End PeerRule) (bytes : List ℕ) (rule : PeerRule) → PairsAlike p (breaks bytes rule)
broken_alike (goes p) bytes rule = tt {0}
broken_alike (stops bytes' end) bytes rule = tt {0}
broken_alike (breaks bytes' rule') bytes rule = tt {0}

pair_step_alike : (window : ℕ) (who : Who) (p p' : Pair Slave Monitor Message End PeerRule) → PairsAlike p p' → TurnTellsAlike window who p p' → PairsAlike (pair_step the_sides window who p) (pair_step the_sides window who p')
pair_step_alike window who (goes p) (goes p') h told =
    subst (λ (queue : List Message). PairsAlike (pair_step the_sides window who (goes p)) (pair_step the_sides window who (goes (going_with p'.slave queue p'.monitor p'.written)))) h.seen.queue
    (subst (λ (s : Slave). PairsAlike (pair_step the_sides window who (goes p)) (pair_step the_sides window who (goes (going_with s p.queue p'.monitor p'.written)))) h.seen.slave
    (turns_alike window who p.slave p.queue p.monitor p'.monitor p.written p'.written h.format h.spelled h.monitors told))
pair_step_alike window who (goes p) (stops bytes end) h told = stopped_alike (pair_step the_sides window who (goes p)) bytes end
pair_step_alike window who (goes p) (breaks bytes rule) h told = broken_alike (pair_step the_sides window who (goes p)) bytes rule
pair_step_alike window who (stops bytes end) p' h told = tt {0}
pair_step_alike window who (breaks bytes rule) p' h told = tt {0}

pair_steps_alike : (window : ℕ) (answers : List Who) (p p' : Pair Slave Monitor Message End PeerRule) → PairsAlike p p' → TurnsTellAlike window answers p p' → PairsAlike (pair_from the_sides window answers p) (pair_from the_sides window answers p')
pair_steps_alike window [] p p' h told = h
pair_steps_alike window (who ∷ answers) p p' h told = pair_steps_alike window answers (pair_step the_sides window who p) (pair_step the_sides window who p') (pair_step_alike window who p p' h told.0) told.1

pairs_seen : (p p' : Pair Slave Monitor Message End PeerRule) → PairsAlike p p' → ArePairsSeenAlike p p'
pairs_seen (goes p) (goes p') h = h.seen
pairs_seen (goes p) (stops bytes end) h = tt {0}
pairs_seen (goes p) (breaks bytes rule) h = tt {0}
pairs_seen (stops bytes end) p' h = tt {0}
pairs_seen (breaks bytes rule) p' h = tt {0}

pub pairs_see_alike : PairsSeeAlike
pairs_see_alike = record {
  at_once = λ b bytes spells well m m' sound sound' same k told.
      seen_alike (both_from the_sides k (run (slave_of b) m [])) (both_from the_sides k (run (slave_of b) m' []))
      (steps_alike k (run (slave_of b) m []) (run (slave_of b) m' []) (refl, record { view = same; first = sound; second = sound' }, slaves_begin_in_format b bytes spells well) told);
  in_turns = λ b bytes spells well m m' sound sound' same window answers told.
      pairs_seen (pair_from the_sides window answers (start (slave_of b) m)) (pair_from the_sides window answers (start (slave_of b) m'))
      (pair_steps_alike window answers (start (slave_of b) m) (start (slave_of b) m')
      (go_alike (slave_of b) [] m m' [] [] (slaves_begin_in_format b bytes spells well) tt (record { view = same; first = sound; second = sound' })) told);
}
