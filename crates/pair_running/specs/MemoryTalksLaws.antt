-- What a talk over a link in memory comes to, whose slave is sent a boot first.
use Rattle.std.specs.Prelude.{◌≡◌, ◌<◌, ℕ, List, [], ◌++◌, length}
use Rattle.pt_base.specs.declared.end.End.{End}
use Rattle.pt_base.specs.Talk.{Event}
use Rattle.pair_protocol.specs.Pair.{Who, IsWhole}
use Rattle.pair_meaning.specs.Monitors.{Monitor}
use Rattle.pair_meaning.specs.Pair.{the_sides}
use Rattle.pair_meaning.specs.Rules.{PeerRule}
use Rattle.pair_meaning.specs.SlaveRun.{Slave}
use Rattle.pair_meaning.specs.Streams.{still_open, at_end, at_rule, Talk}
use Rattle.pair_runner.specs.Sending.{boot_talk}
use Rattle.pair_runner.specs.Serves.{Serves}
use Rattle.pair_meaning.specs.LinkTalks.{Side, begun, Runs}

-- Where a monitor serves a link in memory up to an end, the answers that the link took are a whole run of the pair, with the bytes that
-- were written and this end.
abbrev pub TalksAreWhole : Type 0
TalksAreWhole =
    (window : ℕ) (answers : List Who) (x : Slave) (m : Monitor) (boot : List ℕ) (talk : List Event) (served : Talk) (end : End) (s' : Side)
    → Runs window answers (begun x) (boot_talk boot ++ talk) s' → Serves m 0 [] talk served → served.stopped ≡ at_end end
    → IsWhole the_sides x m window answers served.bytes end

-- more answers than these begin with a whole run of the pair, whatever they are
abbrev pub ComesToAnEnd : Slave → Monitor → ℕ → Type 0
ComesToAnEnd x m window =
    (bound : ℕ) × ((answers : List Who) → bound < length answers
    → (front : List Who) × (back : List Who) × (answers ≡ front ++ back) × (bytes : List ℕ) × (end : End) × IsWhole the_sides x m window front bytes end)

-- Where the pair comes to an end, a link in memory doesn't stop before it, and breaks no rule.
abbrev pub TalksEnd : Type 0
TalksEnd =
    (window : ℕ) (answers : List Who) (x : Slave) (m : Monitor) (boot : List ℕ) (talk : List Event) (served : Talk) (s' : Side) → ComesToAnEnd x m window
    → Runs window answers (begun x) (boot_talk boot ++ talk) s' → Serves m 0 [] talk served
    → (served.stopped ≡ still_open → ⊥) × ((rule : PeerRule) (place : ℕ) → served.stopped ≡ at_rule rule place → ⊥)
