-- What a step of the pair keeps.
use Rattle.std.specs.Prelude.{ℕ, List}
use Rattle.pt_base.specs.declared.end.End.{End}
use Rattle.pt_core.specs.Steps.{Answer, asked, ended, idle, moved, spent, trapped}
use Rattle.pair_protocol.specs.Pair.{Both, both_step, run}
use Rattle.pair_meaning.specs.Monitors.{Monitor}
use Rattle.pair_meaning.specs.Pair.{the_sides}
use Rattle.pair_meaning.specs.Rules.{PeerRule}
use Rattle.pair_meaning.specs.SlaveRun.{Slave, machine_step}
use Rattle.pair_invariant_law.specs.Laws.{CallsKeep}
use Rattle.pair_invariant_law.specs.Live.{IsKept, IsLate, IsLive, IsSetting, Setting}

abbrev pub IsNoCall : Answer → Type 0
IsNoCall moved = Unit {0}
IsNoCall (asked f args depth) = ⊥
IsNoCall (ended v) = Unit {0}
IsNoCall (trapped trap span) = Unit {0}
IsNoCall spent = Unit {0}
IsNoCall idle = Unit {0}

-- A live pair whose slave asks for nothing in its next step goes on, live or late, or has come to what is expected.
abbrev pub StepsKeep : (Slave → Type 0) → Type 0
StepsKeep Own = (w : Setting) (x : Slave) (m : Monitor) (written : List ℕ) → IsSetting w Own → IsLive w Own x m written → IsNoCall (machine_step x).answer →
    IsKept w Own (both_step the_sides (run x m written))

-- A late pair goes on, late, or has come to what is expected: the whole's budget is spent.
abbrev pub LateKeeps : (Slave → Type 0) → Type 0
LateKeeps Own = (w : Setting) (x : Slave) (m : Monitor) (written : List ℕ) → IsSetting w Own → IsLate w Own x m written → IsKept w Own (both_step the_sides (run x m written))

-- Where calls keep it, the pair keeps it.
abbrev pub ThePairKeeps : (Slave → Type 0) → Type 0
ThePairKeeps Own = CallsKeep Own → (w : Setting) (b : Both Slave Monitor End PeerRule) → IsSetting w Own → IsKept w Own b → IsKept w Own (both_step the_sides b)
