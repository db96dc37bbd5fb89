-- What the pair keeps where its slave asks for a call.
use Rattle.std.specs.Prelude.{◌≡◌, ℕ, List}
use Rattle.block_memory.specs.declared.cell.Cell.{Cell}
use Rattle.pt_core.specs.Steps.{asked}
use Rattle.pair_protocol.specs.Pair.{both_step, run}
use Rattle.pair_meaning.specs.Monitors.{Monitor}
use Rattle.pair_meaning.specs.Pair.{the_sides}
use Rattle.pair_meaning.specs.SlaveRun.{Slave, machine_step}
use Rattle.pair_invariant_law.specs.Live.{IsKept, IsLive, IsSetting, Setting}

-- Where the pair is live and the slave's step asks for a call, the pair goes on, live or late, or has come to what is expected.
abbrev pub CallsKeep : (Slave → Type 0) → Type 0
CallsKeep Own = (w : Setting) (x : Slave) (m : Monitor) (written : List ℕ) (f : ℕ) (args : List Cell) (depth : ℕ) →
    IsSetting w Own → IsLive w Own x m written → (machine_step x).answer ≡ asked f args depth → IsKept w Own (both_step the_sides (run x m written))
