-- The memory of both sides as one, with values in the place of handles.
use Rattle.std.specs.Prelude.{Bool, ℕ, if◌then◌else◌}
use Rattle.block_memory.specs.declared.cell.BlockName.TheVariants.{Local, Global, Received}
use Rattle.block_memory.specs.Blocks.{Blocks}
use Rattle.marshalling.specs.HonestCalls.{revealed_block}
use Rattle.pair_meaning.specs.Monitors.{Monitor}
use Rattle.pair_meaning.specs.SlaveRun.{Slave}

-- the slave's variables and the globals that it owns, with values in the place of handles; other globals are the monitor's
abbrev pub revealed_memory : (ℕ → Bool) → Slave → Monitor → Blocks
revealed_memory owned x m (Local depth v) = revealed_block m.store (x.machine.blocks (Local depth v))
revealed_memory owned x m (Global g) = if owned g then revealed_block m.store (x.machine.blocks (Global g)) else m.globals (Global g)
revealed_memory owned x m (Received k) = revealed_block m.store (x.machine.blocks (Received k))
