-- What a slave of code is, and what its steps come to.
use Rattle.std.specs.Prelude.{ℕ, Option}
use Rattle.wire.specs.declared.message.Message.{Message}
use Rattle.pair_meaning.specs.SlaveRun as s
use Rattle.slave_interp.specs.declared.slave.Slave.{Slave}
use Rattle.slave_interp.specs.Engines.{IsAt}
use Rattle.slave_interp.specs.Running.{HasGone}

-- It is this slave: its machine shows the slave's, its counts are the slave's, and it does the same next. With it the slave is
-- sound, so that its steps have no condition.
abbrev pub IsSlave : Slave → s.Slave → Type 0
IsSlave x from = IsAt x.engine x.doing from

-- So many steps of at most so many lead to a slave that it is.
abbrev pub HasRun : ℕ → ℕ → s.Slave → Option Message → Slave → Type 0
HasRun made most from said x = HasGone made most from said x.engine x.doing
