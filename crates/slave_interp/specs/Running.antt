-- Steps of a slave.
use Rattle.std.specs.Prelude.{◌≡◌, ◌≢◌, ◌≤◌, ◌<◌, ◌⊎◌, ℕ, [], Option, None}
use Rattle.wire.specs.declared.message.Message.{Message}
use Rattle.pair_protocol.specs.Sides.{Mode, going, waits, over, Moved}
use Rattle.pair_protocol.specs.SlaveRun.{came, listed, slave_at}
use Rattle.pair_meaning.specs.Pair.{the_sides}
use Rattle.pair_meaning.specs.SlaveRun.{Slave, mode_of, silent, slave_step}
use Rattle.slave_interp.specs.declared.doing.Doing.{Doing}
use Rattle.slave_interp.specs.declared.engine.Engine.{Engine}
use Rattle.slave_interp.specs.Engines.{IsAt}

abbrev pub next_by : Mode → Slave → Moved Slave Message
next_by going x = slave_step x
next_by waits x = silent x
next_by over x = silent x

-- a step, where it goes on
abbrev pub next_of : Slave → Moved Slave Message
next_of x = next_by (mode_of x) x

-- It made so many steps of at most so many, of which the last alone said something, if it did. If it made fewer, it did, or it
-- doesn't go on.
pub record HasGone (made most : ℕ) (from : Slave) (said : Option Message) (e : Engine) (d : Doing) : Type 0 where
  pub few : made ≤ most
  pub to : Slave
  pub there : IsAt e d to
  pub came_to : slave_at the_sides made from [] ≡ came to (listed said) [] made
  pub quiet : (j : ℕ) → j < made → (slave_at the_sides j from []).said ≡ []
  pub stops : made < most → (said ≢ None) ⊎ (mode_of to ≢ going)
