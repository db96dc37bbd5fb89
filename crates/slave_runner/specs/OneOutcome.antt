-- What frames and bytes come to is one.
use Rattle.std.specs.Prelude.{◌≡◌, ℕ, List}
use Rattle.wire.specs.declared.message.Message.{Message}
use Rattle.wire.specs.Frames.{Ending, IsStream}
use Rattle.slave_runner.specs.Comes.{Comes}
use Rattle.slave_runner.specs.Rules.{Stopped}

-- The bytes that a slave's side sends are told by the frames that it is given, and so is where it stops, by the end or by a rule; and
-- both are told by the bytes of the frames.
pub record WhatASlaveComesToIsOne : Type 0 where
  pub over_frames : (frames : List (Message × ℕ)) (ending : Ending) (sent sent' : List ℕ) (stopped stopped' : Stopped) →
      Comes frames ending sent stopped → Comes frames ending sent' stopped' → (sent ≡ sent') × (stopped ≡ stopped')
  pub over_bytes : (at : ℕ) (given : List ℕ) (frames frames' : List (Message × ℕ)) (ending ending' : Ending) (sent sent' : List ℕ) (stopped stopped' : Stopped) →
      IsStream at given frames ending → Comes frames ending sent stopped → IsStream at given frames' ending' → Comes frames' ending' sent' stopped' → (sent ≡ sent') × (stopped ≡ stopped')
