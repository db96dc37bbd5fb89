-- What a frame that answers a call comes to.
use Rattle.std.specs.Prelude.{◌≡◌, ◌⊎◌, ℕ, true, false, Option, Some, None, Result, Ok, Err}
use Rattle.wire.specs.declared.message.ReplyBody.{ReplyBody}
use Rattle.pair_meaning.specs.SlaveRun.{Slave, may_take, take}
use Rattle.slave_runner.specs.declared.fault.WorkFault.{WorkFault}
use Rattle.slave_runner.specs.declared.fault.WorkFault.TheVariants.{BadPeer, Memory}

-- the slave takes the reply, where it is one that its call can have; else the frame at this place breaks a rule
abbrev pub Taken : {T : Type 0} → Slave → Option ReplyBody → ℕ → (Slave → Type 0) → Result T WorkFault → Type 0
Taken x None place is (Ok done) = ⊥
Taken x None place is (Err e) = e ≡ BadPeer 12 place
Taken x (Some reply) place is (Ok done) = (may_take x x.doing reply ≡ true) × is (take reply x)
Taken x (Some reply) place is (Err e) = (e ≡ Memory) ⊎ ((e ≡ BadPeer 12 place) × (may_take x x.doing reply ≡ false))
