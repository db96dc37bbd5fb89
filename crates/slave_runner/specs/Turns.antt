-- How many turns a slave's side has taken: each hears bytes, takes a frame or makes steps.
use Rattle.std.specs.Prelude.{◌≡◌, ◌≤◌, ◌<◌, ◌+◌, ◌^◌, ℕ, List, [], length, None}
use Rattle.wire.specs.declared.message.Message.{Message}
use Rattle.wire.specs.declared.message.ReplyBody.{ReplyBody}
use Rattle.wire.specs.View.{ReaderView}
use Rattle.pt_core.specs.CodeTree.{BootTree}
use Rattle.pair_protocol.specs.SlaveRun.{came}
use Rattle.pair_meaning.specs.SlaveRun.{Slave, longest}
use Rattle.pair_meaning.specs.Pair.{slave_at}
use Rattle.slave_runner.specs.Comes.{IsBoot}

-- it takes no more bytes
abbrev pub IsShort : ReaderView → Type 0
IsShort v = v.offset + length v.unread < 2 ^ 63

-- it came to this in at most so many turns that heard bytes or took a frame
pub record Reads (turns : ℕ) (v : ReaderView) : Type 0 where
  pub few : turns ≤ v.offset + (v.offset + length v.unread)
  pub short : IsShort v

-- it is a slave of some boot
pub record Speaks (is : Slave → Type 0) : Type 0 where
  pub bytes : List ℕ
  pub boot : BootTree
  pub is_boot : IsBoot bytes boot
  pub slave : Slave
  pub there : is slave
  pub steps : ℕ
  pub replies : List ReplyBody
  pub messages : List Message
  pub came_to : slave_at boot replies steps ≡ came slave messages [] steps

-- so it did, beside a slave that makes few steps, in so many turns with those of the slave
pub record Runs (turns : ℕ) (is : Slave → Type 0) (v : ReaderView) : Type 0 where
  pub bytes : List ℕ
  pub boot : BootTree
  pub is_boot : IsBoot bytes boot
  pub few_steps : longest boot < 2 ^ 100
  pub slave : Slave
  pub there : is slave
  pub steps : ℕ
  pub replies : List ReplyBody
  pub messages : List Message
  pub came_to : slave_at boot replies steps ≡ came slave messages [] steps
  pub sound : v.fault ≡ None
  pub heard : ℕ
  pub reads : Reads heard v
  pub few_turns : turns ≤ steps + heard
