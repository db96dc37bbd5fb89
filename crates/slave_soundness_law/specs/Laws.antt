-- Slaves stay sound.
use Rattle.std.specs.Prelude.{◌≡◌, ◌≤◌, ◌<◌, ◌+◌, ◌^◌, ℕ, true, List, length, IsTrue, All}
use Rattle.runs.specs.Run.{deepest}
use Rattle.block_memory.specs.declared.cell.Cell.{Cell}
use Rattle.wire.specs.declared.message.ReplyBody.{ReplyBody}
use Rattle.host_models.specs.Fitting.{fits}
use Rattle.pt_core.specs.CodeTree.{BootTree}
use Rattle.pt_core.specs.Calls.{signature_in}
use Rattle.pt_core.specs.Steps.{asked}
use Rattle.pt_core.specs.WellFormed.{is_well_formed_boot}
use Rattle.marshalling_law.specs.CallsPackable.{IsPackable}
use Rattle.pair_protocol.specs.Sides.{going}
use Rattle.pair_meaning.specs.SlaveRun.{Slave, goes, machine_step, mode_of, slave_of, slave_step, stepped, take}
use Rattle.slave_soundness_law.specs.Sound.{HasSignature, IsSound, most_given}

-- Whoever made it, a boot that is well formed, of bytes and a budget of 32 bits, gives a sound slave.
abbrev pub SlavesBeginSound : Type 0
SlavesBeginSound = (b : BootTree) → IsTrue (is_well_formed_boot fits b) → All (λ x. x < 256) b.input → b.turns < 2 ^ 32 → IsSound (slave_of b)

abbrev pub SlavesStaySound : Type 0
SlavesStaySound = (x : Slave) → IsSound x → x.doing ≡ goes → IsSound (slave_step x).slave

-- what it asks for may be packed and sent, and there are numbers left for the handles that come back
pub record IsReady (x : Slave) (f : ℕ) (args : List Cell) (depth : ℕ) : Type 0 where
  pub signed : HasSignature x.program f
  pub packable : IsPackable x.program.structs (signature_in x.program f).params x.machine.blocks args
  pub depth_is : depth ≤ deepest
  pub room : length x.given + most_given ≤ 2 ^ 63

abbrev pub CallsAreReady : Type 0
CallsAreReady = (x : Slave) (f : ℕ) (args : List Cell) (depth : ℕ) → IsSound x → x.doing ≡ goes → (machine_step x).answer ≡ asked f args depth → IsReady (stepped x (machine_step x)) f args depth

-- a reply that its call can't have is its end, any other is taken
abbrev pub TakersStaySound : Type 0
TakersStaySound = (x : Slave) (reply : ReplyBody) → IsSound x → IsSound (take reply x)
