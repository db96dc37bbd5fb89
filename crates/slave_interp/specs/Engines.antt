-- What a slave of code is: a slave of the definitions.
use Rattle.std.specs.Prelude.{◌≡◌, ◌≤◌, ◌<◌, ◌+◌, ◌^◌, ◌⊎◌, ℕ, List, length, Some, None}
use Rattle.pt_base.specs.declared.int_type.IntType.{IntType}
use Rattle.runs.specs.State.{Hosts}
use Rattle.block_memory.specs.declared.cell.Cell.{Cell}
use Rattle.wire.specs.declared.message.Message.{Message}
use Rattle.pt_core.specs.CodeTree.{ProgramTree}
use Rattle.pt_core.specs.Calls.{signature_in}
use Rattle.pt_core.specs.Steps.{Machine}
use Rattle.core_machine.specs.Machines.{Shown}
use Rattle.marshalling_law.specs.CallsPackable.{IsPackable}
use Rattle.pair_protocol.specs.Sides.{Moved}
use Rattle.pair_meaning.specs.SlaveRun as s
use Rattle.slave_soundness_law.specs.Sound.{HasSignature, IsSound, most_given}
use Rattle.slave_interp.specs.declared.calling.Packed.{Packed}
use Rattle.slave_interp.specs.declared.doing.Doing.{Doing}
use Rattle.slave_interp.specs.declared.doing.Doing.TheVariants.{Goes}
use Rattle.slave_interp.specs.declared.engine.Engine.{Engine}
use Rattle.slave_interp.specs.declared.ran.Next.{Next}
use Rattle.slave_interp.specs.Doings.{doing_of}
use Rattle.slave_interp.specs.Hearings.{model_in}

-- ---- what a slave consists of

-- It runs this program and is where this machine is, with these hosts and this input; it was given handles of these types, and
-- said so many calls.
pub record Stands (e : Engine) (program : ProgramTree) (machine : Machine) (hosts : Hosts) (input : List ℕ) (given : List IntType) (calls : ℕ) : Type 0 where
  pub shown : Shown program e.machine machine
  pub structs_are : e.structs ≡ program.structs
  pub signatures_are : e.gate.signatures ≡ program.signatures
  pub hosts_are : hosts ≡ model_in e.gate
  pub input_is : input ≡ e.gate.input
  pub given_are : e.names ≡ length given
  pub calls_are : e.calls ≡ calls
  pub budget_is : e.budget ≡ machine.budget

-- it is this slave, whatever that does next
abbrev pub Runs : Engine → s.Slave → Type 0
Runs e y = Stands e y.program y.machine y.hosts y.input y.given y.calls

-- it is this slave, which does this next and is sound
pub record IsAt (e : Engine) (d : Doing) (from : s.Slave) : Type 0 where
  pub runs : Runs e from
  pub doing : doing_of d ≡ Some from.doing
  pub sound : IsSound from

-- it is some slave that goes on
abbrev pub IsGoing : Engine → Type 0
IsGoing e = ∥ ((from : s.Slave) × IsAt e Goes from) ∥₁

-- it is some slave, or lost
abbrev pub IsSomewhere : Engine → Doing → Type 0
IsSomewhere e d = ∥ (doing_of d ≡ None) ⊎ ((from : s.Slave) × IsAt e d from) ∥₁

-- it came to the slave that is left, says what that says, and does the same next
pub record HasMoved (e : Engine) (next : Next) (m : Moved s.Slave Message) : Type 0 where
  pub runs : Runs e m.slave
  pub said : next.said ≡ m.said
  pub doing : doing_of next.doing ≡ Some m.slave.doing

-- ---- calls

-- it is a slave that may pack a call of this function with these arguments, and has numbers left for the handles that come back
pub record Calls (e : Engine) (f : ℕ) (args : List Cell) : Type 0 where
  pub slave : s.Slave
  pub runs : Runs e slave
  pub signed : HasSignature slave.program f
  pub packable : IsPackable slave.program.structs (signature_in slave.program f).params slave.machine.blocks args
  pub room : length slave.given + most_given ≤ 2 ^ 63

abbrev pub MayCall : Engine → ℕ → List Cell → Type 0
MayCall e f args = ∥ Calls e f args ∥₁

-- so it is, and the depth is that of a message
abbrev pub MayAsk : Engine → ℕ → List Cell → ℕ → Type 0
MayAsk e f args depth = MayCall e f args × (depth < 2 ^ 8)

-- the body that the slave sends, and whether it waits
pub record IsPacked (p : Packed) (y : s.Slave) (f : ℕ) (args : List Cell) : Type 0 where
  pub body_is : p.body ≡ s.call_body y f args
  pub wants_is : p.wants ≡ s.must_wait y f args
