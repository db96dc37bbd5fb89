-- What holds of a slave.
use Rattle.std.specs.Prelude.{◌≡◌, ◌≤◌, ◌<◌, ◌+◌, ◌*◌, ◌^◌, ◌⊎◌, ℕ, Bool, true, false, ◌&&◌, not, List, [], ◌∷◌, Option, Some, None, length, IsTrue, All}
use Rattle.block_memory.specs.declared.cell.Cell.{Cell}
use Rattle.block_memory.specs.Blocks.{Blocks}
use Rattle.pt_tree.specs.declared.signature.Signature.{Signature}
use Rattle.host_models.specs.Fitting.{fits}
use Rattle.runs.specs.State.{Hosts}
use Rattle.pt_core.specs.CodeTree.{ProgramTree, no_stmts}
use Rattle.pt_core.specs.Calls.{signature_in}
use Rattle.pt_core.specs.Steps.{Active, Awaited, Machine, run}
use Rattle.pt_core.specs.WellFormed.{signature_at, is_sound}
use Rattle.core_soundness_law.specs.Fits.{Fits}
use Rattle.core_soundness_law.specs.Kept.{any}
use Rattle.core_soundness_law.specs.Called.{is_called, CallOwn}
use Rattle.marshalling_law.specs.CallsPackable.{AreSmall, IsPackable}
use Rattle.pair_meaning.specs.SlaveRun.{Slave, Doing, goes, waits_for, is_over}

-- ---- its machine

-- each host that is called and isn't privileged has a model that may stand for it
abbrev pub HostsFit : ProgramTree → Hosts → Type 0
HostsFit program hosts = (f : ℕ) → IsTrue (is_called program f) → IsTrue ((signature_in program f).host && not (signature_in program f).privileged) → IsTrue (fits (hosts f) (signature_in program f))

-- its machine fits, whichever handle stands for whichever number, and calls what the program's functions call
pub record IsRunning (x : Slave) : Type 0 where
  pub machine : Fits any false x.program x.machine
  pub own : CallOwn x.program x.machine.active
  pub small : AreSmall x.machine.blocks
  pub hosts : HostsFit x.program x.hosts

-- It was started where no code is. A hostile boot may name main what is no function of its own; then there is nothing to do, and it
-- ends with its first step.
pub record IsBare (m : Machine) : Type 0 where
  pub started : Active
  pub active : m.active ≡ started ∷ []
  pub work : started.work ≡ run no_stmts ∷ []
  pub free : m.awaits ≡ None

-- ---- handles

-- A reply gives at most so many: one for each cell of eight blocks, none larger than an object, and one for the result.
abbrev pub most_given : ℕ
most_given = 524_289

-- ---- what it does

-- the program has a signature of this number
abbrev pub HasSignature : ProgramTree → ℕ → Type 0
HasSignature program f = (s : Signature) × (signature_at program f ≡ Some s)

-- it awaits the result of a call of this function with these arguments, which may be packed
pub record IsWaiting (x : Slave) (f : ℕ) (args : List Cell) : Type 0 where
  pub running : IsRunning x
  pub result : Option ℕ
  pub awaits : x.machine.awaits ≡ Some (record { callee = f; result = result })
  pub signed : HasSignature x.program f
  pub packable : IsPackable x.program.structs (signature_in x.program f).params x.machine.blocks args
  pub room : length x.given + most_given ≤ x.calls * most_given

pub record IsFree (x : Slave) : Type 0 where
  pub running : IsRunning x
  pub free : x.machine.awaits ≡ None

abbrev pub IsDoing : Slave → Doing → Type 0
IsDoing x goes = IsFree x ⊎ IsBare x.machine
IsDoing x (waits_for f args) = IsWaiting x f args
IsDoing x is_over = Unit {0}

pub record IsSound (x : Slave) : Type 0 where
  pub program : IsTrue (is_sound false x.program)
  pub input : All (λ b. b < 256) x.input
  pub budget : x.machine.budget < 2 ^ 32
  pub turns : x.machine.turns ≤ x.machine.budget
  pub calls : x.calls ≤ x.machine.budget
  pub given : length x.given ≤ x.calls * most_given
  pub doing : IsDoing x x.doing
