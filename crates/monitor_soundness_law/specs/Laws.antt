-- What the work of a monitor leaves.
use Rattle.std.specs.Prelude.{◌≡◌, ◌≤◌, ◌<◌, ◌-◌, ℕ, ℤ, Bool, true, ◌&&◌, not, List, [], Option, IsTrue, All, is_some, map, option_map}
use Rattle.pt_tree.specs.HostStep.{Answer, host_step}
use Rattle.runs.specs.Run.{deepest}
use Rattle.runs.specs.State.{Hosts, gives, put_host}
use Rattle.host_models.specs.Fitting.{fits}
use Rattle.block_memory.specs.declared.cell.Cell.{Cell}
use Rattle.block_memory.specs.declared.cell.BlockName.TheVariants.{Received}
use Rattle.block_memory.specs.Blocks.{Blocks}
use Rattle.pt_core.specs.CodeTree.{ProgramTree}
use Rattle.pt_core.specs.Calls.{body_run, calls_within, number_cell, signature_in}
use Rattle.pt_core.specs.Statements.{State, Frame}
use Rattle.pt_core.specs.WellFormed.{function_at, is_sound}
use Rattle.core_soundness_law.specs.Kept.{none}
use Rattle.core_soundness_law.specs.Fits.{MemoryFits}
use Rattle.core_soundness_law.specs.Outside.{ArgumentsFit, GivenFits, own_params}
use Rattle.core_soundness_law.specs.StepLaws.{IsSameShape, NumberFits}
use Rattle.core_soundness_law.specs.Called.{is_called}
pub use Rattle.slave_soundness_law.specs.Sound.{IsSound}
use Rattle.core_steps_law.specs.MachinesBodies.{body_frame}

-- each host of the program that is called has a model that may stand for it
abbrev pub HostsFit : ProgramTree → Hosts → Type 0
HostsFit program hosts = (f : ℕ) → IsTrue (is_called program f) → IsTrue (signature_in program f).host → IsTrue (fits (hosts f) (signature_in program f))

-- A monitor's program with no function active: globals and received blocks hold numbers of their types, and no handle.
pub record IsAtRest (program : ProgramTree) (blocks : Blocks) (hosts : Hosts) (input : List ℕ) : Type 0 where
  pub sound : IsTrue (is_sound true program)
  pub memory : MemoryFits none program [] blocks
  pub hosts_fit : HostsFit program hosts
  pub bytes : All (λ b. b < 256) input

-- what is there is numbers of their types again, received blocks have the cells and the types that they had, and the result is a
-- number of its type
pub record LeavesNumbers (program : ProgramTree) (f : ℕ) (before : Blocks) (value : Option Cell) (st : State) : Type 0 where
  pub memory : MemoryFits none program [] st.memory
  pub hosts_fit : HostsFit program st.hosts
  pub result : GivenFits none (signature_in program f).result value
  pub received : (n : ℕ) → IsSameShape (st.memory (Received n)) (before (Received n))

-- A function of the program is started at a depth from 1 to the deepest with arguments of its own parameters, and gives a result.
abbrev pub BodiesLeaveNumbers : Type 0
BodiesLeaveNumbers = (program : ProgramTree) (privileged : Bool) (f depth : ℕ) (args : List Cell) (blocks : Blocks) (hosts : Hosts) (input : List ℕ) (left : ℕ) (value : Option Cell) (st : State) →
    IsAtRest program blocks hosts input → IsTrue (is_some (function_at program f)) → 1 ≤ depth → depth ≤ deepest → ArgumentsFit none program.structs blocks 0 (own_params program f) args →
    body_run program (calls_within program (deepest - depth)) (body_frame program privileged f depth) f args (record { memory = blocks; hosts = hosts; input = input; events = []; left = left }) ≡ gives value st →
    LeavesNumbers program f blocks value st

-- what a host answers is a number of its result's type, and what stands for it then may stand for it
pub record AnswersNumber (program : ProgramTree) (f : ℕ) (hosts : Hosts) (answer : Answer) : Type 0 where
  pub result : GivenFits none (signature_in program f).result (number_cell answer.result)
  pub hosts_fit : HostsFit program (put_host hosts f answer.next)

abbrev pub HostsLeaveNumbers : Type 0
HostsLeaveNumbers = (program : ProgramTree) (f : ℕ) (numbers : List ℤ) (hosts : Hosts) (input : List ℕ) →
    HostsFit program hosts → All (λ b. b < 256) input → IsTrue (fits (hosts f) (signature_in program f)) → AnswersNumber program f hosts (host_step input (hosts f) numbers)
