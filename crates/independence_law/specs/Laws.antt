-- A result that is independent tells no secret.
use Rattle.std.specs.Prelude.{◌≡◌, ◌<◌, ◌≤◌, ℕ, true, List, Option, IsTrue, slice_get}
use Rattle.runs.specs.State.{gives}
use Rattle.block_memory.specs.declared.cell.Cell.{Cell}
use Rattle.block_memory.specs.declared.cell.BlockName.TheVariants.{Global, Received}
use Rattle.block_memory.specs.Blocks.{Blocks}
use Rattle.pt_core.specs.CodeTree.{MonitorTree}
use Rattle.pt_core.specs.Statements.{State}
use Rattle.pt_core.specs.Calls.{function_in}
use Rattle.pt_core.specs.WellFormed.{is_well_formed_monitor, monitor_program}
use Rattle.monitor_labels.specs.Nodes.{of_variable, of_result, of_global, of_control}
use Rattle.monitor_labels.specs.Arrows.{is_pointer_variable}
use Rattle.monitor_labels.specs.Secrecy.{IsSecret}
use Rattle.independence_law.specs.Bodies.{Reached, Begins, IsPrivileged, MixedHostsAreSame, body_of, calls_no_plain_host}

-- ---- what isn't secret is the same

-- parameters that are pointers
abbrev pub IsPointerParameter : MonitorTree → ℕ → ℕ → Type 0
IsPointerParameter p f i = (i < (function_in (monitor_program p) f).params) × (is_pointer_variable (function_in (monitor_program p) f) i ≡ true)

-- Two memories are, as far as they aren't secret: globals, and of received blocks the cells that are reached, where a parameter
-- that points to them isn't secret.
pub record AreSame (p : MonitorTree) (f : ℕ) (reached : Reached) (blocks blocks' : Blocks) : Type 0 where
  pub globals : (g i : ℕ) → ¬ IsSecret p (of_global g) → slice_get (blocks (Global g)).cells i ≡ slice_get (blocks' (Global g)).cells i
  pub received : (v k i : ℕ) → IsPointerParameter p f v → ¬ IsSecret p (of_variable f v) → reached k i ≡ true →
      slice_get (blocks (Received k)).cells i ≡ slice_get (blocks' (Received k)).cells i

-- so are arguments
abbrev pub ArgumentsAreSame : MonitorTree → ℕ → List Cell → List Cell → Type 0
ArgumentsAreSame p f args args' = (v : ℕ) → ¬ IsSecret p (of_variable f v) → slice_get args v ≡ slice_get args' v

-- ---- the laws

-- The run of a body changes nothing that isn't secret, where whether its statements are done is.
abbrev pub SecretControlChangesSecretsAlone : Type 0
SecretControlChangesSecretsAlone = (p : MonitorTree) (f depth deeper : ℕ) (reached : Reached) (args : List Cell) (st end : State) (v : Option Cell) →
    1 ≤ depth → IsTrue (is_well_formed_monitor p) → IsTrue (calls_no_plain_host (monitor_program p)) → IsPrivileged (monitor_program p) f → MixedHostsAreSame (monitor_program p) st.hosts st.hosts →
    Begins p f reached args st.memory → IsSecret p (of_control f) → body_of (monitor_program p) f depth deeper args st ≡ gives v end → AreSame p f reached st.memory end.memory

-- Of two runs of a body that both return, whatever stands for privileged hosts, whatever their inputs are and however many turns each
-- has: where arguments and memory were the same as far as they aren't secret, so is the memory afterwards, and what the function gives
-- if that isn't secret.
abbrev pub IndependentResultsTellNoSecret : Type 0
IndependentResultsTellNoSecret = (p : MonitorTree) (f depth deeper : ℕ) (reached : Reached) (args args' : List Cell) (st st' end end' : State) (v v' : Option Cell) →
    1 ≤ depth → IsTrue (is_well_formed_monitor p) → IsTrue (calls_no_plain_host (monitor_program p)) → IsPrivileged (monitor_program p) f → MixedHostsAreSame (monitor_program p) st.hosts st'.hosts →
    Begins p f reached args st.memory → Begins p f reached args' st'.memory →
    ArgumentsAreSame p f args args' → AreSame p f reached st.memory st'.memory →
    body_of (monitor_program p) f depth deeper args st ≡ gives v end → body_of (monitor_program p) f depth deeper args' st' ≡ gives v' end' →
    AreSame p f reached end.memory end'.memory × (¬ IsSecret p (of_result f) → v ≡ v')
