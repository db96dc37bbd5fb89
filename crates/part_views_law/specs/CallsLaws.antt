-- A slave that is shown in the whole's machine begins, by a call, a body that is shown, and is shown when it goes on.
use Rattle.std.specs.Prelude.{◌≡◌, ◌≤◌, ◌+◌, ℕ, suc, ℤ, true, false, List, [], ◌∷◌, Option, Some, IsTrue, is_some, length}
use Rattle.runs.specs.Run.{deepest}
use Rattle.handle_store.specs.Stored.{AreInRange}
use Rattle.block_memory.specs.declared.cell.Cell.{Cell}
use Rattle.block_memory.specs.declared.cell.BlockName.{BlockName}
use Rattle.block_memory.specs.Blocks.{Blocks}
use Rattle.pt_core.specs.CodeTree.{ProgramTree}
use Rattle.pt_core.specs.Calls.{signature_in}
use Rattle.pt_core.specs.Steps.{Active, Awaited, Machine, resumed, started, with_blocks}
use Rattle.pt_core.specs.WellFormed.{function_at, is_sound}
use Rattle.core_soundness_law.specs.Fits.{MemoryFits}
use Rattle.core_soundness_law.specs.Kept.{by_store, none}
use Rattle.core_soundness_law.specs.Outside.{ArgumentsFit, own_params}
use Rattle.wire.specs.Limits.{most_in_a_block}
use Rattle.marshalling.specs.Handles.{Entries}
use Rattle.marshalling.specs.HonestCalls.{for_callee, grown, returned}
use Rattle.marshalling_law.specs.CallsSending.{AreParameters, HandlesStand}
use Rattle.part_views_law.specs.Views.{has_global, slave_view}
use Rattle.part_views_law.specs.CrossingsCalls.{IsSent, IsWorked, body_memory, body_view}
use Rattle.part_views_law.specs.CrossingsMachines.{resting}
use Rattle.part_views_law.specs.StepsParts.{IsPart, IsViewed, Stands}

-- Both halves are parts of the whole that are sound and share no global, and the monitor's memory between messages fits without
-- handles.
pub record AreHalves (whole slave monitor : ProgramTree) (m : Blocks) : Type 0 where
  pub slave_sound : IsTrue (is_sound false slave)
  pub monitor_sound : IsTrue (is_sound true monitor)
  pub slave_part : IsPart slave whole
  pub monitor_part : IsPart monitor whole
  pub apart : (g : ℕ) → has_global monitor g ≡ true → has_global slave g ≡ false
  pub memory : MemoryFits none monitor [] m

-- The slave's innermost function holds arguments for this function, with handles where signatures and structs have marks, and no
-- block is larger than an object.
pub record Asks (slave : ProgramTree) (store : Entries) (x : Machine) (a : Active) (rest : List Active) (f : ℕ) (args : List Cell) : Type 0 where
  pub active : x.active ≡ a ∷ rest
  pub params : AreParameters slave.structs (signature_in slave f).params
  pub given : ArgumentsFit (by_store store) slave.structs x.blocks a.depth (signature_in slave f).params args
  pub marked : HandlesStand slave.structs x.blocks (signature_in slave f).params args
  pub small : (name : BlockName) → length (x.blocks name).types ≤ most_in_a_block

-- What a slave asks for that is shown may cross.
abbrev pub ShownCallsAreSent : Type 0
ShownCallsAreSent = (whole slave monitor : ProgramTree) (store : Entries) (m : Blocks) (turns n : ℕ) (x : Machine) (a : Active) (rest : List Active) (f : ℕ) (args : List Cell) →
    AreHalves whole slave monitor m → Stands (slave_view slave store m) 0 false turns n slave x → Asks slave store x a rest f args →
    IsSent slave monitor a.depth store slave.structs (signature_in slave f).params x.blocks m args

-- The body that is started with what it sent is shown, over the slave's functions, and behind the slave's turns and that of the call.
abbrev pub BodiesAreShown : Type 0
BodiesAreShown = (whole slave monitor : ProgramTree) (store : Entries) (m : Blocks) (turns n : ℕ) (x : Machine) (a : Active) (rest : List Active) (f : ℕ) (args : List Cell) (own_turns budget : ℕ) →
    AreHalves whole slave monitor m → AreInRange store → Stands (slave_view slave store m) 0 false turns n slave x → Asks slave store x a rest f args →
    IsTrue (is_some (function_at monitor f)) → own_params monitor f ≡ (signature_in slave f).params → a.depth + 1 ≤ deepest → n ≤ budget + suc x.turns →
    IsViewed (body_view slave monitor a.depth store x.blocks m args) a.depth true monitor whole
    × Stands (body_view slave monitor a.depth store x.blocks m args) a.depth true (suc x.turns) n monitor
    (started monitor true f (a.depth + 1) (for_callee store x.blocks args).args (resting (body_memory store (signature_in slave f).params x.blocks m args) own_turns budget))

-- Where the body has worked as is asked, the slave is shown that goes on with what it left, by the new store.
abbrev pub SlavesGoOn : Type 0
SlavesGoOn = (whole slave monitor : ProgramTree) (store : Entries) (m : Blocks) (turns n : ℕ) (x : Machine) (a : Active) (rest : List Active) (f : ℕ) (args : List Cell) (awaited : Awaited) (z after : Blocks) (value : Option ℤ) (later : ℕ) →
    AreHalves whole slave monitor m → AreInRange store → Stands (slave_view slave store m) 0 false turns n slave x → Asks slave store x a rest f args →
    IsWorked monitor a.depth store slave.structs (signature_in slave f) x.blocks m args z after value → x.awaits ≡ Some awaited → awaited.callee ≡ f → n ≤ x.budget + later →
    IsViewed (slave_view slave (grown store slave.structs (signature_in slave f) x.blocks args z value) after) 0 false slave whole
    × Stands (slave_view slave (grown store slave.structs (signature_in slave f) x.blocks args z value) after) 0 false later n slave
    (resumed (returned store slave.structs (signature_in slave f) x.blocks args z value).result (with_blocks (returned store slave.structs (signature_in slave f) x.blocks args z value).blocks x))
