-- Where the memories of both halves fit, calls are sent and worked on as is asked, and what they leave fits.
use Rattle.std.specs.Prelude.{◌≡◌, ◌≤◌, ℕ, ℤ, true, false, List, [], ◌∷◌, Option, IsTrue, length, slice_get}
use Rattle.pt_tree.specs.declared.signature.Param.{Param}
use Rattle.pt_tree.specs.declared.signature.Signature.{Signature}
use Rattle.typed_tree.specs.declared.types.StructInfo.{StructInfo}
use Rattle.typed_tree.specs.WellFormed.{structs_sound}
use Rattle.handle_store.specs.Stored.{AreInRange}
use Rattle.block_memory.specs.declared.cell.Cell.{Cell}
use Rattle.block_memory.specs.declared.cell.BlockName.{BlockName}
use Rattle.block_memory.specs.declared.cell.BlockName.TheVariants.{Global, Received}
use Rattle.block_memory.specs.Blocks.{Blocks}
use Rattle.pt_core.specs.CodeTree.{ProgramTree}
use Rattle.pt_core.specs.Calls.{number_cell}
use Rattle.pt_core.specs.Steps.{Active}
use Rattle.core_soundness_law.specs.Fits.{AllFit, MemoryFits}
use Rattle.core_soundness_law.specs.Kept.{by_store, none}
use Rattle.core_soundness_law.specs.Outside.{ArgumentsFit, GivenFits}
use Rattle.wire.specs.Limits.{most_in_a_block, most_in_a_call}
use Rattle.marshalling.specs.Handles.{Entries}
use Rattle.marshalling.specs.HonestCalls.{IsServed, for_callee, grown, returned}
use Rattle.marshalling.specs.Packing.{names_of}
use Rattle.marshalling.specs.Taking.{are_whole, call_crossing, comes_back}
use Rattle.marshalling_law.specs.CallsSending.{AreParameters, HandlesStand}
use Rattle.part_views_law.specs.Views.{has_global}
use Rattle.part_views_law.specs.CrossingsCalls.{IsSent, IsWorked, body_memory}

-- ---- where a call is sent and worked on

-- Where the slave's memory fits by the store, its innermost function may hold the arguments, the monitor's memory fits without
-- handles, the halves share no global, handles stand where signatures and structs have marks, and no block is larger than an
-- object, all that is asked of a call that is sent holds.
abbrev pub SentByFits : Type 0
SentByFits = (slave monitor : ProgramTree) (store : Entries) (params : List Param) (x m : Blocks) (a : Active) (rest : List Active) (args : List Cell) →
    IsTrue (structs_sound slave.structs 0 slave.structs) → AreParameters slave.structs params →
    MemoryFits (by_store store) slave (a ∷ rest) x → AllFit false slave (a ∷ rest) → ArgumentsFit (by_store store) slave.structs x a.depth params args →
    MemoryFits none monitor [] m → ((g : ℕ) → has_global monitor g ≡ true → has_global slave g ≡ false) →
    HandlesStand slave.structs x params args → ((name : BlockName) → length (x name).types ≤ most_in_a_block) →
    IsSent slave monitor a.depth store slave.structs params x m args

-- Where the monitor's memory fits without handles at the end of a body as before it, with the received blocks' types as they
-- were, and what doesn't come back is as it was sent, all that is asked of a body holds.
abbrev pub WorkedByFits : Type 0
WorkedByFits = (monitor : ProgramTree) (base : ℕ) (store : Entries) (structs : List StructInfo) (sig : Signature) (x m : Blocks) (args : List Cell) (z after : Blocks) (value : Option ℤ) →
    MemoryFits none monitor [] m → MemoryFits none monitor [] z → GivenFits none sig.result (number_cell value) → length (names_of args) ≤ most_in_a_call →
    ((k : ℕ) → (z (Received k)).types ≡ (body_memory store sig.params x m args (Received k)).types) →
    ((k i : ℕ) → comes_back (call_crossing structs sig.params args k i) ≡ false → slice_get (z (Received k)).cells i ≡ slice_get (body_memory store sig.params x m args (Received k)).cells i) →
    ((g : ℕ) → after (Global g) ≡ z (Global g)) → are_whole x args ≡ true →
    IsWorked monitor base store structs sig x m args z after value

-- ---- what the body is started with

-- The monitor's memory with the blocks that were sent fits without handles, where the store's entries are numbers of their
-- types, and the arguments fit it; they point to no local.
abbrev pub BodiesFit : Type 0
BodiesFit = (slave monitor : ProgramTree) (store : Entries) (params : List Param) (x m : Blocks) (a : Active) (rest : List Active) (args : List Cell) →
    IsTrue (structs_sound slave.structs 0 slave.structs) → AreParameters slave.structs params → slave.structs ≡ monitor.structs →
    MemoryFits (by_store store) slave (a ∷ rest) x → ArgumentsFit (by_store store) slave.structs x a.depth params args → MemoryFits none monitor [] m → AreInRange store → are_whole x args ≡ true →
    MemoryFits none monitor [] (body_memory store params x m args) × ArgumentsFit none monitor.structs (body_memory store params x m args) 0 params (for_callee store x args).args

-- ---- what the slave has after a call

-- The slave's memory fits by the new store, and what it was given is of the result's type.
abbrev pub ReturnedFits : Type 0
ReturnedFits = (slave : ProgramTree) (active : List Active) (store : Entries) (structs : List StructInfo) (sig : Signature) (x : Blocks) (args : List Cell) (z : Blocks) (value : Option ℤ) →
    MemoryFits (by_store store) slave active x → IsServed store structs sig x args z value →
    MemoryFits (by_store (grown store structs sig x args z value)) slave active (returned store structs sig x args z value).blocks
    × GivenFits (by_store (grown store structs sig x args z value)) sig.result (returned store structs sig x args z value).result
