-- What a body is given, and what it leaves: numbers of their types.
use Rattle.std.specs.Prelude.{◌≡◌, ◌≤◌, ◌<◌, ℕ, List, [], ◌∷◌, Option, Ok, IsTrue, length, slice_index_or}
use Rattle.std.specs.Option.{option_map}
use Rattle.pt_base.specs.declared.int_type.IntType.{IntType}
use Rattle.pt_tree.specs.declared.signature.Param.{Param}
use Rattle.typed_tree.specs.declared.types.StructInfo.{StructInfo}
use Rattle.typed_tree.specs.WellFormed.{structs_sound}
use Rattle.block_memory.specs.declared.cell.BlockName.TheVariants.{Received}
use Rattle.block_memory.specs.declared.cell.Cell.{Cell}
use Rattle.block_memory.specs.Blocks.{Blocks}
use Rattle.handle_store.specs.Stored.{AreInRange}
use Rattle.pt_core.specs.CodeTree.{ProgramTree}
use Rattle.pt_core.specs.Calls.{number_cell}
use Rattle.pt_core.specs.Steps.{Active}
use Rattle.core_soundness_law.specs.Fits.{IntegersFit, MemoryFits}
use Rattle.core_soundness_law.specs.Kept.{none}
use Rattle.core_soundness_law.specs.Outside.{ArgumentsFit, GivenFits}
use Rattle.wire.specs.Limits.{IsCall}
use Rattle.wire.specs.declared.message.CallBody.{CallBody}
use Rattle.marshalling.specs.Handles.{Entries, unpacking}
use Rattle.marshalling.specs.Replies.{AreServed, IsResult, number_in, types_in}
use Rattle.marshalling.specs.declared.inputs.Inputs.{Inputs}
use Rattle.marshalling_law.specs.CallsSending.{AreParameters}

-- ---- what a body is given

-- so many blocks, each with the integers of its types
abbrev pub AllHold : List (List IntType) → List (List Cell) → Type 0
AllHold [] [] = Unit {0}
AllHold [] (cells ∷ blocks) = ⊥
AllHold (types ∷ rest) [] = ⊥
AllHold (types ∷ rest) (cells ∷ blocks) = IntegersFit none types cells × AllHold rest blocks

-- received blocks of these types
abbrev pub AreOfTypes : List (List IntType) → Blocks → Type 0
AreOfTypes types y = (k : ℕ) → (y (Received k)).types ≡ slice_index_or types k []

-- What is made of any call's body, honest or not, where it isn't refused: each block has numbers of its types, and the
-- arguments fit the parameters in every memory that has the blocks under their numbers.
pub record AreInputs (structs : List StructInfo) (params : List Param) (body : CallBody) (inputs : Inputs) : Type 0 where
  pub blocks : AllHold (types_in body) inputs.blocks
  pub args : (y : Blocks) → AreOfTypes (types_in body) y → ArgumentsFit none structs y 0 params inputs.args

abbrev pub InputsFit : Type 0
InputsFit = (structs : List StructInfo) (store : Entries) (params : List Param) (body : CallBody) (inputs : Inputs) →
    IsTrue (structs_sound structs 0 structs) → AreParameters structs params → IsCall body → AreInRange store → unpacking store structs params body ≡ Ok inputs →
    AreInputs structs params body inputs

-- ---- what it leaves

-- Where a monitor's memory fits, so many received blocks as a call has at most hold what a reply is made of.
abbrev pub BodiesAreServed : Type 0
BodiesAreServed = (monitor : ProgramTree) (active : List Active) (z : Blocks) (types : List (List IntType)) → MemoryFits none monitor active z → length types ≤ 256 →
    ((k : ℕ) → k < length types → (z (Received k)).types ≡ slice_index_or types k []) → AreServed z 0 types

-- what a function of the monitor gives is a number of its result's type, or nothing
pub record IsNumber (t : Option IntType) (v : Option Cell) : Type 0 where
  pub result : IsResult t (option_map number_in v)
  pub same : number_cell (option_map number_in v) ≡ v

abbrev pub ResultsAreNumbers : Type 0
ResultsAreNumbers = (t : Option IntType) (v : Option Cell) → GivenFits none t v → IsNumber t v
