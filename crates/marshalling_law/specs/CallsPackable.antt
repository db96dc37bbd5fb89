-- What a machine asks for may be packed.
use Rattle.std.specs.Prelude.{◌≡◌, ◌≤◌, ℕ, List, ◌∷◌, Bool, false, IsTrue, length, nat_le}
use Rattle.std.specs.List.{list_all}
use Rattle.pt_tree.specs.declared.signature.Param.{Param}
use Rattle.typed_tree.specs.declared.types.StructInfo.{StructInfo}
use Rattle.block_memory.specs.declared.cell.BlockName.TheVariants.{Received}
use Rattle.block_memory.specs.declared.cell.Cell.{Cell}
use Rattle.block_memory.specs.Blocks.{Blocks}
use Rattle.pt_core.specs.Calls.{signature_in}
use Rattle.pt_core.specs.CodeTree.{ProgramTree}
use Rattle.pt_core.specs.Steps.{Active}
use Rattle.pt_core.specs.WellFormed.{is_sound}
use Rattle.core_soundness_law.specs.Fits.{MemoryFits}
use Rattle.core_soundness_law.specs.Kept.{Kept}
use Rattle.core_soundness_law.specs.Outside.{ArgumentsFit}
use Rattle.core_soundness_law.specs.StepLaws.{called_params}
use Rattle.wire.specs.Limits.{most_in_a_block, most_in_a_call}
use Rattle.marshalling.specs.HonestCalls.{hold_integers}
use Rattle.marshalling.specs.Leaves.{has_structs}
use Rattle.marshalling.specs.Packing.{names_of}
use Rattle.marshalling.specs.Taking.{are_whole}

-- No received block is larger than an object. A slave has none at all, and a step gives it none.
abbrev pub AreSmall : Blocks → Type 0
AreSmall x = (n : ℕ) → length (x (Received n)).types ≤ most_in_a_block

-- A call has an argument for each parameter, and no more than the format has. The structs that its parameters point to are
-- there. Each block that an argument points into has as many types as cells, at least one and no more than an object has,
-- and no pointers.
pub record IsPackable (structs : List StructInfo) (params : List Param) (x : Blocks) (args : List Cell) : Type 0 where
  pub count : length args ≡ length params
  pub few : length args ≤ most_in_a_call
  pub named : length (names_of args) ≤ length args
  pub there : IsTrue (has_structs structs params)
  pub whole : IsTrue (are_whole x args)
  pub some : IsTrue (list_all (λ name. nat_le 1 (length (x name).cells)) (names_of args))
  pub integers : IsTrue (hold_integers x args)

-- What a function asks for where the memory fits may be packed, whichever handles stand for numbers.
abbrev pub CallsArePackable : Type 0
CallsArePackable = (kept : Kept) (monitor : Bool) (program : ProgramTree) (a : Active) (rest : List Active) (x : Blocks) (f : ℕ) (args : List Cell) →
    IsTrue (is_sound monitor program) → MemoryFits kept program (a ∷ rest) x → AreSmall x →
    ArgumentsFit kept program.structs x a.depth (called_params monitor program f) args → IsPackable program.structs (called_params monitor program f) x args

-- Calls in a slave's program, or in a whole one, give all parameters of the signature.
abbrev pub AllAreGiven : Type 0
AllAreGiven = (program : ProgramTree) (f : ℕ) → called_params false program f ≡ (signature_in program f).params
