-- All that a slave says has a spelling.
use Rattle.std.specs.Prelude.{◌≡◌, ◌<◌, ◌≤◌, ◌^◌, ℕ, Bool, List, ◌∷◌, Option, Some, IsTrue, length, map}
use Rattle.pt_base.specs.declared.int_type.IntType.{IntType}
use Rattle.pt_base.specs.declared.span.Span.{Span}
use Rattle.pt_base.specs.declared.trap.Trap.{Trap}
use Rattle.pt_tree.specs.HostStep.{host_step}
use Rattle.pt_tree.specs.declared.host_model.HostModel.{HostModel}
use Rattle.pt_tree.specs.declared.host_model.HostModel.TheVariants as model
use Rattle.pt_tree.specs.declared.signature.Param.{Param}
use Rattle.host_models.specs.Fitting.{has_short_name}
use Rattle.typed_tree.specs.declared.types.StructInfo.{StructInfo}
use Rattle.block_memory.specs.declared.cell.Cell.{Cell}
use Rattle.block_memory.specs.Blocks.{Blocks}
use Rattle.pt_core.specs.CodeTree.{ProgramTree}
use Rattle.pt_core.specs.CoreRun.{status_of}
use Rattle.pt_core.specs.Steps.{Active}
use Rattle.pt_core.specs.Values.{number_in}
use Rattle.pt_core.specs.WellFormed.{is_sound}
use Rattle.core_soundness_law.specs.Fits.{MemoryFits}
use Rattle.core_soundness_law.specs.Kept.{Kept}
use Rattle.core_soundness_law.specs.Outside.{ArgumentsFit}
use Rattle.core_soundness_law.specs.StepLaws.{called_params}
use Rattle.wire.specs.Limits.{IsBytes, Spells}
use Rattle.wire.specs.declared.message.Message.{Message}
use Rattle.wire.specs.declared.message.Message.TheVariants as message
use Rattle.marshalling.specs.Packing.{packed}
use Rattle.marshalling_law.specs.CallsPackable.{AreSmall}

-- these bytes are its spelling
abbrev pub HasSpelling : Message → Type 0
HasSpelling m = (bytes : List ℕ) × Spells m bytes

-- the handles that stand for numbers have numbers of 64 bits
abbrev pub AreNumbered : Kept → Type 0
AreNumbered kept = (t : IntType) (handle : ℕ) → IsTrue (kept t handle) → handle < 2 ^ 64

-- a call that a function asks for where the memory fits
abbrev pub CallsAreSpelled : Type 0
CallsAreSpelled = (kept : Kept) (monitor : Bool) (program : ProgramTree) (a : Active) (rest : List Active) (x : Blocks) (turns f depth : ℕ) (wants : Bool) (args : List Cell) →
    IsTrue (is_sound monitor program) → MemoryFits kept program (a ∷ rest) x → AreSmall x → AreNumbered kept → ArgumentsFit kept program.structs x a.depth (called_params monitor program f) args →
    turns < 2 ^ 64 → f < 2 ^ 32 → depth < 2 ^ 8 → HasSpelling (message.Call turns f depth wants (packed x (called_params monitor program f) args))

-- the status with which main ended
abbrev pub ExitsAreSpelled : Type 0
ExitsAreSpelled = (turns : ℕ) (v : Option Cell) → turns < 2 ^ 64 → HasSpelling (message.Exit turns (status_of v))

-- a line's name consists of bytes
abbrev pub HasBytes : HostModel → Type 0
HasBytes (model.Table rows other) = Unit {0}
HasBytes (model.Feed values other next) = Unit {0}
HasBytes (model.Input next) = Unit {0}
HasBytes model.Bytes = Unit {0}
HasBytes (model.Line name) = IsBytes name

-- what a host writes in a call with arguments that fit at most 8 parameters, where its name is short
abbrev pub WritesAreSpelled : Type 0
WritesAreSpelled = (kept : Kept) (structs : List StructInfo) (x : Blocks) (depth : ℕ) (params : List Param) (args : List Cell) (input : List ℕ) (host : HostModel) (bytes : List ℕ) (turns : ℕ) →
    ArgumentsFit kept structs x depth params args → length params ≤ 8 → IsTrue (has_short_name host) → HasBytes host →
    (host_step input host (map number_in args)).written ≡ Some bytes → turns < 2 ^ 64 → HasSpelling (message.Emit turns bytes)

abbrev pub TrapsAreSpelled : Type 0
TrapsAreSpelled = (turns : ℕ) (kind : Trap) (span : Span) → turns < 2 ^ 64 → span.from < 2 ^ 32 → span.to < 2 ^ 32 → HasSpelling (message.Trap turns kind span)

abbrev pub ParksAreSpelled : Type 0
ParksAreSpelled = (turns : ℕ) → turns < 2 ^ 64 → HasSpelling (message.Park turns)
