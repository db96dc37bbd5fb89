-- What a reply leaves of a machine.
use Rattle.std.specs.Prelude.{◌≡◌, ℕ, List, [], ◌∷◌, Bool, true, false, length, IsTrue}
use Rattle.pt_base.specs.declared.int_type.IntType.{IntType}
use Rattle.pt_tree.specs.declared.signature.Signature.{Signature}
use Rattle.typed_tree.specs.declared.types.StructInfo.{StructInfo}
use Rattle.block_memory.specs.declared.cell.BlockName.{BlockName}
use Rattle.block_memory.specs.declared.cell.Cell.{Cell}
use Rattle.block_memory.specs.Blocks.{Blocks}
use Rattle.wire.specs.declared.message.ReplyBody.{ReplyBody}
use Rattle.marshalling.specs.declared.crossing.Crossing.{Crossing}
use Rattle.marshalling.specs.declared.crossing.Crossing.TheVariants.{Stays, Plain, Sealed}
use Rattle.marshalling.specs.Replies.{Place, has_plain, next_after, next_by, result_places}
use Rattle.marshalling.specs.Taking.{Taken, after_reply, call_places, is_reply, known_reply}
use Rattle.pt_core.specs.CodeTree.{ProgramTree}
use Rattle.pt_core.specs.Steps.{Machine, with_blocks}
use Rattle.core_soundness_law.specs.Kept.{Kept}
use Rattle.core_soundness_law.specs.Fits.{Fits}
use Rattle.core_soundness_law.specs.Outside.{GivenFits}
use Rattle.core_soundness_law.specs.StepLaws.{IsSameShape}

-- the handle with this number is given for a place that comes back as one, and then it stands for a number of the place's type
abbrev pub Stands : Kept → Crossing → IntType → ℕ → Type 0
Stands kept Stays t handle = Unit {0}
Stands kept Plain t handle = Unit {0}
Stands kept Sealed t handle = IsTrue (kept t handle)

-- so it is of each handle that these places give, from this one on
abbrev pub AllStand : Kept → ℕ → List Place → Type 0
AllStand kept handle [] = Unit {0}
AllStand kept handle (p ∷ places) = Stands kept p.way p.ty handle × AllStand kept (next_by p.way handle) places

-- of a call: the result's first, and then those of the cells
pub record GivenStand (kept : Kept) (handle : ℕ) (blocks : Blocks) (structs : List StructInfo) (sig : Signature) (args : List Cell) : Type 0 where
  pub result : AllStand kept handle (result_places sig sig.result)
  pub cells : AllStand kept (next_after handle (result_places sig sig.result)) (call_places blocks structs sig.params args)

-- the machine fits with these blocks, each of which has as many cells as before, of the same types; and the result is of its type
pub record IsTakenWell (kept : Kept) (monitor : Bool) (program : ProgramTree) (sig : Signature) (m : Machine) (taken : Taken) : Type 0 where
  pub fits : Fits kept monitor program (with_blocks taken.blocks m)
  pub result : GivenFits kept sig.result taken.result
  pub shape : (name : BlockName) → IsSameShape (taken.blocks name) (m.blocks name)

abbrev pub TakenRepliesFit : Type 0
TakenRepliesFit = (kept : Kept) (monitor : Bool) (program : ProgramTree) (m : Machine) (handle : ℕ) (structs : List StructInfo) (sig : Signature) (args : List Cell) (reply : ReplyBody) →
    Fits kept monitor program m → is_reply handle m.blocks structs sig args reply ≡ true → GivenStand kept handle m.blocks structs sig args →
    IsTakenWell kept monitor program sig m (after_reply handle m.blocks structs sig args reply)

abbrev pub KnownRepliesAreReplies : Type 0
KnownRepliesAreReplies = (handle : ℕ) (blocks : Blocks) (structs : List StructInfo) (sig : Signature) (args : List Cell) →
    has_plain (result_places sig sig.result) ≡ false → has_plain (call_places blocks structs sig.params args) ≡ false →
    is_reply handle blocks structs sig args (known_reply handle blocks structs sig args) ≡ true
