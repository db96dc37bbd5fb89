-- What the store has after a call: numbers of their types, and types that the slave knows.
use Rattle.std.specs.Prelude.{◌≡◌, ℤ, List, ◌++◌, Option, true}
use Rattle.pt_base.specs.declared.int_type.IntType.{IntType}
use Rattle.pt_tree.specs.declared.signature.Signature.{Signature}
use Rattle.typed_tree.specs.declared.types.StructInfo.{StructInfo}
use Rattle.handle_store.specs.Stored.{AreInRange}
use Rattle.block_memory.specs.declared.cell.Cell.{Cell}
use Rattle.block_memory.specs.Blocks.{Blocks}
use Rattle.marshalling.specs.Handles.{Entries}
use Rattle.marshalling.specs.HonestCalls.{grown}
use Rattle.marshalling.specs.Packing.{packed}
use Rattle.marshalling.specs.Replies.{AreServed, IsResult, Place, kept, result_places, types_in}
use Rattle.marshalling.specs.Taking.{are_whole, call_places, zeros}
pub use Rattle.marshalling.specs.Handles.{store_types}

-- the types of those places that come back as handles
abbrev pub sealed_types : List Place → List IntType
sealed_types places = store_types (kept places (zeros places))

-- The types of the new entries are those that the slave's own signature and arguments give, whatever was computed; each entry
-- stays a number of its type.
pub record IsGrown (store new : Entries) (x : Blocks) (structs : List StructInfo) (sig : Signature) (args : List Cell) : Type 0 where
  pub types : store_types new ≡ store_types store ++ (sealed_types (result_places sig sig.result) ++ sealed_types (call_places x structs sig.params args))
  pub ranged : AreInRange store → AreInRange new

abbrev pub StoresGrow : Type 0
StoresGrow = (store : Entries) (structs : List StructInfo) (sig : Signature) (x : Blocks) (args : List Cell) (z : Blocks) (value : Option ℤ) →
    are_whole x args ≡ true → AreServed z 0 (types_in (packed x sig.params args)) → IsResult sig.result value →
    IsGrown store (grown store structs sig x args z value) x structs sig args
