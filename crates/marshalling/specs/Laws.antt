-- The laws of calls and their replies.
use Rattle.std.specs.Prelude.{◌≡◌, ◌≤◌, ◌||◌, ℕ, ℤ, true, false, List, length, nat_le, Option, Ok}
use Rattle.std.specs.List.{list_all}
use Rattle.pt_tree.specs.declared.signature.Param.{Param}
use Rattle.pt_tree.specs.declared.signature.Signature.{Signature}
use Rattle.typed_tree.specs.declared.types.StructInfo.{StructInfo}
use Rattle.typed_tree.specs.WellFormed.{is_variable_type, structs_sound}
use Rattle.typed_tree.specs.WellFormedExpression.{param_type}
use Rattle.block_memory.specs.declared.cell.Cell.{Cell}
use Rattle.block_memory.specs.Blocks.{Blocks}
use Rattle.wire.specs.Limits.{IsCall, most_in_a_call}
use Rattle.marshalling.specs.Handles.{Entries, unpacked, unpacking}
use Rattle.marshalling.specs.Leaves.{has_structs}
use Rattle.marshalling.specs.Packing.{names_of, packed}
use Rattle.marshalling.specs.Replies.{AreServed, IsResult, has_plain, packed_results, reply_has_plain, result_places, types_in}
use Rattle.marshalling.specs.Sendable.{is_sendable}
use Rattle.marshalling.specs.Taking.{after_posting, after_reply, are_whole, call_places}

-- Where neither the result nor a cell comes back as a number, posting a call leaves what taking the reply does that
-- serving gives, whatever the monitor computed.
abbrev pub PostingIsTaking : Type 0
PostingIsTaking =
    (handle : ℕ) (structs : List StructInfo) (sig : Signature) (blocks : Blocks) (args : List Cell) (served : Blocks) (result : Option ℤ)
    → are_whole blocks args ≡ true → has_plain (result_places sig sig.result) ≡ false → has_plain (call_places blocks structs sig.params args) ≡ false
    → AreServed served 0 (types_in (packed blocks sig.params args)) → IsResult sig.result result
    → after_reply handle blocks structs sig args
    (packed_results handle structs sig (packed blocks sig.params args) served result) ≡ after_posting handle blocks structs sig args

-- A call of at most 8 arguments has a body that keeps the counts of the format, where each block that an argument
-- points into has as many types as cells, at least one and at most as many as an object has.
abbrev pub BodiesKeepCounts : Type 0
BodiesKeepCounts =
    (blocks : Blocks) (params : List Param) (args : List Cell) → length args ≤ most_in_a_call → are_whole blocks args ≡ true
    → list_all (λ name. nat_le 1 (length (blocks name).cells)) (names_of args) ≡ true → IsCall (packed blocks params args)

-- What is made of a memory that may be sent is never refused: the function gets the same arguments and blocks, with
-- handles replaced by values.
abbrev pub NeverRefused : Type 0
NeverRefused =
    (store : Entries) (structs : List StructInfo) (params : List Param) (blocks : Blocks) (args : List Cell)
    → is_sendable store structs params blocks args ≡ true
    → unpacking store structs params (packed blocks params args) ≡ Ok (unpacked store (packed blocks params args))

-- A reply holds a number by the body that was sent exactly where it does by the caller's own blocks.
abbrev pub RepliesHoldNumbers : Type 0
RepliesHoldNumbers =
    (structs : List StructInfo) (sig : Signature) (blocks : Blocks) (args : List Cell) → are_whole blocks args ≡ true
    → reply_has_plain structs sig (packed blocks sig.params args)
    ≡ (has_plain (result_places sig sig.result) || has_plain (call_places blocks structs sig.params args))

-- The structs of a program that is well formed are there for each of its signatures.
abbrev pub StructsStand : Type 0
StructsStand =
    (structs : List StructInfo) (params : List Param) → structs_sound structs 0 structs ≡ true
    → list_all (λ p. is_variable_type (length structs) (param_type p.kind)) params ≡ true → has_structs structs params ≡ true
