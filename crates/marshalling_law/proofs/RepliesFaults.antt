-- Faults see the types of a store alone.
use Rattle.std.proofs.Common.{◌≡◌, ◌∙◌, ℕ, zero, suc, ℤ, ap, refl, List, [], ◌∷◌, Option, Some, None}
use Rattle.std.specs.Prelude.{slice_get}
use Rattle.pt_base.specs.declared.int_type.IntType.{IntType}
use Rattle.pt_tree.specs.declared.signature.Param.{Param}
use Rattle.pt_tree.specs.declared.signature.ParamKind.{ParamKind}
use Rattle.pt_tree.specs.declared.signature.ParamKind.TheVariants as kind
use Rattle.wire.specs.declared.cell.Arg.{Arg}
use Rattle.wire.specs.declared.cell.Arg.TheVariants as argument
use Rattle.wire.specs.declared.cell.WireCell.{WireCell}
use Rattle.wire.specs.declared.cell.WireCell.TheVariants as wire
use Rattle.marshalling.specs.declared.fault.BadCall.{BadCall}
use Rattle.marshalling.specs.Handles.{Entries, argument_fault, arguments_fault, block_fault, blocks_fault, cell_fault, entry_fault, or_else, wire_fault}
use Rattle.marshalling_law.specs.RepliesLaws.{FaultsSeeTypes, blank, types_of_store}

entry_same : (store : Entries) (t : IntType) (whole handle : ℕ) → entry_fault t whole (slice_get store handle) ≡ entry_fault t whole (slice_get (blank (types_of_store store)) handle)
entry_same [] t whole handle = refl
entry_same (entry ∷ store) t whole zero = refl
entry_same (entry ∷ store) t whole (suc handle) = entry_same store t whole handle

wire_same : (store : Entries) (t : IntType) (c : WireCell) → wire_fault store t c ≡ wire_fault (blank (types_of_store store)) t c
wire_same store t (wire.Number v) = refl
wire_same store t (wire.Sealed handle) = entry_same store t handle handle

both_same : (a b c d : Option BadCall) → a ≡ c → b ≡ d → or_else a b ≡ or_else c d
both_same a b c d h k = ap (λ x. or_else x b) h ∙ ap (or_else c) k

block_same : (store : Entries) (cells : List (IntType × WireCell)) → block_fault store cells ≡ block_fault (blank (types_of_store store)) cells
block_same store [] = refl
block_same store (c ∷ cells) = both_same (cell_fault store c) (block_fault store cells) (cell_fault (blank (types_of_store store)) c) (block_fault (blank (types_of_store store)) cells) (wire_same store c.0 c.1) (block_same store cells)

blocks_same : (store : Entries) (blocks : List (List (IntType × WireCell))) → blocks_fault store blocks ≡ blocks_fault (blank (types_of_store store)) blocks
blocks_same store [] = refl
blocks_same store (b ∷ blocks) = both_same (block_fault store b) (blocks_fault store blocks) (block_fault (blank (types_of_store store)) b) (blocks_fault (blank (types_of_store store)) blocks) (block_same store b) (blocks_same store blocks)

argument_same : (store : Entries) (of : ParamKind) (a : Arg) → argument_fault store of a ≡ argument_fault (blank (types_of_store store)) of a
argument_same store (kind.Int t) (argument.Number v) = refl
argument_same store (kind.Int t) (argument.Sealed handle) = entry_same store t handle handle
argument_same store (kind.Int t) argument.Null = refl
argument_same store (kind.Int t) (argument.At block base count index) = refl
argument_same store (kind.Ptr elem fixed) a = refl

arguments_same : (store : Entries) (params : List Param) (args : List Arg) → arguments_fault store params args ≡ arguments_fault (blank (types_of_store store)) params args
arguments_same store [] args = refl
arguments_same store (p ∷ params) [] = refl
arguments_same store (p ∷ params) (a ∷ args) =
    both_same (argument_fault store p.kind a) (arguments_fault store params args) (argument_fault (blank (types_of_store store)) p.kind a) (arguments_fault (blank (types_of_store store)) params args) (argument_same store p.kind a) (arguments_same store params args)

pub faults_see_types : FaultsSeeTypes
faults_see_types store params body = both_same (arguments_fault store params body.args) (blocks_fault store body.blocks) (arguments_fault (blank (types_of_store store)) params body.args) (blocks_fault (blank (types_of_store store)) body.blocks)
    (arguments_same store params body.args) (blocks_same store body.blocks)
