-- Which messages have a spelling.
use Rattle.std.specs.Prelude.{ℕ, ◌≡◌, ◌<◌, ◌≤◌, ◌^◌, List, length, FitsSigned, IfSome, All}
use Rattle.std.specs.List.{AllByRecursion}
use Rattle.std.specs.Int.{w32, w128}
use Rattle.pt_base.specs.declared.int_type.IntType.{IntType}
use Rattle.wire.specs.declared.cell.Arg.{Arg}
use Rattle.wire.specs.declared.cell.Arg.TheVariants as argument
use Rattle.wire.specs.declared.cell.WireCell.{WireCell}
use Rattle.wire.specs.declared.cell.WireCell.TheVariants as cell
use Rattle.wire.specs.declared.message.CallBody.{CallBody}
use Rattle.wire.specs.declared.message.ReplyBody.{ReplyBody}
use Rattle.wire.specs.declared.message.Message.{Message}
use Rattle.wire.specs.declared.message.Message.TheVariants as message
use Rattle.wire.specs.Spelling.{payload, spelling}
pub use Rattle.pt_base.specs.Names.{longest_name as longest_piece}

-- ---- the numbers are those of the fields' types

abbrev pub FitsCell : WireCell → Type 0
FitsCell (cell.Number n) = FitsSigned w128 n
FitsCell (cell.Sealed handle) = handle < 2 ^ 64

abbrev pub FitsArgument : Arg → Type 0
FitsArgument (argument.Number n) = FitsSigned w128 n
FitsArgument (argument.Sealed handle) = handle < 2 ^ 64
FitsArgument argument.Null = Unit {0}
FitsArgument (argument.At block base count index) = (block < 2 ^ 8) × (base < 2 ^ 32) × (count < 2 ^ 32) × (index < 2 ^ 32)

abbrev pub FitsTypedCell : IntType × WireCell → Type 0
FitsTypedCell typed = FitsCell typed.1

abbrev pub FitsBlock : List (IntType × WireCell) → Type 0
FitsBlock cells = AllByRecursion FitsTypedCell cells

pub record FitsCall (body : CallBody) : Type 0 where
  pub args : AllByRecursion FitsArgument body.args
  pub blocks : AllByRecursion FitsBlock body.blocks

pub record FitsReply (body : ReplyBody) : Type 0 where
  pub result : IfSome body.result FitsCell
  pub cells : AllByRecursion FitsCell body.cells

abbrev pub IsBytes : List ℕ → Type 0
IsBytes bytes = All (λ b. b < 2 ^ 8) bytes

abbrev pub FitsTypes : Message → Type 0
FitsTypes (message.Boot piece) = IsBytes piece
FitsTypes (message.Call turns function depth wants body) = (turns < 2 ^ 64) × (function < 2 ^ 32) × (depth < 2 ^ 8) × FitsCall body
FitsTypes (message.Emit turns bytes) = (turns < 2 ^ 64) × IsBytes bytes
FitsTypes (message.Exit turns status) = (turns < 2 ^ 64) × FitsSigned w32 status
FitsTypes (message.Trap turns kind span) = (turns < 2 ^ 64) × (span.from < 2 ^ 32) × (span.to < 2 ^ 32)
FitsTypes (message.Park turns) = turns < 2 ^ 64
FitsTypes (message.Reply body) = FitsReply body

-- ---- the limits of the format

-- a call has at most as many arguments, and at most as many blocks
abbrev pub most_in_a_call : ℕ
most_in_a_call = 8

-- a block has at most as many cells
abbrev pub most_in_a_block : ℕ
most_in_a_block = 65_536

-- a frame holds at most as many bytes
abbrev pub longest_payload : ℕ
longest_payload = 16_777_216

abbrev pub IsBlock : List (IntType × WireCell) → Type 0
IsBlock cells = (1 ≤ length cells) × (length cells ≤ most_in_a_block)

pub record IsCall (body : CallBody) : Type 0 where
  pub args : length body.args ≤ most_in_a_call
  pub blocks : length body.blocks ≤ most_in_a_call
  pub each : AllByRecursion IsBlock body.blocks

-- the counts of the message are within their limits
abbrev pub KeepsCounts : Message → Type 0
KeepsCounts (message.Boot piece) = length piece ≤ longest_piece
KeepsCounts (message.Call turns function depth wants body) = IsCall body
KeepsCounts (message.Emit turns bytes) = Unit {0}
KeepsCounts (message.Exit turns status) = Unit {0}
KeepsCounts (message.Trap turns kind span) = Unit {0}
KeepsCounts (message.Park turns) = Unit {0}
KeepsCounts (message.Reply body) = Unit {0}

pub record KeepsLimits (m : Message) : Type 0 where
  pub counts : KeepsCounts m
  pub payload : length (payload m) ≤ longest_payload

-- the bytes are the spelling of the message
pub record Spells (m : Message) (bytes : List ℕ) : Type 0 where
  pub fits : FitsTypes m
  pub keeps : KeepsLimits m
  pub are : bytes ≡ spelling m
