-- The counts of a message, as tests.
use Rattle.std.specs.Prelude.{◌+◌, Bool, true, false, ◌&&◌, List, length, nat_le}
use Rattle.std.specs.List.{list_all}
use Rattle.pt_base.specs.declared.int_type.IntType.{IntType}
use Rattle.wire.specs.declared.cell.WireCell.{WireCell}
use Rattle.wire.specs.declared.message.CallBody.{CallBody}
use Rattle.wire.specs.declared.message.Message.{Message}
use Rattle.wire.specs.declared.message.Message.TheVariants as message
use Rattle.wire.specs.Limits.{longest_payload, most_in_a_block, most_in_a_call}

abbrev pub is_block : List (IntType × WireCell) → Bool
is_block cells = nat_le 1 (length cells) && nat_le (length cells) most_in_a_block

abbrev pub is_call : CallBody → Bool
is_call body = (nat_le (length body.args) most_in_a_call && nat_le (length body.blocks) most_in_a_call) && list_all is_block body.blocks

-- it is a message of a slave, and its counts are within the limits of the format
abbrev pub is_within : Message → Bool
is_within (message.Boot piece) = false
is_within (message.Call turns function depth wants body) = is_call body
is_within (message.Emit turns bytes) = nat_le (length bytes + 9) longest_payload
is_within (message.Exit turns status) = true
is_within (message.Trap turns kind span) = true
is_within (message.Park turns) = true
is_within (message.Reply body) = false
