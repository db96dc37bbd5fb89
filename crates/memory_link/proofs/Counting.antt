-- Counts that are within the limits of the format.
use Rattle.std.proofs.Common.{◌≡◌, ◌+◌, List, [], ◌∷◌, true, length}
use Rattle.std.specs.Prelude.{◌&&◌, nat_le}
use Rattle.std.specs.List.{AllByRecursion, list_all}
use Rattle.std.proofs.lemmas.Bool.{leb-true}
use Rattle.pt_base.specs.declared.int_type.IntType.{IntType}
use Rattle.pt_base.proofs.Booleans.{and_parts, false_not_true}
use Rattle.wire.specs.declared.cell.WireCell.{WireCell}
use Rattle.wire.specs.declared.message.CallBody.{CallBody}
use Rattle.wire.specs.declared.message.Message.{Message}
use Rattle.wire.specs.declared.message.Message.TheVariants as message
use Rattle.wire.specs.Limits.{IsBlock, IsCall, KeepsLimits, longest_payload, most_in_a_block, most_in_a_call}
use Rattle.wire.proofs.Sizes.{counts_suffice}
use Rattle.memory_link.specs.Counts.{is_block, is_call, is_within}

blocks_are : (blocks : List (List (IntType × WireCell))) → list_all is_block blocks ≡ true → AllByRecursion IsBlock blocks
blocks_are [] e = tt
blocks_are (block ∷ blocks) e =
    let first = and_parts (is_block block) (list_all is_block blocks) e in
    let both = and_parts (nat_le 1 (length block)) (nat_le (length block) most_in_a_block) first.0 in
    ((leb-true _ _ both.0, leb-true _ _ both.1), blocks_are blocks first.1)

call_is : (body : CallBody) → is_call body ≡ true → IsCall body
call_is body e =
    let both = and_parts (nat_le (length body.args) most_in_a_call && nat_le (length body.blocks) most_in_a_call) (list_all is_block body.blocks) e in
    let counts = and_parts (nat_le (length body.args) most_in_a_call) (nat_le (length body.blocks) most_in_a_call) both.0 in
    record { args = leb-true _ _ counts.0; blocks = leb-true _ _ counts.1; each = blocks_are body.blocks both.1 }

pub within : (m : Message) → is_within m ≡ true → KeepsLimits m
within (message.Boot piece) e = false_not_true e
within (message.Call turns function depth wants body) e = counts_suffice (message.Call turns function depth wants body) (call_is body e) (tt {0})
within (message.Emit turns bytes) e = counts_suffice (message.Emit turns bytes) (tt {0}) (leb-true (length bytes + 9) longest_payload e)
within (message.Exit turns status) e = counts_suffice (message.Exit turns status) (tt {0}) (tt {0})
within (message.Trap turns kind span) e = counts_suffice (message.Trap turns kind span) (tt {0}) (tt {0})
within (message.Park turns) e = counts_suffice (message.Park turns) (tt {0}) (tt {0})
within (message.Reply body) e = false_not_true e
