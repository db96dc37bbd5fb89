-- How many bytes the parts of a message have.
use Rattle.std.proofs.Common.{◌≡◌, ℕ, ◌+◌, ◌*◌, ◌≤◌, List, [], ◌∷◌, ◌++◌, length, Option, Some, None, refl, arith}
use Rattle.std.specs.List.{flat_map, AllByRecursion}
use Rattle.std.proofs.lemmas.List.{length-append}
use Rattle.pt_base.specs.declared.int_type.IntType.{IntType}
use Rattle.wire.specs.declared.cell.Arg.{Arg}
use Rattle.wire.specs.declared.cell.Arg.TheVariants as argument
use Rattle.wire.specs.declared.cell.WireCell.{WireCell}
use Rattle.wire.specs.declared.cell.WireCell.TheVariants as cell
use Rattle.wire.specs.declared.message.CallBody.{CallBody}
use Rattle.wire.specs.declared.message.ReplyBody.{ReplyBody}
use Rattle.wire.specs.declared.message.Message.{Message}
use Rattle.wire.specs.declared.message.Message.TheVariants as message
use Rattle.wire.specs.Spelling.{four_bytes, eight_bytes, four_signed_bytes, sixteen_signed_bytes, truth_byte, kind_byte, cell_bytes, argument_bytes, typed_cell_bytes, block_bytes, call_bytes, result_bytes, reply_bytes, payload}
use Rattle.wire.specs.Limits.{IsBlock, IsCall, KeepsCounts, KeepsLimits, longest_payload}
use Rattle.wire.specs.Laws.{IsShort}

pub length-four_bytes : (n : ℕ) → length (four_bytes n) ≡ 4
unfolding four_bytes
length-four_bytes n = refl

length-eight_bytes : (n : ℕ) → length (eight_bytes n) ≡ 8
unfolding eight_bytes
length-eight_bytes n = refl

length-four_signed_bytes : (z : _) → length (four_signed_bytes z) ≡ 4
unfolding four_signed_bytes
length-four_signed_bytes z = refl

length-sixteen_signed_bytes : (z : _) → length (sixteen_signed_bytes z) ≡ 16
unfolding sixteen_signed_bytes
length-sixteen_signed_bytes z = refl

-- at most so many bytes an item
flat_map_at_most : {A : Type 0} (f : A → List ℕ) (most : ℕ) (xs : List A) → AllByRecursion (λ x. length (f x) ≤ most) xs → length (flat_map f xs) ≤ length xs * most
flat_map_at_most f most [] h = omega arith
flat_map_at_most f most (x ∷ xs) h = omega (arith, h.0, flat_map_at_most f most xs h.1, length-append (f x) (flat_map f xs))

each : {A : Type 0} (P : A → Type 0) → ((x : A) → P x) → (xs : List A) → AllByRecursion P xs
each P h [] = tt
each P h (x ∷ xs) = (h x, each P h xs)

cell_size : (c : WireCell) → length (cell_bytes c) ≤ 17
cell_size (cell.Number n) = omega (arith, length-sixteen_signed_bytes n)
cell_size (cell.Sealed handle) = omega (arith, length-eight_bytes handle)

argument_size : (a : Arg) → length (argument_bytes a) ≤ 17
argument_size (argument.Number n) = omega (arith, length-sixteen_signed_bytes n)
argument_size (argument.Sealed handle) = omega (arith, length-eight_bytes handle)
argument_size argument.Null = omega arith
argument_size (argument.At block base count index) =
    omega (arith, length-append (four_bytes base) (four_bytes count ++ four_bytes index), length-append (four_bytes count) (four_bytes index), length-four_bytes base, length-four_bytes count, length-four_bytes index)

typed_cell_size : (typed : IntType × WireCell) → length (typed_cell_bytes typed) ≤ 18
typed_cell_size typed = omega (arith, cell_size typed.1)

block_size : (cells : List (IntType × WireCell)) → IsBlock cells → length (block_bytes cells) ≤ 1_179_652
block_size cells good =
    omega (
      arith,
      good.1,
      length-append (four_bytes (length cells)) (flat_map typed_cell_bytes cells),
      length-four_bytes (length cells),
      flat_map_at_most typed_cell_bytes 18 cells (each (λ typed. length (typed_cell_bytes typed) ≤ 18) typed_cell_size cells),
    )

block_sizes : (blocks : List (List (IntType × WireCell))) → AllByRecursion IsBlock blocks → AllByRecursion (λ cells. length (block_bytes cells) ≤ 1_179_652) blocks
block_sizes [] h = tt
block_sizes (cells ∷ blocks) h = (block_size cells h.0, block_sizes blocks h.1)

call_size : (body : CallBody) → IsCall body → length (call_bytes body) ≤ 9_437_354
call_size body good =
    let args : length (flat_map argument_bytes body.args) ≤ length body.args * 17 = flat_map_at_most argument_bytes 17 body.args (each (λ a. length (argument_bytes a) ≤ 17) argument_size body.args) in
    let blocks : length (flat_map block_bytes body.blocks) ≤ length body.blocks * 1_179_652 = flat_map_at_most block_bytes 1_179_652 body.blocks (block_sizes body.blocks good.each) in
    omega (arith, args, blocks, good.args, good.blocks, length-append (flat_map argument_bytes body.args) (length body.blocks ∷ flat_map block_bytes body.blocks))

result_size : (o : Option WireCell) → length (result_bytes o) ≤ 18
result_size None = omega arith
result_size (Some c) = omega (arith, cell_size c)

reply_size : (body : ReplyBody) → length (reply_bytes body) ≤ 17 * length body.cells + 22
reply_size body =
    let cells : length (flat_map cell_bytes body.cells) ≤ length body.cells * 17 = flat_map_at_most cell_bytes 17 body.cells (each (λ c. length (cell_bytes c) ≤ 17) cell_size body.cells) in
    omega (
      arith,
      cells,
      result_size body.result,
      length-append (result_bytes body.result) (four_bytes (length body.cells) ++ flat_map cell_bytes body.cells),
      length-append (four_bytes (length body.cells)) (flat_map cell_bytes body.cells),
      length-four_bytes (length body.cells),
    )

payload_size : (m : Message) → KeepsCounts m → IsShort m → length (payload m) ≤ longest_payload
payload_size (message.Boot piece) counts short = omega (arith, counts)
payload_size (message.Call turns function depth wants body) counts short =
    omega (
      arith,
      call_size body counts,
      length-append (eight_bytes turns) (four_bytes function ++ (depth ∷ truth_byte wants ∷ call_bytes body)),
      length-append (four_bytes function) (depth ∷ truth_byte wants ∷ call_bytes body),
      length-eight_bytes turns,
      length-four_bytes function,
    )
payload_size (message.Emit turns bytes) counts short = omega (arith, short, length-append (eight_bytes turns) bytes, length-eight_bytes turns)
payload_size (message.Exit turns status) counts short = omega (arith, length-append (eight_bytes turns) (four_signed_bytes status), length-eight_bytes turns, length-four_signed_bytes status)
payload_size (message.Trap turns kind span) counts short =
    omega (arith, length-append (eight_bytes turns) (kind_byte kind ∷ four_bytes span.from ++ four_bytes span.to), length-append (four_bytes span.from) (four_bytes span.to), length-eight_bytes turns, length-four_bytes span.from, length-four_bytes span.to)
payload_size (message.Park turns) counts short = omega (arith, length-eight_bytes turns)
payload_size (message.Reply body) counts short = omega (arith, short, reply_size body)

pub counts_suffice : (m : Message) → KeepsCounts m → IsShort m → KeepsLimits m
counts_suffice m counts short = record { counts = counts; payload = payload_size m counts short }
