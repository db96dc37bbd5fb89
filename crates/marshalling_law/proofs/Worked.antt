-- Small calls, on which the definitions are tried by computing.
use Rattle.std.proofs.Common.{◌≡◌, ℕ, pos, refl, Bool, true, false, Option, Some, None, Ok, Err, List, [], ◌∷◌, ◌++◌}
use Rattle.pt_base.specs.declared.int_type.IntType.{IntType}
use Rattle.pt_base.specs.declared.int_type.IntType.TheVariants as i
use Rattle.pt_tree.specs.declared.signature.Elem.TheVariants as el
use Rattle.pt_tree.specs.declared.signature.Param.{Param}
use Rattle.pt_tree.specs.declared.signature.ParamKind.TheVariants as kind
use Rattle.pt_tree.specs.declared.signature.Signature.{Signature}
use Rattle.typed_tree.specs.declared.types.VarTy.{VarTy}
use Rattle.typed_tree.specs.declared.types.VarTy.TheVariants as ty
use Rattle.typed_tree.specs.declared.types.Field.{Field}
use Rattle.typed_tree.specs.declared.types.StructInfo.{StructInfo}
use Rattle.block_memory.specs.declared.cell.Cell.{Cell}
use Rattle.block_memory.specs.declared.cell.Cell.TheVariants as cell
use Rattle.block_memory.specs.declared.cell.Pointer.TheVariants.{Null, At}
use Rattle.block_memory.specs.declared.cell.BlockName.{BlockName}
use Rattle.block_memory.specs.declared.cell.BlockName.TheVariants.{Local, Global, Received}
use Rattle.block_memory.specs.Blocks.{Blocks, no_blocks, put}
use Rattle.wire.specs.declared.cell.Arg.{Arg}
use Rattle.wire.specs.declared.cell.Arg.TheVariants as argument
use Rattle.wire.specs.declared.cell.WireCell.{WireCell}
use Rattle.wire.specs.declared.cell.WireCell.TheVariants as wire
use Rattle.wire.specs.declared.message.CallBody.{CallBody}
use Rattle.wire.specs.declared.message.ReplyBody.{ReplyBody}
use Rattle.marshalling.specs.declared.crossing.Crossing.TheVariants.{Stays, Plain, Sealed}
use Rattle.marshalling.specs.declared.fault.BadCall.TheVariants.{Shape, BadHandle, WrongType}
use Rattle.marshalling.specs.declared.leaf.Leaf.{Leaf}
use Rattle.marshalling.specs.Leaves.{leaves_of}
use Rattle.marshalling.specs.Packing.{packed}
use Rattle.marshalling.specs.Crossings.{crossing_of}
use Rattle.marshalling.specs.Shape.{is_shaped}
use Rattle.marshalling.specs.Handles.{Entries, handle_fault, unpacking}
use Rattle.marshalling.specs.Sendable.{is_sendable}
use Rattle.marshalling.specs.Replies.{packed_results, kept_results, has_plain}
use Rattle.marshalling.specs.Taking.{is_reply, after_reply, after_posting, call_places}
use Rattle.marshalling.specs.HonestCalls.{for_callee, grown, returned, revealed_blocks}

-- ---- short ways to write them

abbrev pub field : VarTy → Bool → Field
field t marked = record { name = []; ty = t; marked = marked }

abbrev pub struct : List Field → StructInfo
struct fields = record { name = []; fields = fields }

abbrev pub number : IntType → Bool → Param
number t marked = record { kind = kind.Int t; marked = marked; declassify = false }

abbrev pub pointer : Bool → Param
pointer fixed = record { kind = kind.Ptr (el.Int i.Int) fixed; marked = false; declassify = false }

abbrev pub secret : Bool → Param
secret declassify = record { kind = kind.Ptr (el.Int i.Int) false; marked = true; declassify = declassify }

abbrev pub pointer_to_struct : ℕ → Param
pointer_to_struct n = record { kind = kind.Ptr (el.Struct n) false; marked = false; declassify = false }

abbrev pub function : Option IntType → List Param → Signature
function result params = record { name = []; result = result; params = params; host = false; privileged = true; declassify = false }

abbrev pub to : BlockName → ℕ → ℕ → Cell
to block base count = cell.Ptr (At block base count 0)

abbrev pub at : ℕ → ℕ → ℕ → Arg
at block base count = argument.At block base count 0

abbrev pub body : List Arg → List (List (IntType × WireCell)) → CallBody
body args blocks = record { args = args; blocks = blocks }

abbrev pub leaf : IntType → Bool → Leaf
leaf t marked = record { ty = t; marked = marked }

-- ---- leaves

-- struct pair { int open; __attribute__((priv)) int key; };
-- struct both { char tag; struct pair pairs[2]; __attribute__((priv)) struct pair last; };
abbrev pub structs : List StructInfo
structs =
    struct (field (ty.Int i.Int) false ∷ field (ty.Int i.Int) true ∷ [])
    ∷ struct (field (ty.Int i.Char) false ∷ field (ty.Array (el.Struct 0) 2) false ∷ field (ty.Struct 0) true ∷ [])
    ∷ []

leaves_of_pair : leaves_of structs (el.Struct 0) ≡ leaf i.Int false ∷ leaf i.Int true ∷ []
unfolding leaves_of
leaves_of_pair = refl

-- a mark counts for all that lies below
leaves_of_both :
    leaves_of structs (el.Struct 1)
    ≡ leaf i.Char false ∷ leaf i.Int false ∷ leaf i.Int true ∷ leaf i.Int false ∷ leaf i.Int true ∷ leaf i.Int true ∷ leaf i.Int true ∷ []
unfolding leaves_of
leaves_of_both = refl

leaves_of_int : leaves_of structs (el.Int i.Int) ≡ leaf i.Int false ∷ []
unfolding leaves_of
leaves_of_int = refl

-- ---- packing

-- the variable 0 of the function at depth 1 has two integers, the global 3 has one
abbrev pub memory : Blocks
memory =
    put (put no_blocks (Local 1 0) (record { types = i.Int ∷ i.Int ∷ []; cells = cell.Int (pos 5) ∷ cell.Sealed 3 ∷ [] }))
    (Global 3) (record { types = i.Long ∷ []; cells = cell.Int (pos 7) ∷ [] })

-- two arguments into one block pack to one block
packs_once :
    packed memory (pointer false ∷ pointer true ∷ []) (to (Local 1 0) 0 2 ∷ to (Local 1 0) 1 1 ∷ [])
    ≡ body (at 0 0 2 ∷ at 0 1 1 ∷ []) (((i.Int, wire.Number (pos 5)) ∷ (i.Int, wire.Sealed 3) ∷ []) ∷ [])
packs_once = refl

-- blocks are numbered by the first arguments that point into them
packs_by_first_use :
    (packed memory (number i.Int false ∷ pointer true ∷ pointer true ∷ pointer true ∷ pointer true ∷ [])
    (cell.Int (pos 1) ∷ cell.Ptr Null ∷ to (Global 3) 0 1 ∷ to (Local 1 0) 1 1 ∷ to (Global 3) 0 1 ∷ [])).args
    ≡ argument.Number (pos 1) ∷ argument.Null ∷ at 0 0 1 ∷ at 1 1 1 ∷ at 0 0 1 ∷ []
packs_by_first_use = refl

-- a handle is sent where the parameter is marked
packs_handles :
    packed memory (number i.Int true ∷ number i.Int false ∷ []) (cell.Sealed 4 ∷ cell.Sealed 4 ∷ [])
    ≡ body (argument.Sealed 4 ∷ argument.Number (pos 0) ∷ []) []
packs_handles = refl

-- ---- how cells come back

-- of a pair, the field that is marked is sealed; cells outside the range stay
marked_field : crossing_of structs (pointer_to_struct 0 ∷ []) (at 0 2 1 ∷ []) 0 2 ≡ Plain
unfolding leaves_of
marked_field = refl

marked_field_2 : crossing_of structs (pointer_to_struct 0 ∷ []) (at 0 2 1 ∷ []) 0 3 ≡ Sealed
unfolding leaves_of
marked_field_2 = refl

outside : crossing_of structs (pointer_to_struct 0 ∷ []) (at 0 2 1 ∷ []) 0 4 ≡ Stays
unfolding leaves_of
outside = refl

before : crossing_of structs (pointer_to_struct 0 ∷ []) (at 0 2 1 ∷ []) 0 1 ≡ Stays
unfolding leaves_of
before = refl

other_block : crossing_of structs (pointer_to_struct 0 ∷ []) (at 0 2 1 ∷ []) 1 2 ≡ Stays
unfolding leaves_of
other_block = refl

-- `&s.key` for an `int *`: no field of the pointee's counts, and those above it don't either
field_above : crossing_of structs (pointer false ∷ []) (at 0 3 1 ∷ []) 0 3 ≡ Plain
unfolding leaves_of
field_above = refl

-- a parameter marked `priv` seals its range, unless it is marked `declassify` too
marked_parameter : crossing_of structs (secret false ∷ []) (at 0 0 2 ∷ []) 0 1 ≡ Sealed
unfolding leaves_of
marked_parameter = refl

declassified : crossing_of structs (secret true ∷ []) (at 0 0 2 ∷ []) 0 1 ≡ Plain
unfolding leaves_of
declassified = refl

-- what is pointed to by a pointer to const doesn't come back, nor does what null points to
const_stays : crossing_of structs (pointer true ∷ []) (at 0 0 2 ∷ []) 0 1 ≡ Stays
const_stays = refl

null_stays : crossing_of structs (secret false ∷ []) (argument.Null ∷ []) 0 0 ≡ Stays
null_stays = refl

-- a cell in two ranges, sealed by one of them, is sealed; const takes nothing away
aliased : crossing_of structs (secret true ∷ pointer_to_struct 0 ∷ []) (at 0 0 2 ∷ at 0 0 1 ∷ []) 0 1 ≡ Sealed
unfolding leaves_of
aliased = refl

aliased_const : crossing_of structs (pointer true ∷ pointer false ∷ []) (at 0 0 2 ∷ at 0 1 1 ∷ []) 0 1 ≡ Plain
unfolding leaves_of
aliased_const = refl

-- ---- bodies that are none

abbrev pub takes_pair : List Param
takes_pair = number i.Char true ∷ pointer_to_struct 0 ∷ []

abbrev pub pair : List (IntType × WireCell)
pair = (i.Int, wire.Number (pos 5)) ∷ (i.Int, wire.Sealed 0) ∷ []

is_one : is_shaped structs takes_pair (body (argument.Sealed 0 ∷ at 0 0 1 ∷ []) (pair ∷ [])) ≡ true
unfolding leaves_of
is_one = refl

too_few : is_shaped structs takes_pair (body (argument.Sealed 0 ∷ []) []) ≡ false
too_few = refl

too_many : is_shaped structs takes_pair (body (argument.Sealed 0 ∷ argument.Null ∷ argument.Null ∷ []) []) ≡ false
too_many = refl

out_of_range : is_shaped structs takes_pair (body (argument.Number (pos 128) ∷ argument.Null ∷ []) []) ≡ false
out_of_range = refl

handle_unmarked : is_shaped structs (number i.Int false ∷ []) (body (argument.Sealed 0 ∷ []) []) ≡ false
handle_unmarked = refl

number_for_pointer : is_shaped structs (pointer true ∷ []) (body (argument.Number (pos 0) ∷ []) []) ≡ false
number_for_pointer = refl

no_block : is_shaped structs takes_pair (body (argument.Sealed 0 ∷ at 1 0 1 ∷ []) (pair ∷ [])) ≡ false
no_block = refl

no_element : is_shaped structs takes_pair (body (argument.Sealed 0 ∷ at 0 0 0 ∷ []) (pair ∷ [])) ≡ false
no_element = refl

index_past : is_shaped structs takes_pair (body (argument.Sealed 0 ∷ argument.At 0 0 1 2 ∷ []) (pair ∷ [])) ≡ false
index_past = refl

range_past : is_shaped structs takes_pair (body (argument.Sealed 0 ∷ at 0 1 1 ∷ []) (pair ∷ [])) ≡ false
unfolding leaves_of
range_past = refl

other_type : is_shaped structs (pointer false ∷ []) (body (at 0 0 1 ∷ []) (((i.UInt, wire.Number (pos 5)) ∷ []) ∷ [])) ≡ false
unfolding leaves_of
other_type = refl

handle_under_no_mark : is_shaped structs (pointer false ∷ []) (body (at 0 1 1 ∷ []) (pair ∷ [])) ≡ false
unfolding leaves_of
handle_under_no_mark = refl

-- a handle may stand where no parameter reaches, and behind a parameter that is marked, `declassify` or not
handle_outside : is_shaped structs (pointer false ∷ []) (body (at 0 0 1 ∷ []) (pair ∷ [])) ≡ true
unfolding leaves_of
handle_outside = refl

handle_declassified : is_shaped structs (secret true ∷ []) (body (at 0 0 2 ∷ []) (pair ∷ [])) ≡ true
unfolding leaves_of
handle_declassified = refl

-- each parameter that reaches a handle is asked
handle_twice : is_shaped structs (pointer_to_struct 0 ∷ pointer true ∷ []) (body (at 0 0 1 ∷ at 0 1 1 ∷ []) (pair ∷ [])) ≡ false
unfolding leaves_of
handle_twice = refl

unnamed : is_shaped structs takes_pair (body (argument.Sealed 0 ∷ argument.Null ∷ []) (pair ∷ [])) ≡ false
unnamed = refl

number_out_of_range : is_shaped structs (pointer false ∷ [])
    (body (at 0 0 1 ∷ []) (((i.Int, wire.Number (pos 5)) ∷ (i.UChar, wire.Number (pos 256)) ∷ []) ∷ [])) ≡ false
unfolding leaves_of
number_out_of_range = refl

-- ---- handles

abbrev pub store : Entries
store = (i.Char, pos 9) ∷ (i.Int, pos 40) ∷ []

-- the first faulty handle counts, by arguments and then by blocks
first_by_arguments : handle_fault store takes_pair (body (argument.Sealed 1 ∷ at 0 0 1 ∷ []) (((i.Int, wire.Sealed 7) ∷ []) ∷ [])) ≡ Some (WrongType 1)
first_by_arguments = refl

then_by_blocks : handle_fault store takes_pair
    (body (argument.Sealed 0 ∷ at 0 0 1 ∷ []) (((i.Int, wire.Sealed 7) ∷ (i.Int, wire.Sealed 0) ∷ []) ∷ [])) ≡ Some (BadHandle 7)
then_by_blocks = refl

shape_first : unpacking store structs takes_pair (body (argument.Sealed 7 ∷ []) []) ≡ Err Shape
shape_first = refl

served :
    unpacking store structs takes_pair (body (argument.Sealed 0 ∷ at 0 0 1 ∷ []) (((i.Int, wire.Number (pos 5)) ∷ (i.Int, wire.Sealed 1) ∷ []) ∷ []))
    ≡ Ok (record { args = cell.Int (pos 9) ∷ to (Received 0) 0 1 ∷ []; blocks = (cell.Int (pos 5) ∷ cell.Int (pos 40) ∷ []) ∷ [] })
unfolding leaves_of
served = refl

-- ---- replies

-- int f(struct pair *p, const int *q);  called with both pointers into one block of a pair and one more int
abbrev pub asks : Signature
asks = function (Some i.Int) (pointer_to_struct 0 ∷ pointer true ∷ [])

abbrev pub asked : CallBody
asked = body (at 0 0 1 ∷ at 0 0 3 ∷ []) (((i.Int, wire.Number (pos 1)) ∷ (i.Int, wire.Sealed 0) ∷ (i.Int, wire.Number (pos 3)) ∷ []) ∷ [])

-- the monitor's blocks after the call
abbrev pub served_blocks : Blocks
served_blocks = put no_blocks (Received 0)
    (record { types = i.Int ∷ i.Int ∷ i.Int ∷ []; cells = cell.Int (pos 11) ∷ cell.Int (pos 12) ∷ cell.Int (pos 13) ∷ [] })

abbrev pub answered : ReplyBody
answered = record { result = Some (wire.Sealed 6); cells = wire.Number (pos 11) ∷ wire.Sealed 7 ∷ [] }

-- the result has the first handle, each sealed cell the next one; what is const doesn't come back
replies : packed_results 6 structs asks asked served_blocks (Some (pos 10)) ≡ answered
unfolding leaves_of
replies = refl

keeps : kept_results structs asks asked served_blocks (Some (pos 10)) ≡ (i.Int, pos 10) ∷ (i.Int, pos 12) ∷ []
unfolding leaves_of
keeps = refl

-- the caller's memory and arguments
abbrev pub calling : Blocks
calling = put no_blocks (Local 2 1) (record { types = i.Int ∷ i.Int ∷ i.Int ∷ []; cells = cell.Int (pos 1) ∷ cell.Sealed 0 ∷ cell.Int (pos 3) ∷ [] })

abbrev pub passed : List Cell
passed = to (Local 2 1) 0 1 ∷ to (Local 2 1) 0 3 ∷ []

accepts : is_reply 6 calling structs asks passed answered ≡ true
unfolding leaves_of
accepts = refl

other_handle : is_reply 5 calling structs asks passed answered ≡ false
other_handle = refl

cell_more : is_reply 6 calling structs asks passed
    (record { result = Some (wire.Sealed 6); cells = wire.Number (pos 11) ∷ wire.Sealed 7 ∷ wire.Number (pos 3) ∷ [] }) ≡ false
unfolding leaves_of
cell_more = refl

no_result : is_reply 6 calling structs asks passed (record { result = None; cells = wire.Number (pos 11) ∷ wire.Sealed 7 ∷ [] }) ≡ false
no_result = refl

gives : (after_reply 6 calling structs asks passed answered).result ≡ Some (cell.Sealed 6)
gives = refl

next : (after_reply 6 calling structs asks passed answered).next ≡ 8
unfolding leaves_of
next = refl

leaves_cells : ((after_reply 6 calling structs asks passed answered).blocks (Local 2 1)).cells ≡ cell.Int (pos 11) ∷ cell.Sealed 7 ∷ cell.Int
    (pos 3) ∷ []
unfolding leaves_of
leaves_cells = refl

-- a call that seals all it gives back is known beforehand
abbrev pub seals : Signature
seals = function (Some i.Int) (secret false ∷ pointer true ∷ [])

all_sealed : has_plain (call_places calling structs seals.params passed) ≡ false
unfolding leaves_of
all_sealed = refl

posted : ((after_posting 6 calling structs seals passed).blocks (Local 2 1)).cells ≡ cell.Sealed 7 ∷ cell.Sealed 0 ∷ cell.Int (pos 3) ∷ []
unfolding leaves_of
posted = refl

-- ---- what may be sent

abbrev pub four : Entries
four = (i.Int, pos 40) ∷ (i.Int, pos 41) ∷ (i.Int, pos 42) ∷ (i.Int, pos 43) ∷ []

-- a pair whose key is a handle
sendable : is_sendable four structs (pointer_to_struct 0 ∷ []) memory (to (Local 1 0) 0 1 ∷ []) ≡ true
unfolding leaves_of
sendable = refl

-- its key alone, for a pointer without a mark
unmarked : is_sendable four structs (pointer false ∷ []) memory (to (Local 1 0) 1 1 ∷ []) ≡ false
unfolding leaves_of
unmarked = refl

-- a handle that the store doesn't have yet
unknown : is_sendable store structs (pointer_to_struct 0 ∷ []) memory (to (Local 1 0) 0 1 ∷ []) ≡ false
unfolding leaves_of
unknown = refl

-- ---- a call that is served

abbrev pub six : Entries
six = four ++ (i.Int, pos 44) ∷ (i.Int, pos 45) ∷ []

-- both pointers into one block, the second to its last cell alone
abbrev pub aliases : List Cell
aliases = to (Local 2 1) 0 1 ∷ to (Local 2 1) 2 1 ∷ []

may_be_called : is_sendable six structs asks.params calling aliases ≡ true
unfolding leaves_of
may_be_called = refl

-- both point into one received block
callee_gets : unpacking six structs asks.params (packed calling asks.params aliases) ≡ Ok (for_callee six calling aliases)
unfolding leaves_of
callee_gets = refl

that_is : for_callee six calling aliases ≡
    record { args = to (Received 0) 0 1 ∷ to (Received 0) 2 1 ∷ []; blocks = (cell.Int (pos 1) ∷ cell.Int (pos 40) ∷ cell.Int (pos 3) ∷ []) ∷ [] }
that_is = refl

store_has : grown six structs asks calling aliases served_blocks (Some (pos 10)) ≡ six ++ (i.Int, pos 10) ∷ (i.Int, pos 12) ∷ []
unfolding leaves_of
store_has = refl

caller_has : ((returned six structs asks calling aliases served_blocks (Some (pos 10))).blocks (Local 2 1)).cells
    ≡ cell.Int (pos 11) ∷ cell.Sealed 7 ∷ cell.Int (pos 3) ∷ []
unfolding leaves_of
caller_has = refl

that_stands_for :
    (revealed_blocks (grown six structs asks calling aliases served_blocks (Some (pos 10)))
    (returned six structs asks calling aliases served_blocks (Some (pos 10))).blocks (Local 2 1)).cells
    ≡ cell.Int (pos 11) ∷ cell.Int (pos 12) ∷ cell.Int (pos 3) ∷ []
unfolding leaves_of
that_stands_for = refl
