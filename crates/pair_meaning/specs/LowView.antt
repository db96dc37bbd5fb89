-- What a slave may know of a monitor after a message, of what it may know before and the numbers that the reply tells.
use Rattle.std.specs.Prelude.{ℕ, ℤ, pos, Bool, List, [], ◌∷◌, ◌++◌, Option, Some, None, drop, length, slice_get, if◌then◌else◌}
use Rattle.pt_base.specs.declared.int_type.IntType.{IntType}
use Rattle.typed_tree.specs.declared.types.StructInfo.{StructInfo}
use Rattle.pt_tree.specs.declared.signature.Signature.{Signature}
use Rattle.wire.specs.declared.cell.WireCell.{WireCell}
use Rattle.wire.specs.declared.cell.WireCell.TheVariants as wire
use Rattle.wire.specs.declared.message.CallBody.{CallBody}
use Rattle.wire.specs.declared.message.Message.{Message}
use Rattle.wire.specs.declared.message.ReplyBody.{ReplyBody}
use Rattle.marshalling.specs.Replies.{Place, is_plain, kept_by, next_after, next_by, result_places, sent_by}
use Rattle.pair_protocol.specs.Sides.{Served, goes_on, ends, bad}
use Rattle.pt_base.specs.declared.end.End.{End}
use Rattle.pair_meaning.specs.Monitors.{Monitor, Low, types_in}
use Rattle.pair_meaning.specs.Rules.{PeerRule, Admitted, Verdict, breaks, writes, makes, turns_of, body_places, rules}
use Rattle.pair_meaning.specs.Rules as rule
use Rattle.pair_meaning.specs.Serving.{serve}

-- ---- what a reply tells

abbrev pub number_told : WireCell → List ℤ
number_told (wire.Number v) = v ∷ []
number_told (wire.Sealed handle) = []

abbrev pub numbers_told : List WireCell → List ℤ
numbers_told [] = []
numbers_told (c ∷ cells) = number_told c ++ numbers_told cells

abbrev pub result_told : Option WireCell → List ℤ
result_told None = []
result_told (Some c) = number_told c

-- the numbers in a reply, the result first
abbrev pub told_in : ReplyBody → List ℤ
told_in reply = result_told reply.result ++ numbers_told reply.cells

-- what serving a message tells
abbrev pub told_by : Served Monitor ReplyBody End PeerRule → List ℤ
told_by (goes_on m None bytes) = []
told_by (goes_on m (Some reply) bytes) = told_in reply
told_by (ends bytes end) = []
told_by (bad rule) = []

-- the numbers that the monitor tells in answer to a message
abbrev pub declassified : Monitor → Message → List ℤ
declassified m x = told_by (serve m x)

-- ---- the reply, of what is told

-- the next number told, and those behind it
abbrev pub next_told : List ℤ → ℤ
next_told [] = pos 0
next_told (v ∷ told) = v

abbrev pub told_behind : Bool → List ℤ → List ℤ
told_behind plain told = if plain then drop 1 told else told

-- the cells of these places that come back: handles from this one on, and the numbers that are told, in turn
abbrev pub cells_of_told : ℕ → List Place → List ℤ → List WireCell
cells_of_told handle [] told = []
cells_of_told handle (p ∷ places) told = sent_by p.way handle (next_told told) ++ cells_of_told (next_by p.way handle) places (told_behind (is_plain p.way) told)

abbrev pub count_plain : List WireCell → ℕ
count_plain cells = length (numbers_told cells)

-- the reply whose sealed cells are the next handles, and whose numbers are those told
abbrev pub reply_of_told : Low → Admitted → List ℤ → ReplyBody
reply_of_told low call told =
    let results = result_places call.signature call.signature.result in
    let first = cells_of_told (length low.types) results told in
    record {
      result = slice_get first 0;
      cells = cells_of_told (next_after (length low.types) results) (body_places low.structs call.signature call.body) (drop (count_plain first) told);
    }

abbrev pub reply_by : Low → List ℤ → Verdict → Option ReplyBody
reply_by low told (breaks rule) = None
reply_by low told (rule.ends end) = None
reply_by low told (writes bytes) = None
reply_by low told (makes call) = if call.wants then Some (reply_of_told low call told) else None

-- the reply to a message, where one is wanted
abbrev pub reply_of : Low → Message → List ℤ → Option ReplyBody
reply_of low x told = reply_by low told (rules low x)

-- ---- the view after it

-- the types of the handles that these places come back as
abbrev pub types_kept : List Place → List IntType
types_kept [] = []
types_kept (p ∷ places) = types_in (kept_by p.way p.ty (pos 0)) ++ types_kept places

-- those of a call: its result and the cells of its blocks
abbrev pub types_of_call : List StructInfo → Signature → CallBody → List IntType
types_of_call structs s body = types_kept (result_places s s.result) ++ types_kept (body_places structs s body)

abbrev pub low_by : Low → Message → Verdict → Low
low_by low x (breaks rule) = low
low_by low x (rule.ends end) = low
low_by low x (writes bytes) = record low { last = turns_of x }
low_by low x (makes call) = record low {
  types = low.types ++ types_of_call low.structs call.signature call.body;
  policy = call.policy;
  calls = call.calls;
  last = turns_of x;
}

-- what a slave may know behind the message
abbrev pub low_next : Low → Message → Low
low_next low x = low_by low x (rules low x)
