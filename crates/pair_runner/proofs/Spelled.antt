-- The reply to a message within the counts of the format has a spelling.
use Rattle.std.proofs.Common.{◌≡◌, ◌≤◌, ℕ, suc, ◌*◌, ℤ, List, [], ◌∷◌, length, Bool, true, false, Option, Some, None, sym, ap, subst, arith, length-append}
use Rattle.std.proofs.lemmas.List.{length-map}
use Rattle.std.specs.Prelude.{if◌then◌else◌, option_map}
use Rattle.std.specs.List.{AllByRecursion}
use Rattle.pt_base.specs.declared.end.End.{End}
use Rattle.pt_base.specs.declared.int_type.IntType.{IntType}
use Rattle.pt_base.proofs.Options.{some_same}
use Rattle.block_memory.specs.declared.cell.Cell.{Cell}
use Rattle.runs.specs.State as r
use Rattle.pt_core.specs.Statements.{Outcome, State}
use Rattle.pt_core.specs.Values.{number_in}
use Rattle.wire.specs.declared.cell.WireCell.{WireCell}
use Rattle.wire.specs.declared.message.CallBody.{CallBody}
use Rattle.wire.specs.declared.message.Message.{Message}
use Rattle.wire.specs.declared.message.Message.TheVariants as message
use Rattle.wire.specs.declared.message.ReplyBody.{ReplyBody}
use Rattle.wire.specs.Limits.{IsBlock, IsCall, KeepsCounts, KeepsLimits}
use Rattle.wire.proofs.Sizes.{counts_suffice}
use Rattle.marshalling.specs.declared.crossing.Crossing.{Crossing}
use Rattle.marshalling.specs.declared.crossing.Crossing.TheVariants.{Stays, Plain, Sealed}
use Rattle.marshalling.specs.Replies.{Place, block_types, next_by, places_from, places_of, sent, sent_by, types_of}
use Rattle.marshalling.proofs.ReplyLemmas.{length-places_from}
use Rattle.pair_protocol.specs.Sides.{Served, goes_on, ends, bad}
use Rattle.pair_meaning.specs.Monitors.{Monitor, low}
use Rattle.pair_meaning.specs.Rules as rule
use Rattle.pair_meaning.specs.Rules.{PeerRule, Admitted, Verdict, breaks, writes, makes, rules}
use Rattle.pair_meaning.specs.Serving.{acted, left_for, reply_with, serve, served_by, work_of}
use Rattle.pair_runner.proofs.Counting.{IsMadeOf, made_asked, passes}

-- ---- how many cells

one_at_most : (way : Crossing) (handle : ℕ) (v : ℤ) → length (sent_by way handle v) ≤ 1
one_at_most Stays handle v = omega arith
one_at_most Plain handle v = omega arith
one_at_most Sealed handle v = omega arith

sent_short : (handle : ℕ) (places : List Place) (values : List ℤ) → length (sent handle places values) ≤ length places
sent_short handle [] values = omega arith
sent_short handle (p ∷ places) [] = omega arith
sent_short handle (p ∷ places) (v ∷ values) =
    let one = one_at_most p.way handle v in
    let more = sent_short (next_by p.way handle) places values in
    omega (arith, one, more, length-append (sent_by p.way handle v) (sent (next_by p.way handle) places values))

places_short : (crossing : ℕ → ℕ → Crossing) (k : ℕ) (blocks : List (List (IntType × WireCell))) → AllByRecursion IsBlock blocks → length (places_of crossing k (types_of blocks)) ≤ length blocks * 65_536
places_short crossing k [] all = omega arith
places_short crossing k (cells ∷ blocks) all =
    let most = all.0.1 in
    let more = places_short crossing (suc k) blocks all.1 in
    let here = length-places_from crossing k 0 (block_types cells) in
    omega (arith, most, more, here, length-map cells (λ (typed : IntType × WireCell). typed.0), length-append (places_from crossing k 0 (block_types cells)) (places_of crossing (suc k) (types_of blocks)))

few_cells : (crossing : ℕ → ℕ → Crossing) (body : CallBody) (handle : ℕ) (values : List ℤ) → IsCall body → length (sent handle (places_of crossing 0 (types_of body.blocks)) values) ≤ 524_288
few_cells crossing body handle values is =
    let short = sent_short handle (places_of crossing 0 (types_of body.blocks)) values in
    let places = places_short crossing 0 body.blocks is.each in
    let blocks = is.blocks in
    omega (arith, short, places, blocks)

-- ---- the reply

spelled_by : (reply : ReplyBody) → length reply.cells ≤ 524_288 → KeepsLimits (message.Reply reply)
spelled_by reply few = counts_suffice (message.Reply reply) (tt {0}) (omega (arith, few))

abbrev replies_in : Served Monitor ReplyBody End PeerRule → Option ReplyBody
replies_in (goes_on next reply bytes) = reply
replies_in (ends bytes end) = None
replies_in (bad broken) = None

wanted : (wants : Bool) (made reply : ReplyBody) → KeepsLimits (message.Reply made) → (if wants then Some made else None) ≡ Some reply → KeepsLimits (message.Reply reply)
wanted true made reply k e = subst (λ (w : ReplyBody). KeepsLimits (message.Reply w)) (some_same made reply e) k
wanted false made reply k e = cc

reply_spelled : (m : Monitor) (call : Admitted) (value : Option ℤ) (st : State) → IsCall call.body → KeepsLimits (message.Reply (reply_with m call value st))
reply_spelled m call value st is = spelled_by (reply_with m call value st) (few_cells _ call.body _ _ is)

worked : (m next : Monitor) (x : Message) (call : Admitted) (left : ℕ) (outcome : Outcome (Option Cell)) (reply : ReplyBody) (bytes : List ℕ) → IsCall call.body →
    served_by m x call left outcome ≡ goes_on next (Some reply) bytes → KeepsLimits (message.Reply reply)
worked m next x call left (r.gives v st) reply bytes is e = wanted call.wants (reply_with m call (option_map number_in v) st) reply (reply_spelled m call (option_map number_in v) st is) (ap replies_in e)
worked m next x call left (r.trapped trap span st) reply bytes is e = cc
worked m next x call left (r.spent st) reply bytes is e = cc

acted_spelled : (m next : Monitor) (x : Message) (body : CallBody) (v : Verdict) (reply : ReplyBody) (bytes : List ℕ) → IsCall body → IsMadeOf body v →
    acted m x (left_for m x) v ≡ goes_on next (Some reply) bytes → KeepsLimits (message.Reply reply)
acted_spelled m next x body (breaks broken) reply bytes is made e = cc
acted_spelled m next x body (rule.ends end) reply bytes is made e = cc
acted_spelled m next x body (writes out) reply bytes is made e = absurd made
acted_spelled m next x body (makes call) reply bytes is made e =
    worked m next x call (left_for m x) (work_of m call (left_for m x)) reply bytes (subst IsCall (sym made) is) e

no_reply : {A : Type 0} (reply : ReplyBody) → None ≡ Some reply → A
no_reply reply e = cc

pub replies_are_spelled : (m next : Monitor) (x : Message) (reply : ReplyBody) (bytes : List ℕ) → KeepsCounts x → serve m x ≡ goes_on next (Some reply) bytes → KeepsLimits (message.Reply reply)
replies_are_spelled m next (message.Boot piece) reply bytes counts e = no_reply reply (ap replies_in e)
replies_are_spelled m next (message.Call turns f depth wants body) reply bytes counts e =
    acted_spelled m next (message.Call turns f depth wants body) body (rules (low m) (message.Call turns f depth wants body)) reply bytes counts (made_asked (low m) f depth wants body _)
    (passes m (message.Call turns f depth wants body) next (Some reply) bytes e).acts
replies_are_spelled m next (message.Emit turns out) reply bytes counts e = no_reply reply (ap replies_in (passes m (message.Emit turns out) next (Some reply) bytes e).acts)
replies_are_spelled m next (message.Exit turns status) reply bytes counts e = no_reply reply (ap replies_in (passes m (message.Exit turns status) next (Some reply) bytes e).acts)
replies_are_spelled m next (message.Trap turns kind span) reply bytes counts e = no_reply reply (ap replies_in (passes m (message.Trap turns kind span) next (Some reply) bytes e).acts)
replies_are_spelled m next (message.Park turns) reply bytes counts e = no_reply reply (ap replies_in (passes m (message.Park turns) next (Some reply) bytes e).acts)
replies_are_spelled m next (message.Reply body) reply bytes counts e = no_reply reply (ap replies_in e)
