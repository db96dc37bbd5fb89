-- The definitions tried on the signer:
--     priv int load(int n);
--     priv declassify int sign(priv int k, int n);
--     void put(int v);                             the host writes a byte
--     int main(void) { int k; int s; k = load(7); s = sign(k, 5); put(s); return 0; }
use Rattle.std.proofs.Common.{◌≡◌, ℕ, pos, refl, Bool, true, false, List, [], ◌∷◌, Option, Some, None, codes}
use Rattle.std.specs.Prelude.{nat_eq, if◌then◌else◌}
use Rattle.pt_base.specs.declared.span.Span.{Span}
use Rattle.pt_base.specs.declared.int_type.IntType.{IntType}
use Rattle.pt_base.specs.declared.int_type.IntType.TheVariants as i
use Rattle.pt_base.specs.declared.end.End.{End}
use Rattle.pt_base.specs.declared.end.End.TheVariants.{Exit, Refused, Spent}
use Rattle.pt_int.specs.Conversion as conversion
use Rattle.pt_tree.specs.declared.host_model.HostModel.TheVariants as h
use Rattle.pt_tree.specs.declared.signature.ParamKind.TheVariants as k
use Rattle.pt_tree.specs.declared.signature.Param.{Param}
use Rattle.pt_tree.specs.declared.signature.Signature.{Signature}
use Rattle.typed_tree.specs.declared.types.VarTy.TheVariants as ty
use Rattle.typed_tree.specs.declared.variable.Var.{Var}
use Rattle.typed_tree.specs.Cells as cells
use Rattle.runs.specs.State.{Hosts}
use Rattle.policy.specs.declared.rule.Rule.{Rule}
use Rattle.policy.specs.Verdicts.{start}
use Rattle.pt_core.specs.CodeTree.{local, place, constant, read, no_exprs, expr_and, call, give_back, repeat, no_stmts, stmt_and, ExprTree, StmtTrees, MonitorTree, BootTree}
use Rattle.wire.specs.declared.cell.Arg.{Arg}
use Rattle.wire.specs.declared.cell.Arg.TheVariants as argument
use Rattle.wire.specs.declared.cell.WireCell.TheVariants as wire
use Rattle.wire.specs.declared.message.ReplyBody.{ReplyBody}
use Rattle.wire.specs.declared.message.Message.{Message}
use Rattle.wire.specs.declared.message.Message.TheVariants as message
use Rattle.wire.specs.Frames.{open_end}
use Rattle.pair_protocol.specs.Sides.{Served, goes_on, ends, bad}
use Rattle.pair_protocol.specs.Pair.{done}
use Rattle.pair_meaning.specs.Monitors.{Monitor, low}
use Rattle.pair_meaning.specs.Rules.{PeerRule, bad_depth, bad_handle, bad_turns, early_park, no_entry, posted_plain}
use Rattle.pair_meaning.specs.Serving.{serve}
use Rattle.pair_meaning.specs.LowView.{declassified, low_next, reply_of}
use Rattle.pair_meaning.specs.Streams.{still_open, at_rule, serve_frames, guarded_calls}
use Rattle.pair_meaning.specs.Start.{monitor_start}
use Rattle.pair_meaning.specs.Pair.{said, both}

-- ---- the program

abbrev anywhere : Span
anywhere = record { from = 0; to = 0 }

abbrev takes : Bool → Param
takes marked = record { kind = k.Int i.Int; marked = marked; declassify = false }

abbrev signed : List ℕ → Option IntType → List Param → Bool → Bool → Bool → Signature
signed name result params host privileged declassify = record {
  name = name;
  result = result;
  params = params;
  host = host;
  privileged = privileged;
  declassify = declassify;
}

abbrev load : Signature
load = signed (codes "load") (Some i.Int) (takes false ∷ []) true true false

abbrev sign : Signature
sign = signed (codes "sign") (Some i.Int) (takes true ∷ takes false ∷ []) true true true

abbrev put : Signature
put = signed (codes "put") None (takes false ∷ []) true false false

abbrev main : Signature
main = signed (codes "main") (Some i.Int) [] false false false

abbrev number : Var
number = record { name = []; span = anywhere; ty = ty.Int i.Int; marked = false; unpriv = false; holds = None }

abbrev value : ℕ → ExprTree
value v = read (place (local v) [])

abbrev body : StmtTrees
body = stmt_and (call 0 (expr_and (constant i.Int (pos 7)) no_exprs) (Some 0) anywhere)
    (stmt_and (call 1 (expr_and (value 0) (expr_and (constant i.Int (pos 5)) no_exprs)) (Some 1) anywhere)
    (stmt_and (call 2 (expr_and (value 1) no_exprs) None anywhere)
    (stmt_and (give_back (Some (constant i.Int (pos 0)))) no_stmts)))

abbrev boot : ℕ → BootTree
boot turns = record {
  structs = [];
  signatures = (0, load) ∷ (1, sign) ∷ (2, put) ∷ (3, main) ∷ [];
  functions = record { id = 3; params = 0; vars = number ∷ number ∷ []; body = body; end = anywhere } ∷ [];
  globals = [];
  hosts = (2, h.Bytes) ∷ [];
  input = [];
  turns = turns;
}

abbrev program : MonitorTree
program = record {
  structs = [];
  signatures = (0, load) ∷ (1, sign) ∷ [];
  functions = [];
  globals = [];
  entries = record { function = record { 0 = 0 }; shared = [] } ∷ record { function = record { 0 = 1 }; shared = [] } ∷ [];
}

abbrev hosts : Hosts
hosts f = if nat_eq f 0
    then h.Table (record { args = pos 7 ∷ []; result = pos 1234 } ∷ []) (pos 0)
    else h.Table (record { args = pos 1234 ∷ pos 5 ∷ []; result = pos 99 } ∷ []) (pos 1)

abbrev allow : ℕ → Rule
allow f = record { from = codes "a"; function = record { 0 = f }; ranges = []; most = None; to = codes "a" }

abbrev monitor : List Rule → ℕ → Monitor
monitor rules budget = monitor_start program hosts [] (start rules) budget

abbrev both_allowed : List Rule
both_allowed = allow 0 ∷ allow 1 ∷ []

-- ---- what the slave says

abbrev call_of : ℕ → Bool → List Arg → Message
call_of f wants args = message.Call 0 f 0 wants (record { args = args; blocks = [] })

-- the handle of load's result is known before it is served, so the first call is posted
abbrev first_call : Message
first_call = call_of 0 false (argument.Number (pos 7) ∷ [])

abbrev second_call : Message
second_call = call_of 1 true (argument.Sealed 0 ∷ argument.Number (pos 5) ∷ [])

abbrev signature : ReplyBody
signature = record { result = Some (wire.Number (pos 99)); cells = [] }

two_calls : said (boot 9) [] ≡ first_call ∷ second_call ∷ []
unfolding cells.leaves_of conversion.conv
two_calls = refl

all_said : said (boot 9) (signature ∷ []) ≡ first_call ∷ second_call ∷ message.Emit 1 (99 ∷ []) ∷ message.Exit 1 (pos 0) ∷ []
unfolding cells.leaves_of conversion.conv
all_said = refl

-- a handle is no reply to this call
over_behind_a_bad_reply : said (boot 9) (record { result = Some (wire.Sealed 1); cells = [] } ∷ []) ≡ first_call ∷ second_call ∷ []
unfolding cells.leaves_of conversion.conv
over_behind_a_bad_reply = refl

-- with one turn the second call can't be served any more, so the slave parks in its place
parked : said (boot 1) [] ≡ first_call ∷ message.Park 2 ∷ []
unfolding cells.leaves_of conversion.conv
parked = refl

-- ---- both

prints : both (boot 9) (monitor both_allowed 9) 9 ≡ done (99 ∷ []) (Exit (pos 0))
unfolding cells.leaves_of conversion.conv
prints = refl

-- three turns suffice: two of the monitor, and one of the slave
prints_in_three : both (boot 3) (monitor both_allowed 3) 9 ≡ done (99 ∷ []) (Exit (pos 0))
unfolding cells.leaves_of conversion.conv
prints_in_three = refl

-- with two, what is written is told too late
spent_in_two : both (boot 2) (monitor both_allowed 2) 9 ≡ done [] Spent
unfolding cells.leaves_of conversion.conv
spent_in_two = refl

spent_in_one : both (boot 1) (monitor both_allowed 1) 9 ≡ done [] Spent
unfolding cells.leaves_of conversion.conv
spent_in_one = refl

-- the second call is denied
refused : both (boot 9) (monitor (allow 0 ∷ []) 9) 9 ≡ done [] (Refused 2 (record { 0 = 1 }) (codes "a"))
unfolding cells.leaves_of conversion.conv
refused = refl

-- without rules the first call is
refused_at_once : both (boot 9) (monitor [] 9) 9 ≡ done [] (Refused 1 (record { 0 = 0 }) (codes "-"))
unfolding cells.leaves_of conversion.conv
refused_at_once = refl

-- ---- messages that no such slave says

-- a handle that was never given
forged : serve (monitor both_allowed 1000) (call_of 1 true (argument.Sealed 3 ∷ argument.Number (pos 5) ∷ [])) ≡ bad bad_handle
unfolding cells.leaves_of conversion.conv
forged = refl

-- a number comes back, though no reply is wanted; that is told before the handle
posted : serve (monitor both_allowed 1000) (call_of 1 false (argument.Sealed 3 ∷ argument.Number (pos 5) ∷ [])) ≡ bad posted_plain
unfolding cells.leaves_of conversion.conv
posted = refl

not_asked_for : serve (monitor both_allowed 1000) (call_of 2 false (argument.Number (pos 5) ∷ [])) ≡ bad no_entry
unfolding cells.leaves_of conversion.conv
not_asked_for = refl

-- what writes has taken a turn
writes_too_early : serve (monitor both_allowed 1000) (message.Emit 0 []) ≡ bad bad_turns
writes_too_early = refl

parks_too_early : serve (monitor both_allowed 1000) (message.Park 1000) ≡ bad early_park
parks_too_early = refl

-- a call's own turn counts: with all turns taken it isn't served
spent_at_a_call : serve (monitor both_allowed 0) first_call ≡ ends [] Spent
spent_at_a_call = refl

-- the Exit of a slave is its own
exits : serve (monitor [] 0) (message.Exit 0 (pos 5)) ≡ ends [] (Exit (pos 5))
exits = refl

-- ---- what a slave may know

abbrev behind_by : Monitor → Served Monitor ReplyBody End PeerRule → Monitor
behind_by m (goes_on next reply bytes) = next
behind_by m (ends bytes end) = m
behind_by m (bad rule) = m

-- the monitor once it served the first call
abbrev behind_first : Monitor
behind_first = behind_by (monitor both_allowed 9) (serve (monitor both_allowed 9) first_call)

stored : behind_first.store ≡ (i.Int, pos 1234) ∷ []
unfolding cells.leaves_of conversion.conv
stored = refl

known : low behind_first ≡ low_next (low (monitor both_allowed 9)) first_call
unfolding cells.leaves_of conversion.conv
known = refl

-- the one number that is told is the signature's
told : declassified behind_first second_call ≡ pos 99 ∷ []
unfolding cells.leaves_of conversion.conv
told = refl

replied : reply_of (low behind_first) second_call (pos 99 ∷ []) ≡ Some signature
unfolding cells.leaves_of conversion.conv
replied = refl

-- ---- frames

-- the second frame breaks a rule, and nothing was told
stops_there : serve_frames (monitor both_allowed 9) ((first_call, 0) ∷ (call_of 1 false (argument.Sealed 0 ∷ argument.Number (pos 5) ∷ []), 38) ∷ []) open_end
    ≡ record { bytes = []; replies = []; stopped = at_rule posted_plain 38 }
unfolding cells.leaves_of conversion.conv
stops_there = refl

-- both calls are served, and the monitor would serve more
would_serve_more : serve_frames (monitor both_allowed 9) ((first_call, 0) ∷ (second_call, 38) ∷ []) open_end
    ≡ record { bytes = []; replies = signature ∷ []; stopped = still_open }
unfolding cells.leaves_of conversion.conv
would_serve_more = refl

-- the two guarded calls, with the numbers that the policy sees
guarded : guarded_calls (monitor both_allowed 9) (first_call ∷ second_call ∷ [])
    ≡ record { function = record { 0 = 0 }; plain = pos 7 ∷ [] } ∷ record { function = record { 0 = 1 }; plain = pos 5 ∷ [] } ∷ []
unfolding cells.leaves_of conversion.conv
guarded = refl

-- the denied one isn't made
guarded_once : guarded_calls (monitor (allow 0 ∷ []) 9) (first_call ∷ second_call ∷ []) ≡ record { function = record { 0 = 0 }; plain = pos 7 ∷ [] } ∷ []
unfolding cells.leaves_of conversion.conv
guarded_once = refl

-- ---- a body that never returns
--     priv void spin(void) { for (;;) ; }

abbrev spinning : MonitorTree
spinning = record {
  structs = [];
  signatures = (1, signed (codes "spin") None [] false true false) ∷ [];
  functions = record { id = 1; params = 0; vars = []; body = stmt_and (repeat no_stmts anywhere) no_stmts; end = anywhere } ∷ [];
  globals = [];
  entries = record { function = record { 0 = 1 }; shared = [] } ∷ [];
}

abbrev spin_at : ℕ → Message
spin_at depth = message.Call 0 1 depth false (record { args = []; blocks = [] })

-- it takes all turns that the call's own leaves
spent_in_a_body : serve (monitor_start spinning hosts [] (start (allow 1 ∷ [])) 5) (spin_at 2) ≡ ends [] Spent
unfolding cells.leaves_of conversion.conv
spent_in_a_body = refl

-- a function is never entered at main's depth
too_shallow : serve (monitor_start spinning hosts [] (start (allow 1 ∷ [])) 5) (spin_at 1) ≡ bad bad_depth
unfolding cells.leaves_of conversion.conv
too_shallow = refl
