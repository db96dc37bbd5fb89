-- A slave waits where it is to, and a monitor replies where it is to.
use Rattle.std.proofs.Common.{◌≡◌, ℕ, List, refl, ap, subst, Bool, true, false, Option, Some, None}
use Rattle.std.specs.Prelude.{◌+◌, if◌then◌else◌, nat_le}
use Rattle.pt_base.specs.declared.end.End.{End}
use Rattle.pt_base.specs.declared.end.End.TheVariants.{Spent}
use Rattle.pt_tree.specs.declared.signature.Signature.{Signature}
use Rattle.runs.specs.State as r
use Rattle.runs.specs.State.{gives}
use Rattle.block_memory.specs.declared.cell.Cell.{Cell}
use Rattle.wire.specs.declared.message.CallBody.{CallBody}
use Rattle.wire.specs.declared.message.Message.{Message}
use Rattle.wire.specs.declared.message.Message.TheVariants as message
use Rattle.wire.specs.declared.message.ReplyBody.{ReplyBody}
use Rattle.policy.specs.Verdicts.{Standing}
use Rattle.pt_core.specs.Statements.{Outcome}
use Rattle.pt_core.specs.Steps.{Answer, moved, asked, ended, trapped, spent, idle}
use Rattle.pair_protocol.specs.Sides.{going, waits, Moved, Served, goes_on, IsReply, HasReply, waiting, asks}
use Rattle.pair_protocol.proofs.OrderFacts.{going_waits, over_waits}
use Rattle.pair_meaning.specs.Monitors.{Monitor, Low, low}
use Rattle.pair_meaning.specs.Rules as rule
use Rattle.pair_meaning.specs.Rules.{PeerRule, Admitted, Verdict, breaks, writes, makes, call_rule, decided, early_rule, permitted, unless_broken, asked_for, rules, turns_of}
use Rattle.pair_meaning.specs.Serving.{acted, is_spent, left_for, served_by, verdict_on, work_of}
use Rattle.pair_meaning.specs.SlaveRun.{Slave, Doing, goes, waits_for, is_over, after_step, awaits_reply, calls_or_parks, is_reply_to, machine_step, mode_by, mode_of, moves_with, must_wait, parks, posts, says_call, stepped, taken_by, with_reply}
use Rattle.pair_meaning.specs.Pair.{wants_reply}
use Rattle.pair_meaning.specs.Laws.{TheSidesAreFair}

-- ---- the slave

abbrev IsFair : Moved Slave Message → Type 0
IsFair x = waiting (mode_of x.slave) ≡ asks wants_reply x.said

fair_moves : (x : Slave) (wrote : Option (List ℕ)) → mode_of x ≡ going → IsFair (moves_with x wrote)
fair_moves x None e = ap waiting e
fair_moves x (Some bytes) e = ap waiting e

fair_either : (b : Bool) (y z : Moved Slave Message) → IsFair y → IsFair z → IsFair (if b then y else z)
fair_either true y z h k = h
fair_either false y z h k = k

fair_call : (x : Slave) (f : ℕ) (args : List Cell) (depth : ℕ) → IsFair (says_call x f args depth)
fair_call x f args depth = fair_either (must_wait x f args) (awaits_reply x f args depth) (posts x f args depth) refl refl

fair_or_parks : (x : Slave) (f : ℕ) (args : List Cell) (depth : ℕ) → IsFair (calls_or_parks x f args depth)
fair_or_parks x f args depth = fair_either (nat_le x.machine.budget (x.machine.turns + x.calls)) (parks x) (says_call x f args depth) refl (fair_call x f args depth)

fair_step : (x : Slave) (answer : Answer) (wrote : Option (List ℕ)) → mode_of x ≡ going → IsFair (after_step x answer wrote)
fair_step x moved wrote e = fair_moves x wrote e
fair_step x (asked f args depth) wrote e = fair_or_parks x f args depth
fair_step x (ended v) wrote e = refl
fair_step x (trapped trap span) wrote e = refl
fair_step x spent wrote e = refl
fair_step x idle wrote e = refl

fair_take : (x : Slave) (d : Doing) (reply : ReplyBody) → mode_by d ≡ waits → waiting (mode_of (taken_by x d reply)) ≡ 0
fair_take x goes reply e = going_waits e
fair_take x is_over reply e = over_waits e
fair_take x (waits_for f args) reply e = by_test (is_reply_to x f args reply) (with_reply x f args reply) (record x { doing = is_over }) refl refl
  where
    by_test : (b : Bool) (y z : Slave) → waiting (mode_of y) ≡ 0 → waiting (mode_of z) ≡ 0 → waiting (mode_of (if b then y else z)) ≡ 0
    by_test true y z h k = h
    by_test false y z h k = k

-- ---- the monitor

-- a call that is made wants a reply as its message does, and what writes wants none
abbrev Wants : Bool → Verdict → Type 0
Wants w (breaks rule) = Unit {0}
Wants w (rule.ends end) = Unit {0}
Wants w (writes bytes) = w ≡ false
Wants w (makes call) = call.wants ≡ w

wants_unless : (w : Bool) (broken : Option PeerRule) (v : Verdict) → Wants w v → Wants w (unless_broken broken v)
wants_unless w None v h = h
wants_unless w (Some rule) v h = tt {0}

wants_either : (w b : Bool) (u v : Verdict) → Wants w u → Wants w v → Wants w (if b then u else v)
wants_either w true u v h k = h
wants_either w false u v h k = k

wants_decided : (view : Low) (call : Admitted) (next : Option Standing) → Wants call.wants (decided view call next)
wants_decided view call None = tt {0}
wants_decided view call (Some next) = refl

wants_permitted : (view : Low) (call : Admitted) → Wants call.wants (permitted view call)
wants_permitted view call = wants_either call.wants call.signature.privileged _ (makes call) (wants_decided view call _) refl

wants_asked : (view : Low) (f depth : ℕ) (wants : Bool) (body : CallBody) (s : Option Signature) → Wants wants (asked_for view f depth wants body s)
wants_asked view f depth wants body None = tt {0}
wants_asked view f depth wants body (Some s) = wants_unless wants (call_rule view s depth wants body) _
    (wants_permitted view (record { function = f; signature = s; depth = depth; wants = wants; body = body; policy = view.policy; calls = view.calls }))

wants_rules : (view : Low) (x : Message) → Wants (wants_reply x) (rules view x)
wants_rules view (message.Boot piece) = tt {0}
wants_rules view (message.Call turns f depth wants body) = wants_asked view f depth wants body _
wants_rules view (message.Emit turns bytes) = refl
wants_rules view (message.Exit turns status) = tt {0}
wants_rules view (message.Trap turns kind span) = tt {0}
wants_rules view (message.Park turns) = tt {0}
wants_rules view (message.Reply body) = tt {0}

wants_verdict : (m : Monitor) (x : Message) → Wants (wants_reply x) (verdict_on m x)
wants_verdict m x =
    wants_unless (wants_reply x) (early_rule m.last x) _ (wants_either (wants_reply x) (is_spent m x) (rule.ends Spent) (rules (low m) x) (tt {0}) (wants_rules (low m) x))

reply_if : (b : Bool) (reply : ReplyBody) → IsReply b (if b then Some reply else None)
reply_if true reply = tt {0}
reply_if false reply = tt {0}

abbrev unreplied : Monitor → List ℕ → Served Monitor ReplyBody End PeerRule
unreplied m bytes = goes_on m None bytes

no_reply : (m : Monitor) (bytes : List ℕ) (w : Bool) → w ≡ false → HasReply w (unreplied m bytes)
no_reply m bytes true e = true_false e
  where
    true_false : {A : Type 0} → true ≡ false → A
    true_false e = cc
no_reply m bytes false e = tt {0}

fair_served : (m : Monitor) (x : Message) (call : Admitted) (left : ℕ) (o : Outcome (Option Cell)) → HasReply call.wants (served_by m x call left o)
fair_served m x call left (gives v st) = reply_if call.wants _
fair_served m x call left (r.trapped trap span st) = tt {0}
fair_served m x call left (r.spent st) = tt {0}

fair_acted : (m : Monitor) (x : Message) (left : ℕ) (w : Bool) (v : Verdict) → Wants w v → HasReply w (acted m x left v)
fair_acted m x left w (breaks rule) h = tt {0}
fair_acted m x left w (rule.ends end) h = tt {0}
fair_acted m x left w (writes bytes) h = no_reply (record m { last = turns_of x }) bytes w h
fair_acted m x left w (makes call) h = subst (λ b. HasReply b (acted m x left (makes call))) h (fair_served m x call left (work_of m call left))

pub the_sides_are_fair : TheSidesAreFair
the_sides_are_fair = record {
  steps = λ x e. let y = machine_step x in fair_step (stepped x y) y.answer y.gate.wrote e;
  takes = λ x reply e. fair_take x x.doing reply e;
  serves = λ m x. fair_acted m x (left_for m x) (wants_reply x) (verdict_on m x) (wants_verdict m x);
}
