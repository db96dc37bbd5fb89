-- Each frame behind which a monitor goes on takes a turn of its budget.
use Rattle.std.proofs.Common.{◌≡◌, ◌<◌, ◌≤◌, ℕ, suc, ◌+◌, ◌-◌, List, [], ◌∷◌, Bool, true, false, Option, Some, None, refl, ap, subst, arith}
use Rattle.std.specs.Prelude.{if◌then◌else◌, nat_lt, nat_le}
use Rattle.std.proofs.lemmas.Bool.{ltb-false, leb-false}
use Rattle.pt_base.specs.declared.end.End.{End}
use Rattle.pt_base.specs.declared.end.End.TheVariants.{Spent}
use Rattle.pt_base.proofs.Options.{some_not_none}
use Rattle.pt_tree.specs.declared.signature.Signature.{Signature}
use Rattle.runs.specs.State as r
use Rattle.block_memory.specs.declared.cell.Cell.{Cell}
use Rattle.pt_core.specs.Statements.{Outcome}
use Rattle.wire.specs.declared.message.CallBody.{CallBody}
use Rattle.wire.specs.declared.message.Message.{Message}
use Rattle.wire.specs.declared.message.Message.TheVariants as message
use Rattle.wire.specs.declared.message.ReplyBody.{ReplyBody}
use Rattle.policy.specs.Verdicts.{Standing}
use Rattle.pair_protocol.specs.Sides.{Served, goes_on, ends, bad}
use Rattle.pair_meaning.specs.Monitors.{Monitor, Low, low}
use Rattle.pair_meaning.specs.Rules as rule
use Rattle.pair_meaning.specs.Rules.{PeerRule, Admitted, Verdict, breaks, writes, makes, asked_for, broken_if, call_rule, decided, early_rule, needs, permitted, rules, turns_of, unless_broken, bad_turns}
use Rattle.pair_meaning.specs.Serving.{acted, is_spent, left_for, serve, served_by, work_of}
use Rattle.pair_runner.specs.Bounds.{and_behind, handled}

-- ---- what a call is made of

abbrev pub IsMadeOf : CallBody → Verdict → Type 0
IsMadeOf body (breaks broken) = Unit {0}
IsMadeOf body (rule.ends end) = Unit {0}
IsMadeOf body (writes bytes) = ⊥
IsMadeOf body (makes call) = call.body ≡ body

made_unless : (body : CallBody) (broken : Option PeerRule) (v : Verdict) → IsMadeOf body v → IsMadeOf body (unless_broken broken v)
made_unless body None v h = h
made_unless body (Some broken) v h = tt {0}

made_either : (body : CallBody) (b : Bool) (u v : Verdict) → IsMadeOf body u → IsMadeOf body v → IsMadeOf body (if b then u else v)
made_either body true u v h k = h
made_either body false u v h k = k

made_decided : (view : Low) (call : Admitted) (next : Option Standing) → IsMadeOf call.body (decided view call next)
made_decided view call None = tt {0}
made_decided view call (Some next) = refl

made_permitted : (view : Low) (call : Admitted) → IsMadeOf call.body (permitted view call)
made_permitted view call = made_either call.body call.signature.privileged _ (makes call) (made_decided view call _) refl

pub made_asked : (view : Low) (f depth : ℕ) (wants : Bool) (body : CallBody) (s : Option Signature) → IsMadeOf body (asked_for view f depth wants body s)
made_asked view f depth wants body None = tt {0}
made_asked view f depth wants body (Some s) = made_unless body (call_rule view s depth wants body) _
    (made_permitted view (record { function = f; signature = s; depth = depth; wants = wants; body = body; policy = view.policy; calls = view.calls }))

-- ---- a message behind which a monitor goes on

-- it broke no early rule, and there were turns for it
pub record Passes (m : Monitor) (x : Message) (served : Served Monitor ReplyBody End PeerRule) : Type 0 where
  pub early : early_rule m.last x ≡ None
  pub within : is_spent m x ≡ false
  pub acts : acted m x (left_for m x) (rules (low m) x) ≡ served

abbrev Same : Served Monitor ReplyBody End PeerRule → Served Monitor ReplyBody End PeerRule → Type 0
Same x y = x ≡ y

bad_goes : {A : Type 0} (broken : PeerRule) (next : Monitor) (reply : Option ReplyBody) (bytes : List ℕ) → Same (bad broken) (goes_on next reply bytes) → A
bad_goes broken next reply bytes e = cc

ends_goes : {A : Type 0} (out : List ℕ) (end : End) (next : Monitor) (reply : Option ReplyBody) (bytes : List ℕ) → Same (ends out end) (goes_on next reply bytes) → A
ends_goes out end next reply bytes e = cc

pub passes : (m : Monitor) (x : Message) (next : Monitor) (reply : Option ReplyBody) (bytes : List ℕ) → serve m x ≡ goes_on next reply bytes → Passes m x (goes_on next reply bytes)
passes m x next reply bytes e = go (early_rule m.last x) refl (is_spent m x) refl e
  where
    go : (broken : Option PeerRule) → early_rule m.last x ≡ broken → (late : Bool) → is_spent m x ≡ late →
        acted m x (left_for m x) (unless_broken broken (if late then rule.ends Spent else rules (low m) x)) ≡ goes_on next reply bytes → Passes m x (goes_on next reply bytes)
    go (Some broken) b late l h = bad_goes broken next reply bytes h
    go None b true l h = ends_goes [] Spent next reply bytes h
    go None b false l h = record { early = b; within = l; acts = h }

unbroken : (b : Bool) (broken : PeerRule) → broken_if b broken ≡ None → b ≡ false
unbroken true broken e = some_not_none broken e
unbroken false broken e = refl

-- ---- progress

-- the slave's turns and the monitor's, by the last message
abbrev pub taken : Monitor → ℕ
taken m = m.last + m.turns

pub record Progress (m next : Monitor) : Type 0 where
  pub before : taken m < m.budget
  pub more : suc (taken m) ≤ taken next
  pub same : next.budget ≡ m.budget

abbrev monitor_in : Monitor → Served Monitor ReplyBody End PeerRule → Monitor
monitor_in m (goes_on next reply bytes) = next
monitor_in m (ends bytes end) = m
monitor_in m (bad broken) = m

progress_by : (m next other : Monitor) → next ≡ other → Progress m next → Progress m other
progress_by m next other e p = subst (Progress m) e p

-- a call takes a turn
call_takes : (m : Monitor) (x : Message) (call : Admitted) (left : ℕ) (outcome : Outcome (Option Cell)) (next : Monitor) (reply : Option ReplyBody) (bytes : List ℕ) →
    taken m < m.budget → m.last ≤ turns_of x → served_by m x call left outcome ≡ goes_on next reply bytes → Progress m next
call_takes m x call left (r.gives v st) next reply bytes before later e =
    progress_by m (monitor_in m (served_by m x call left (r.gives v st))) next (ap (monitor_in m) e)
    (record { before = before; more = omega (arith, later); same = refl })
call_takes m x call left (r.trapped trap span st) next reply bytes before later e = ends_goes _ _ next reply bytes e
call_takes m x call left (r.spent st) next reply bytes before later e = ends_goes _ _ next reply bytes e

call_progress : (m : Monitor) (x : Message) (body : CallBody) (v : Verdict) (next : Monitor) (reply : Option ReplyBody) (bytes : List ℕ) → IsMadeOf body v →
    taken m < m.budget → m.last ≤ turns_of x → acted m x (left_for m x) v ≡ goes_on next reply bytes → Progress m next
call_progress m x body (breaks broken) next reply bytes made before later e = bad_goes broken next reply bytes e
call_progress m x body (rule.ends end) next reply bytes made before later e = ends_goes [] end next reply bytes e
call_progress m x body (writes out) next reply bytes made before later e = absurd made
call_progress m x body (makes call) next reply bytes made before later e = call_takes m x call (left_for m x) (work_of m call (left_for m x)) next reply bytes before later e

pub progress : (m : Monitor) (x : Message) (next : Monitor) (reply : Option ReplyBody) (bytes : List ℕ) → Passes m x (goes_on next reply bytes) → Progress m next
progress m (message.Boot piece) next reply bytes p = some_not_none _ p.early
progress m (message.Call turns f depth wants body) next reply bytes p =
    let early = ltb-false turns m.last (unbroken (nat_lt turns m.last) bad_turns p.early) in
    let within = ltb-false m.budget (turns + 1 + m.turns) p.within in
    call_progress m (message.Call turns f depth wants body) body (rules (low m) (message.Call turns f depth wants body)) next reply bytes (made_asked (low m) f depth wants body _) (omega (arith, early, within)) early p.acts
progress m (message.Emit turns out) next reply bytes p =
    let early = leb-false turns m.last (unbroken (nat_le turns m.last) bad_turns p.early) in
    let within = ltb-false m.budget (turns + m.turns) p.within in
    progress_by m (record m { last = turns }) next (ap (monitor_in m) p.acts) (record { before = omega (arith, early, within); more = omega (arith, early); same = refl })
progress m (message.Exit turns status) next reply bytes p = ends_goes _ _ next reply bytes p.acts
progress m (message.Trap turns kind span) next reply bytes p = ends_goes _ _ next reply bytes p.acts
progress m (message.Park turns) next reply bytes p = bad_goes _ next reply bytes p.acts
progress m (message.Reply body) next reply bytes p = some_not_none _ p.early

-- ---- frames

few_left : (m : Monitor) (frames : List (Message × ℕ)) → handled m frames ≤ suc (m.budget - taken m)
few_left m [] = omega arith
few_left m (x ∷ frames) = go (λ n. few_left n frames) (serve m x.0) refl
  where
    onward : (next : Monitor) (reply : Option ReplyBody) (bytes : List ℕ) → serve m x.0 ≡ goes_on next reply bytes → handled next frames ≤ suc (next.budget - taken next) → suc (handled next frames) ≤ suc (m.budget - taken m)
    onward next reply bytes e few =
        let p = progress m x.0 next reply bytes (passes m x.0 next reply bytes e) in
        let before = p.before in
        let more = p.more in
        let few' : handled next frames ≤ suc (m.budget - taken next) = subst (λ b. handled next frames ≤ suc (b - taken next)) p.same few in
        omega (arith, before, more, few')

    go : ((n : Monitor) → handled n frames ≤ suc (n.budget - taken n)) → (served : Served Monitor ReplyBody End PeerRule) → serve m x.0 ≡ served → and_behind served (λ m. handled m frames) ≤ suc (m.budget - taken m)
    go few (goes_on next reply bytes) e = onward next reply bytes e (few next)
    go few (ends bytes end) e = omega arith
    go few (bad broken) e = omega arith

pub few_are_handled : (m : Monitor) (frames : List (Message × ℕ)) → handled m frames ≤ m.budget + 1
few_are_handled m frames = let few = few_left m frames in omega (arith, few)
