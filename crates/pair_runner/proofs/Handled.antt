-- What was handled is answered.
use Rattle.std.proofs.Common.{◌≡◌, ℕ, List, [], Option, Some, None, IfSome, Ok, Err, refl, sym, ap, subst, ◌∙◌}
use Rattle.pt_base.specs.declared.end.End.{End}
use Rattle.pt_base.specs.Talk.{Event}
use Rattle.wire.specs.declared.message.Message.{Message}
use Rattle.wire.specs.declared.message.Message.TheVariants.{Reply}
use Rattle.wire.specs.declared.message.ReplyBody.{ReplyBody}
use Rattle.wire.specs.Limits.{KeepsCounts, KeepsLimits}
use Rattle.pair_protocol.specs.Sides.{Served, goes_on, ends, bad}
use Rattle.pair_protocol.specs.SlaveRun.{listed}
use Rattle.pair_meaning.specs.Monitors.{Monitor}
use Rattle.pair_meaning.specs.Rules as rules
use Rattle.pair_meaning.specs.Rules.{number_of_rule}
use Rattle.pair_meaning.specs.Serving.{serve}
use Rattle.serving_rules.specs.declared.peer_rule.PeerRule.{PeerRule}
use Rattle.serving_rules.specs.RuleNames.{rule_of}
use Rattle.monitor_interp.specs.declared.handled.Handled.TheVariants.{GoesOn, Ended, Bad}
use Rattle.monitor_interp.specs.Handling.{Handles}
use Rattle.pair_runner.specs.declared.fault.RunFault.{RunFault}
use Rattle.pair_runner.specs.declared.fault.RunFault.TheVariants.{BadPeer, Memory}
use Rattle.pair_runner.specs.Laws.{RepliesAreSpelled}
use Rattle.pair_runner.specs.Sending.{IsSpelled, sent_of, reply_frames}
use Rattle.pair_runner.specs.Turns.{Stuck, Answered}

-- a reply that is sent has a spelling
pub reply_keeps : RepliesAreSpelled → (Is : Monitor → Type 0) (m : Monitor) (x : Message) (reply : Option ReplyBody) (old new : List ℕ) → KeepsCounts x → Handles Is m (serve m x) (GoesOn reply) old new → IfSome reply (λ r. KeepsLimits (Reply r))
reply_keeps spelled Is m x reply old new counts h = go (serve m x) refl h
  where
    keeps : (next : Monitor) (made : Option ReplyBody) (bytes : List ℕ) → serve m x ≡ goes_on next made bytes → IfSome made (λ r. KeepsLimits (Reply r))
    keeps next None bytes e = tt {0}
    keeps next (Some made) bytes e = spelled m next x made bytes counts e

    go : (served : Served Monitor ReplyBody End rules.PeerRule) → serve m x ≡ served → Handles Is m served (GoesOn reply) old new → IfSome reply (λ r. KeepsLimits (Reply r))
    go (goes_on next made bytes) e (same, is, all) = subst (λ (o : Option ReplyBody). IfSome o (λ r. KeepsLimits (Reply r))) (sym same) (keeps next made bytes e)
    go (ends bytes end) e (no', all) = absurd no'
    go (bad rule) e (no', is, all) = absurd no'

pub answered_goes : (moves : List Event → List ℕ → Type 0) (breaks : List ℕ → List ℕ → List ℕ → Type 0) (Is : Monitor → Type 0) (m : Monitor) (place : ℕ) (served : Served Monitor ReplyBody End rules.PeerRule) (reply : Option ReplyBody) (new : List ℕ) →
    Handles Is m served (GoesOn reply) [] new → IfSome reply IsSpelled → moves (sent_of reply) new → Answered moves breaks Is place served (Ok None)
answered_goes moves breaks Is m place (goes_on next made bytes) reply new (same, is, all) spelled moved =
    (is, subst (λ (o : Option ReplyBody). IfSome o IsSpelled) same spelled, subst (λ (o : Option ReplyBody). moves (sent_of o) bytes) same (subst (moves (sent_of reply)) all moved))
answered_goes moves breaks Is m place (ends bytes end) reply new (no', all) spelled moved = absurd no'
answered_goes moves breaks Is m place (bad rule) reply new (no', is, all) spelled moved = absurd no'

pub answered_stuck : (moves : List Event → List ℕ → Type 0) (breaks : List ℕ → List ℕ → List ℕ → Type 0) (Is : Monitor → Type 0) (m : Monitor) (place : ℕ) (served : Served Monitor ReplyBody End rules.PeerRule) (reply : Option ReplyBody) (new : List ℕ) (e : RunFault) →
    Handles Is m served (GoesOn reply) [] new → Stuck e (breaks [] (reply_frames (listed reply)) new) → Answered moves breaks Is place served (Err e)
answered_stuck moves breaks Is m place (goes_on next made bytes) reply new e (same, is, all) stuck =
    subst (λ (o : Option ReplyBody). Stuck e (breaks [] (reply_frames (listed o)) bytes)) same (subst (λ (l : List ℕ). Stuck e (breaks [] (reply_frames (listed reply)) l)) all stuck)
answered_stuck moves breaks Is m place (ends bytes end) reply new e (no', all) stuck = absurd no'
answered_stuck moves breaks Is m place (bad rule) reply new e (no', is, all) stuck = absurd no'

pub answered_end : (moves : List Event → List ℕ → Type 0) (breaks : List ℕ → List ℕ → List ℕ → Type 0) (Is : Monitor → Type 0) (m : Monitor) (place : ℕ) (served : Served Monitor ReplyBody End rules.PeerRule) (end : End) (new : List ℕ) →
    Handles Is m served (Ended end) [] new → moves [] new → Answered moves breaks Is place served (Ok (Some end))
answered_end moves breaks Is m place (goes_on next made bytes) end new (no', is, all) moved = absurd no'
answered_end moves breaks Is m place (ends bytes last) end new (same, all) moved = (same, subst (moves []) all moved)
answered_end moves breaks Is m place (bad rule) end new (no', is, all) moved = absurd no'

pub answered_end_stuck : (moves : List Event → List ℕ → Type 0) (breaks : List ℕ → List ℕ → List ℕ → Type 0) (Is : Monitor → Type 0) (m : Monitor) (place : ℕ) (served : Served Monitor ReplyBody End rules.PeerRule) (end : End) (new : List ℕ) (e : RunFault) →
    Handles Is m served (Ended end) [] new → Stuck e (breaks [] [] new) → Answered moves breaks Is place served (Err e)
answered_end_stuck moves breaks Is m place (goes_on next made bytes) end new e (no', is, all) stuck = absurd no'
answered_end_stuck moves breaks Is m place (ends bytes last) end new e (same, all) stuck = subst (λ (l : List ℕ). Stuck e (breaks [] [] l)) all stuck
answered_end_stuck moves breaks Is m place (bad rule) end new e (no', is, all) stuck = absurd no'

pub answered_bad : (moves : List Event → List ℕ → Type 0) (breaks : List ℕ → List ℕ → List ℕ → Type 0) (Is : Monitor → Type 0) (m : Monitor) (place : ℕ) (served : Served Monitor ReplyBody End rules.PeerRule) (rule : PeerRule) (number : ℕ) (new : List ℕ) →
    Handles Is m served (Bad rule) [] new → number ≡ number_of_rule (rule_of rule) → moves [] [] → Answered moves breaks Is place served (Err (BadPeer number place))
answered_bad moves breaks Is m place (goes_on next made bytes) rule number new (no', is, all) named moved = absurd no'
answered_bad moves breaks Is m place (ends bytes end) rule number new (no', all) named moved = absurd no'
answered_bad moves breaks Is m place (bad broken) rule number new (same, is, all) named moved = (named ∙ ap number_of_rule same, refl, moved)

-- nothing was written or sent
pub answered_memory : (moves : List Event → List ℕ → Type 0) (breaks : List ℕ → List ℕ → List ℕ → Type 0) (Is : Monitor → Type 0) (place : ℕ) (served : Served Monitor ReplyBody End rules.PeerRule) →
    ((sent out : List ℕ) → breaks [] sent out) → Answered moves breaks Is place served (Err Memory)
answered_memory moves breaks Is place (goes_on next made bytes) broke = broke (reply_frames (listed made)) bytes
answered_memory moves breaks Is place (ends bytes end) broke = broke [] bytes
answered_memory moves breaks Is place (bad rule) broke = broke [] []
