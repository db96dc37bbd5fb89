-- The call of an honest slave breaks no rule, and the monitor's verdict on it is what the whole's gate notes.
use Rattle.std.specs.Prelude.{◌≡◌, ◌≤◌, ◌+◌, ◌⊎◌, ℕ, Bool, true, ◌||◌, Some, None, nat_eq}
use Rattle.std.specs.Map.{lookup}
use Rattle.pt_base.specs.declared.end.End.{End}
use Rattle.policy.specs.Verdicts.{Standing}
use Rattle.wire.specs.declared.message.Message.{Message}
use Rattle.wire.specs.declared.message.Message.TheVariants as message
use Rattle.marshalling.specs.Replies.{has_plain, result_places}
use Rattle.marshalling.specs.Taking.{call_places}
use Rattle.pair_meaning.specs.Monitors.{entries_in}
use Rattle.pair_meaning.specs.Rules.{Verdict, has_depth, makes, permitted}
use Rattle.pair_meaning.specs.Rules as rule
use Rattle.pair_meaning.specs.Serving.{verdict_on}
use Rattle.pair_laws.specs.ServedBodiesScene.{IsScene, Scene, admitted, noted, sent_body, signature}

-- ---- the call

-- its reply holds a number, so the slave waits for it
abbrev pub holds_number : Scene → Bool
holds_number s = has_plain (result_places (signature s) (signature s).result) || has_plain (call_places s.machine.blocks s.slave.structs (signature s).params s.args)

-- the message that says it
abbrev pub call_said : Scene → ℕ → Message
call_said s depth = message.Call s.machine.turns s.function depth (holds_number s) (sent_body s)

-- What is asked for may be asked for, at this depth; the slave's turns didn't go back; and the whole's gate has judged as the
-- monitor has, with nothing refused.
pub record IsHonest (s : Scene) (depth : ℕ) : Type 0 where
  pub last : s.monitor.last ≤ s.machine.turns
  pub budget : s.monitor.budget ≡ s.budget
  pub entry : lookup (nat_eq s.function) (entries_in s.monitor.program) ≡ Some (signature s)
  pub depth_is : has_depth (signature s) depth ≡ true
  pub state : s.gate.judgement.state ≡ s.monitor.policy
  pub calls : s.gate.judgement.calls ≡ s.monitor.calls
  pub unrefused : s.gate.judgement.refused ≡ None

-- ---- the verdict

-- the call is made; the whole's gate notes it, and goes on with the same policy and the same count of guarded calls
pub record IsAllowed (s : Scene) (depth : ℕ) : Type 0 where
  pub policy : Standing
  pub calls : ℕ
  pub verdict : verdict_on s.monitor (call_said s depth) ≡ makes (admitted s depth (holds_number s) policy calls)
  pub judgement : (noted s).judgement ≡ record { bytes = s.gate.judgement.bytes; state = policy; calls = calls; refused = None }

-- the run ends with the refusal that the whole's gate notes, and nothing more is written
pub record IsDenied (s : Scene) (depth : ℕ) : Type 0 where
  pub refusal : End
  pub verdict : verdict_on s.monitor (call_said s depth) ≡ rule.ends refusal
  pub refused : (noted s).judgement.refused ≡ Some refusal
  pub bytes : (noted s).judgement.bytes ≡ s.gate.judgement.bytes

-- ---- law

-- Where the turns of both leave one for it, the call breaks no rule, and the policy judges it in the monitor as in the whole.
abbrev pub HonestCallsAreJudged : Type 0
HonestCallsAreJudged = (s : Scene) (depth : ℕ) → IsScene s → IsHonest s depth → (s.machine.turns + 1) + s.monitor.turns ≤ s.budget → IsAllowed s depth ⊎ IsDenied s depth
