-- What a policy says of the guarded calls that a stream of messages asks for.
use Rattle.std.specs.Prelude.{◌≡◌, ◌≤◌, ◌+◌, ℕ, Bool, List, ◌∷◌, ◌++◌, Some, IsTrue, length, nat_eq, slice_get}
use Rattle.std.specs.List.{AllByRecursion, count_by}
use Rattle.std.specs.Map.{lookup}
use Rattle.pt_base.specs.declared.end.End.{End}
use Rattle.pt_base.specs.declared.end.End.TheVariants.{Refused}
use Rattle.pt_base.specs.declared.ids.FnId.{FnId}
use Rattle.pt_tree.specs.declared.signature.Signature.{Signature}
use Rattle.runs.specs.State.{Hosts}
use Rattle.pt_core.specs.CodeTree.{MonitorTree}
use Rattle.wire.specs.declared.message.CallBody.{CallBody}
use Rattle.wire.specs.declared.message.Message.{Message}
use Rattle.wire.specs.declared.message.Message.TheVariants as message
use Rattle.policy.specs.Laws.{is_by, standing_after}
use Rattle.policy.specs.Verdicts.{Call, Standing, start, verdict_on, verdicts}
use Rattle.policy.specs.declared.rule.Rule.{Rule}
use Rattle.policy.specs.declared.verdict.Verdict.{Verdict}
use Rattle.policy.specs.declared.verdict.Verdict.TheVariants.{Allow, Deny}
use Rattle.pair_protocol.specs.Serving.{Stop, still, ended, broken}
use Rattle.pair_meaning.specs.Monitors.{Monitor, entries_in}
use Rattle.pair_meaning.specs.Pair.{serve_all}
use Rattle.pair_meaning.specs.Rules.{PeerRule, plain_of}
use Rattle.pair_meaning.specs.Start.{monitor_start}
use Rattle.pair_meaning.specs.Streams.{guarded_calls}

-- ---- those that are made

abbrev pub IsAllow : Verdict → Type 0
IsAllow (Allow k) = Unit {0}
IsAllow Deny = ⊥

-- a monitor that goes on has its policy where it stands here, and has counted so many guarded calls
abbrev pub StandsAt : Stop Monitor End PeerRule → Standing → ℕ → Type 0
StandsAt (still m) standing calls = (m.policy ≡ standing) × (m.calls ≡ calls)
StandsAt (ended end) standing calls = Unit {0}
StandsAt (broken rule) standing calls = Unit {0}

-- One after the other, from where the monitor's policy stands, all these calls are allowed; and they are all that the policy and
-- the count of guarded calls have gone through.
pub record AreAllowed (m : Monitor) (calls : List Call) (stop : Stop Monitor End PeerRule) : Type 0 where
  pub allowed : AllByRecursion IsAllow (verdicts m.policy calls)
  pub stands : StandsAt stop (standing_after m.policy calls) (m.calls + length calls)

-- Whatever the messages, each guarded call that is made was allowed by the policy, where it stood behind those before.
abbrev pub GuardedCallsAreAllowed : Type 0
GuardedCallsAreAllowed = (m : Monitor) (xs : List Message) → AreAllowed m (guarded_calls m xs) (serve_all m xs).stop

-- In a whole run a rule allows at most so many of them as it says.
abbrev pub LimitsHoldInRuns : Type 0
LimitsHoldInRuns = (half : MonitorTree) (hosts : Hosts) (input : List ℕ) (rules : List Rule) (budget : ℕ) (xs : List Message) (k most : ℕ) (rule : Rule) →
    slice_get rules k ≡ Some rule → rule.most ≡ Some most →
    count_by (is_by k) (verdicts (start rules) (guarded_calls (monitor_start half hosts input (start rules) budget) xs)) ≤ most

-- ---- the one that is denied

-- the message asks for a function or host of these, which is guarded, and the policy sees this of it
pub record AsksFor (entries : List (ℕ × Signature)) (x : Message) (call : Call) : Type 0 where
  pub turns : ℕ
  pub depth : ℕ
  pub wants : Bool
  pub body : CallBody
  pub signature : Signature
  pub said : x ≡ message.Call turns call.function.0 depth wants body
  pub entry : lookup (nat_eq call.function.0) entries ≡ Some signature
  pub guarded : IsTrue signature.privileged
  pub plain : call.plain ≡ plain_of signature body

-- The messages before it were all served, and these are the guarded calls that were made. It asks for one more, and the policy
-- denies that, where it stands behind those. Its number is the next, and the state is the policy's.
pub record IsDenied (m : Monitor) (xs : List Message) (made : List Call) (number : ℕ) (function : FnId) (state : List ℕ) : Type 0 where
  pub before : List Message
  pub asking : Message
  pub rest : List Message
  pub are : xs ≡ before ++ asking ∷ rest
  pub left : Monitor
  pub served : (serve_all m before).stop ≡ still left
  pub call : Call
  pub asks : AsksFor (entries_in m.program) asking call
  pub function_is : call.function ≡ function
  pub denied : verdict_on (standing_after m.policy made) call.function call.plain ≡ Deny
  pub number_is : number ≡ m.calls + length made + 1
  pub state_is : state ≡ (standing_after m.policy made).state

-- Where a run ends by a refusal, it does so at a guarded call that the policy denies.
abbrev pub RefusedCallsAreDenied : Type 0
RefusedCallsAreDenied = (m : Monitor) (xs : List Message) (number : ℕ) (function : FnId) (state : List ℕ) →
    (serve_all m xs).stop ≡ ended (Refused number function state) → IsDenied m xs (guarded_calls m xs) number function state
