-- What a policy says of a call.
use Rattle.std.specs.Prelude.{◌≡◌, ℕ, ◌+◌, Option, Some, None, if◌then◌else◌}
use Rattle.pt_base.specs.declared.end.End.{End}
use Rattle.pt_base.specs.declared.end.End.TheVariants as e
use Rattle.pt_tree.specs.declared.signature.Signature.{Signature}
use Rattle.wire.specs.declared.message.CallBody.{CallBody}
use Rattle.policy.specs.Answers.{allowed, function_of}
use Rattle.policy.specs.Verdicts.{Standing, verdict_on}
use Rattle.pair_meaning.specs.Monitors.{Low}
use Rattle.pair_meaning.specs.Rules.{Admitted, Verdict, ends, makes, permitted, plain_of}
use Rattle.serving_rules.specs.declared.permission.Permission.{Permission}
use Rattle.serving_rules.specs.declared.permission.Permission.TheVariants.{Granted, Refused}

-- where the policy stands behind a call that is made, and how many guarded calls were allowed by then; or the run's end
pub data Permitted : Type 0 where
  granted : Standing → ℕ → Permitted
  refused : End → Permitted

abbrev pub answered : Standing → ℕ → ℕ → Option Standing → Permitted
answered policy calls f None = refused (e.Refused (calls + 1) (function_of f) policy.state)
answered policy calls f (Some next) = granted next (calls + 1)

abbrev pub permission : Standing → ℕ → ℕ → Signature → CallBody → Permitted
permission policy calls f s body =
    if s.privileged
    then answered policy calls f (allowed policy (verdict_on policy (function_of f) (plain_of s body)))
    else granted policy calls

-- the policy stands there; where the call is denied it does where it did
abbrev pub Permits : Permission → Standing → Standing → Permitted → Type 0
Permits (Granted count) old new (granted next calls) = (count ≡ calls) × (new ≡ next)
Permits (Granted count) old new (refused end) = ⊥
Permits (Refused end) old new (granted next calls) = ⊥
Permits (Refused at) old new (refused end) = (at ≡ end) × (new ≡ old)

-- ---- the law

abbrev pub verdict_by : Admitted → Permitted → Verdict
verdict_by call (granted policy calls) = makes (record call { policy = policy; calls = calls })
verdict_by call (refused end) = ends end

-- a call that breaks no rule is made, or ends the run, as the policy says
abbrev pub PermissionsDecide : Type 0
PermissionsDecide = (low : Low) (call : Admitted) → call.policy ≡ low.policy → call.calls ≡ low.calls →
    permitted low call ≡ verdict_by call (permission low.policy low.calls call.function call.signature call.body)
