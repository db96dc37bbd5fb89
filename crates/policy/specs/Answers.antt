-- A policy where it stands, as it answers guarded calls from there on.
use Rattle.std.specs.Prelude.{Option, Some, None}
use Rattle.runs.specs.Run.{Answers}
use Rattle.policy.specs.Verdicts.{Standing, verdict_on, after}
use Rattle.policy.specs.declared.verdict.Verdict.{Verdict}
use Rattle.policy.specs.declared.verdict.Verdict.TheVariants.{Allow, Deny}
pub use Rattle.pt_base.specs.Ids.{function_id as function_of}

-- the standing after an allowed call, none after a denied one
abbrev pub allowed : Standing → Verdict → Option Standing
allowed s (Allow k) = Some (after s (Allow k))
allowed s Deny = None

-- the answers, and the names of states
abbrev pub answers_of : Standing → Answers Standing
answers_of first = record { first = first; next = λ s f plain. allowed s (verdict_on s (function_of f) plain); name = λ s. s.state }
