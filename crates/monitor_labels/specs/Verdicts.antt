-- Verdicts, as code has them.
use Rattle.std.specs.Prelude.{ℕ, List, [], ◌∷◌, Bool, if◌then◌else◌}
use Rattle.std.specs.List.{flat_map}
use Rattle.pt_base.specs.declared.ids.FnId.{FnId}
use Rattle.propagation.specs.Marks.{Shown}
use Rattle.pt_core.specs.CodeTree.{FunctionTree, MonitorTree}
use Rattle.pt_core.specs.Calls.{signature_in}
use Rattle.pt_core.specs.WellFormed.{monitor_program}
use Rattle.monitor_labels.specs.declared.verdicts.Verdict.{Verdict}
use Rattle.monitor_labels.specs.Secrecy.{is_audited, may_depend}

abbrev pub view_verdict : Verdict → ℕ × Bool
view_verdict v = (v.function.0, v.dependent)

-- on a function, where its result is given openly
abbrev pub verdict_if : MonitorTree → Shown → ℕ → List (ℕ × Bool)
verdict_if p marks f = if is_audited (signature_in (monitor_program p) f) then (f, may_depend p marks f) ∷ [] else []

abbrev pub verdicts_among : MonitorTree → Shown → List FunctionTree → List (ℕ × Bool)
verdicts_among p marks functions = flat_map (λ f. verdict_if p marks f.id) functions

-- the function, where its result can't depend on a secret
abbrev pub independent_if : Verdict → List FnId
independent_if v = if v.dependent then [] else v.function ∷ []
