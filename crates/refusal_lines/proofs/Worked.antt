-- The lines of faults of flows, tried by computing.
use Rattle.std.proofs.Common.{◌≡◌, ℕ, refl, Some, None, [], ◌∷◌, codes}
use Rattle.std.specs.Fmt.{digits}
use Rattle.pt_base.specs.declared.span.Span.{Span}
use Rattle.flow_rules.specs.declared.fault.FlowFault.{FlowFault}
use Rattle.flow_rules.specs.declared.rule.Rule.TheVariants.{PrivStatus, PrivToHost, UnmarkedOut}
use Rattle.refusal_lines.specs.FlowLines.{flow_lines}

abbrev span : ℕ → ℕ → Span
span from to = record { from = from; to = to }

abbrev steps : FlowFault
steps = record { rule = PrivStatus; span = span 114 115; origin = Some (record { 0 = 3 }); path = span 63 70 ∷ span 102 104 ∷ [] }

abbrev at_once : FlowFault
at_once = record { rule = PrivToHost; span = span 157 164; origin = Some (record { 0 = 2 }); path = [] }

abbrev marks_alone : FlowFault
marks_alone = record { rule = UnmarkedOut; span = span 34 35; origin = None; path = [] }

faults_lines : flow_lines (steps ∷ at_once ∷ marks_alone ∷ [])
    ≡ codes "flow 8 PrivStatus 114..115 path 63..70 102..104\nflow 2 PrivToHost 157..164 path\nflow 5 UnmarkedOut 34..35\n"
unfolding digits
faults_lines = refl
