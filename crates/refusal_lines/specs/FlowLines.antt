-- The lines that report the faults of flows.
use Rattle.std.specs.Prelude.{ℕ, List, [], ◌∷◌, ◌++◌, Bool, true, false, codes, if◌then◌else◌}
use Rattle.pt_base.specs.declared.span.Span.{Span}
use Rattle.front_end.specs.FaultLines.{numbered, place_text}
use Rattle.flow_rules.specs.declared.fault.FlowFault.{FlowFault}
use Rattle.flow_rules.specs.declared.rule.Rule.{Rule}
use Rattle.flow_rules.specs.declared.rule.Rule.TheVariants.{OperationOnPriv, PrivToHost, PrivIntoUnpriv, SharedGlobal, UnmarkedOut, HostInMonitor, PrivToPlainParam, PrivStatus, PrivMain}
use Rattle.flow_rules.specs.Numbers.{rule_name, rule_number}

-- the rule speaks of a secret, so its faults show by which way one comes there
abbrev pub shows_way : Rule → Bool
shows_way OperationOnPriv = true
shows_way PrivToHost = true
shows_way PrivIntoUnpriv = true
shows_way SharedGlobal = false
shows_way UnmarkedOut = false
shows_way HostInMonitor = false
shows_way PrivToPlainParam = true
shows_way PrivStatus = true
shows_way PrivMain = false

-- stretches of the text, each behind a space
abbrev pub places_text : List Span → List ℕ
places_text [] = []
places_text (s ∷ ss) = codes " " ++ place_text s ++ places_text ss

abbrev pub way_text : Rule → List Span → List ℕ
way_text rule path = if shows_way rule then codes " path" ++ places_text path else []

abbrev pub flow_line : FlowFault → List ℕ
flow_line f = codes "flow " ++ numbered (rule_number f.rule) (rule_name f.rule) ++ codes " " ++ place_text f.span ++ way_text f.rule f.path ++ codes "\n"

-- faults of flows, a line each
abbrev pub flow_lines : List FlowFault → List ℕ
flow_lines [] = []
flow_lines (f ∷ fs) = flow_line f ++ flow_lines fs
