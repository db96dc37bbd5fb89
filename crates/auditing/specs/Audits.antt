-- What auditing a text comes to: which results that the monitor gives openly may depend on a secret.
use Rattle.std.specs.Prelude.{◌≡◌, ◌↔◌, ℕ, List, [], ◌++◌, Bool, if◌then◌else◌, All, IsTrue, codes, map}
use Rattle.std.specs.List.{flat_map}
use Rattle.std.specs.Option.{option_map_or}
use Rattle.front_end.specs.Reading.{HasTypedTree}
use Rattle.typed_tree.specs.Lookup.{signature_of}
use Rattle.typed_tree.specs.TypedTree.{TypedTree}
use Rattle.flow_rules.specs.declared.accepted.Accepted.{Accepted}
use Rattle.flow_rules.specs.Faults.{IsAccepted}
use Rattle.pt_core.specs.CodeTree.{MonitorTree}
use Rattle.monitor_labels.specs.Nodes.{of_result}
use Rattle.monitor_labels.specs.Secrecy.{IsSecret, audited}
use Rattle.program_halves.specs.ProgramHalves.{monitor_half}
use Rattle.stages.specs.Climb.{Texts}

-- ---- lines

-- whether a result may depend on a secret
abbrev pub verdict_words : Bool → List ℕ
verdict_words dependent = if dependent then codes "dependent " else codes "independent "

-- of a function, by its number
abbrev pub name_of : TypedTree → ℕ → List ℕ
name_of t n = option_map_or (λ s. s.name) (signature_of t (record { 0 = n })) []

-- of a function, and whether its result may: `independent NAME` or `dependent NAME`
abbrev pub verdict_line : TypedTree → ℕ × Bool → List ℕ
verdict_line t v = verdict_words v.1 ++ name_of t v.0 ++ codes "\n"

-- ---- audits

-- it is said of the function's result just where a secret gets there
abbrev pub IsExact : MonitorTree → ℕ × Bool → Type 0
IsExact monitor v = IsTrue v.1 ↔ IsSecret monitor (of_result v.0)

-- a line for each function of the monitor whose result is given openly, in their order, and each says what is so
pub record IsAuditOf (t : TypedTree) (monitor : MonitorTree) (out : List ℕ) : Type 0 where
  pub verdicts : List (ℕ × Bool)
  pub functions : map (λ v. v.0) verdicts ≡ audited monitor
  pub exact : All (IsExact monitor) verdicts
  pub out_is : out ≡ flat_map (verdict_line t) verdicts

-- no stage has a fault, and it is the audit of the program's monitor
pub record IsAudit (t : Texts) (out : List ℕ) : Type 0 where
  pub tree : TypedTree
  pub typed : HasTypedTree t.program tree
  pub accepted : Accepted
  pub is : IsAccepted tree accepted
  pub audit : IsAuditOf tree (monitor_half tree accepted) out
