-- A well formed program of few slots is accepted, or its flows have faults.
use Rattle.std.proofs.Common.{◌≡◌, ◌⊎◌, [], length, inl, inr}
use Rattle.typed_tree.specs.TypedTree.{TypedTree}
use Rattle.propagation.specs.Marks.{AreMarks, Shown}
use Rattle.sides.specs.declared.halves.Sides.{Sides}
use Rattle.sides.specs.Placed.{AreSides}
use Rattle.sides.specs.Slots.{slots_of}
use Rattle.flow_rules.specs.Faults.{edges_of_all, flows_of}
use Rattle.flow_rules.specs.Findings.{findings_of}
use Rattle.flow_law.proofs.MarkLemmas.{marks_exist}
use Rattle.flow_law.proofs.SlotsAllSides.{sides_exist}
use Rattle.flow_law.specs.FaultsLaws.{HasSomeFaults}
use Rattle.flow_law.proofs.FaultsTold.{findings_told}
use Rattle.texts_have_outcomes_law.specs.Laws.{IsJudged, ProgramsAreJudged}

by_findings : (t : TypedTree) (s : Sides) → AreSides t s → (marks : Shown) → AreMarks s.seeds (edges_of_all t s) (length (slots_of t)) marks →
    (findings_of (flows_of t s marks) ≡ []) ⊎ HasSomeFaults t s marks → IsJudged t
by_findings t s placed marks marked (inl none) = inl (record { sides = s; marks = marks }, record { sides = placed; marks = marked; faultless = none })
by_findings t s placed marks marked (inr found) = inr (found.0, record { sides = s; placed = placed; marks = marks; marked = marked; all = found.1; some = found.2 })

pub judged : ProgramsAreJudged
judged t sound few =
    let sides = sides_exist t sound few in
    let marks = marks_exist sides.0.seeds (edges_of_all t sides.0) (length (slots_of t)) in
    by_findings t sides.0 sides.1 marks.0 marks.1 (findings_told t sides.0 marks.0 marks.1)
