-- What the rules answer for a program.
use Rattle.std.proofs.Common.{◌≡◌, ◌∙◌, ◌<◌, ℕ, List, length, get_or, ap, sym, subst, Result, Ok, Err}
use Rattle.std.specs.List.{All}
use Rattle.std.proofs.lemmas.List.Elements.{Contains-get_or}
use Rattle.pt_base.specs.declared.slot.Edge.{Edge}
use Rattle.pt_base.specs.declared.slot.Slot.{Slot}
use Rattle.propagation.specs.Marks.{AreMarks, Shown}
use Rattle.sides.specs.declared.halves.Sides.{Sides}
use Rattle.sides.specs.Placed.{AreSides}
use Rattle.sides.specs.Slots.{slots_of}
use Rattle.typed_tree.specs.TypedTree.{TypedTree}
use Rattle.flow_rules.specs.declared.accepted.Accepted.{Accepted}
use Rattle.flow_rules.specs.declared.fault.FlowError.{FlowError}
use Rattle.flow_rules.specs.declared.fault.FlowError.TheVariants.{Faults, Memory}
use Rattle.flow_rules.specs.Faults.{AreFaults, Answers, edges_of_all, flows_of}
use Rattle.stages.specs.Seen.{IsJudged}

pub judged : (t : TypedTree) (s : Sides) (edges : List Edge) (marks : Shown) (r : Result Accepted FlowError) → AreSides t s → edges ≡ edges_of_all t s →
    AreMarks s.seeds edges (length (slots_of t)) marks → Answers t s edges marks r → IsJudged t r
judged t s edges marks (Ok a) are is marked answers = answers.0
judged t s edges marks (Err (Faults fs)) are is marked answers = record {
  sides = s;
  placed = are;
  marks = marks;
  marked = subst (λ (es : List Edge). AreMarks s.seeds es (length (slots_of t)) marks) is marked;
  all = subst (λ (es : List Edge). AreFaults (flows_of t s marks) s.seeds es fs) is answers.0;
  some = answers.1;
}
judged t s edges marks (Err Memory) are is marked answers = tt

-- ---- what is asked of seeds and edges, and what marks are, where the slots are counted

module _ (t : TypedTree) (s : Sides) (slots : ℕ) (are : AreSides t s) (size : slots ≡ length s.slots) where
  all_slots : slots ≡ length (slots_of t)
  all_slots = size ∙ ap length are.slots

  pub seeds_within : (xs : List Slot) → xs ≡ s.seeds → All (λ x. x.0 < slots) xs
  seeds_within xs is =
      subst (λ (ys : List Slot). All (λ x. x.0 < slots) ys) (sym is)
      (λ k d lt. subst (λ n. (get_or s.seeds k d).0 < n) (sym all_slots) ((are.seeds.same (get_or s.seeds k d)).0 (Contains-get_or s.seeds k d lt)).0)

  pub edges_within : (Joins : ℕ → Edge → Type 0) (xs es : List Edge) → xs ≡ es → All (Joins (length (slots_of t))) es → All (Joins slots) xs
  edges_within Joins xs es is all = subst (λ (ys : List Edge). All (Joins slots) ys) (sym is) (subst (λ n. All (Joins n) es) (sym all_slots) all)

  pub marks_are : (xs : List Slot) (ys es : List Edge) (marks : Shown) → xs ≡ s.seeds → ys ≡ es → AreMarks xs ys slots marks → AreMarks s.seeds es (length (slots_of t)) marks
  marks_are xs ys es marks seeds edges marked =
      subst (λ n. AreMarks s.seeds es n marks) all_slots
      (subst (λ (zs : List Edge). AreMarks s.seeds zs slots marks) edges (subst (λ (zs : List Slot). AreMarks zs ys slots marks) seeds marked))
