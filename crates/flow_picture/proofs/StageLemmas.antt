-- What the rules answer is what is drawn.
use Rattle.std.proofs.Common.{◌≡◌, ◌<◌, List, [], ◌∷◌, Some, None, Result, Ok, Err, arith, length, sym, subst}
use Rattle.pt_base.specs.declared.slot.Edge.{Edge}
use Rattle.propagation.specs.Marks.{AreMarks, Shown}
use Rattle.sides.specs.declared.halves.Sides.{Sides}
use Rattle.sides.specs.Placed.{AreSides}
use Rattle.sides.specs.Slots.{slots_of}
use Rattle.typed_tree.specs.TypedTree.{TypedTree}
use Rattle.flow_rules.specs.declared.accepted.Accepted.{Accepted}
use Rattle.flow_rules.specs.declared.fault.FlowError.{FlowError}
use Rattle.flow_rules.specs.declared.fault.FlowError.TheVariants as flow_error
use Rattle.flow_rules.specs.declared.fault.FlowFault.{FlowFault}
use Rattle.flow_rules.specs.Faults.{AreFaults, Answers, edges_of_all, flows_of}
use Rattle.stages.specs.FlowFaults.{HasFlowFaults}
use Rattle.flow_picture.specs.declared.objects.Objects.{Objects}
use Rattle.flow_picture.specs.Kept.{AreObjects, answered}
use Rattle.flow_picture.specs.Pictures.{AreJudged}

-- ---- what the rules answer

some_is : (a b : List FlowFault) → Some a ≡ Some b → a ≡ b
some_is a b e = cc

no_answer : (fs : List FlowFault) → None ≡ Some fs → ⊥
no_answer fs e = cc

-- faults of which there is one
some_judged : (t : TypedTree) (fs : List FlowFault) → HasFlowFaults t fs → AreJudged t fs
some_judged t [] has = absurd (let some : 0 < length {A = FlowFault} [] = has.some in omega arith)
some_judged t (f ∷ fs) has = has

module _ (t : TypedTree) (s : Sides) (edges : List Edge) (marks : Shown) (are : AreSides t s) (is : edges ≡ edges_of_all t s) (marked : AreMarks s.seeds edges (length (slots_of t)) marks) where
  faulty_of : (fs : List FlowFault) → AreFaults (flows_of t s marks) s.seeds edges fs → 0 < length fs → HasFlowFaults t fs
  faulty_of fs all some = record {
    sides = s;
    placed = are;
    marks = marks;
    marked = subst (λ (es : List Edge). AreMarks s.seeds es (length (slots_of t)) marks) is marked;
    all = subst (λ (es : List Edge). AreFaults (flows_of t s marks) s.seeds es fs) is all;
    some = some;
  }

  pub judged : (r : Result Accepted FlowError) (fs : List FlowFault) → Answers t s edges marks r → answered r ≡ Some fs → AreJudged t fs
  judged (Ok a) fs answers e = subst (AreJudged t) (some_is [] fs e) (a, answers.0)
  judged (Err (flow_error.Faults xs)) fs answers e = subst (AreJudged t) (some_is xs fs e) (some_judged t xs (faulty_of xs answers.0 answers.1))
  judged (Err flow_error.Memory) fs answers e = absurd (no_answer fs e)

-- what was found of a program, of which the edges are these
pub objects_on : (t : TypedTree) (s : Sides) (edges : List Edge) (o : Objects) → edges ≡ edges_of_all t s → AreObjects t (edges_of_all t s) o → AreObjects t edges o
objects_on t s edges o is are = subst (λ (es : List Edge). AreObjects t es o) (sym is) are
