-- The faults of a program's flows are one list, but for the ways that they show, and a program that is accepted has none.
use Rattle.std.proofs.Common.{◌≡◌, ◌∙◌, ap, sym, subst, List, [], map, Ordering, Less, Greater, None}
use Rattle.std.specs.Cmp.{IsTotalOrder}
use Rattle.std.specs.List.{Contains}
use Rattle.std.specs.Ordering.{ordering_reverse}
use Rattle.std.proofs.lemmas.Cmp.{nat_cmp_total, on_total, then_total}
use Rattle.std.proofs.lemmas.List.Elements.{All-contains}
use Rattle.std.proofs.lemmas.Map.Keys.{Less-from_sorted}
use Rattle.pt_base.specs.declared.slot.Edge.{Edge}
use Rattle.pt_base.specs.declared.slot.Slot.{Slot}
use Rattle.sides.proofs.OneList.{one_list}
use Rattle.typed_tree.specs.TypedTree.{TypedTree}
use Rattle.flow_rules.proofs.OneJudgement.{nothing_found, same_flows}
use Rattle.flow_rules.specs.declared.accepted.Accepted.{Accepted}
use Rattle.flow_rules.specs.declared.fault.FlowFault.{FlowFault}
use Rattle.flow_rules.specs.Faults.{AreFaults, IsAccepted, IsFault, edges_of_all, fault_cmp, flows_of}
use Rattle.flow_rules.specs.Findings.{Finding, findings_of}
use Rattle.flow_rules.specs.Numbers.{rule_number}
use Rattle.flow_rules.specs.Secrets.{Flows}
use Rattle.stages.specs.FlowFaults.{HasFlowFaults, without_way}

pub less_once : {X : Type 0} (cmp : X → X → Ordering) → IsTotalOrder cmp → (a b : X) → cmp a b ≡ Less → cmp b a ≡ Less → ⊥
less_once cmp total a b p q = let e : cmp a b ≡ Greater = total.antisymm a b ∙ ap ordering_reverse q in cc

fault_total : IsTotalOrder fault_cmp
fault_total =
    then_total (then_total (on_total (λ (f : FlowFault). f.span.from) nat_cmp_total) (on_total (λ (f : FlowFault). f.span.to) nat_cmp_total))
    (on_total (λ (f : FlowFault). rule_number f.rule) nat_cmp_total)

module _ (p q : Flows) (seeds seeds' : List Slot) (edges edges' : List Edge) (fs gs : List FlowFault) (same : findings_of p ≡ findings_of q) where
  -- a fault of one list is told in the other
  pub told_there : AreFaults p seeds edges fs → AreFaults q seeds' edges' gs → (f : FlowFault) → Contains fs f → (g : FlowFault) × Contains gs g × (without_way g ≡ without_way f)
  told_there a b f h =
      let is : IsFault p seeds edges f = All-contains (IsFault p seeds edges) fs f a.true_ones h in
      let found : Contains (findings_of q) is.0 = subst (λ (xs : List Finding). Contains xs is.0) same is.1 in
      let other = b.all is.0 found in
      (other.0, other.1, λ i. record { rule = (other.2.0 ∙ sym is.2.0) i; span = (other.2.1 ∙ sym is.2.1) i; origin = None; path = [] })

same_faults : (p q : Flows) (seeds seeds' : List Slot) (edges edges' : List Edge) (fs gs : List FlowFault) → findings_of p ≡ findings_of q → AreFaults p seeds edges fs → AreFaults q seeds' edges' gs →
    map without_way fs ≡ map without_way gs
same_faults p q seeds seeds' edges edges' fs gs same a b =
    one_list without_way (λ f g. fault_cmp f g ≡ Less) (less_once fault_cmp fault_total) fs gs
    (λ i j d lt within. Less-from_sorted fault_cmp fs i j d a.sorted lt within) (λ i j d lt within. Less-from_sorted fault_cmp gs i j d b.sorted lt within)
    (told_there p q seeds seeds' edges edges' fs gs same a b) (told_there q p seeds' seeds edges' edges gs fs (sym same) b a)

pub faults_differ_in_ways : (t : TypedTree) (fs gs : List FlowFault) → HasFlowFaults t fs → HasFlowFaults t gs → map without_way fs ≡ map without_way gs
faults_differ_in_ways t fs gs a b =
    same_faults (flows_of t a.sides a.marks) (flows_of t b.sides b.marks) a.sides.seeds b.sides.seeds (edges_of_all t a.sides) (edges_of_all t b.sides) fs gs
    (ap findings_of (same_flows t a.sides b.sides a.marks b.marks a.placed b.placed a.marked b.marked)) a.all b.all

-- a program that is accepted has no fault
pub accepted_or_faulty : (t : TypedTree) (a : Accepted) (fs : List FlowFault) → IsAccepted t a → HasFlowFaults t fs → ⊥
accepted_or_faulty t a fs is b =
    nothing_found (flows_of t b.sides b.marks) b.sides.seeds (edges_of_all t b.sides) fs
    (ap findings_of (same_flows t b.sides a.sides b.marks a.marks b.placed is.sides b.marked is.marks) ∙ is.faultless) b.all b.some
