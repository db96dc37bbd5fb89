-- The rules look at the same, whichever sides and marks of a program are found.
use Rattle.std.proofs.Common.{◌≡◌, ◌∙◌, ◌<◌, ◌≤◌, ◌↔◌, ℕ, refl, ap, sym, subst, arith, Bool, true, false, List, [], ◌∷◌, length, nat_lt, Option, None, Some}
use Rattle.std.specs.Prelude.{MatchOption, is_some}
use Rattle.std.specs.List.{Contains, flat_map}
use Rattle.std.proofs.lemmas.Bool.Decides.{nat_tests}
use Rattle.std.proofs.lemmas.List.{get_or_past}
use Rattle.std.proofs.lemmas.List.Elements.{All-head}
use Rattle.pt_base.specs.declared.slot.Edge.{Edge}
use Rattle.pt_base.specs.declared.slot.Slot.{Slot}
use Rattle.pt_base.proofs.Members.{contains_nothing}
use Rattle.propagation.specs.Marks.{AreMarks, Shown, path_shown}
use Rattle.propagation.specs.Paths.{IsPriv, IsShortestPath}
use Rattle.reach.specs.Tables.{slot_number}
use Rattle.sides.proofs.OneSides.{same_monitor, same_seeds, same_slave}
use Rattle.sides.specs.declared.halves.Sides.{Sides}
use Rattle.sides.specs.Placed.{AreSides}
use Rattle.sides.specs.Slots.{slots_of}
use Rattle.typed_tree.specs.TypedTree.{TypedTree}
use Rattle.flow_edges.specs.Edges.{edges_in}
use Rattle.flow_rules.specs.declared.fault.FlowFault.{FlowFault}
use Rattle.flow_rules.specs.Faults.{AreFaults, IsFault, edges_of_all, flows_of}
use Rattle.flow_rules.specs.Findings.{Finding, findings_of}
use Rattle.flow_rules.specs.Secrets.{Flows}

-- ---- which slots are marked

told : (seeds : List Slot) (edges : List Edge) (s : Slot) (o : Option (List ℕ)) →
    MatchOption o (¬ IsPriv seeds edges s) (λ path. IsShortestPath seeds edges path s) → (is_some o ≡ true) ↔ IsPriv seeds edges s
told seeds edges s None none = (λ h. cc, λ p. absurd (none p))
told seeds edges s (Some path) is = (λ h. (is.0, path, is.1, is.2), λ p. refl)

-- a marked slot is one to which a way leads
pub privileged : (seeds : List Slot) (edges : List Edge) (slots : ℕ) (marks : Shown) → AreMarks seeds edges slots marks → (n : ℕ) → n < slots →
    (is_some (path_shown marks (slot_number n)) ≡ true) ↔ IsPriv seeds edges (slot_number n)
privileged seeds edges slots marks are n lt = told seeds edges (slot_number n) (path_shown marks (slot_number n)) (are.paths (slot_number n) lt)

same_truth : (b c : Bool) → (b ≡ true → c ≡ true) → (c ≡ true → b ≡ true) → b ≡ c
same_truth true c there back = sym (there refl)
same_truth false true there back = back refl
same_truth false false there back = refl

unmarked : (seeds : List Slot) (edges : List Edge) (slots : ℕ) (marks : Shown) → AreMarks seeds edges slots marks → (n : ℕ) → slots ≤ n → path_shown marks (slot_number n) ≡ None
unmarked seeds edges slots marks are n past = get_or_past marks n None (subst (λ k. k ≤ n) (sym are.size) past)

module _ (t : TypedTree) (s s' : Sides) (are : AreSides t s) (are' : AreSides t s') where
  same_edges : edges_of_all t s ≡ edges_of_all t s'
  same_edges = ap (flat_map (edges_in t)) (same_slave t s s' are are')

  pub same_priv : (n : ℕ) → IsPriv s.seeds (edges_of_all t s) (slot_number n) → IsPriv s'.seeds (edges_of_all t s') (slot_number n)
  same_priv n is =
      subst (λ (es : List Edge). IsPriv s'.seeds es (slot_number n)) same_edges
      (subst (λ (xs : List Slot). IsPriv xs (edges_of_all t s) (slot_number n)) (same_seeds t s s' are are') is)

module _ (t : TypedTree) (s s' : Sides) (marks marks' : Shown) (are : AreSides t s) (are' : AreSides t s')
    (marked : AreMarks s.seeds (edges_of_all t s) (length (slots_of t)) marks) (marked' : AreMarks s'.seeds (edges_of_all t s') (length (slots_of t)) marks') where
  same_mark : (n : ℕ) → is_some (path_shown marks (slot_number n)) ≡ is_some (path_shown marks' (slot_number n))
  same_mark n = go (nat_lt n (length (slots_of t))) refl
    where
      go : (b : Bool) → nat_lt n (length (slots_of t)) ≡ b → is_some (path_shown marks (slot_number n)) ≡ is_some (path_shown marks' (slot_number n))
      go true is =
          let lt : n < length (slots_of t) = grind (arith, nat_tests) in
          let here : (is_some (path_shown marks (slot_number n)) ≡ true) ↔ IsPriv s.seeds (edges_of_all t s) (slot_number n) = privileged s.seeds (edges_of_all t s) (length (slots_of t)) marks marked n lt in
          let there : (is_some (path_shown marks' (slot_number n)) ≡ true) ↔ IsPriv s'.seeds (edges_of_all t s') (slot_number n) = privileged s'.seeds (edges_of_all t s') (length (slots_of t)) marks' marked' n lt in
          same_truth (is_some (path_shown marks (slot_number n))) (is_some (path_shown marks' (slot_number n)))
          (λ h. there.1 (same_priv t s s' are are' n (here.0 h))) (λ h. here.1 (same_priv t s' s are' are n (there.0 h)))
      go false is =
          let past : length (slots_of t) ≤ n = grind (arith, nat_tests) in
          ap is_some (unmarked s.seeds (edges_of_all t s) (length (slots_of t)) marks marked n past
          ∙ sym (unmarked s'.seeds (edges_of_all t s') (length (slots_of t)) marks' marked' n past))

  pub same_flows : flows_of t s marks ≡ flows_of t s' marks'
  same_flows = λ i. record { tree = t; slave = same_slave t s s' are are' i; monitor = same_monitor t s s' are are' i; is_priv = λ n. same_mark n i }

-- ---- what breaks no rule has no fault

pub nothing_found : (p : Flows) (seeds : List Slot) (edges : List Edge) (fs : List FlowFault) → findings_of p ≡ [] → AreFaults p seeds edges fs → 0 < length fs → ⊥
nothing_found p seeds edges [] none are some = absurd (omega arith)
nothing_found p seeds edges (f ∷ fs) none are some =
    let is : IsFault p seeds edges f = All-head (IsFault p seeds edges) f fs are.true_ones in
    contains_nothing is.0 (subst (λ (xs : List Finding). Contains xs is.0) none is.1)
