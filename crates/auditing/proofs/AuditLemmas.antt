-- What is written of the verdicts that were found is the audit.
use Rattle.std.proofs.Common.{◌≡◌, ◌∙◌, ℕ, Bool, List, [], ◌∷◌, map, refl, ap, ap₂, subst, sym}
use Rattle.std.specs.Prelude.{◌↔◌, All, IsTrue}
use Rattle.std.specs.List.{flat_map}
use Rattle.std.proofs.lemmas.List.Elements.{All-cons, All-head, All-nil, All-tail}
use Rattle.pt_base.specs.declared.slot.Edge.{Edge}
use Rattle.pt_base.specs.declared.slot.Slot.{Slot}
use Rattle.typed_tree.specs.TypedTree.{TypedTree}
use Rattle.typed_tree.specs.WellFormed.{is_well_formed}
use Rattle.flow_rules.specs.declared.accepted.Accepted.{Accepted}
use Rattle.flow_rules.specs.Faults.{IsAccepted}
use Rattle.pt_core.specs.CodeTree.{MonitorTree, SlaveTree}
use Rattle.pt_core.specs.WellFormed.{is_well_formed_monitor}
use Rattle.splitter.specs.Halves.{halves_of}
use Rattle.split_law.specs.Laws.{AcceptedShareNothing, MonitorsAreWellFormed}
use Rattle.monitor_labels.specs.declared.verdicts.Verdict.{Verdict}
use Rattle.monitor_labels.specs.Nodes.{node_count, of_result}
use Rattle.monitor_labels.specs.Seeds.{seeds_of}
use Rattle.monitor_labels.specs.Labels.{all_label_edges}
use Rattle.monitor_labels.specs.Secrecy.{AreLabelMarks, IsSecret, audited, may_depend, verdicts_of}
use Rattle.monitor_labels.specs.Verdicts.{view_verdict}
use Rattle.propagation.specs.Marks.{AreMarks, Shown}
use Rattle.program_halves.specs.ProgramHalves.{AreHalves, monitor_half}
use Rattle.auditing.specs.Audits.{IsAuditOf, IsExact, verdict_line}

-- ---- lists

pub same_first : {A : Type 0} (x y : A) (xs ys : List A) → x ∷ xs ≡ y ∷ ys → x ≡ y
same_first x y xs ys h = cc

pub same_rest : {A : Type 0} (x y : A) (xs ys : List A) → x ∷ xs ≡ y ∷ ys → xs ≡ ys
same_rest x y xs ys h = cc

-- ---- how far secrets come

pub marks_are : (p : MonitorTree) (seeds : List Slot) (edges : List Edge) (count : ℕ) (marks : Shown) → seeds ≡ seeds_of p → edges ≡ all_label_edges p → count ≡ node_count p → AreMarks seeds edges count marks → AreLabelMarks p marks
marks_are p seeds edges count marks from along so_many are =
    subst (λ (n : ℕ). AreMarks (seeds_of p) (all_label_edges p) n marks) so_many
    (subst (λ (es : List Edge). AreMarks (seeds_of p) es count marks) along (subst (λ (ss : List Slot). AreMarks ss edges count marks) from are))

-- ---- on which functions there are verdicts

numbers_kept : (p : MonitorTree) (marks : Shown) (vs : List Verdict) (fs : List ℕ) → map view_verdict vs ≡ map (λ (f : ℕ). (f, may_depend p marks f)) fs → map (λ (v : Verdict). v.function.0) vs ≡ fs
numbers_kept p marks [] [] same = refl
numbers_kept p marks [] (f ∷ fs) same = cc
numbers_kept p marks (v ∷ vs) [] same = cc
numbers_kept p marks (v ∷ vs) (f ∷ fs) same =
    let first = same_first (view_verdict v) (f, may_depend p marks f) (map view_verdict vs) (map (λ (g : ℕ). (g, may_depend p marks g)) fs) same in
    let rest = same_rest (view_verdict v) (f, may_depend p marks f) (map view_verdict vs) (map (λ (g : ℕ). (g, may_depend p marks g)) fs) same in
    ap₂ (λ n ns. n ∷ ns) (ap (λ (q : ℕ × Bool). q.0) first) (numbers_kept p marks vs fs rest)

pub on_audited : (p : MonitorTree) (marks : Shown) (vs : List Verdict) → map view_verdict vs ≡ verdicts_of p marks → map (λ (v : Verdict). v.function.0) vs ≡ audited p
on_audited p marks vs same = numbers_kept p marks vs (audited p) same

-- ---- the audit

viewed_numbers : (vs : List Verdict) → map (λ (v : ℕ × Bool). v.0) (map view_verdict vs) ≡ map (λ (v : Verdict). v.function.0) vs
viewed_numbers [] = refl
viewed_numbers (v ∷ vs) = ap (λ fs. v.function.0 ∷ fs) (viewed_numbers vs)

-- what is said of a verdict by its parts
abbrev Says : MonitorTree → Verdict → Type 0
Says p v = IsTrue v.dependent ↔ IsSecret p (of_result v.function.0)

viewed_exact : (p : MonitorTree) (vs : List Verdict) → All (Says p) vs → All (IsExact p) (map view_verdict vs)
viewed_exact p [] says = All-nil (IsExact p)
viewed_exact p (v ∷ vs) says = All-cons (IsExact p) (view_verdict v) (map view_verdict vs) (All-head (Says p) v vs says) (viewed_exact p vs (All-tail (Says p) v vs says))

pub is_audit_of : (t : TypedTree) (p : MonitorTree) (vs : List Verdict) (out : List ℕ) → map (λ (v : Verdict). v.function.0) vs ≡ audited p → All (λ (v : Verdict). IsTrue v.dependent ↔ IsSecret p (of_result v.function.0)) vs →
    out ≡ flat_map (verdict_line t) (map view_verdict vs) → IsAuditOf t p out
is_audit_of t p vs out these says text = record {
  verdicts = map view_verdict vs;
  functions = viewed_numbers vs ∙ these;
  exact = viewed_exact p vs says;
  out_is = text;
}

-- ---- the monitor

-- that of a program that breaks no rule is well formed
pub monitor_well_formed : AcceptedShareNothing → MonitorsAreWellFormed → (t : TypedTree) (a : Accepted) (slave : SlaveTree) (monitor : MonitorTree) → IsTrue (is_well_formed t) → IsAccepted t a →
    AreHalves t a slave monitor → IsTrue (is_well_formed_monitor monitor)
monitor_well_formed shares monitors t a slave monitor well is are =
    let apart = shares t a is in
    subst (λ (m : MonitorTree). IsTrue (is_well_formed_monitor m)) (sym are.1) (monitors t (halves_of a.sides) well apart.0 apart.1)

-- of the halves that a program has
pub of_half : (t : TypedTree) (a : Accepted) (slave : SlaveTree) (monitor : MonitorTree) (out : List ℕ) → AreHalves t a slave monitor → IsAuditOf t monitor out → IsAuditOf t (monitor_half t a) out
of_half t a slave monitor out are of = subst (λ (m : MonitorTree). IsAuditOf t m out) are.1 of
