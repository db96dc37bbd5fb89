-- Texts come to one audit at most, whichever sides are found and whichever marks show where secrets get.
use Rattle.std.proofs.Common.{◌≡◌, ◌∙◌, ℕ, Bool, true, false, List, [], ◌∷◌, map, refl, ap, ap₂, sym, subst}
use Rattle.std.specs.Prelude.{◌↔◌, All, IsTrue}
use Rattle.std.specs.List.{flat_map}
use Rattle.std.proofs.lemmas.List.Elements.{All-head, All-tail}
use Rattle.pt_base.proofs.Booleans.{false_not_true}
use Rattle.typed_tree.specs.TypedTree.{TypedTree}
use Rattle.flow_rules.specs.declared.accepted.Accepted.{Accepted}
use Rattle.flow_rules.specs.Faults.{IsAccepted}
use Rattle.pt_core.specs.CodeTree.{MonitorTree}
use Rattle.lowering.specs.Functions.{functions_from}
use Rattle.splitter.specs.Halves.{Halves, monitor_of}
use Rattle.program_halves.specs.ProgramHalves.{monitor_half}
use Rattle.program_halves.proofs.OneHalves.{same_halves}
use Rattle.stages.specs.Climb.{HasPassed, Texts, flows}
use Rattle.stages.proofs.Commands.{one_climb}
use Rattle.stages.proofs.OneRefusal.{tree_is_one}
use Rattle.auditing.specs.Audits.{IsAudit, IsAuditOf, IsExact, verdict_line}
use Rattle.auditing.specs.Laws.{AuditsAreOne}
use Rattle.auditing.proofs.AuditLemmas.{same_first, same_rest}

-- ---- verdicts

-- two truths that say one thing
same_truth : {A : Type 0} (a b : Bool) → IsTrue a ↔ A → IsTrue b ↔ A → a ≡ b
same_truth true true x y = refl
same_truth false false x y = refl
same_truth true false x y = false_not_true (y.1 (x.0 refl))
same_truth false true x y = false_not_true (x.1 (y.0 refl))

same_verdict : (p : MonitorTree) (v w : ℕ × Bool) → v.0 ≡ w.0 → IsExact p v → IsExact p w → v ≡ w
same_verdict p (f, a) (g, b) number x y = ap₂ (λ (n : ℕ) (z : Bool). (n, z)) number (same_truth a b x (subst (λ (n : ℕ). IsExact p (n, b)) (sym number) y))

same_verdicts : (p : MonitorTree) (vs ws : List (ℕ × Bool)) → map (λ (v : ℕ × Bool). v.0) vs ≡ map (λ (v : ℕ × Bool). v.0) ws → All (IsExact p) vs → All (IsExact p) ws → vs ≡ ws
same_verdicts p [] [] numbers x y = refl
same_verdicts p [] (w ∷ ws) numbers x y = cc
same_verdicts p (v ∷ vs) [] numbers x y = cc
same_verdicts p (v ∷ vs) (w ∷ ws) numbers x y =
    let number = same_first v.0 w.0 (map (λ (u : ℕ × Bool). u.0) vs) (map (λ (u : ℕ × Bool). u.0) ws) numbers in
    let others = same_rest v.0 w.0 (map (λ (u : ℕ × Bool). u.0) vs) (map (λ (u : ℕ × Bool). u.0) ws) numbers in
    ap₂ (λ u us. u ∷ us) (same_verdict p v w number (All-head (IsExact p) v vs x) (All-head (IsExact p) w ws y))
    (same_verdicts p vs ws others (All-tail (IsExact p) v vs x) (All-tail (IsExact p) w ws y))

-- ---- audits

of_monitor : (t : TypedTree) (p : MonitorTree) (x y : List ℕ) → IsAuditOf t p x → IsAuditOf t p y → x ≡ y
of_monitor t p x y a b = a.out_is ∙ ap (flat_map (verdict_line t)) (same_verdicts p a.verdicts b.verdicts (a.functions ∙ sym b.functions) a.exact b.exact) ∙ sym b.out_is

-- a program has one monitor
one_monitor : (t : TypedTree) (a b : Accepted) → IsAccepted t a → IsAccepted t b → monitor_half t a ≡ monitor_half t b
one_monitor t a b is is' = ap (λ (h : Halves). monitor_of t h (functions_from t 0 t.functions)) (same_halves t a.sides b.sides is.sides is'.sides)

-- the audit of a program by its tree
record HasAudit (t : TypedTree) (out : List ℕ) : Type 0 where
  pub accepted : Accepted
  pub is : IsAccepted t accepted
  pub audit : IsAuditOf t (monitor_half t accepted) out

of_tree : (t : TypedTree) (x y : List ℕ) → HasAudit t x → HasAudit t y → x ≡ y
of_tree t x y a b =
    of_monitor t (monitor_half t a.accepted) x y a.audit (subst (λ (m : MonitorTree). IsAuditOf t m y) (one_monitor t b.accepted a.accepted b.is a.is) b.audit)

-- ---- texts

pub audits_are_same : (t : Texts) (x y : List ℕ) → IsAudit t x → IsAudit t y → x ≡ y
audits_are_same t x y a b =
    let trees : b.tree ≡ a.tree = tree_is_one t.program b.tree a.tree b.typed a.typed in
    let has : HasAudit b.tree y = record { accepted = b.accepted; is = b.is; audit = b.audit } in
    of_tree a.tree x y (record { accepted = a.accepted; is = a.is; audit = a.audit }) (subst (λ (z : TypedTree). HasAudit z y) trees has)

-- what is audited has passed
pub audit_has_passed : (t : Texts) (out : List ℕ) → IsAudit t out → (tree : TypedTree) × HasPassed (flows ∷ []) t tree
audit_has_passed t out is = (is.tree, (is.typed, ((is.accepted, is.is), tt {0})))

pub audit_is_one : AuditsAreOne
audit_is_one = one_climb (flows ∷ []) IsAudit audit_has_passed audits_are_same
