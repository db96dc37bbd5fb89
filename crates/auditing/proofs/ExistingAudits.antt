-- Each monitor has an audit, since of each node it can be told whether a secret gets there.
use Rattle.std.proofs.Common.{◌≡◌, ◌⊎◌, inl, inr, ℕ, Bool, true, false, List, [], ◌∷◌, map, refl, ap}
use Rattle.std.specs.Prelude.{◌↔◌, All, IsTrue}
use Rattle.std.specs.List.{flat_map}
use Rattle.std.proofs.lemmas.List.Elements.{All-cons, All-nil}
use Rattle.pt_base.proofs.Booleans.{false_not_true}
use Rattle.typed_tree.specs.TypedTree.{TypedTree}
use Rattle.flow_law.proofs.MarkLemmas.{priv_or_not}
use Rattle.pt_core.specs.CodeTree.{MonitorTree}
use Rattle.monitor_labels.specs.Nodes.{of_result, slot_of}
use Rattle.monitor_labels.specs.Seeds.{seeds_of}
use Rattle.monitor_labels.specs.Labels.{all_label_edges}
use Rattle.monitor_labels.specs.Secrecy.{IsSecret, audited}
use Rattle.program_halves.specs.ProgramHalves.{monitor_half}
use Rattle.auditing.specs.Audits.{IsAuditOf, IsExact, verdict_line}
use Rattle.auditing.specs.Laws.{AcceptedTextsHaveAudits}

abbrev told : {A B : Type 0} → A ⊎ B → Bool
told (inl a) = true
told (inr b) = false

told_exactly : {A : Type 0} (d : A ⊎ (A → ⊥)) → IsTrue (told d) ↔ A
told_exactly (inl a) = (λ h. a, λ x. refl)
told_exactly (inr none) = (λ h. false_not_true h, λ x. absurd (none x))

secret_or_not : (p : MonitorTree) (f : ℕ) → IsSecret p (of_result f) ⊎ (IsSecret p (of_result f) → ⊥)
secret_or_not p f = priv_or_not (all_label_edges p) (seeds_of p) (slot_of p (of_result f))

abbrev verdict_on : MonitorTree → ℕ → ℕ × Bool
verdict_on p f = (f, told (secret_or_not p f))

on_these : (p : MonitorTree) (fs : List ℕ) → map (λ (v : ℕ × Bool). v.0) (map (verdict_on p) fs) ≡ fs
on_these p [] = refl
on_these p (f ∷ fs) = ap (λ gs. f ∷ gs) (on_these p fs)

are_exact : (p : MonitorTree) (fs : List ℕ) → All (IsExact p) (map (verdict_on p) fs)
are_exact p [] = All-nil (IsExact p)
are_exact p (f ∷ fs) = All-cons (IsExact p) (verdict_on p f) (map (verdict_on p) fs) (told_exactly (secret_or_not p f)) (are_exact p fs)

pub monitors_audited : (t : TypedTree) (p : MonitorTree) → (out : List ℕ) × IsAuditOf t p out
monitors_audited t p =
    (flat_map (verdict_line t) (map (verdict_on p) (audited p)), record { verdicts = map (verdict_on p) (audited p); functions = on_these p (audited p); exact = are_exact p (audited p); out_is = refl })

pub accepted_audited : AcceptedTextsHaveAudits
accepted_audited t tree passed =
    let a = passed.1.0 in
    let out = monitors_audited tree (monitor_half tree a.0) in
    (out.0, record { tree = tree; typed = passed.0; accepted = a.0; is = a.1; audit = out.1 })
