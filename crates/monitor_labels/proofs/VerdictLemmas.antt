-- On which functions there are verdicts, and that each says what is so.
use Rattle.std.proofs.Common.{◌≡◌, ◌∙◌, ⊎_elim, ℕ, zero, suc, Bool, true, false, not, List, [], ◌∷◌, ◌++◌, map, refl, sym, ap, ap₂, subst, arith}
use Rattle.std.specs.Prelude.{◌↔◌, All, Contains, IsTrue, cond, if◌then◌else◌}
use Rattle.std.specs.List.{filter, flat_map}
use Rattle.pt_base.specs.declared.ids.FnId.{FnId}
use Rattle.pt_base.proofs.Booleans.{cond_false, cond_true, false_not_true}
use Rattle.pt_base.proofs.Members.{contains_cases, contains_first, contains_later, contains_nothing}
use Rattle.propagation.specs.Marks.{Shown}
use Rattle.propagation.proofs.LawLemmas.{marked_priv, priv_marked}
use Rattle.pt_core.specs.CodeTree.{FunctionTree, MonitorTree}
use Rattle.pt_core.specs.Calls.{signature_in}
use Rattle.pt_core.specs.WellFormed.{is_well_formed_monitor, monitor_program}
use Rattle.monitor_labels.specs.declared.verdicts.Verdict.{Verdict}
use Rattle.monitor_labels.specs.Nodes.{node_count, of_result, slot_of}
use Rattle.monitor_labels.specs.Seeds.{seeds_of}
use Rattle.monitor_labels.specs.Labels.{all_label_edges}
use Rattle.monitor_labels.specs.Secrecy.{AreLabelMarks, IsSecret, audited, independent_of, is_audited, may_depend, verdicts_of}
use Rattle.monitor_labels.specs.Verdicts.{independent_if, verdicts_among, view_verdict}
use Rattle.monitor_labels.proofs.NumberLemmas.{audited_nodes}

-- ---- which there are

listed : (p : MonitorTree) (marks : Shown) (fs : List FunctionTree) →
    verdicts_among p marks fs ≡ map (λ (f : ℕ). (f, may_depend p marks f)) (filter (λ (f : ℕ). is_audited (signature_in (monitor_program p) f)) (map (λ (f : FunctionTree). f.id) fs))
listed p marks [] = refl
listed p marks (g ∷ gs) = go (is_audited (signature_in (monitor_program p) g.id)) (listed p marks gs)
  where
    rest : List ℕ
    rest = filter (λ (f : ℕ). is_audited (signature_in (monitor_program p) f)) (map (λ (f : FunctionTree). f.id) gs)

    go : (b : Bool) → verdicts_among p marks gs ≡ map (λ (f : ℕ). (f, may_depend p marks f)) rest →
        (if b then (g.id, may_depend p marks g.id) ∷ [] else []) ++ verdicts_among p marks gs ≡ map (λ (f : ℕ). (f, may_depend p marks f)) (cond b (g.id ∷ rest) rest)
    go true e = ap (λ vs. (g.id, may_depend p marks g.id) ∷ vs) e
    go false e = e

pub all_listed : (p : MonitorTree) (marks : Shown) → verdicts_among p marks p.functions ≡ verdicts_of p marks
all_listed p marks = listed p marks p.functions

-- ---- what they say

-- of a function whose result is given openly
pub says_exactly : (p : MonitorTree) (marks : Shown) (f : ℕ) → IsTrue (is_well_formed_monitor p) → AreLabelMarks p marks → Contains (audited p) f → IsTrue (may_depend p marks f) ↔ IsSecret p (of_result f)
says_exactly p marks f h are there = (
  λ shown. marked_priv (seeds_of p) (all_label_edges p) (node_count p) marks are (slot_of p (of_result f)) shown,
  λ secret. priv_marked (seeds_of p) (all_label_edges p) (node_count p) marks are (slot_of p (of_result f)) (audited_nodes p f h there) secret,
)

same_first : {A : Type 0} (x y : A) (xs ys : List A) → x ∷ xs ≡ y ∷ ys → x ≡ y
same_first x y xs ys h = cc

same_rest : {A : Type 0} (x y : A) (xs ys : List A) → x ∷ xs ≡ y ∷ ys → xs ≡ ys
same_rest x y xs ys h = cc

each_says : (p : MonitorTree) (marks : Shown) (vs : List Verdict) (fs : List ℕ) → map view_verdict vs ≡ map (λ (f : ℕ). (f, may_depend p marks f)) fs →
    ((f : ℕ) → Contains fs f → IsTrue (may_depend p marks f) ↔ IsSecret p (of_result f)) → All (λ (v : Verdict). IsTrue v.dependent ↔ IsSecret p (of_result v.function.0)) vs
each_says p marks [] fs same each k d lt = absurd (omega arith)
each_says p marks (v ∷ vs) [] same each k d lt = cc
each_says p marks (v ∷ vs) (f ∷ fs) same each zero d lt =
    subst (λ (q : ℕ × Bool). IsTrue q.1 ↔ IsSecret p (of_result q.0)) (sym (same_first (view_verdict v) (f, may_depend p marks f) (map view_verdict vs) (map (λ (g : ℕ). (g, may_depend p marks g)) fs) same)) (each f (contains_first f fs))
each_says p marks (v ∷ vs) (f ∷ fs) same each (suc k) d lt =
    each_says p marks vs fs (same_rest (view_verdict v) (f, may_depend p marks f) (map view_verdict vs) (map (λ (g : ℕ). (g, may_depend p marks g)) fs) same) (λ g there. each g (contains_later f fs g there)) k d (omega (arith, lt))

pub all_say : (p : MonitorTree) (marks : Shown) (vs : List Verdict) → IsTrue (is_well_formed_monitor p) → AreLabelMarks p marks → map view_verdict vs ≡ verdicts_among p marks p.functions →
    All (λ (v : Verdict). IsTrue v.dependent ↔ IsSecret p (of_result v.function.0)) vs
all_say p marks vs h are same = each_says p marks vs (audited p) (same ∙ all_listed p marks) (λ f there. says_exactly p marks f h are there)

-- ---- those that can't depend on a secret

left : (p : MonitorTree) (marks : Shown) (vs : List Verdict) (fs : List ℕ) → map view_verdict vs ≡ map (λ (f : ℕ). (f, may_depend p marks f)) fs →
    map (λ (f : FnId). f.0) (flat_map independent_if vs) ≡ filter (λ (f : ℕ). not (may_depend p marks f)) fs
left p marks [] [] same = refl
left p marks [] (f ∷ fs) same = cc
left p marks (v ∷ vs) [] same = cc
left p marks (v ∷ vs) (f ∷ fs) same = go v.dependent refl (left p marks vs fs (same_rest (view_verdict v) (f, may_depend p marks f) (map view_verdict vs) (map (λ (g : ℕ). (g, may_depend p marks g)) fs) same))
  where
    first : view_verdict v ≡ (f, may_depend p marks f)
    first = same_first (view_verdict v) (f, may_depend p marks f) (map view_verdict vs) (map (λ (g : ℕ). (g, may_depend p marks g)) fs) same

    number : v.function.0 ≡ f
    number = ap (λ (q : ℕ × Bool). q.0) first

    told : (b : Bool) → v.dependent ≡ b → may_depend p marks f ≡ b
    told b e = sym (ap (λ (q : ℕ × Bool). q.1) first) ∙ e

    rest : List ℕ
    rest = filter (λ (g : ℕ). not (may_depend p marks g)) fs

    go : (b : Bool) → v.dependent ≡ b → map (λ (g : FnId). g.0) (flat_map independent_if vs) ≡ rest →
        map (λ (g : FnId). g.0) ((if b then [] else v.function ∷ []) ++ flat_map independent_if vs) ≡ cond (not (may_depend p marks f)) (f ∷ rest) rest
    go true e more = more ∙ sym (cond_false (not (may_depend p marks f)) (f ∷ rest) rest (ap not (told true e)))
    go false e more = ap₂ (λ k ks. k ∷ ks) number more ∙ sym (cond_true (not (may_depend p marks f)) (f ∷ rest) rest (ap not (told false e)))

pub independent_left : (p : MonitorTree) (marks : Shown) (vs : List Verdict) (fs : List FnId) → map view_verdict vs ≡ verdicts_of p marks → fs ≡ flat_map independent_if vs → map (λ (f : FnId). f.0) fs ≡ independent_of p marks
independent_left p marks vs fs verdicts these = ap (map (λ (f : FnId). f.0)) these ∙ left p marks vs (audited p) verdicts

kept_in : (test : ℕ → Bool) (xs : List ℕ) (x : ℕ) → Contains (filter test xs) x → Contains xs x × (test x ≡ true)
kept_in test [] x h = absurd (contains_nothing x h)
kept_in test (y ∷ ys) x h = go (λ k. kept_in test ys x k) (test y) refl h
  where
    later : Contains ys x × (test x ≡ true) → Contains (y ∷ ys) x × (test x ≡ true)
    later r = (contains_later y ys x r.0, r.1)

    go : (Contains (filter test ys) x → Contains ys x × (test x ≡ true)) → (b : Bool) → test y ≡ b → Contains (cond b (y ∷ filter test ys) (filter test ys)) x → Contains (y ∷ ys) x × (test x ≡ true)
    go more false e k = later (more k)
    go more true e k = ⊎_elim (λ is. (subst (λ (z : ℕ). Contains (y ∷ ys) z) is (contains_first y ys), ap test (sym is) ∙ e)) (λ i. later (more i)) (contains_cases y (filter test ys) x k)

kept_by : (test : ℕ → Bool) (xs : List ℕ) (x : ℕ) → Contains xs x → test x ≡ true → Contains (filter test xs) x
kept_by test [] x h is = absurd (contains_nothing x h)
kept_by test (y ∷ ys) x h is = go (λ k. kept_by test ys x k is) (test y) refl
  where
    go : (Contains ys x → Contains (filter test ys) x) → (b : Bool) → test y ≡ b → Contains (cond b (y ∷ filter test ys) (filter test ys)) x
    go more false e = ⊎_elim (λ same. false_not_true (sym e ∙ ap test same ∙ is)) more (contains_cases y ys x h)
    go more true e = ⊎_elim (λ same. subst (λ (z : ℕ). Contains (y ∷ filter test ys) z) same (contains_first y (filter test ys))) (λ later. contains_later y (filter test ys) x (more later)) (contains_cases y ys x h)

apart : (b : Bool) → not b ≡ true → b ≡ true → ⊥
apart true h k = false_not_true h
apart false h k = false_not_true k

pub independent_exactly : (p : MonitorTree) (marks : Shown) (fs : List ℕ) → IsTrue (is_well_formed_monitor p) → AreLabelMarks p marks → fs ≡ independent_of p marks → (f : ℕ) → Contains fs f ↔ (Contains (audited p) f × ¬ IsSecret p (of_result f))
independent_exactly p marks fs h are same f = (forth, back)
  where
    forth : Contains fs f → Contains (audited p) f × ¬ IsSecret p (of_result f)
    forth there =
        let kept : Contains (audited p) f × (not (may_depend p marks f) ≡ true) = kept_in (λ (g : ℕ). not (may_depend p marks g)) (audited p) f (subst (λ xs. Contains xs f) same there) in
        (kept.0, λ secret. apart (may_depend p marks f) kept.1 ((says_exactly p marks f h are kept.0).1 secret))

    open_ : Contains (audited p) f → ¬ IsSecret p (of_result f) → (b : Bool) → may_depend p marks f ≡ b → not (may_depend p marks f) ≡ true
    open_ there never true e = absurd (never ((says_exactly p marks f h are there).0 e))
    open_ there never false e = ap not e

    back : Contains (audited p) f × ¬ IsSecret p (of_result f) → Contains fs f
    back both = subst (λ xs. Contains xs f) (sym same) (kept_by (λ (g : ℕ). not (may_depend p marks g)) (audited p) f both.0 (open_ both.0 both.1 (may_depend p marks f) refl))
