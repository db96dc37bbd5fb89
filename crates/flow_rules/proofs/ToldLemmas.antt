-- What was found is told, in order and each fault once.
use Rattle.std.proofs.Common.{◌≡◌, ◌∙◌, ◌≤◌, ◌<◌, ◌+◌, ℕ, zero, suc, refl, ap, sym, subst, arith, add-one, ◌⊎◌, inl, inr, Bool, true, false, cond, Option, List, [], ◌∷◌, ◌++◌, length, get_or, take, map}
use Rattle.std.specs.Prelude.{◌&&◌, nat_eq, nat_lt, All}
use Rattle.std.specs.Cmp.{IsEquivalence, IsTotalOrder}
use Rattle.std.specs.declared.cmp.Ordering.{Ordering}
use Rattle.std.specs.declared.cmp.Ordering.TheVariants.{Less, Equal, Greater}
use Rattle.std.specs.Ordering.{eq_by_cmp, is_eq, is_lt, nat_cmp, ordering_then}
use Rattle.std.specs.List.{AllByRecursion, Contains, dedup}
use Rattle.std.specs.List.Sorted.{IsPermutation, IsSorted, IsStrictlySortedBy}
use Rattle.std.proofs.lemmas.Bool.Decides.{nat_tests}
use Rattle.std.proofs.lemmas.Cmp.{eq_by_cmp_equiv, nat_cmp_total, on_total, then_total}
use Rattle.std.proofs.lemmas.List.Elements.{All-cons, All-nil}
use Rattle.std.proofs.lemmas.List.Kept.{Any-dedup, Contains-from_dedup, IsStrictlySortedBy-dedup}
use Rattle.std.proofs.lemmas.List.Sorted.{Contains-permutation, IsPermutation-sym}
use Rattle.pt_base.specs.declared.slot.Edge.{Edge}
use Rattle.pt_base.specs.declared.slot.Slot.{Slot}
use Rattle.pt_base.specs.declared.span.Span.{Span}
use Rattle.pt_base.proofs.Booleans.{and_true_first, and_true_second}
use Rattle.pt_base.proofs.Members.{contains_cases, contains_first, contains_later, contains_nothing}
use Rattle.pt_base.proofs.Numbers.{nat_eq_same}
use Rattle.reach.proofs.ListLemmas.{contains_map, from_map}
use Rattle.flow_rules.specs.contracts.found.FoundOrd.TheImpl as found_ord
use Rattle.flow_rules.specs.contracts.rule.RuleOrd.TheImpl as rule_ord
use Rattle.flow_rules.specs.declared.fault.FlowFault.{FlowFault}
use Rattle.flow_rules.specs.declared.found.Found.{Found}
use Rattle.flow_rules.specs.declared.rule.Rule.{Rule}
use Rattle.flow_rules.specs.declared.rule.Rule.TheVariants.{OperationOnPriv, PrivToHost, PrivIntoUnpriv, SharedGlobal, UnmarkedOut, HostInMonitor, PrivToPlainParam, PrivStatus, PrivMain}
use Rattle.flow_rules.specs.Faults.{AreFaults, IsFault, ShowsWay, Tells, fault_cmp, span_cmp}
use Rattle.flow_rules.specs.Findings.{Finding, findings_of}
use Rattle.flow_rules.specs.Kept.{first_of, kept}
use Rattle.flow_rules.specs.Laws.{RefusedForFaultsAlone}
use Rattle.flow_rules.specs.Numbers.{rule_number}
use Rattle.flow_rules.specs.Secrets.{Flows}
use Rattle.flow_rules.specs.Told.{AreTold, IsSameFault, ShowsWayTo, TellsKept, found_cmp, same_fault}

-- ---- order

rule_cmp : (a b : Rule) → rule_ord.ghosts.cmp a b ≡ nat_cmp (rule_number a) (rule_number b)
rule_cmp OperationOnPriv OperationOnPriv = refl
rule_cmp PrivToHost PrivToHost = refl
rule_cmp PrivIntoUnpriv PrivIntoUnpriv = refl
rule_cmp SharedGlobal SharedGlobal = refl
rule_cmp UnmarkedOut UnmarkedOut = refl
rule_cmp HostInMonitor HostInMonitor = refl
rule_cmp PrivToPlainParam PrivToPlainParam = refl
rule_cmp PrivStatus PrivStatus = refl
rule_cmp PrivMain PrivMain = refl
rule_cmp a b = refl

pub rule_same : (a b : Rule) → rule_number a ≡ rule_number b → a ≡ b
rule_same OperationOnPriv OperationOnPriv h = refl
rule_same PrivToHost PrivToHost h = refl
rule_same PrivIntoUnpriv PrivIntoUnpriv h = refl
rule_same SharedGlobal SharedGlobal h = refl
rule_same UnmarkedOut UnmarkedOut h = refl
rule_same HostInMonitor HostInMonitor h = refl
rule_same PrivToPlainParam PrivToPlainParam h = refl
rule_same PrivStatus PrivStatus h = refl
rule_same PrivMain PrivMain h = refl
rule_same a b h = cc

first_two : (a b c d : Ordering) → b ≡ c → is_lt (ordering_then a (ordering_then b d)) ≡ false → is_lt (ordering_then a c) ≡ false
first_two Less b c d e h = h
first_two Greater b c d e h = refl
first_two Equal b Less d e h = let less : is_lt (ordering_then Less d) ≡ false = subst (λ z. is_lt (ordering_then z d) ≡ false) e h in cc
first_two Equal b Equal d e h = refl
first_two Equal b Greater d e h = refl

by_place : (xs : List Found) → IsSorted found_ord.ghosts.cmp xs → IsSorted found_cmp xs
by_place xs h k d low high =
    let x = get_or xs (k + 1) d in
    let y = get_or xs k d in
    first_two (span_cmp x.span y.span) (rule_ord.ghosts.cmp x.rule y.rule) (nat_cmp (rule_number x.rule) (rule_number y.rule)) _ (rule_cmp x.rule y.rule) (h k d low high)

found_total : IsTotalOrder found_cmp
found_total =
    then_total (then_total (on_total (λ (x : Found). x.span.from) nat_cmp_total) (on_total (λ (x : Found). x.span.to) nat_cmp_total))
    (on_total (λ (x : Found). rule_number x.rule) nat_cmp_total)

nat_ties : (m n : ℕ) → nat_eq m n ≡ is_eq (nat_cmp m n)
nat_ties m n = go (nat_lt m n) (nat_eq m n) refl refl
  where
    go : (l e : Bool) → nat_lt m n ≡ l → nat_eq m n ≡ e → e ≡ is_eq (cond l Less (cond e Equal Greater))
    go true true h k = absurd (grind (arith, nat_tests, h, k))
    go true false h k = refl
    go false true h k = refl
    go false false h k = refl

both_tie : (a b : Ordering) → is_eq (ordering_then a b) ≡ (is_eq a && is_eq b)
both_tie Less b = refl
both_tie Equal b = refl
both_tie Greater b = refl

ties : (x y : Found) → same_fault x y ≡ eq_by_cmp found_cmp x y
ties x y =
    (λ i. (nat_ties x.span.from y.span.from i && nat_ties x.span.to y.span.to i) && nat_ties (rule_number x.rule) (rule_number y.rule) i)
    ∙ ap (λ b. b && is_eq (nat_cmp (rule_number x.rule) (rule_number y.rule))) (sym (both_tie (nat_cmp x.span.from y.span.from) (nat_cmp x.span.to y.span.to)))
    ∙ sym (both_tie (span_cmp x.span y.span) (nat_cmp (rule_number x.rule) (rule_number y.rule)))

pub sorted_once : (sorted new : List Found) → IsSorted found_ord.ghosts.cmp sorted → new ≡ dedup same_fault sorted → IsStrictlySortedBy found_cmp new
sorted_once sorted new h is = subst (λ xs. IsStrictlySortedBy found_cmp xs) (sym is) (IsStrictlySortedBy-dedup found_total ties sorted (by_place sorted h))

-- ---- what is kept of each fault

pub found_before : (old sorted new : List Found) → IsPermutation old sorted → new ≡ dedup same_fault sorted → (x : Found) → Contains new x → Contains old x
found_before old sorted new moved is x h =
    Contains-permutation sorted old x (IsPermutation-sym old sorted moved) (Contains-from_dedup same_fault sorted x (subst (λ (xs : List Found). Contains xs x) is h))

is_same_fault : (x y : Found) → same_fault x y ≡ true → IsSameFault x y
is_same_fault x y h =
    let place = and_true_first (nat_eq x.span.from y.span.from && nat_eq x.span.to y.span.to) (nat_eq (rule_number x.rule) (rule_number y.rule)) h in
    let from = nat_eq_same x.span.from y.span.from (and_true_first (nat_eq x.span.from y.span.from) (nat_eq x.span.to y.span.to) place) in
    let to = nat_eq_same x.span.to y.span.to (and_true_second (nat_eq x.span.from y.span.from) (nat_eq x.span.to y.span.to) place) in (
      rule_same x.rule y.rule (nat_eq_same (rule_number x.rule) (rule_number y.rule) (and_true_second (nat_eq x.span.from y.span.from && nat_eq x.span.to y.span.to) (nat_eq (rule_number x.rule) (rule_number y.rule)) h)),
      λ i. record { from = from i; to = to i },
    )

same_alike : IsEquivalence same_fault
same_alike = record {
  refl = λ x. ties x x ∙ (eq_by_cmp_equiv found_total).refl x;
  symm = λ x y. ties x y ∙ (eq_by_cmp_equiv found_total).symm x y ∙ sym (ties y x);
  congr = λ x y z h. ties x z ∙ (eq_by_cmp_equiv found_total).congr x y z (sym (ties x y) ∙ h) ∙ sym (ties y z);
}

pub all_kept : (old sorted new : List Found) → IsPermutation old sorted → new ≡ dedup same_fault sorted → (x : Found) → Contains old x →
    (y : Found) × Contains new y × IsSameFault x y
all_kept old sorted new moved is x h =
    let any = Any-dedup same_alike sorted x (Contains-permutation old sorted x moved h) in (
      any.1,
      subst (λ (xs : List Found). Contains xs any.1) (sym is) (any.0, any.2, any.3),
      is_same_fault x any.1 any.4,
    )

-- ---- faults

module _ (seeds : List Slot) (edges : List Edge) where
  same_order : (x y : Found) (f g : FlowFault) → TellsKept seeds edges x f → TellsKept seeds edges y g → fault_cmp f g ≡ found_cmp x y
  same_order x y f g a b = λ i. ordering_then (span_cmp (a.1.0 i) (b.1.0 i)) (nat_cmp (rule_number (a.0 i)) (rule_number (b.0 i)))

  all_above : (x : Found) (f : FlowFault) → TellsKept seeds edges x f → (xs : List Found) (fs : List FlowFault) → AreTold seeds edges xs fs →
      AllByRecursion (λ y. found_cmp x y ≡ Less) xs → AllByRecursion (λ g. fault_cmp f g ≡ Less) fs
  all_above x f a [] [] told h = tt
  all_above x f a (y ∷ ys) (g ∷ gs) told h = (same_order x y f g a told.0 ∙ h.0, all_above x f a ys gs told.1 h.1)
  all_above x f a [] (g ∷ gs) told h = absurd told
  all_above x f a (y ∷ ys) [] told h = absurd told

  told_sorted : (xs : List Found) (fs : List FlowFault) → AreTold seeds edges xs fs → IsStrictlySortedBy found_cmp xs → IsStrictlySortedBy fault_cmp fs
  unfolding IsStrictlySortedBy
  told_sorted [] [] told h = tt
  told_sorted (x ∷ xs) (f ∷ fs) told h = (all_above x f told.0 xs fs told.1 h.0, told_sorted xs fs told.1 h.1)
  told_sorted [] (f ∷ fs) told h = absurd told
  told_sorted (x ∷ xs) [] told h = absurd told

  shows_way : (origin : Option Slot) (spans : List Span) (slots : List ℕ) → ShowsWayTo seeds edges origin spans (first_of slots) → ShowsWay seeds edges origin spans slots
  shows_way origin spans [] h = h
  shows_way origin spans (s ∷ ss) h = (s, h.0, h.1, contains_first s ss, h.2, h.3, h.4)

  is_fault : (p : Flows) (x : Found) (f : FlowFault) → Contains (map kept (findings_of p)) x → TellsKept seeds edges x f → IsFault p seeds edges f
  is_fault p x f i told =
      let m = from_map kept (findings_of p) x i in (
        m.0,
        m.1,
        (told.0 ∙ sym (ap (λ (z : Found). z.rule) m.2), told.1.0 ∙ sym (ap (λ (z : Found). z.span) m.2)),
        shows_way f.origin f.path m.0.slots (subst (λ (z : Found). ShowsWayTo seeds edges f.origin f.path z.slot) (sym m.2) told.1.1),
      )

  are_faults : (p : Flows) (xs : List Found) (fs : List FlowFault) → ((x : Found) → Contains xs x → Contains (map kept (findings_of p)) x) → AreTold seeds edges xs fs →
      All (IsFault p seeds edges) fs
  are_faults p [] [] h told = All-nil (IsFault p seeds edges)
  are_faults p (x ∷ xs) (f ∷ fs) h told =
      All-cons (IsFault p seeds edges) f fs (is_fault p x f (h x (contains_first x xs)) told.0) (are_faults p xs fs (λ y i. h y (contains_later x xs y i)) told.1)
  are_faults p [] (f ∷ fs) h told = absurd told
  are_faults p (x ∷ xs) [] h told = absurd told

  is_told : (xs : List Found) (fs : List FlowFault) (x : Found) → AreTold seeds edges xs fs → Contains xs x → (f : FlowFault) × Contains fs f × TellsKept seeds edges x f
  is_told [] fs x told h = absurd (contains_nothing x h)
  is_told (y ∷ ys) [] x told h = absurd told
  is_told (y ∷ ys) (f ∷ fs) x told h = go (λ i. is_told ys fs x told.1 i) (contains_cases y ys x h)
    where
      go : (Contains ys x → (g : FlowFault) × Contains fs g × TellsKept seeds edges x g) → (y ≡ x) ⊎ Contains ys x → (g : FlowFault) × Contains (f ∷ fs) g × TellsKept seeds edges x g
      go rest (inl e) = (f, contains_first f fs, subst (λ (z : Found). TellsKept seeds edges z f) e told.0)
      go rest (inr i) = let r = rest i in (r.0, contains_later f fs r.0 r.1, r.2)

  -- one more is told
  pub told_more : (xs : List Found) (fs : List FlowFault) (x : Found) (f : FlowFault) → AreTold seeds edges xs fs → TellsKept seeds edges x f → AreTold seeds edges (xs ++ x ∷ []) (fs ++ f ∷ [])
  told_more [] [] x f told own = (own, tt)
  told_more (y ∷ ys) (g ∷ gs) x f told own = (told.0, told_more ys gs x f told.1 own)
  told_more [] (g ∷ gs) x f told own = absurd told
  told_more (y ∷ ys) [] x f told own = absurd told

  -- what is told of all that was found, in order and each fault once
  pub faults_are : (p : Flows) (list places slice : List Found) (faults : List FlowFault) → list ≡ map kept (findings_of p) → IsStrictlySortedBy found_cmp places →
      ((x : Found) → Contains places x → Contains list x) → ((x : Found) → Contains list x → (y : Found) × Contains places y × IsSameFault x y) →
      slice ≡ places → AreTold seeds edges slice faults → AreFaults p seeds edges faults
  faults_are p list places slice faults is sorted before all same told =
      let are : AreTold seeds edges places faults = subst (λ (xs : List Found). AreTold seeds edges xs faults) same told in record {
        sorted = told_sorted places faults are sorted;
        true_ones = are_faults p places faults (λ x i. subst (λ (xs : List Found). Contains xs x) is (before x i)) are;
        all = λ x i.
            let y = all (kept x) (subst (λ (xs : List Found). Contains xs (kept x)) (sym is) (contains_map kept (findings_of p) x i)) in
            let f = is_told places faults y.0 are y.1 in
            (f.0, f.1, (f.2.0 ∙ sym y.2.0, f.2.1.0 ∙ sym y.2.1));
      }

-- ---- one place after the other

take_on : {X : Type 0} (xs : List X) (k : ℕ) (d : X) → k < length xs → take (suc k) xs ≡ take k xs ++ get_or xs k d ∷ []
take_on [] k d lt = absurd (omega (arith, lt))
take_on (x ∷ xs) zero d lt = refl
take_on (x ∷ xs) (suc k) d lt = ap (λ ys. x ∷ ys) (take_on xs k d (omega (arith, lt)))

pub next_told : (seeds : List Slot) (edges : List Edge) (xs : List Found) (k : ℕ) (d : Found) (fs new : List FlowFault) (f : FlowFault) → k < length xs →
    TellsKept seeds edges (get_or xs k d) f → new ≡ fs ++ f ∷ [] → AreTold seeds edges (take k xs) fs → AreTold seeds edges (take (k + 1) xs) new
next_told seeds edges xs k d fs new f lt own added told =
    rw add-one (subst (λ (gs : List FlowFault). AreTold seeds edges (take (suc k) xs) gs) (sym added)
    (subst (λ (ys : List Found). AreTold seeds edges ys (fs ++ f ∷ [])) (sym (take_on xs k d lt)) (told_more seeds edges (take k xs) fs (get_or xs k d) f told own)))

pub all_taken : {X : Type 0} (xs : List X) (k : ℕ) → length xs ≤ k → take k xs ≡ xs
all_taken [] zero le = refl
all_taken [] (suc k) le = refl
all_taken (x ∷ xs) zero le = absurd (omega (arith, le))
all_taken (x ∷ xs) (suc k) le = ap (λ ys. x ∷ ys) (all_taken xs k (omega (arith, le)))

pub none_told : (p : Flows) (seeds : List Slot) (edges : List Edge) (faults : List FlowFault) → length faults ≡ 0 → AreFaults p seeds edges faults → findings_of p ≡ []
none_told p seeds edges [] long are = go (findings_of p) are.all
  where
    go : (xs : List Finding) → ((x : Finding) → Contains xs x → (f : FlowFault) × Contains [] f × Tells f x) → xs ≡ []
    go [] all = refl
    go (x ∷ xs) all = let f = all x (contains_first x xs) in absurd (contains_nothing f.0 f.1)
none_told p seeds edges (f ∷ fs) long are = absurd (omega (arith, long))

pub refused : RefusedForFaultsAlone
refused t s edges marks [] h = let some : 0 < 0 = h.1 in absurd (omega (arith, some))
refused t s edges marks (f ∷ fs) h = let x = h.0.true_ones 0 f (omega arith) in (x.0, x.1)
