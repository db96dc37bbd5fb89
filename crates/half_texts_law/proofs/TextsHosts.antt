-- Each function without a body in the monitor's program is a host: what is declared there is called, is the
-- monitor's own, or is an entry.
use Rattle.std.proofs.Common.{◌≡◌, ◌∙◌, ℕ, refl, ap, sym, subst, Bool, true, false, cond, not, ◌⊎◌, inl, inr, Option, Some, None, List, [], ◌∷◌, ◌++◌, length, map}
use Rattle.std.specs.Prelude.{IsTrue, ◌&&◌, ◌||◌, if◌then◌else◌, is_some, nat_eq, slice_get}
use Rattle.std.specs.Option.{option_map_or}
use Rattle.std.specs.List.{Contains, filter, list_all, AllByRecursion}
use Rattle.std.proofs.lemmas.List.Elements.{Contains-append_cases}
use Rattle.lowered_code_law.proofs.FormsPrograms.{signature_of_function}
use Rattle.pt_base.specs.declared.ids.FnId.{FnId}
use Rattle.pt_base.proofs.Booleans.{both_hold, both_hold_first, both_hold_second}
use Rattle.pt_base.proofs.Members.{contains_cases, contains_nothing}
use Rattle.pt_tree.specs.declared.signature.Signature.{Signature}
use Rattle.typed_tree.specs.StatementTree.{BodyTree}
use Rattle.typed_tree.specs.TypedTree.{TypedTree, FunctionTree, signatures_of}
use Rattle.typed_tree.specs.WellFormed.{are_rising}
use Rattle.reach.specs.Contexts.{has_body, InMonitor, is_privileged, monitor_calls, privileged, test_function}
use Rattle.reach.proofs.ListLemmas.{from_map}
use Rattle.pt_core.specs.declared.monitor.Entry.{Entry}
use Rattle.pt_core.specs.CodeTree as core
use Rattle.pt_core.specs.WellFormed.{bound_by, callee_by, callee_fits, callees, entries_fit, entry_by, entry_fits, function_at, is_sound, is_well_formed_monitor, monitor_program, signature_at}
use Rattle.pt_core.proofs.WellFormedLemmas.{facts_of}
use Rattle.lowering.specs.Functions.{core_of, core_program, functions_from, signatures_from}
use Rattle.splitter.specs.Halves.{Halves, called_by, entry_numbers, is_among, monitor_code, monitor_entries, monitor_of}
use Rattle.splitter.proofs.SetLemmas.{among_from, among_has}
use Rattle.split_law.specs.Laws.{AreHalves, MonitorsAreWellFormed}
use Rattle.split_law.proofs.Chosen.{chosen_find, chosen_lookup}
use Rattle.split_law.proofs.LoweredCode.{all_signatures, code_found}
use Rattle.split_law.proofs.Monitors.{code, half, needed, signed}
use Rattle.half_texts_law.specs.Calls.{prototypes_are_hosts}
use Rattle.half_texts_law.specs.TextsLaws.{MonitorsDeclareHosts}

-- ---- lists

each_holds : {A : Type 0} (q : A → Bool) (xs : List A) (x : A) → list_all q xs ≡ true → Contains xs x → q x ≡ true
each_holds q [] x h c = absurd (contains_nothing x c)
each_holds {A} q (y ∷ ys) x h c = go (λ i. each_holds q ys x (both_hold_second (q y) (list_all q ys) h) i) (contains_cases y ys x c)
  where
    go : (Contains ys x → q x ≡ true) → (y ≡ x) ⊎ Contains ys x → q x ≡ true
    go rest (inl e) = subst (λ (z : A). q z ≡ true) e (both_hold_first (q y) (list_all q ys) h)
    go rest (inr i) = rest i

chosen_hold : {A : Type 0} (q test : A → Bool) (xs : List A) → AllByRecursion (λ (x : A). test x ≡ true → q x ≡ true) xs → list_all q (filter test xs) ≡ true
chosen_hold q test [] h = refl
chosen_hold {A} q test (x ∷ xs) h = go (chosen_hold q test xs h.1) (test x) refl
  where
    go : list_all q (filter test xs) ≡ true → (b : Bool) → test x ≡ b → list_all q (cond b (x ∷ filter test xs) (filter test xs)) ≡ true
    go rest true e = both_hold (q x) (list_all q (filter test xs)) (h.0 e) rest
    go rest false e = rest

-- ---- one function or host

-- it has a body in the program, or it is a host
abbrev Stands : core.ProgramTree → ℕ → Signature → Type 0
Stands p k s = (is_some (function_at p k) || s.host) ≡ true

by_call : (p : core.ProgramTree) (k : ℕ) (s : Signature) → signature_at p k ≡ Some s → callee_fits true p k ≡ true → Stands p k s
by_call p k s is fits = go s.host s.privileged (is_some (function_at p k)) (subst (λ (o : Option Signature). callee_by true p k o ≡ true) is fits)
  where
    go : (a b c : Bool) → ((a || (b && not true)) || c) ≡ true → (c || a) ≡ true
    go true b true h = refl
    go true b false h = refl
    go false b true h = refl
    go false true false h = h
    go false false false h = h

by_entry : (p : core.ProgramTree) (e : Entry) (s : Signature) → signature_at p e.function.0 ≡ Some s → entry_fits p e ≡ true → Stands p e.function.0 s
by_entry p e s is fits = go s.host (function_at p e.function.0) (subst (λ (o : Option Signature). entry_by p e o ≡ true) is fits)
  where
    go : (b : Bool) (o : Option core.FunctionTree) → (if b then nat_eq (length e.shared) 0 else bound_by p e.shared s o) ≡ true → (is_some o || b) ≡ true
    go true None h = refl
    go true (Some f) h = refl
    go false None h = h
    go false (Some f) h = refl

-- the monitor's own functions have bodies
bodied : (t : TypedTree) (f : FnId) → InMonitor t f → IsTrue (test_function has_body t f)
bodied t f (privileged g h) = go (slice_get t.functions g.0) h
  where
    go : (o : Option FunctionTree) → IsTrue (option_map_or is_privileged o false) → IsTrue (option_map_or has_body o false)
    go None i = i
    go (Some x) i = both_hold_first (is_some x.body) x.signature.privileged i
bodied t f (monitor_calls h g r c e) = e

body_in : (o : Option BodyTree) → is_some o ≡ true → (b : BodyTree) × (o ≡ Some b)
body_in None h = cc
body_in (Some b) h = (b, refl)

by_body : (t : TypedTree) (h : Halves) (k : ℕ) (f : FunctionTree) → slice_get t.functions k ≡ Some f → is_among h.monitor k ≡ true → IsTrue (test_function has_body t (record { 0 = k })) → Stands (half t h) k f.signature
by_body t h k f is here has =
    let there = body_in f.body (subst (λ (o : Option FunctionTree). IsTrue (option_map_or has_body o false)) is has) in
    let found : function_at (half t h) k ≡ Some (core_of t k f there.0) =
    chosen_find (λ (g : core.FunctionTree). g.id) (is_among h.monitor) k (core_program t).functions here ∙ code_found t k f there.0 is there.1 in
    ap (λ (o : Option core.FunctionTree). is_some o || f.signature.host) found

-- ---- all of them

one : (t : TypedTree) (h : Halves) → AreHalves t h → IsTrue (is_sound true (half t h)) → IsTrue (entries_fit (half t h) (monitor_entries t h (code t))) →
    (k : ℕ) (f : FunctionTree) → slice_get t.functions k ≡ Some f → signed t h k ≡ true → Stands (half t h) k f.signature
one t h are sound fits k f is e = go (Contains-append_cases (called_by (monitor_code h (code t)) ++ h.monitor) (entry_numbers (monitor_entries t h (code t))) k (among_from (needed t h) k e))
  where
    named : signature_at (half t h) k ≡ Some f.signature
    named = chosen_lookup (signed t h) k (core_program t).signatures (λ _. e) ∙ signature_of_function t k f is

    called : Contains (callees (half t h)) k → Stands (half t h) k f.signature
    called c = by_call (half t h) k f.signature named (each_holds (callee_fits true (half t h)) (callees (half t h)) k (facts_of true (half t h) sound).calls c)

    own : Contains h.monitor k → Stands (half t h) k f.signature
    own c = by_body t h k f is (among_has h.monitor k c) (bodied t (record { 0 = k }) ((are.monitor k).0 c))

    asked : Contains (entry_numbers (monitor_entries t h (code t))) k → Stands (half t h) k f.signature
    asked c =
        let from = from_map (λ (x : Entry). x.function.0) (monitor_entries t h (code t)) k c in
        let each : IsTrue (list_all (entry_fits (half t h)) (monitor_entries t h (code t))) =
        both_hold_second (are_rising 0 (map (λ (x : Entry). x.function.0) (monitor_entries t h (code t)))) (list_all (entry_fits (half t h)) (monitor_entries t h (code t))) fits in
        subst (λ (n : ℕ). Stands (half t h) n f.signature) from.2
        (by_entry (half t h) from.0 f.signature (ap (signature_at (half t h)) from.2 ∙ named) (each_holds (entry_fits (half t h)) (monitor_entries t h (code t)) from.0 each from.1))

    inside : Contains (called_by (monitor_code h (code t))) k ⊎ Contains h.monitor k → Stands (half t h) k f.signature
    inside (inl c) = called c
    inside (inr c) = own c

    go : Contains (called_by (monitor_code h (code t)) ++ h.monitor) k ⊎ Contains (entry_numbers (monitor_entries t h (code t))) k → Stands (half t h) k f.signature
    go (inl c) = inside (Contains-append_cases (called_by (monitor_code h (code t))) h.monitor k c)
    go (inr c) = asked c

all_hosts : (t : TypedTree) (h : Halves) → AreHalves t h → IsTrue (is_sound true (half t h)) → IsTrue (entries_fit (half t h) (monitor_entries t h (code t))) → IsTrue (prototypes_are_hosts (half t h))
all_hosts t h are sound fits =
    chosen_hold (λ (s : ℕ × Signature). is_some (function_at (half t h) s.0) || s.1.host) (λ (s : ℕ × Signature). signed t h s.0) (signatures_from 0 (signatures_of t))
    (all_signatures (λ (s : ℕ × Signature). signed t h s.0 ≡ true → (is_some (function_at (half t h) s.0) || s.1.host) ≡ true) t (λ k f is e. one t h are sound fits k f is e))

pub declare_hosts : MonitorsAreWellFormed → MonitorsDeclareHosts
unfolding is_well_formed_monitor
declare_hosts monitors t h well are apart =
    let fits = monitors t h well are apart in
    all_hosts t h are (both_hold_first (is_sound true (half t h)) (entries_fit (half t h) (monitor_entries t h (code t))) fits) (both_hold_second (is_sound true (half t h)) (entries_fit (half t h) (monitor_entries t h (code t))) fits)
