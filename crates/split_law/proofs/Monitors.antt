-- The monitor's program.
use Rattle.std.proofs.Common.{◌≡◌, ◌∙◌, ℕ, refl, ap, sym, subst, arith, Bool, true, false, not, Option, Some, List, [], ◌∷◌, ◌++◌, length, map, drop}
use Rattle.std.specs.Prelude.{IsTrue, ◌&&◌, ◌||◌, if◌then◌else◌, is_some, nat_eq, slice_get}
use Rattle.std.specs.Option.{option_map_or}
use Rattle.std.specs.List.{filter, list_all, AllByRecursion}
use Rattle.std.proofs.lemmas.List.Elements.{Contains-append_left, Contains-append_right}
use Rattle.pt_base.proofs.Booleans.{both_hold, both_hold_first, false_not_true}
use Rattle.pt_base.proofs.Members.{each_implies}
use Rattle.pt_tree.specs.declared.signature.Param.{Param}
use Rattle.pt_tree.specs.declared.signature.Signature.{Signature}
use Rattle.host_models.specs.Mixed.{is_mixed}
use Rattle.typed_tree.specs.StatementTree.{BodyTree}
use Rattle.typed_tree.specs.TypedTree.{TypedTree, FunctionTree, signatures_of}
use Rattle.typed_tree.specs.WellFormed.{are_rising, function_sound}
use Rattle.typed_tree.proofs.WellFormedLemmas.{facts_of}
use Rattle.reach.specs.Contexts.{has_body, is_privileged, monitor_calls, privileged, test_function}
use Rattle.reach.proofs.ListLemmas.{contains_filter, contains_map}
use Rattle.pt_core.specs.declared.monitor.Entry.{Entry}
use Rattle.pt_core.specs.CodeTree as core
use Rattle.pt_core.specs.WellFormed as well
use Rattle.pt_core.specs.WellFormed.{are_in_order, are_different, binds_fit, bound_by, callee_fits, callees, entries_fit, entry_by, entry_fits, function_at, has_main, is_sound, signature_at}
use Rattle.pt_core.proofs.WellFormedLemmas as core_facts
use Rattle.pt_core.proofs.ServingLemmas.{whole_may_serve}
use Rattle.lowering.specs.Functions.{core_of, core_program, functions_from, signatures_from}
use Rattle.lowered_code_law.specs.FormsLaws.{LoweredProgramsAreWellFormed}
use Rattle.lowered_code_law.specs.NamesLaws.{LoweredNames}
use Rattle.lowered_code_law.proofs.FormsPrograms.{signature_of_function}
use Rattle.splitter.specs.Halves.{Halves, asked, called_by, entry_numbers, entry_of, is_among, is_entry, monitor_code, monitor_entries}
use Rattle.splitter.proofs.SetLemmas.{among_from, among_has}
use Rattle.split_law.specs.Laws.{AreHalves, MonitorsAreWellFormed, SharesNothing}
use Rattle.split_law.proofs.Chosen.{chosen_find, chosen_lookup, chosen_rise}
use Rattle.split_law.proofs.LoweredCode.{Keeps, all_hold, all_signatures, body_there, code_found, signature_listed, sound_at}
use Rattle.split_law.proofs.Parts.{AllHold, Holds, calls_kept, part, part_sound}

abbrev pub code : TypedTree → List core.FunctionTree
code t = functions_from t 0 t.functions

abbrev pub needed : TypedTree → Halves → List ℕ
needed t h = called_by (monitor_code h (code t)) ++ h.monitor ++ entry_numbers (monitor_entries t h (code t))

abbrev pub signed : TypedTree → Halves → ℕ → Bool
signed t h = is_among (needed t h)

abbrev pub owned : Halves → ℕ → Bool
owned h n = not (is_among h.owned n)

abbrev pub half : TypedTree → Halves → core.ProgramTree
half t h = part (signed t h) (is_among h.monitor) (owned h) (core_program t)

test_there : (test : FunctionTree → Bool) (t : TypedTree) (n : ℕ) (f : FunctionTree) → slice_get t.functions n ≡ Some f → IsTrue (test f) → IsTrue (test_function test t (record { 0 = n }))
test_there test t n f is h = subst (λ (o : Option FunctionTree). IsTrue (option_map_or test o false)) (sym is) h

-- ---- what the monitor keeps

pub keeps : (t : TypedTree) (h : Halves) → AreHalves t h → SharesNothing t → Keeps true t (signed t h) (is_among h.monitor) (owned h)
keeps t h are apart = record {
  own = λ n here. among_has (needed t h) n
      (Contains-append_left (called_by (monitor_code h (code t)) ++ h.monitor) (entry_numbers (monitor_entries t h (code t))) n (Contains-append_right (called_by (monitor_code h (code t))) h.monitor n (among_from h.monitor n here)));
  called = λ n c. among_has (needed t h) n
      (Contains-append_left (called_by (monitor_code h (code t)) ++ h.monitor) (entry_numbers (monitor_entries t h (code t))) n (Contains-append_left (called_by (monitor_code h (code t))) h.monitor n c));
  calls = λ k n f here call is body own. among_has h.monitor n
      ((are.monitor n).1 (monitor_calls (record { 0 = k }) (record { 0 = n }) ((are.monitor k).0 (among_from h.monitor k here)) call (test_there has_body t n f is body)));
  names = λ k n here c lt. not_listed n (is_among h.owned n) refl (λ i. apart (record { 0 = k }) (record { 0 = n }) ((are.monitor k).0 (among_from h.monitor k here)) c ((are.owned n).0 (among_from h.owned n i)));
}
  where
    not_listed : (n : ℕ) (b : Bool) → is_among h.owned n ≡ b → (is_among h.owned n ≡ true → ⊥) → not b ≡ true
    not_listed n true e deny = absurd (deny e)
    not_listed n false e deny = refl

-- what holds of a half that has privileged functions holds of it without them
pub plainly : (p : core.ProgramTree) (s k o : ℕ → Bool) (fs : List core.FunctionTree) → AllHold true p s k o fs → AllHold false p s k o fs
plainly p s k o fs h =
    each_implies (λ (f : core.FunctionTree). k f.id ≡ true → Holds true p s k o f) (λ (f : core.FunctionTree). k f.id ≡ true → Holds false p s k o f)
    (λ f holds here. record { own = (holds here).own; names = (holds here).names; called = (holds here).called; calls = λ n g c at host own. (holds here).calls n g c at host (none g.privileged) }) fs h
  where
    none : (b : Bool) → (b && false) ≡ false
    none true = refl
    none false = refl

-- ---- entries

abbrev chosen : TypedTree → Halves → List (ℕ × Signature)
chosen t h = filter (λ (s : ℕ × Signature). is_entry (is_among (asked h (code t)) s.0) s.1) (signatures_from 0 (signatures_of t))

abbrev make : ℕ × Signature → Entry
make s = entry_of (record { 0 = s.0 })

numbers_same : (xs : List (ℕ × Signature)) → map (λ (e : Entry). e.function.0) (map make xs) ≡ map (λ (s : ℕ × Signature). s.0) xs
numbers_same [] = refl
numbers_same (x ∷ xs) = ap (λ (ns : List ℕ). x.0 ∷ ns) (numbers_same xs)

entry_signed : (t : TypedTree) (h : Halves) (k : ℕ) (f : FunctionTree) → slice_get t.functions k ≡ Some f → is_entry (is_among (asked h (code t)) k) f.signature ≡ true → signed t h k ≡ true
entry_signed t h k f is e =
    among_has (needed t h) k
    (Contains-append_right (called_by (monitor_code h (code t)) ++ h.monitor) (entry_numbers (monitor_entries t h (code t))) k
    (contains_map (λ (e : Entry). e.function.0) (map make (chosen t h)) (make (k, f.signature))
    (contains_map make (chosen t h) (k, f.signature)
    (contains_filter (λ (s : ℕ × Signature). is_entry (is_among (asked h (code t)) s.0) s.1) (signatures_from 0 (signatures_of t)) (k, f.signature) (signature_listed t k f is) e))))

drop_whole : {A : Type 0} (xs : List A) → drop (length xs) xs ≡ []
drop_whole [] = refl
drop_whole (x ∷ xs) = drop_whole xs

-- a privileged function is the monitor's, and the entry shares nothing
function_bound : (t : TypedTree) (h : Halves) → AreHalves t h → (k : ℕ) (f : FunctionTree) (b : BodyTree) → slice_get t.functions k ≡ Some f → f.body ≡ Some b → f.signature.privileged ≡ true → bound_by (half t h) [] f.signature (function_at (half t h) k) ≡ true
function_bound t h are k f b is body priv =
    subst (λ (o : Option core.FunctionTree). bound_by (half t h) [] f.signature o ≡ true) (sym found)
    (both_hold (binds_fit (half t h) (length f.signature.params) (drop (length f.signature.params) f.signature.params) []) true
    (ap (λ (ps : List Param). binds_fit (half t h) (length f.signature.params) ps []) (drop_whole f.signature.params)) refl)
  where
    here : is_among h.monitor k ≡ true
    here = among_has h.monitor k ((are.monitor k).1 (privileged (record { 0 = k }) (test_there is_privileged t k f is (both_hold (is_some f.body) f.signature.privileged (ap is_some body) priv))))

    found : function_at (half t h) k ≡ Some (core_of t k f b)
    found = chosen_find (λ (g : core.FunctionTree). g.id) (is_among h.monitor) k (core_program t).functions here ∙ code_found t k f b is body

entry_by_host : (t : TypedTree) (h : Halves) → AreHalves t h → list_all (function_sound t) t.functions ≡ true → (k : ℕ) (f : FunctionTree) → slice_get t.functions k ≡ Some f → is_entry (is_among (asked h (code t)) k) f.signature ≡ true →
    (b : Bool) → f.signature.host ≡ b → (if b then nat_eq 0 0 else bound_by (half t h) [] f.signature (function_at (half t h) k)) ≡ true
entry_by_host t h are sound k f is e true host = refl
entry_by_host t h are sound k f is e false host =
    let there = body_there t f (sound_at t t.functions k f sound is) host in
    function_bound t h are k f there.0 is there.1 (priv f.signature.privileged f.signature.host (is_mixed f.signature) (is_among (asked h (code t)) k) host e)
  where
    priv : (p o m c : Bool) → o ≡ false → ((p || (o && m)) && c) ≡ true → p ≡ true
    priv true o m c i j = refl
    priv false true m c i j = false_not_true (sym i)
    priv false false m c i j = j

entry_here : (t : TypedTree) (h : Halves) → AreHalves t h → list_all (function_sound t) t.functions ≡ true → (k : ℕ) (f : FunctionTree) → slice_get t.functions k ≡ Some f → is_entry (is_among (asked h (code t)) k) f.signature ≡ true →
    entry_fits (half t h) (make (k, f.signature)) ≡ true
entry_here t h are sound k f is e =
    subst (λ (o : Option Signature). entry_by (half t h) (make (k, f.signature)) o ≡ true) (sym (chosen_lookup (signed t h) k (core_program t).signatures (λ _. entry_signed t h k f is e) ∙ signature_of_function t k f is))
    (entry_by_host t h are sound k f is e f.signature.host refl)

chosen_entries : (q : core.ProgramTree) (test : ℕ × Signature → Bool) (xs : List (ℕ × Signature)) → AllByRecursion (λ (s : ℕ × Signature). test s ≡ true → entry_fits q (make s) ≡ true) xs → list_all (entry_fits q) (map make (filter test xs)) ≡ true
chosen_entries q test [] h = refl
chosen_entries q test (x ∷ xs) h = go (chosen_entries q test xs h.1) (test x) refl
  where
    go : list_all (entry_fits q) (map make (filter test xs)) ≡ true → (b : Bool) → test x ≡ b → list_all (entry_fits q) (map make (if b then x ∷ filter test xs else filter test xs)) ≡ true
    go rest true e = both_hold (entry_fits q (make x)) (list_all (entry_fits q) (map make (filter test xs))) (h.0 e) rest
    go rest false e = rest

entries_hold : (t : TypedTree) (h : Halves) → AreHalves t h → list_all (function_sound t) t.functions ≡ true → are_rising 0 (map (λ (s : ℕ × Signature). s.0) (core_program t).signatures) ≡ true → entries_fit (half t h) (monitor_entries t h (code t)) ≡ true
entries_hold t h are sound rise =
    both_hold (are_rising 0 (map (λ (e : Entry). e.function.0) (map make (chosen t h)))) (list_all (entry_fits (half t h)) (map make (chosen t h)))
    (subst (λ (ns : List ℕ). are_rising 0 ns ≡ true) (sym (numbers_same (chosen t h)))
    (chosen_rise (λ (s : ℕ × Signature). s.0) (λ (s : ℕ × Signature). is_entry (is_among (asked h (code t)) s.0) s.1) 0 0 (signatures_from 0 (signatures_of t)) (omega arith) rise))
    (chosen_entries (half t h) (λ (s : ℕ × Signature). is_entry (is_among (asked h (code t)) s.0) s.1) (signatures_from 0 (signatures_of t))
    (all_signatures (λ (s : ℕ × Signature). is_entry (is_among (asked h (code t)) s.0) s.1 ≡ true → entry_fits (half t h) (make s) ≡ true) t (λ k f is e. entry_here t h are sound k f is e)))

-- ---- the program

pub monitors : LoweredProgramsAreWellFormed → LoweredNames → MonitorsAreWellFormed
unfolding well.is_well_formed_monitor well.is_well_formed
monitors forms law t h given are apart =
    let p = core_program t in
    let facts = facts_of t given in
    let sound = both_hold_first (is_sound false p) (has_main p) (forms t given) in
    let hold = all_hold law true t (signed t h) (is_among h.monitor) (owned h) facts.functions (keeps t h are apart) in
    let order = (core_facts.facts_of false p sound).order in
    both_hold (is_sound true (half t h)) (entries_fit (half t h) (monitor_entries t h (code t)))
    (whole_may_serve (half t h) (part_sound p (signed t h) (is_among h.monitor) (owned h) sound (plainly p (signed t h) (is_among h.monitor) (owned h) (code t) hold))
    (calls_kept true p (signed t h) (is_among h.monitor) (owned h) sound hold))
    (entries_hold t h are facts.functions
    (both_hold_first (are_rising 0 (map (λ (s : ℕ × Signature). s.0) p.signatures)) (are_rising 0 (map (λ (f : core.FunctionTree). f.id) p.functions) && are_rising 0 (map (λ (g : core.GlobalTree). g.id) p.globals)) order))
