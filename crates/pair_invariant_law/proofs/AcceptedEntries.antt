-- Which numbers are a monitor's entries, and what the functions of a half call.
use Rattle.std.proofs.Common.{◌≡◌, ◌∙◌, ℕ, refl, ap, sym, Bool, true, Some, List, map}
use Rattle.std.specs.Prelude.{slice_get}
use Rattle.std.specs.List.{Contains, filter}
use Rattle.pt_tree.specs.declared.signature.Signature.{Signature}
use Rattle.typed_tree.specs.TypedTree.{TypedTree, FunctionTree, signatures_of}
use Rattle.reach.proofs.ListLemmas.{contains_filter, contains_map, from_filter, from_flat, from_map}
use Rattle.pt_core.specs.declared.monitor.Entry.{Entry}
use Rattle.pt_core.specs.CodeTree as core
use Rattle.pt_core.specs.WellFormedStatement.{callees_of}
use Rattle.lowering.specs.Functions.{functions_from, signatures_from}
use Rattle.splitter.specs.Halves.{Halves, asked, called_by, chosen_functions, entry_numbers, entry_of, is_among, is_entry, monitor_entries}
use Rattle.split_law.proofs.LoweredCode.{all_signatures, signature_listed}
use Rattle.pair_invariant_law.proofs.AcceptedMembers.{each_at}

abbrev pub code : TypedTree → List core.FunctionTree
code t = functions_from t 0 t.functions

-- the slave's code calls the function or host of this number
abbrev pub is_asked : TypedTree → Halves → ℕ → Bool
is_asked t h = is_among (asked h (code t))

-- ---- entries

abbrev passes : TypedTree → Halves → ℕ × Signature → Bool
passes t h s = is_entry (is_asked t h s.0) s.1

abbrev numbered : TypedTree → List (ℕ × Signature)
numbered t = signatures_from 0 (signatures_of t)

abbrev make : ℕ × Signature → Entry
make s = entry_of (record { 0 = s.0 })

abbrev number_of : Entry → ℕ
number_of e = e.function.0

-- a number is an entry's, if its signature is one of those that may be asked for
pub entry_has : (t : TypedTree) (h : Halves) (f : ℕ) (x : FunctionTree) → slice_get t.functions f ≡ Some x → is_entry (is_asked t h f) x.signature ≡ true → Contains (entry_numbers (monitor_entries t h (code t))) f
entry_has t h f x is e =
    contains_map number_of (map make (filter (passes t h) (numbered t))) (make (f, x.signature))
    (contains_map make (filter (passes t h) (numbered t)) (f, x.signature) (contains_filter (passes t h) (numbered t) (f, x.signature) (signature_listed t f x is) e))

-- each signature is a function's
abbrev IsOf : TypedTree → ℕ × Signature → Type 0
IsOf t s = (x : FunctionTree) × (slice_get t.functions s.0 ≡ Some x) × (x.signature ≡ s.1)

-- and only then
pub entry_from : (t : TypedTree) (h : Halves) (f : ℕ) → Contains (entry_numbers (monitor_entries t h (code t))) f → (x : FunctionTree) × (slice_get t.functions f ≡ Some x) × (is_entry (is_asked t h f) x.signature ≡ true)
entry_from t h f there =
    let e = from_map number_of (map make (filter (passes t h) (numbered t))) f there in
    let s = from_map make (filter (passes t h) (numbered t)) e.0 e.1 in
    let chosen = from_filter (passes t h) (numbered t) s.0 s.1 in
    let x = each_at (IsOf t) (numbered t) s.0 (all_signatures (IsOf t) t (λ k f is. (f, is, refl))) chosen.0 in
    let number : s.0.0 ≡ f = ap number_of s.2 ∙ e.2 in
    (x.0, ap (λ (k : ℕ). slice_get t.functions k) (sym number) ∙ x.1, ap (λ (k : ℕ). is_entry (is_asked t h k) x.0.signature) (sym number) ∙ ap (λ (z : Signature). is_entry (is_asked t h s.0.0) z) x.2 ∙ chosen.1)

-- ---- calls

-- what chosen functions call one of them calls
pub called_from : (kept : ℕ → Bool) (fs : List core.FunctionTree) (n : ℕ) → Contains (called_by (chosen_functions kept fs)) n → (c : core.FunctionTree) × Contains fs c × (kept c.id ≡ true) × Contains (callees_of c.body) n
called_from kept fs n h =
    let c = from_flat (λ (g : core.FunctionTree). callees_of g.body) (chosen_functions kept fs) n h in
    let chosen = from_filter (λ (g : core.FunctionTree). kept g.id) fs c.0 c.1 in
    (c.0, chosen.0, chosen.1, c.2)
