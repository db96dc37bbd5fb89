-- The numbers of nodes whose places were found.
use Rattle.std.proofs.Common.{◌≡◌, ◌∙◌, ◌<◌, ℕ, zero, suc, ◌+◌, Bool, true, List, [], ◌∷◌, length, map, take, get_or, nat_eq, Some, refl, sym, ap, ap₂, subst, arith}
use Rattle.std.specs.Prelude.{IsTrue, ◌&&◌, slice_get, sum_by, unwrap_or}
use Rattle.std.specs.List.{find, list_all}
use Rattle.std.specs.Map.{lookup}
use Rattle.pt_base.specs.declared.ids.FnId.{FnId}
use Rattle.pt_base.proofs.Booleans.{both_hold_first, both_hold_second}
use Rattle.pt_base.proofs.Options.{some_same}
use Rattle.pt_base.proofs.Places.{get_mapped, get_below_length}
use Rattle.pt_tree.specs.declared.signature.Signature.{Signature}
use Rattle.typed_tree.specs.WellFormed.{are_rising, structs_sound}
use Rattle.pt_core.specs.declared.function.CoreFn.{CoreFn}
use Rattle.pt_core.specs.declared.global.GlobalVar.{GlobalVar}
use Rattle.pt_core.specs.CodeTree.{FunctionTree, GlobalTree, MonitorTree, numbered, view_function, view_global}
use Rattle.pt_core.specs.Calls.{no_function, no_signature}
use Rattle.pt_core.specs.WellFormed.{are_in_order, entries_fit, entry_fits, is_sound, is_well_formed_monitor, monitor_program}
use Rattle.monitor_labels.specs.declared.scope.Scope.{Scope}
use Rattle.monitor_labels.specs.Nodes.{before, of_result, of_control, own_count, result_one, slot_of, variable_start}
use Rattle.monitor_labels.specs.NodesView.{AreNodes}
use Rattle.monitor_labels.specs.Counting.{slot, sums_from}
use Rattle.monitor_labels.specs.Scopes.{IsScope, program_of}
use Rattle.monitor_labels.specs.Searching.{IsAt, IsOrdered}
use Rattle.monitor_labels.proofs.CountLemmas.{sums_at}
use Rattle.monitor_labels.proofs.OrderLemmas.{Found, before_at, find_at, found, lookup_at, there_is}

-- ---- order

-- how a program that is sound begins
order_of : (a b c : Bool) → IsTrue ((a && b) && c) → IsTrue a
order_of a b c h = both_hold_first a b (both_hold_first (a && b) c h)

pub ordered : (p : MonitorTree) → IsTrue (is_well_formed_monitor p) → IsOrdered p
unfolding is_well_formed_monitor
ordered p h =
    let whole : IsTrue (is_sound true (monitor_program p)) = both_hold_first (is_sound true (monitor_program p)) (entries_fit (monitor_program p) p.entries) h in
    let entries : IsTrue (entries_fit (monitor_program p) p.entries) = both_hold_second (is_sound true (monitor_program p)) (entries_fit (monitor_program p) p.entries) h in
    let order : IsTrue (are_in_order (monitor_program p)) = order_of (are_in_order (monitor_program p)) (structs_sound p.structs 0 p.structs) _ whole in
    let a : Bool = are_rising 0 (map (λ s. s.0) p.signatures) in
    let b : Bool = are_rising 0 (map (λ f. f.id) p.functions) in
    let c : Bool = are_rising 0 (map (λ g. g.id) p.globals) in
    record {
      signatures = both_hold_first a (b && c) order;
      functions = both_hold_first b c (both_hold_second a (b && c) order);
      globals = both_hold_second b c (both_hold_second a (b && c) order);
      entries = both_hold_first (are_rising 0 (map (λ e. e.function.0) p.entries)) (list_all (entry_fits (monitor_program p)) p.entries) entries;
    }

-- ---- signatures

abbrev signed : FnId × Signature → ℕ × Signature
signed x = (x.0.0, x.1)

abbrev number_in : FnId × Signature → ℕ
number_in x = x.0.0

pub signature_found : (xs : List (FnId × Signature)) (f i : ℕ) (x : FnId × Signature) → IsTrue (are_rising 0 (map (λ s. s.0) (numbered xs))) → IsAt number_in f xs i → slice_get xs i ≡ Some x → unwrap_or (lookup (nat_eq f) (numbered xs)) no_signature ≡ x.1
signature_found xs f i x h at there =
    let entry : Found number_in f xs i = found number_in f xs i at in
    let same : x ≡ entry.x = some_same x entry.x (sym there ∙ entry.at) in
    ap (λ o. unwrap_or o no_signature) (lookup_at 0 f (numbered xs) i (signed entry.x) h (get_mapped signed xs i entry.x entry.at) entry.is) ∙ ap (λ (z : FnId × Signature). z.1) (sym same)

pub result_found : (xs : List (FnId × Signature)) (from f i m : ℕ) → IsTrue (are_rising 0 (map (λ s. s.0) (numbered xs))) → IsAt number_in f xs i → slice_get (sums_from result_one from (numbered xs)) i ≡ Some m → m ≡ from + sum_by result_one (before (λ s. s.0) f (numbered xs))
result_found xs from f i m h at there =
    let entry : Found number_in f xs i = found number_in f xs i at in
    sums_at result_one from (numbered xs) i m there
    ∙ ap (λ ys. from + sum_by result_one ys) (sym (before_at (λ (s : ℕ × Signature). s.0) 0 f (numbered xs) i (signed entry.x) h (get_mapped signed xs i entry.x entry.at) entry.is))

-- ---- functions

abbrev function_number : CoreFn → ℕ
function_number g = g.id.0

pub function_found : (xs : List CoreFn) (f i : ℕ) (x : CoreFn) → IsTrue (are_rising 0 (map (λ g. g.id) (map view_function xs))) → IsAt function_number f xs i → slice_get xs i ≡ Some x → view_function x ≡ unwrap_or (find (λ g. nat_eq f g.id) (map view_function xs)) no_function
function_found xs f i x h at there =
    let entry : Found function_number f xs i = found function_number f xs i at in
    let same : x ≡ entry.x = some_same x entry.x (sym there ∙ entry.at) in
    ap view_function same ∙ sym (ap (λ o. unwrap_or o no_function) (find_at (λ (g : FunctionTree). g.id) 0 f (map view_function xs) i (view_function entry.x) h (get_mapped view_function xs i entry.x entry.at) entry.is))

pub function_numbered : (xs : List CoreFn) (f i : ℕ) (x : CoreFn) → IsAt function_number f xs i → slice_get xs i ≡ Some x → x.id.0 ≡ f
function_numbered xs f i x at there =
    let entry : Found function_number f xs i = found function_number f xs i at in
    ap function_number (some_same x entry.x (sym there ∙ entry.at)) ∙ entry.is

functions_before : (xs : List CoreFn) (f i : ℕ) → IsTrue (are_rising 0 (map (λ g. g.id) (map view_function xs))) → IsAt function_number f xs i → before (λ g. g.id) f (map view_function xs) ≡ take i (map view_function xs)
functions_before xs f i h at =
    let entry : Found function_number f xs i = found function_number f xs i at in
    before_at (λ (g : FunctionTree). g.id) 0 f (map view_function xs) i (view_function entry.x) h (get_mapped view_function xs i entry.x entry.at) entry.is

pub variables_found : (xs : List CoreFn) (f i m : ℕ) → IsTrue (are_rising 0 (map (λ g. g.id) (map view_function xs))) → IsAt function_number f xs i → slice_get (sums_from own_count 0 (map view_function xs)) i ≡ Some m → m ≡ sum_by own_count (before (λ g. g.id) f (map view_function xs))
variables_found xs f i m h at there =
    let same : m ≡ 0 + sum_by own_count (take i (map view_function xs)) = sums_at own_count 0 (map view_function xs) i m there in
    let plain : m ≡ sum_by own_count (take i (map view_function xs)) = omega (arith, same) in
    plain ∙ ap (sum_by own_count) (sym (functions_before xs f i h at))

take_count : {X : Type 0} (i : ℕ) (xs : List X) → i < length xs → length (take i xs) ≡ i
take_count i [] lt = absurd (omega arith)
take_count zero (x ∷ xs) lt = refl
take_count (suc i) (x ∷ xs) lt = ap suc (take_count i xs (omega (arith, lt)))

pub control_found : (xs : List CoreFn) (f i : ℕ) → IsTrue (are_rising 0 (map (λ g. g.id) (map view_function xs))) → IsAt function_number f xs i → length (before (λ g. g.id) f (map view_function xs)) ≡ i
control_found xs f i h at =
    let entry : Found function_number f xs i = found function_number f xs i at in
    ap length (functions_before xs f i h at) ∙ take_count i (map view_function xs) (get_below_length (map view_function xs) i (view_function entry.x) (get_mapped view_function xs i entry.x entry.at))

-- ---- globals

abbrev global_number : GlobalVar → ℕ
global_number g = g.id.0

pub global_found : (xs : List GlobalVar) (f i : ℕ) → IsTrue (are_rising 0 (map (λ g. g.id) (map view_global xs))) → IsAt global_number f xs i → length (before (λ g. g.id) f (map view_global xs)) ≡ i
global_found xs f i h at =
    let entry : Found global_number f xs i = found global_number f xs i at in
    let there : slice_get (map view_global xs) i ≡ Some (view_global entry.x) = get_mapped view_global xs i entry.x entry.at in
    ap length (before_at (λ (g : GlobalTree). g.id) 0 f (map view_global xs) i (view_global entry.x) h there entry.is)
    ∙ take_count i (map view_global xs) (get_below_length (map view_global xs) i (view_global entry.x) there)

-- ---- as code finds them

pub signature_is : (xs ys : List (FnId × Signature)) (f i : ℕ) (x : FnId × Signature) → xs ≡ ys → IsTrue (are_rising 0 (map (λ s. s.0) (numbered ys))) → IsAt number_in f xs i → x ≡ get_or xs i x → x.1 ≡ unwrap_or (lookup (nat_eq f) (numbered ys)) no_signature
signature_is xs ys f i x same h at is =
    sym (signature_found ys f i x h (subst (λ zs. IsAt number_in f zs i) same at) (ap (λ zs. slice_get zs i) (sym same) ∙ there_is xs i x at.within is))

pub result_is : (xs ys : List (FnId × Signature)) (starts : List ℕ) (from f i m : ℕ) → xs ≡ ys → IsTrue (are_rising 0 (map (λ s. s.0) (numbered ys))) → IsAt number_in f xs i → starts ≡ sums_from result_one from (numbered ys) → slice_get starts i ≡ Some m →
    m ≡ from + sum_by result_one (before (λ s. s.0) f (numbered ys))
result_is xs ys starts from f i m same h at are there = result_found ys from f i m h (subst (λ zs. IsAt number_in f zs i) same at) (ap (λ zs. slice_get zs i) (sym are) ∙ there)

pub function_is : (xs ys : List CoreFn) (f i : ℕ) (x : CoreFn) → xs ≡ ys → IsTrue (are_rising 0 (map (λ g. g.id) (map view_function ys))) → IsAt function_number f xs i → x ≡ get_or ys i x → view_function x ≡ unwrap_or (find (λ g. nat_eq f g.id) (map view_function ys)) no_function
function_is xs ys f i x same h at is =
    let there : IsAt function_number f ys i = subst (λ zs. IsAt function_number f zs i) same at in
    function_found ys f i x h there (there_is ys i x there.within is)

pub number_is : (xs ys : List CoreFn) (f i : ℕ) (x : CoreFn) → xs ≡ ys → IsAt function_number f xs i → x ≡ get_or ys i x → x.id.0 ≡ f
number_is xs ys f i x same at is =
    let there : IsAt function_number f ys i = subst (λ zs. IsAt function_number f zs i) same at in
    function_numbered ys f i x there (there_is ys i x there.within is)

-- a function's scope
pub scope_made : (s : Scope) (xs : List CoreFn) (starts : List ℕ) (f i : ℕ) → xs ≡ s.program.now.functions.items → starts ≡ s.nodes.now.places.variables.starts.items → IsOrdered (program_of s) → AreNodes (program_of s) s.nodes.now → IsAt function_number f xs i →
    s.function.now ≡ get_or s.program.now.functions.items i s.function.now → slice_get starts i ≡ Some s.variables → s.result ≡ slot_of (program_of s) (of_result f) → s.control.0 ≡ s.nodes.now.places.controls + i → IsScope s
scope_made s xs starts f i same begun order nodes at is first result control =
    let ys : List CoreFn = s.program.now.functions.items in
    let there : IsAt function_number f ys i = subst (λ zs. IsAt function_number f zs i) same at in
    let named : s.function.now.id.0 ≡ f = number_is xs ys f i s.function.now same at is in
    record {
      ordered = order;
      nodes = nodes;
      variables = variables_found ys f i s.variables order.functions there (ap (λ zs. slice_get zs i) (sym (begun ∙ nodes.places.variables.starts)) ∙ first) ∙ ap (λ n. variable_start (program_of s) n) (sym named);
      result = result ∙ ap (λ n. slot_of (program_of s) (of_result n)) (sym named);
      control = ap slot (control ∙ ap₂ (λ a b. a + b) nodes.places.controls (sym (control_found ys f i order.functions there))) ∙ ap (λ n. slot_of (program_of s) (of_control n)) (sym named);
    }

pub global_is : (xs ys : List GlobalVar) (g i start from n : ℕ) → xs ≡ ys → IsTrue (are_rising 0 (map (λ x. x.id) (map view_global ys))) → IsAt global_number g xs i → start ≡ from → n ≡ start + i → n ≡ from + length (before (λ x. x.id) g (map view_global ys))
global_is xs ys g i start from n same h at begins is =
    is ∙ ap₂ (λ a b. a + b) begins (sym (global_found ys g i h (subst (λ zs. IsAt global_number g zs i) same at)))
