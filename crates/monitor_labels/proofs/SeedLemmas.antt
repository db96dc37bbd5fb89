-- The numbers of the nodes where secrets begin.
use Rattle.std.proofs.Common.{◌≡◌, ◌∙◌, ℕ, ◌+◌, Bool, true, false, List, [], ◌∷◌, ◌++◌, length, map, refl, sym, ap, ap₂, arith, append_assoc}
use Rattle.std.specs.Prelude.{◌&&◌}
use Rattle.std.specs.List.{flat_map}
use Rattle.std.proofs.lemmas.List.{map-append}
use Rattle.pt_base.specs.declared.slot.Slot.{Slot}
use Rattle.pt_base.proofs.Lists.{length_pushed}
use Rattle.pt_tree.specs.declared.signature.Signature.{Signature}
use Rattle.typed_tree.specs.declared.variable.Var.{Var}
use Rattle.pt_core.specs.CodeTree.{FunctionTree, GlobalTree, MonitorTree}
use Rattle.monitor_labels.specs.Nodes.{Node, of_variable, of_result, of_global, before, gives_result, globals_start, number_of, own_count, result_count, result_one, results_start, slot_of, variable_count, variable_start}
use Rattle.monitor_labels.specs.Seeds.{begins_secret, global_seeds, marked_structs, node_if, result_seeds, seeds_of, variable_seeds, variables_with}
use Rattle.monitor_labels.specs.Counting.{function_slots, global_slots, result_slots, slot, slot_if, slots_with}
use Rattle.monitor_labels.specs.Searching.{IsOrdered}
use Rattle.monitor_labels.proofs.CountLemmas.{sum_pushed}
use Rattle.monitor_labels.proofs.OrderLemmas.{before_seam}

pub if_slot : (p : MonitorTree) (b : Bool) (n : Node) (m : ℕ) → number_of p n ≡ m → map (slot_of p) (node_if b n) ≡ slot_if b m
if_slot p true n m is = ap (λ k. slot k ∷ []) is
if_slot p false n m is = refl

pub variables_slots : (p : MonitorTree) (such : Var → Bool) (f i : ℕ) (xs : List Var) (n : ℕ) → n ≡ variable_start p f + i → map (slot_of p) (variables_with such f i xs) ≡ slots_with such n xs
variables_slots p such f i [] n is = refl
variables_slots p such f i (x ∷ xs) n is =
    map-append (slot_of p) (node_if (such x) (of_variable f i)) (variables_with such f (i + 1) xs)
    ∙ ap₂ (λ us vs. us ++ vs) (if_slot p (such x) (of_variable f i) n (sym is)) (variables_slots p such f (i + 1) xs (n + 1) (let next : n + 1 ≡ variable_start p f + (i + 1) = omega (arith, is) in next))

-- ---- the first ones are done

functions_slots : (p : MonitorTree) (known : List Bool) (done rest : List FunctionTree) (n : ℕ) → IsOrdered p → p.functions ≡ done ++ rest → n ≡ variable_count done →
    map (slot_of p) (flat_map (variable_seeds known) rest) ≡ function_slots known n rest
functions_slots p known done [] n order all is = refl
functions_slots p known done (f ∷ fs) n order all is =
    let start : variable_start p f.id ≡ variable_count done = ap variable_count (before_seam (λ (g : FunctionTree). g.id) p.functions done f fs order.functions all) in
    let here : n ≡ variable_start p f.id + 0 = omega (arith, start, is) in
    let next : n + own_count f ≡ variable_count (done ++ f ∷ []) = omega (arith, is, sum_pushed own_count done f) in
    map-append (slot_of p) (variable_seeds known f) (flat_map (variable_seeds known) fs)
    ∙ ap₂ (λ us vs. us ++ vs) (variables_slots p (begins_secret known) f.id 0 f.vars n here)
    (functions_slots p known (done ++ f ∷ []) fs (n + own_count f) order (all ∙ sym (append_assoc done (f ∷ []) fs)) next)

results_slots : (p : MonitorTree) (done rest : List (ℕ × Signature)) (n : ℕ) → IsOrdered p → p.signatures ≡ done ++ rest → n ≡ results_start p + result_count done →
    map (slot_of p) (flat_map result_seeds rest) ≡ result_slots n rest
results_slots p done [] n order all is = refl
results_slots p done (s ∷ ss) n order all is =
    let same : result_count (before (λ (x : ℕ × Signature). x.0) s.0 p.signatures) ≡ result_count done = ap result_count (before_seam (λ (x : ℕ × Signature). x.0) p.signatures done s ss order.signatures all) in
    let here : number_of p (of_result s.0) ≡ n = omega (arith, same, is) in
    let next : n + result_one s ≡ results_start p + result_count (done ++ s ∷ []) = omega (arith, is, sum_pushed result_one done s) in
    map-append (slot_of p) (result_seeds s) (flat_map result_seeds ss)
    ∙ ap₂ (λ us vs. us ++ vs) (if_slot p (s.1.host && gives_result s.1) (of_result s.0) n here)
    (results_slots p (done ++ s ∷ []) ss (n + result_one s) order (all ∙ sym (append_assoc done (s ∷ []) ss)) next)

globals_slots : (p : MonitorTree) (known : List Bool) (done rest : List GlobalTree) (n : ℕ) → IsOrdered p → p.globals ≡ done ++ rest → n ≡ globals_start p + length done →
    map (slot_of p) (flat_map (global_seeds known) rest) ≡ global_slots known n rest
globals_slots p known done [] n order all is = refl
globals_slots p known done (g ∷ gs) n order all is =
    let same : length (before (λ (x : GlobalTree). x.id) g.id p.globals) ≡ length done = ap length (before_seam (λ (x : GlobalTree). x.id) p.globals done g gs order.globals all) in
    let here : number_of p (of_global g.id) ≡ n = omega (arith, same, is) in
    let next : n + 1 ≡ globals_start p + length (done ++ g ∷ []) = omega (arith, is, length_pushed done g) in
    map-append (slot_of p) (global_seeds known g) (flat_map (global_seeds known) gs)
    ∙ ap₂ (λ us vs. us ++ vs) (if_slot p (begins_secret known g.var) (of_global g.id) n here)
    (globals_slots p known (done ++ g ∷ []) gs (n + 1) order (all ∙ sym (append_assoc done (g ∷ []) gs)) next)

-- ---- all of them

pub seeds_are : (p : MonitorTree) (n m : ℕ) (start first second third : List Slot) → IsOrdered p → n ≡ results_start p → m ≡ globals_start p → start ≡ [] →
    first ≡ start ++ function_slots (marked_structs p.structs) 0 p.functions → second ≡ first ++ result_slots n p.signatures → third ≡ second ++ global_slots (marked_structs p.structs) m p.globals →
    third ≡ seeds_of p
seeds_are p n m start first second third order results globals none one two three =
    let known : List Bool = marked_structs p.structs in
    let a : List Node = flat_map (variable_seeds known) p.functions in
    let b : List Node = flat_map result_seeds p.signatures in
    let c : List Node = flat_map (global_seeds known) p.globals in
    let as_functions : map (slot_of p) a ≡ function_slots known 0 p.functions = functions_slots p known [] p.functions 0 order refl refl in
    let as_results : map (slot_of p) b ≡ result_slots n p.signatures = results_slots p [] p.signatures n order refl (let e : n ≡ results_start p + 0 = omega (arith, results) in e) in
    let as_globals : map (slot_of p) c ≡ global_slots known m p.globals = globals_slots p known [] p.globals m order refl (let e : m ≡ globals_start p + 0 = omega (arith, globals) in e) in
    three ∙ ap (λ xs. xs ++ global_slots known m p.globals) (two ∙ ap (λ xs. xs ++ result_slots n p.signatures) (one ∙ ap (λ xs. xs ++ function_slots known 0 p.functions) none))
    ∙ append_assoc (function_slots known 0 p.functions) (result_slots n p.signatures) (global_slots known m p.globals)
    ∙ ap₂ (λ us vs. us ++ vs) (sym as_functions) (ap₂ (λ us vs. us ++ vs) (sym as_results) (sym as_globals) ∙ sym (map-append (slot_of p) b c))
    ∙ sym (map-append (slot_of p) a (b ++ c))
