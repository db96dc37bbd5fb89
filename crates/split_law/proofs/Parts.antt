-- A part of a sound program is sound, where it has all that its own code names.
use Rattle.std.proofs.Common.{◌≡◌, ◌∙◌, ◌≤◌, ℕ, refl, ap, sym, subst, arith, Bool, true, false, cond, not, Option, Some, None, List, [], ◌∷◌, length, map, take}
use Rattle.std.specs.Prelude.{IsTrue, ◌&&◌, ◌||◌, nat_eq, nat_le, is_some, option_map, sum_by}
use Rattle.std.specs.List.{Contains, list_all, filter, flat_map, AllByRecursion}
use Rattle.std.specs.Map.{lookup}
use Rattle.std.proofs.lemmas.Bool.Decides.{nat_tests}
use Rattle.pt_base.proofs.Booleans.{both_hold, both_hold_first, both_hold_second, false_not_true}
use Rattle.pt_base.proofs.Members.{all_true_append, contains_first, contains_later}
use Rattle.pt_tree.specs.declared.signature.Signature.{Signature}
use Rattle.typed_tree.specs.declared.types.VarTy.{VarTy}
use Rattle.typed_tree.specs.declared.variable.Var.{Var}
use Rattle.typed_tree.specs.WellFormed.{are_rising, params_lead, structs_sound}
use Rattle.pt_core.specs.CodeTree.{FunctionTree, GlobalTree, ProgramTree}
use Rattle.pt_core.specs.WellFormedStatement.{callees_of, stmts_fit}
use Rattle.pt_core.specs.WellFormed.{are_in_order, are_small, called_signature, callee_by, callee_fits, callees, counts_fit, function_at, function_by, function_fits, global_fits, has_main, is_main_by, is_only_start, is_sound, scope_of, signature_at, signature_fits, starts_by, variable_fits, with_own}
use Rattle.pt_core.proofs.WellFormedLemmas.{facts_of}
use Rattle.lowered_code_law.specs.NamesNamed.{globals_of}
use Rattle.split_law.proofs.Agreeing.{Agree, Call, stmts_same}
use Rattle.split_law.proofs.Chosen.{all_chosen, all_first, all_rest, chosen_find, chosen_lookup, chosen_rise, chosen_sum, each_chosen}

abbrev pub part : (ℕ → Bool) → (ℕ → Bool) → (ℕ → Bool) → ProgramTree → ProgramTree
part signed kept owned p = record {
  structs = p.structs;
  signatures = filter (λ (s : ℕ × Signature). signed s.0) p.signatures;
  functions = filter (λ (f : FunctionTree). kept f.id) p.functions;
  globals = filter (λ (g : GlobalTree). owned g.id) p.globals;
}

abbrev pub entry : GlobalTree → ℕ × VarTy
entry g = (g.id, g.var.ty)

-- What a function's code names is in the part: the globals, the signatures of what it calls, and the
-- functions that it calls there and that have to be among the functions.
pub record Holds (monitor : Bool) (p : ProgramTree) (signed kept owned : ℕ → Bool) (f : FunctionTree) : Type 0 where
  pub own : signed f.id ≡ true
  pub names : (n : ℕ) → Contains (globals_of f.body) n → is_some (lookup (nat_eq n) (map entry p.globals)) ≡ true → owned n ≡ true
  pub called : (n : ℕ) → Contains (callees_of f.body) n → signed n ≡ true
  pub calls : (n : ℕ) (s : Signature) → Contains (callees_of f.body) n → signature_at p n ≡ Some s → s.host ≡ false → (s.privileged && not monitor) ≡ false → (kept n ≡ true) × (is_some (function_at p n) ≡ true)

-- each function of the part
abbrev pub AllHold : Bool → ProgramTree → (ℕ → Bool) → (ℕ → Bool) → (ℕ → Bool) → List FunctionTree → Type 0
AllHold monitor p signed kept owned fs = AllByRecursion (λ (f : FunctionTree). kept f.id ≡ true → Holds monitor p signed kept owned f) fs

-- ---- look-ups

pub same_signature : (p : ProgramTree) (signed kept owned : ℕ → Bool) (n : ℕ) → signed n ≡ true → signature_at (part signed kept owned p) n ≡ signature_at p n
same_signature p signed kept owned n h = chosen_lookup signed n p.signatures (λ _. h)

entries_chosen : (owned : ℕ → Bool) (gs : List GlobalTree) → map entry (filter (λ (g : GlobalTree). owned g.id) gs) ≡ filter (λ (x : ℕ × VarTy). owned x.0) (map entry gs)
entries_chosen owned [] = refl
entries_chosen owned (g ∷ gs) = go (entries_chosen owned gs) (owned g.id)
  where
    go : map entry (filter (λ (g : GlobalTree). owned g.id) gs) ≡ filter (λ (x : ℕ × VarTy). owned x.0) (map entry gs) → (b : Bool) →
        map entry (cond b (g ∷ filter (λ (g : GlobalTree). owned g.id) gs) (filter (λ (g : GlobalTree). owned g.id) gs)) ≡ cond b (entry g ∷ filter (λ (x : ℕ × VarTy). owned x.0) (map entry gs)) (filter (λ (x : ℕ × VarTy). owned x.0) (map entry gs))
    go rest true = ap (λ (xs : List (ℕ × VarTy)). entry g ∷ xs) rest
    go rest false = rest

pub same_global : (p : ProgramTree) (owned : ℕ → Bool) (n : ℕ) → (is_some (lookup (nat_eq n) (map entry p.globals)) ≡ true → owned n ≡ true) →
    lookup (nat_eq n) (map entry (filter (λ (g : GlobalTree). owned g.id) p.globals)) ≡ lookup (nat_eq n) (map entry p.globals)
same_global p owned n h = ap (λ (xs : List (ℕ × VarTy)). lookup (nat_eq n) xs) (entries_chosen owned p.globals) ∙ chosen_lookup owned n (map entry p.globals) h

own_all : (o : Option FunctionTree) (s : Option Signature) → option_map (with_own false o) s ≡ s
own_all o None = refl
own_all None (Some s) = refl
own_all (Some f) (Some s) = refl

pub same_called : (p : ProgramTree) (signed kept owned : ℕ → Bool) (n : ℕ) → signed n ≡ true → called_signature false p n ≡ called_signature false (part signed kept owned p) n
same_called p signed kept owned n h =
    own_all (function_at p n) (signature_at p n) ∙ sym (same_signature p signed kept owned n h) ∙ sym (own_all (function_at (part signed kept owned p) n) (signature_at (part signed kept owned p) n))

-- ---- functions

function_kept : (p : ProgramTree) (signed kept owned : ℕ → Bool) (f : FunctionTree) → Holds false p signed kept owned f → function_fits false p f ≡ true → function_fits false (part signed kept owned p) f ≡ true
function_kept p signed kept owned f holds fits =
    subst (λ (o : Option Signature). function_by false (part signed kept owned p) f o ≡ true) (sym (same_signature p signed kept owned f.id holds.own)) (go (signature_at p f.id) fits)
  where
    agree : Agree (map entry p.globals) (map entry (filter (λ (g : GlobalTree). owned g.id) p.globals)) (globals_of f.body)
    agree n c = sym (same_global p owned n (holds.names n c))

    call : Call (called_signature false p) (called_signature false (part signed kept owned p)) (callees_of f.body)
    call n c = same_called p signed kept owned n (holds.called n c)

    go : (o : Option Signature) → function_by false p f o ≡ true → function_by false (part signed kept owned p) f o ≡ true
    go None e = e
    go (Some s) e =
        let head = both_hold_first (not s.host && (counts_fit false f.params (length s.params) && params_lead (take f.params s.params) f.vars)) (list_all (variable_fits p.structs) f.vars && stmts_fit (scope_of false p f s) false f.body) e in
        let rest = both_hold_second (not s.host && (counts_fit false f.params (length s.params) && params_lead (take f.params s.params) f.vars)) (list_all (variable_fits p.structs) f.vars && stmts_fit (scope_of false p f s) false f.body) e in
        let same = stmts_same f.body false p.structs (map (λ (x : Var). x.ty) f.vars) s.result (map entry p.globals) (map entry (filter (λ (g : GlobalTree). owned g.id) p.globals)) (called_signature false p) (called_signature false (part signed kept owned p)) agree call in
        both_hold (not s.host && (counts_fit false f.params (length s.params) && params_lead (take f.params s.params) f.vars)) (list_all (variable_fits p.structs) f.vars && stmts_fit (scope_of false (part signed kept owned p) f s) false f.body) head
        (both_hold (list_all (variable_fits p.structs) f.vars) (stmts_fit (scope_of false (part signed kept owned p) f s) false f.body) (both_hold_first (list_all (variable_fits p.structs) f.vars) (stmts_fit (scope_of false p f s) false f.body) rest)
        (sym same ∙ both_hold_second (list_all (variable_fits p.structs) f.vars) (stmts_fit (scope_of false p f s) false f.body) rest))

functions_kept : (p : ProgramTree) (signed kept owned : ℕ → Bool) (fs : List FunctionTree) → AllHold false p signed kept owned fs → list_all (function_fits false p) fs ≡ true →
    list_all (function_fits false (part signed kept owned p)) (filter (λ (f : FunctionTree). kept f.id) fs) ≡ true
functions_kept p signed kept owned [] hold fits = refl
functions_kept p signed kept owned (f ∷ fs) hold fits =
    go (functions_kept p signed kept owned fs hold.1 (both_hold_second (function_fits false p f) (list_all (function_fits false p) fs) fits)) (kept f.id) refl
  where
    go : list_all (function_fits false (part signed kept owned p)) (filter (λ (f : FunctionTree). kept f.id) fs) ≡ true → (b : Bool) → kept f.id ≡ b →
        list_all (function_fits false (part signed kept owned p)) (cond b (f ∷ filter (λ (f : FunctionTree). kept f.id) fs) (filter (λ (f : FunctionTree). kept f.id) fs)) ≡ true
    go rest true e =
        both_hold (function_fits false (part signed kept owned p) f) (list_all (function_fits false (part signed kept owned p)) (filter (λ (f : FunctionTree). kept f.id) fs))
        (function_kept p signed kept owned f (hold.0 e) (both_hold_first (function_fits false p f) (list_all (function_fits false p) fs) fits)) rest
    go rest false e = rest

-- ---- calls

callee_kept : (monitor : Bool) (p : ProgramTree) (signed kept owned : ℕ → Bool) (n : ℕ) → signed n ≡ true →
    ((s : Signature) → signature_at p n ≡ Some s → s.host ≡ false → (s.privileged && not monitor) ≡ false → (kept n ≡ true) × (is_some (function_at p n) ≡ true)) →
    callee_fits false p n ≡ true → callee_fits monitor (part signed kept owned p) n ≡ true
callee_kept monitor p signed kept owned n own calls fits =
    subst (λ (o : Option Signature). callee_by monitor (part signed kept owned p) n o ≡ true) (sym (same_signature p signed kept owned n own)) (go (signature_at p n) refl fits)
  where
    found : (kept n ≡ true) × (is_some (function_at p n) ≡ true) → is_some (function_at (part signed kept owned p) n) ≡ true
    found h = ap is_some (chosen_find (λ (g : FunctionTree). g.id) kept n p.functions h.0) ∙ h.1

    by : (s : Signature) → signature_at p n ≡ Some s → (h : Bool) → s.host ≡ h → (d : Bool) → (s.privileged && not monitor) ≡ d → ((h || d) || is_some (function_at (part signed kept owned p) n)) ≡ true
    by s is true e d f = refl
    by s is false e true f = refl
    by s is false e false f = found (calls s is e f)

    go : (o : Option Signature) → signature_at p n ≡ o → callee_by false p n o ≡ true → callee_by monitor (part signed kept owned p) n o ≡ true
    go None is e = e
    go (Some s) is e = by s is s.host refl (s.privileged && not monitor) refl

each_kept : (monitor : Bool) (p : ProgramTree) (signed kept owned : ℕ → Bool) (ns : List ℕ) → ((n : ℕ) → Contains ns n → signed n ≡ true) →
    ((n : ℕ) (s : Signature) → Contains ns n → signature_at p n ≡ Some s → s.host ≡ false → (s.privileged && not monitor) ≡ false → (kept n ≡ true) × (is_some (function_at p n) ≡ true)) →
    list_all (callee_fits false p) ns ≡ true → list_all (callee_fits monitor (part signed kept owned p)) ns ≡ true
each_kept monitor p signed kept owned [] own calls fits = refl
each_kept monitor p signed kept owned (n ∷ ns) own calls fits =
    both_hold (callee_fits monitor (part signed kept owned p) n) (list_all (callee_fits monitor (part signed kept owned p)) ns)
    (callee_kept monitor p signed kept owned n (own n (contains_first n ns)) (λ s. calls n s (contains_first n ns)) (both_hold_first (callee_fits false p n) (list_all (callee_fits false p) ns) fits))
    (each_kept monitor p signed kept owned ns (λ m c. own m (contains_later n ns m c)) (λ m s c. calls m s (contains_later n ns m c)) (both_hold_second (callee_fits false p n) (list_all (callee_fits false p) ns) fits))

callees_kept : (monitor : Bool) (p : ProgramTree) (signed kept owned : ℕ → Bool) (fs : List FunctionTree) → AllHold monitor p signed kept owned fs → list_all (callee_fits false p) (flat_map (λ (f : FunctionTree). callees_of f.body) fs) ≡ true →
    list_all (callee_fits monitor (part signed kept owned p)) (flat_map (λ (f : FunctionTree). callees_of f.body) (filter (λ (f : FunctionTree). kept f.id) fs)) ≡ true
callees_kept monitor p signed kept owned [] hold fits = refl
callees_kept monitor p signed kept owned (f ∷ fs) hold fits =
    go (callees_kept monitor p signed kept owned fs hold.1 (all_rest (callee_fits false p) (callees_of f.body) (flat_map (λ (f : FunctionTree). callees_of f.body) fs) fits)) (kept f.id) refl
  where
    go : list_all (callee_fits monitor (part signed kept owned p)) (flat_map (λ (f : FunctionTree). callees_of f.body) (filter (λ (f : FunctionTree). kept f.id) fs)) ≡ true → (b : Bool) → kept f.id ≡ b →
        list_all (callee_fits monitor (part signed kept owned p)) (flat_map (λ (f : FunctionTree). callees_of f.body) (cond b (f ∷ filter (λ (f : FunctionTree). kept f.id) fs) (filter (λ (f : FunctionTree). kept f.id) fs))) ≡ true
    go rest true e =
        all_true_append (callee_fits monitor (part signed kept owned p)) (callees_of f.body) (flat_map (λ (f : FunctionTree). callees_of f.body) (filter (λ (f : FunctionTree). kept f.id) fs))
        (each_kept monitor p signed kept owned (callees_of f.body) (hold.0 e).called (hold.0 e).calls (all_first (callee_fits false p) (callees_of f.body) (flat_map (λ (f : FunctionTree). callees_of f.body) fs) fits)) rest
    go rest false e = rest

pub calls_kept : (monitor : Bool) (p : ProgramTree) (signed kept owned : ℕ → Bool) → IsTrue (is_sound false p) → AllHold monitor p signed kept owned p.functions → list_all (callee_fits monitor (part signed kept owned p)) (callees (part signed kept owned p)) ≡ true
calls_kept monitor p signed kept owned sound hold = callees_kept monitor p signed kept owned p.functions hold (facts_of false p sound).calls

-- ---- programs

small_part : (owned : ℕ → Bool) (gs : List GlobalTree) → are_small gs ≡ true → are_small (filter (λ (g : GlobalTree). owned g.id) gs) ≡ true
small_part owned gs h =
    let less = chosen_sum (λ (g : GlobalTree). length g.cells) (λ (g : GlobalTree). owned g.id) gs in
    least (sum_by (λ (g : GlobalTree). length g.cells) (filter (λ (g : GlobalTree). owned g.id) gs)) (sum_by (λ (g : GlobalTree). length g.cells) gs) less h
  where
    least : (a b : ℕ) → a ≤ b → nat_le b 1_048_576 ≡ true → nat_le a 1_048_576 ≡ true
    least a b l i = grind (arith, nat_tests, l, i)

pub part_sound : (p : ProgramTree) (signed kept owned : ℕ → Bool) → IsTrue (is_sound false p) → AllHold false p signed kept owned p.functions → IsTrue (is_sound false (part signed kept owned p))
part_sound p signed kept owned sound hold =
    let facts = facts_of false p sound in
    let q = part signed kept owned p in
    let rise = both_hold_second (are_rising 0 (map (λ (s : ℕ × Signature). s.0) p.signatures)) (are_rising 0 (map (λ (f : FunctionTree). f.id) p.functions) && are_rising 0 (map (λ (g : GlobalTree). g.id) p.globals)) facts.order in
    both_hold (are_in_order q && structs_sound q.structs 0 q.structs)
    ((list_all (global_fits q.structs) q.globals && are_small q.globals) && ((list_all (λ (s : ℕ × Signature). signature_fits q.structs s.1) q.signatures && list_all (function_fits false q) q.functions) && list_all (callee_fits false q) (callees q)))
    (both_hold (are_in_order q) (structs_sound q.structs 0 q.structs)
    (both_hold (are_rising 0 (map (λ (s : ℕ × Signature). s.0) q.signatures)) (are_rising 0 (map (λ (f : FunctionTree). f.id) q.functions) && are_rising 0 (map (λ (g : GlobalTree). g.id) q.globals))
    (chosen_rise (λ (s : ℕ × Signature). s.0) (λ (s : ℕ × Signature). signed s.0) 0 0 p.signatures (omega arith) (both_hold_first (are_rising 0 (map (λ (s : ℕ × Signature). s.0) p.signatures)) (are_rising 0 (map (λ (f : FunctionTree). f.id) p.functions) && are_rising 0 (map (λ (g : GlobalTree). g.id) p.globals)) facts.order))
    (both_hold (are_rising 0 (map (λ (f : FunctionTree). f.id) q.functions)) (are_rising 0 (map (λ (g : GlobalTree). g.id) q.globals))
    (chosen_rise (λ (f : FunctionTree). f.id) (λ (f : FunctionTree). kept f.id) 0 0 p.functions (omega arith) (both_hold_first (are_rising 0 (map (λ (f : FunctionTree). f.id) p.functions)) (are_rising 0 (map (λ (g : GlobalTree). g.id) p.globals)) rise))
    (chosen_rise (λ (g : GlobalTree). g.id) (λ (g : GlobalTree). owned g.id) 0 0 p.globals (omega arith) (both_hold_second (are_rising 0 (map (λ (f : FunctionTree). f.id) p.functions)) (are_rising 0 (map (λ (g : GlobalTree). g.id) p.globals)) rise))))
    facts.structs)
    (both_hold (list_all (global_fits q.structs) q.globals && are_small q.globals) ((list_all (λ (s : ℕ × Signature). signature_fits q.structs s.1) q.signatures && list_all (function_fits false q) q.functions) && list_all (callee_fits false q) (callees q))
    (both_hold (list_all (global_fits q.structs) q.globals) (are_small q.globals) (all_chosen (global_fits p.structs) (λ (g : GlobalTree). owned g.id) p.globals facts.globals) (small_part owned p.globals facts.small))
    (both_hold (list_all (λ (s : ℕ × Signature). signature_fits q.structs s.1) q.signatures && list_all (function_fits false q) q.functions) (list_all (callee_fits false q) (callees q))
    (both_hold (list_all (λ (s : ℕ × Signature). signature_fits q.structs s.1) q.signatures) (list_all (function_fits false q) q.functions)
    (all_chosen (λ (s : ℕ × Signature). signature_fits p.structs s.1) (λ (s : ℕ × Signature). signed s.0) p.signatures facts.signatures) (functions_kept p signed kept owned p.functions hold facts.functions))
    (calls_kept false p signed kept owned sound hold)))

-- ---- main

-- main is in the part
abbrev pub HasMain : ProgramTree → (ℕ → Bool) → List FunctionTree → Type 0
HasMain p kept fs = AllByRecursion (λ (f : FunctionTree). is_main_by (signature_at p f.id) ≡ true → kept f.id ≡ true) fs

mains_same : (p : ProgramTree) (signed kept owned : ℕ → Bool) (fs : List FunctionTree) → AllHold false p signed kept owned fs → HasMain p kept fs →
    filter (λ (f : FunctionTree). is_main_by (signature_at (part signed kept owned p) f.id)) (filter (λ (f : FunctionTree). kept f.id) fs) ≡ filter (λ (f : FunctionTree). is_main_by (signature_at p f.id)) fs
mains_same p signed kept owned [] hold main = refl
mains_same p signed kept owned (f ∷ fs) hold main = go (mains_same p signed kept owned fs hold.1 main.1) (kept f.id) refl (is_main_by (signature_at p f.id)) refl
  where
    go : filter (λ (f : FunctionTree). is_main_by (signature_at (part signed kept owned p) f.id)) (filter (λ (f : FunctionTree). kept f.id) fs) ≡ filter (λ (f : FunctionTree). is_main_by (signature_at p f.id)) fs → (b : Bool) → kept f.id ≡ b → (m : Bool) → is_main_by (signature_at p f.id) ≡ m →
        filter (λ (f : FunctionTree). is_main_by (signature_at (part signed kept owned p) f.id)) (cond b (f ∷ filter (λ (f : FunctionTree). kept f.id) fs) (filter (λ (f : FunctionTree). kept f.id) fs))
        ≡ cond m (f ∷ filter (λ (f : FunctionTree). is_main_by (signature_at p f.id)) fs) (filter (λ (f : FunctionTree). is_main_by (signature_at p f.id)) fs)
    go rest true e m is =
        ap (λ (c : Bool). cond c (f ∷ filter (λ (f : FunctionTree). is_main_by (signature_at (part signed kept owned p) f.id)) (filter (λ (f : FunctionTree). kept f.id) fs)) (filter (λ (f : FunctionTree). is_main_by (signature_at (part signed kept owned p) f.id)) (filter (λ (f : FunctionTree). kept f.id) fs)))
        (ap is_main_by (same_signature p signed kept owned f.id (hold.0 e).own) ∙ is)
        ∙ ap (λ (ys : List FunctionTree). cond m (f ∷ ys) ys) rest
    go rest false e true is = false_not_true (sym e ∙ main.0 is)
    go rest false e false is = rest

starts_same : (p : ProgramTree) (signed kept owned : ℕ → Bool) (fs : List FunctionTree) → AllByRecursion (λ (f : FunctionTree). signature_at (part signed kept owned p) f.id ≡ signature_at p f.id) fs → is_only_start (part signed kept owned p) fs ≡ is_only_start p fs
starts_same p signed kept owned [] h = refl
starts_same p signed kept owned (f ∷ []) h = ap starts_by h.0
starts_same p signed kept owned (f ∷ (g ∷ rest)) h = refl

same_starts : (p : ProgramTree) (signed kept owned : ℕ → Bool) (fs : List FunctionTree) → AllHold false p signed kept owned fs → HasMain p kept fs →
    AllByRecursion (λ (f : FunctionTree). is_main_by (signature_at p f.id) ≡ true → signature_at (part signed kept owned p) f.id ≡ signature_at p f.id) fs
same_starts p signed kept owned [] hold main = tt
same_starts p signed kept owned (f ∷ fs) hold main = (λ is. same_signature p signed kept owned f.id (hold.0 (main.0 is)).own, same_starts p signed kept owned fs hold.1 main.1)

pub part_starts : (p : ProgramTree) (signed kept owned : ℕ → Bool) → AllHold false p signed kept owned p.functions → HasMain p kept p.functions → has_main p ≡ true → has_main (part signed kept owned p) ≡ true
part_starts p signed kept owned hold main starts =
    ap (is_only_start (part signed kept owned p)) (mains_same p signed kept owned p.functions hold main)
    ∙ starts_same p signed kept owned (filter (λ (f : FunctionTree). is_main_by (signature_at p f.id)) p.functions)
    (each_chosen (λ (f : FunctionTree). signature_at (part signed kept owned p) f.id ≡ signature_at p f.id) (λ (f : FunctionTree). is_main_by (signature_at p f.id)) p.functions (same_starts p signed kept owned p.functions hold main))
    ∙ starts
