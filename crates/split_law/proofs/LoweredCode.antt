-- The code of the lowering: what its numbers find, and which part of it has all that it names.
use Rattle.std.proofs.Common.{◌≡◌, ◌∙◌, ◌<◌, ℕ, zero, suc, ◌+◌, refl, ap, sym, subst, arith, Bool, true, false, not, Option, Some, None, List, [], ◌∷◌, ◌++◌, length, map}
use Rattle.std.specs.Prelude.{◌&&◌, nat_eq, nat_le, slice_get, is_some, option_map}
use Rattle.std.specs.List.{Contains, list_all, find, AllByRecursion}
use Rattle.std.specs.Map.{lookup}
use Rattle.pt_base.specs.declared.ids.FnId.{FnId}
use Rattle.pt_base.specs.declared.ids.GlobalId.{GlobalId}
use Rattle.pt_base.proofs.Booleans.{both_hold_first, both_hold_second, cond_false, cond_true, false_not_true}
use Rattle.pt_base.proofs.Members.{contains_first, contains_later}
use Rattle.pt_base.proofs.Numbers.{as_zero_plus, nat_eq_plus_suc, nat_eq_plus_zero}
use Rattle.pt_base.proofs.Options.{some_same}
use Rattle.pt_base.proofs.Places.{get_map}
use Rattle.pt_tree.specs.declared.signature.Signature.{Signature}
use Rattle.typed_tree.specs.declared.variable.TypedGlobal.{TypedGlobal}
use Rattle.typed_tree.specs.StatementTree.{BodyTree}
use Rattle.typed_tree.specs.TypedTree.{TypedTree, FunctionTree, signatures_of}
use Rattle.typed_tree.specs.WellFormed.{body_sound, function_sound, is_integer_param, params_lead, variable_sound}
use Rattle.reach.specs.Contexts.{Calls, callees_in, globals_in}
use Rattle.reach.proofs.ListLemmas.{contains_filter, contains_flat, from_map}
use Rattle.pt_core.specs.CodeTree as core
use Rattle.pt_core.specs.CodeTree.{GlobalTree}
use Rattle.pt_core.specs.WellFormedStatement.{callees_of}
use Rattle.pt_core.specs.WellFormed.{function_at, signature_at}
use Rattle.lowering.specs.Functions.{code_if, core_of, core_program, functions_from, globals_from, signatures_from}
use Rattle.lowered_code_law.specs.NamesLaws.{LoweredNames}
use Rattle.lowered_code_law.proofs.FormsLists.{found_signature}
use Rattle.splitter.specs.Halves.{called_by, chosen_functions}
use Rattle.split_law.proofs.Parts.{AllHold, Holds, entry}

-- ---- signatures

signature_here : (t : TypedTree) (n : ℕ) → signature_at (core_program t) n ≡ option_map (λ (f : FunctionTree). f.signature) (slice_get t.functions n)
signature_here t n = found_signature n 0 n (signatures_of t) (as_zero_plus n) ∙ get_map (λ (f : FunctionTree). f.signature) t.functions n

-- the function that a signature is of
pub function_of_signature : (t : TypedTree) (n : ℕ) (s : Signature) → signature_at (core_program t) n ≡ Some s → (f : FunctionTree) × (slice_get t.functions n ≡ Some f) × (f.signature ≡ s)
function_of_signature t n s h = go (slice_get t.functions n) refl (sym (signature_here t n) ∙ h)
  where
    go : (o : Option FunctionTree) → slice_get t.functions n ≡ o → option_map (λ (f : FunctionTree). f.signature) o ≡ Some s → (f : FunctionTree) × (slice_get t.functions n ≡ Some f) × (f.signature ≡ s)
    go None is e = cc
    go (Some f) is e = (f, is, some_same f.signature s e)

-- ---- functions

-- a function that has a body is among the code's
found_function : (t : TypedTree) (m n k : ℕ) (fs : List FunctionTree) (f : FunctionTree) (b : BodyTree) → m ≡ n + k → slice_get fs k ≡ Some f → f.body ≡ Some b → find (λ (g : core.FunctionTree). nat_eq m g.id) (functions_from t n fs) ≡ Some (core_of t m f b)
found_function t m n k [] f b h is body = cc
found_function t m n zero (g ∷ gs) f b h is body =
    ap (λ (o : Option BodyTree). find (λ (c : core.FunctionTree). nat_eq m c.id) (code_if t n g o ++ functions_from t (suc n) gs)) (ap (λ (z : FunctionTree). z.body) (some_same g f is) ∙ body)
    ∙ cond_true (nat_eq m n) (Some (core_of t n g b)) (find (λ (c : core.FunctionTree). nat_eq m c.id) (functions_from t (suc n) gs)) (nat_eq_plus_zero m n h)
    ∙ ap (λ (j : ℕ). Some (core_of t j g b)) (plain m n h)
    ∙ ap (λ (z : FunctionTree). Some (core_of t m z b)) (some_same g f is)
  where
    plain : (m n : ℕ) → m ≡ n + 0 → n ≡ m
    plain m n h = omega (arith, h)
found_function t m n (suc k) (g ∷ gs) f b h is body = go (found_function t m (suc n) k gs f b (omega (arith, h)) is body) g.body
  where
    go : find (λ (c : core.FunctionTree). nat_eq m c.id) (functions_from t (suc n) gs) ≡ Some (core_of t m f b) → (o : Option BodyTree) → find (λ (c : core.FunctionTree). nat_eq m c.id) (code_if t n g o ++ functions_from t (suc n) gs) ≡ Some (core_of t m f b)
    go rest None = rest
    go rest (Some y) = cond_false (nat_eq m n) (Some (core_of t n g y)) (find (λ (c : core.FunctionTree). nat_eq m c.id) (functions_from t (suc n) gs)) (nat_eq_plus_suc m n k h) ∙ rest

pub code_found : (t : TypedTree) (n : ℕ) (f : FunctionTree) (b : BodyTree) → slice_get t.functions n ≡ Some f → f.body ≡ Some b → function_at (core_program t) n ≡ Some (core_of t n f b)
code_found t n f b is body = found_function t n 0 n t.functions f b (as_zero_plus n) is body

-- these are the functions of the program from number n on
abbrev Listed : TypedTree → ℕ → List FunctionTree → Type 0
Listed t n fs = (k : ℕ) (f : FunctionTree) → slice_get fs k ≡ Some f → slice_get t.functions (n + k) ≡ Some f

others_listed : (t : TypedTree) (n : ℕ) (f : FunctionTree) (fs : List FunctionTree) → Listed t n (f ∷ fs) → Listed t (suc n) fs
others_listed t n f fs h k g is = subst (λ (m : ℕ). slice_get t.functions m ≡ Some g) (next n k) (h (suc k) g is)
  where
    next : (n k : ℕ) → n + suc k ≡ suc n + k
    next n k = omega arith

first_listed : (t : TypedTree) (n : ℕ) (f : FunctionTree) (fs : List FunctionTree) → Listed t n (f ∷ fs) → slice_get t.functions n ≡ Some f
first_listed t n f fs h = subst (λ (m : ℕ). slice_get t.functions m ≡ Some f) (plain n) (h 0 f refl)
  where
    plain : (n : ℕ) → n + 0 ≡ n
    plain n = omega arith

whole_listed : (t : TypedTree) → Listed t 0 t.functions
whole_listed t k f is = subst (λ (m : ℕ). slice_get t.functions m ≡ Some f) (as_zero_plus k) is

-- what holds of the code of each function that has a body
code_each : (P : core.FunctionTree → Type 0) (t : TypedTree) (n : ℕ) (fs : List FunctionTree) → Listed t n fs → ((k : ℕ) (f : FunctionTree) (b : BodyTree) → slice_get t.functions k ≡ Some f → f.body ≡ Some b → P (core_of t k f b)) →
    AllByRecursion P (functions_from t n fs)
code_each P t n [] h each = tt
code_each P t n (f ∷ fs) h each = go (code_each P t (suc n) fs (others_listed t n f fs h) each) f.body refl
  where
    go : AllByRecursion P (functions_from t (suc n) fs) → (o : Option BodyTree) → f.body ≡ o → AllByRecursion P (code_if t n f o ++ functions_from t (suc n) fs)
    go rest None e = rest
    go rest (Some b) e = (each n f b (first_listed t n f fs h) e, rest)

pub all_code : (P : core.FunctionTree → Type 0) (t : TypedTree) → ((k : ℕ) (f : FunctionTree) (b : BodyTree) → slice_get t.functions k ≡ Some f → f.body ≡ Some b → P (core_of t k f b)) → AllByRecursion P (functions_from t 0 t.functions)
all_code P t each = code_each P t 0 t.functions (whole_listed t) each

-- what holds of each signature
signatures_each : (P : ℕ × Signature → Type 0) (t : TypedTree) (n : ℕ) (fs : List FunctionTree) → Listed t n fs → ((k : ℕ) (f : FunctionTree) → slice_get t.functions k ≡ Some f → P (k, f.signature)) → AllByRecursion P (signatures_from n (map (λ (f : FunctionTree). f.signature) fs))
signatures_each P t n [] h each = tt
signatures_each P t n (f ∷ fs) h each = (each n f (first_listed t n f fs h), signatures_each P t (suc n) fs (others_listed t n f fs h) each)

pub all_signatures : (P : ℕ × Signature → Type 0) (t : TypedTree) → ((k : ℕ) (f : FunctionTree) → slice_get t.functions k ≡ Some f → P (k, f.signature)) → AllByRecursion P (signatures_from 0 (signatures_of t))
all_signatures P t each = signatures_each P t 0 t.functions (whole_listed t) each

-- ---- members

code_has : (t : TypedTree) (m n k : ℕ) (fs : List FunctionTree) (f : FunctionTree) (b : BodyTree) → m ≡ n + k → slice_get fs k ≡ Some f → f.body ≡ Some b → Contains (functions_from t n fs) (core_of t m f b)
code_has t m n k [] f b h is body = cc
code_has t m n zero (g ∷ gs) f b h is body =
    subst (λ (c : core.FunctionTree). Contains (functions_from t n (g ∷ gs)) c) (ap (λ (j : ℕ). core_of t j g b) (plain m n h) ∙ ap (λ (z : FunctionTree). core_of t m z b) (some_same g f is))
    (subst (λ (o : Option BodyTree). Contains (code_if t n g o ++ functions_from t (suc n) gs) (core_of t n g b)) (sym (ap (λ (z : FunctionTree). z.body) (some_same g f is) ∙ body)) (contains_first (core_of t n g b) (functions_from t (suc n) gs)))
  where
    plain : (m n : ℕ) → m ≡ n + 0 → n ≡ m
    plain m n h = omega (arith, h)
code_has t m n (suc k) (g ∷ gs) f b h is body = go (code_has t m (suc n) k gs f b (omega (arith, h)) is body) g.body
  where
    go : Contains (functions_from t (suc n) gs) (core_of t m f b) → (o : Option BodyTree) → Contains (code_if t n g o ++ functions_from t (suc n) gs) (core_of t m f b)
    go rest None = rest
    go rest (Some y) = contains_later (core_of t n g y) (functions_from t (suc n) gs) (core_of t m f b) rest

signatures_have : (m n k : ℕ) (fs : List FunctionTree) (f : FunctionTree) → m ≡ n + k → slice_get fs k ≡ Some f → Contains (signatures_from n (map (λ (f : FunctionTree). f.signature) fs)) (m, f.signature)
signatures_have m n k [] f h is = cc
signatures_have m n zero (g ∷ gs) f h is =
    subst (λ (s : ℕ × Signature). Contains (signatures_from n (map (λ (f : FunctionTree). f.signature) (g ∷ gs))) s) (ap (λ (j : ℕ). (j, g.signature)) (plain m n h) ∙ ap (λ (z : FunctionTree). (m, z.signature)) (some_same g f is))
    (contains_first (n, g.signature) (signatures_from (suc n) (map (λ (f : FunctionTree). f.signature) gs)))
  where
    plain : (m n : ℕ) → m ≡ n + 0 → n ≡ m
    plain m n h = omega (arith, h)
signatures_have m n (suc k) (g ∷ gs) f h is = contains_later (n, g.signature) (signatures_from (suc n) (map (λ (f : FunctionTree). f.signature) gs)) (m, f.signature) (signatures_have m (suc n) k gs f (omega (arith, h)) is)

pub signature_listed : (t : TypedTree) (n : ℕ) (f : FunctionTree) → slice_get t.functions n ≡ Some f → Contains (signatures_from 0 (signatures_of t)) (n, f.signature)
signature_listed t n f is = signatures_have n 0 n t.functions f (as_zero_plus n) is

-- ---- globals

found_global : (m n k : ℕ) (gs : List TypedGlobal) → m ≡ n + k → lookup (nat_eq m) (map entry (globals_from n gs)) ≡ option_map (λ (y : TypedGlobal). y.var.ty) (slice_get gs k)
found_global m n k [] h = refl
found_global m n zero (g ∷ gs) h = cond_true (nat_eq m n) (Some g.var.ty) (lookup (nat_eq m) (map entry (globals_from (suc n) gs))) (nat_eq_plus_zero m n h)
found_global m n (suc k) (g ∷ gs) h = cond_false (nat_eq m n) (Some g.var.ty) (lookup (nat_eq m) (map entry (globals_from (suc n) gs))) (nat_eq_plus_suc m n k h) ∙ found_global m (suc n) k gs (omega (arith, h))

in_list : {A B : Type 0} (f : A → B) (xs : List A) (k : ℕ) → is_some (option_map f (slice_get xs k)) ≡ true → k < length xs
in_list f [] k h = cc
in_list f (x ∷ xs) zero h = omega arith
in_list f (x ∷ xs) (suc k) h = let rest = in_list f xs k h in omega (arith, rest)

global_there : (t : TypedTree) (n : ℕ) → is_some (lookup (nat_eq n) (map entry (globals_from 0 t.globals))) ≡ true → n < length t.globals
global_there t n h = in_list (λ (y : TypedGlobal). y.var.ty) t.globals n (ap is_some (sym (found_global n 0 n t.globals (as_zero_plus n))) ∙ h)

-- ---- bodies

-- what is no host has a body
pub body_there : (t : TypedTree) (f : FunctionTree) → function_sound t f ≡ true → f.signature.host ≡ false → (b : BodyTree) × (f.body ≡ Some b)
body_there t f sound plain = go f.body refl
    (both_hold_second (list_all (variable_sound t.structs) f.vars) (body_sound t f f.body) (both_hold_second (nat_le (length f.signature.params) 8 && params_lead f.signature.params f.vars) (list_all (variable_sound t.structs) f.vars && body_sound t f f.body) sound))
  where
    go : (o : Option BodyTree) → f.body ≡ o → body_sound t f o ≡ true → (b : BodyTree) × (f.body ≡ Some b)
    go None is e = false_not_true (sym plain ∙ both_hold_first f.signature.host (list_all is_integer_param f.signature.params && nat_eq (length f.vars) (length f.signature.params)) e)
    go (Some b) is e = (b, is)

pub sound_at : (t : TypedTree) (fs : List FunctionTree) (k : ℕ) (f : FunctionTree) → list_all (function_sound t) fs ≡ true → slice_get fs k ≡ Some f → function_sound t f ≡ true
sound_at t [] k f h is = cc
sound_at t (g ∷ gs) zero f h is = subst (λ (z : FunctionTree). function_sound t z ≡ true) (some_same g f is) (both_hold_first (function_sound t g) (list_all (function_sound t) gs) h)
sound_at t (g ∷ gs) (suc k) f h is = sound_at t gs k f (both_hold_second (function_sound t g) (list_all (function_sound t) gs) h) is

-- ---- halves

-- What a half has, by number: of the functions that are kept, the signatures, what their code calls, and
-- the globals that it names.
pub record Keeps (monitor : Bool) (t : TypedTree) (signed kept owned : ℕ → Bool) : Type 0 where
  pub own : (n : ℕ) → kept n ≡ true → signed n ≡ true
  pub called : (n : ℕ) → Contains (called_by (chosen_functions kept (functions_from t 0 t.functions))) n → signed n ≡ true
  pub calls : (k n : ℕ) (f : FunctionTree) → kept k ≡ true → Calls t (record { 0 = k }) (record { 0 = n }) → slice_get t.functions n ≡ Some f → is_some f.body ≡ true → (f.signature.privileged && not monitor) ≡ false → kept n ≡ true
  pub names : (k n : ℕ) → kept k ≡ true → Contains (globals_in t (record { 0 = k })) (record { 0 = n }) → n < length t.globals → owned n ≡ true

abbrev function_id : ℕ → FnId
function_id n = record { 0 = n }

abbrev global_id : ℕ → GlobalId
global_id n = record { 0 = n }

named_there : (gs : List GlobalId) (n : ℕ) → Contains (map (λ (x : GlobalId). x.0) gs) n → Contains gs (record { 0 = n })
named_there gs n h =
    let at = from_map (λ (x : GlobalId). x.0) gs n h in
    let same : at.0 ≡ global_id n = ap global_id at.2 in
    subst (λ (x : GlobalId). Contains gs x) same at.1

called_there : (fs : List FnId) (n : ℕ) → Contains (map (λ (x : FnId). x.0) fs) n → Contains fs (record { 0 = n })
called_there fs n h =
    let at = from_map (λ (x : FnId). x.0) fs n h in
    let same : at.0 ≡ function_id n = ap function_id at.2 in
    subst (λ (x : FnId). Contains fs x) same at.1

holds_at : LoweredNames → (monitor : Bool) (t : TypedTree) (signed kept owned : ℕ → Bool) → list_all (function_sound t) t.functions ≡ true → Keeps monitor t signed kept owned → (k : ℕ) (f : FunctionTree) (b : BodyTree) → slice_get t.functions k ≡ Some f → f.body ≡ Some b → kept k ≡ true →
    Holds monitor (core_program t) signed kept owned (core_of t k f b)
holds_at law monitor t signed kept owned sound keeps k f b is body here = record {
  own = keeps.own k here;
  names = λ n c there. keeps.names k n here (named_there (globals_in t (record { 0 = k })) n ((law t k f b is body).0 n c)) (global_there t n there);
  called = λ n c. keeps.called n
      (contains_flat (λ (g : core.FunctionTree). callees_of g.body) (chosen_functions kept (functions_from t 0 t.functions)) (core_of t k f b) n
      (contains_filter (λ (g : core.FunctionTree). kept g.id) (functions_from t 0 t.functions) (core_of t k f b) (code_has t k 0 k t.functions f b (as_zero_plus k) is body) here) c);
  calls = λ n s c at host own. reaches n s at host own (called_there (callees_in t (record { 0 = k })) n ((law t k f b is body).1 n c));
}
  where
    reaches : (n : ℕ) (s : Signature) → signature_at (core_program t) n ≡ Some s → s.host ≡ false → (s.privileged && not monitor) ≡ false → Calls t (record { 0 = k }) (record { 0 = n }) → (kept n ≡ true) × (is_some (function_at (core_program t) n) ≡ true)
    reaches n s at host own call =
        let g = function_of_signature t n s at in
        let there = body_there t g.0 (sound_at t t.functions n g.0 sound g.1) (ap (λ (z : Signature). z.host) g.2 ∙ host) in
        (keeps.calls k n g.0 here call g.1 (ap is_some there.1) (ap (λ (z : Signature). z.privileged && not monitor) g.2 ∙ own), ap is_some (code_found t n g.0 there.0 g.1 there.1))

pub all_hold : LoweredNames → (monitor : Bool) (t : TypedTree) (signed kept owned : ℕ → Bool) → list_all (function_sound t) t.functions ≡ true → Keeps monitor t signed kept owned → AllHold monitor (core_program t) signed kept owned (functions_from t 0 t.functions)
all_hold law monitor t signed kept owned sound keeps =
    all_code (λ (c : core.FunctionTree). kept c.id ≡ true → Holds monitor (core_program t) signed kept owned c) t (λ k f b is body here. holds_at law monitor t signed kept owned sound keeps k f b is body here)
