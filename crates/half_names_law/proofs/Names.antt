-- All names of a half's text, and what each means.
use Rattle.std.proofs.Common.{◌≡◌, ◌++◌, ◌∙◌, ◌<◌, ◌+◌, ◌^◌, sym, ap, refl, ℕ, zero, suc, Bool, true, false, List, [], ◌∷◌, length, map, Option, Some, None, arith}
use Rattle.std.specs.Prelude.{nat_lt, slice_get, option_map, if◌then◌else◌}
use Rattle.std.specs.List.{list_all}
use Rattle.pt_tree.specs.declared.signature.Signature.{Signature}
use Rattle.typed_tree.specs.WellFormed.{are_distinct, are_rising}
use Rattle.check_declarations.specs.NameTables.{number_of, value_at}
use Rattle.check_expressions.specs.declared.meaning.Callable.{Callable}
use Rattle.check_expressions.specs.declared.meaning.Meaning.{Meaning}
use Rattle.check_expressions.specs.declared.meaning.Meaning.TheVariants.{Function, Global}
use Rattle.check_expressions.specs.declared.meaning.Object.{Object}
use Rattle.check_expressions.specs.Environment.{Env, Scope}
use Rattle.pt_core.specs.CodeTree.{GlobalTree, ProgramTree}
use Rattle.pt_core.specs.WellFormed.{function_at, with_own}
use Rattle.half_trees.specs.Names.{global_name, function_by}
use Rattle.half_meaning_law.specs.Known.{function_id, global_id, object_as}
use Rattle.std.specs.Str.{bytes_eq}
use Rattle.std.proofs.lemmas.Bool.Decides.{nat_tests}
use Rattle.pt_base.proofs.Lists.{bytes_eq_same}
use Rattle.pt_base.proofs.Members.{all_true_at}
use Rattle.pt_base.proofs.Places.{get_after, get_before, get_below_length, get_mapped}
use Rattle.half_names_law.proofs.Tables.{sought, one_place, listed, listed_at, listed_back, listed_length, found, sought_first, sought_none}
use Rattle.half_names_law.proofs.TextNames.{no_global, same_global}
use Rattle.half_names_law.proofs.Numbers.{once_there}
use Rattle.half_names_law.proofs.Heads.{callable_as, file_env}
use Rattle.half_names_law.proofs.Prototypes.{marked_param}

-- ---- what the half declares

-- what the half's own prototype says
abbrev pub own : Bool → ProgramTree → ℕ × Signature → Signature
own monitor p s = with_own monitor (function_at p s.0) s.1

abbrev pub text_name : ℕ × Signature → List ℕ
text_name s = function_by s.0 (Some s.1)

abbrev pub callable_in : Bool → ProgramTree → ℕ × Signature → Callable
callable_in monitor p s = callable_as (text_name s) (own monitor p s).result (map marked_param (own monitor p s).params)

abbrev pub function_entry : ℕ → ℕ × Signature → List ℕ × Meaning
function_entry k s = (text_name s, Function (function_id k))

abbrev pub global_entry : ℕ → GlobalTree → List ℕ × Meaning
global_entry k g = (global_name g.id, Global (global_id k))

abbrev pub global_object : GlobalTree → Object
global_object g = object_as g.var.ty

abbrev pub functions_file : List (ℕ × Signature) → Scope
functions_file signatures = listed function_entry 0 signatures

abbrev pub globals_file : List GlobalTree → Scope
globals_file globals = listed global_entry 0 globals

abbrev pub half_file : ProgramTree → Scope
half_file p = functions_file p.signatures ++ globals_file p.globals

-- what names mean at the half's functions
abbrev pub half_env : Bool → ProgramTree → Env
half_env monitor p = file_env (half_file p) (map (callable_in monitor p) p.signatures) (map global_object p.globals)

-- ---- no name stands twice

abbrev pub FunctionsApart : List (ℕ × Signature) → Type 0
FunctionsApart xs = (j k : ℕ) (a b : ℕ × Signature) → slice_get xs j ≡ Some a → slice_get xs k ≡ Some b → text_name a ≡ text_name b → j ≡ k

abbrev pub GlobalsApart : List GlobalTree → Type 0
GlobalsApart xs = (j k : ℕ) (a b : GlobalTree) → slice_get xs j ≡ Some a → slice_get xs k ≡ Some b → global_name a.id ≡ global_name b.id → j ≡ k

pub functions_apart : (xs : List (ℕ × Signature)) → are_distinct (map text_name xs) ≡ true → FunctionsApart xs
functions_apart xs h j k a b p q same = one_place (map text_name xs) j k (text_name a) h (get_mapped text_name xs j a p) (get_mapped text_name xs k b q ∙ ap Some (sym same))

pub globals_apart : (xs : List GlobalTree) → are_rising 0 (map (λ g. g.id) xs) ≡ true → list_all (λ g. nat_lt g.id (2 ^ 64)) xs ≡ true → GlobalsApart xs
globals_apart xs rise small j k a b p q same =
    let equal : a.id ≡ b.id = same_global a.id b.id (low a.id (all_true_at (λ g. nat_lt g.id (2 ^ 64)) xs j a small p)) (low b.id (all_true_at (λ g. nat_lt g.id (2 ^ 64)) xs k b small q)) same in
    once_there 0 (map (λ g. g.id) xs) j k a.id rise (get_mapped (λ g. g.id) xs j a p) (get_mapped (λ g. g.id) xs k b q ∙ ap Some (sym equal))
  where
    low : (n : ℕ) → nat_lt n (2 ^ 64) ≡ true → n < 2 ^ 64
    low n h = grind (arith, nat_tests, h)

-- ---- what each name means

-- what holds of the parts of a list
pub joined_each : {A : Type 0} (P : A → Type 0) (xs ys : List A) → ((j : ℕ) (x : A) → slice_get xs j ≡ Some x → P x) → ((j : ℕ) (x : A) → slice_get ys j ≡ Some x → P x) → (j : ℕ) (x : A) → slice_get (xs ++ ys) j ≡ Some x → P x
joined_each P [] ys left right j x h = right j x h
joined_each P (z ∷ zs) ys left right zero x h = left 0 x h
joined_each P (z ∷ zs) ys left right (suc j) x h = joined_each P zs ys (λ k y e. left (suc k) y e) right j x h

-- a name that only a later part has
sought_behind : {X : Type 0} (t u : List (List ℕ × X)) (n : List ℕ) (k : ℕ) → ((j : ℕ) (x : List ℕ × X) → slice_get t j ≡ Some x → n ≡ x.0 → ⊥) → sought u n ≡ Some k → sought (t ++ u) n ≡ Some (length t + k)
sought_behind [] u n k none h = h ∙ ap Some (omega arith)
sought_behind (x ∷ t) u n k none h = go (bytes_eq n x.0) refl (sought_behind t u n k (λ j y e. none (suc j) y e) h)
  where
    go : (b : Bool) → bytes_eq n x.0 ≡ b → sought (t ++ u) n ≡ Some (length t + k) → (if b then Some 0 else option_map suc (sought (t ++ u) n)) ≡ Some (suc (length t) + k)
    go true is again = absurd (none 0 x refl (bytes_eq_same n x.0 is))
    go false is again = ap (option_map suc) again ∙ ap Some (omega arith)

sought_before : {X : Type 0} (t u : List (List ℕ × X)) (n : List ℕ) (k : ℕ) → sought t n ≡ Some k → sought (t ++ u) n ≡ Some k
sought_before [] u n k h = cc
sought_before (x ∷ t) u n k h = go (bytes_eq n x.0) (sought t n) refl (λ j e. sought_before t u n j e) h
  where
    inner : (o p : Option ℕ) → ((j : ℕ) → o ≡ Some j → p ≡ Some j) → option_map suc o ≡ Some k → option_map suc p ≡ Some k
    inner None p again e = cc
    inner (Some j) p again e = ap (option_map suc) (again j refl) ∙ e

    go : (b : Bool) (o : Option ℕ) → sought t n ≡ o → ((j : ℕ) → sought t n ≡ Some j → sought (t ++ u) n ≡ Some j) → (if b then Some 0 else option_map suc (sought t n)) ≡ Some k → (if b then Some 0 else option_map suc (sought (t ++ u) n)) ≡ Some k
    go true o is again e = e
    go false o is again e = inner (sought t n) (sought (t ++ u) n) again e

-- ---- what each name means

-- a function, with the place of its prototype
pub function_found : (fs : List (ℕ × Signature)) (gs : List GlobalTree) (k : ℕ) (s : ℕ × Signature) → FunctionsApart fs → slice_get fs k ≡ Some s → number_of (functions_file fs ++ globals_file gs) (text_name s) ≡ Some k
function_found fs gs k s apart there =
    let entry : slice_get (functions_file fs) k ≡ Some (function_entry k s) = listed_at function_entry 0 k k fs (omega arith) ∙ ap (option_map (function_entry k)) there in
    found (functions_file fs ++ globals_file gs) (text_name s)
    ∙ sought_before (functions_file fs) (globals_file gs) (text_name s) k
    (sought_first (functions_file fs) k (function_entry k s) entry
    (λ j y less at same. let back = listed_back function_entry 0 j fs y at in
    let equal = apart k j s back.0 there back.1 (same ∙ ap (λ z. z.0) back.2) in omega (arith, less, equal)))

pub function_meant : (fs : List (ℕ × Signature)) (gs : List GlobalTree) (k : ℕ) (s : ℕ × Signature) → slice_get fs k ≡ Some s → value_at (functions_file fs ++ globals_file gs) k ≡ Some (Function (function_id k))
function_meant fs gs k s there =
    let entry : slice_get (functions_file fs) k ≡ Some (function_entry k s) = listed_at function_entry 0 k k fs (omega arith) ∙ ap (option_map (function_entry k)) there in
    let long = listed_length function_entry 0 fs in
    let low = get_below_length fs k s there in
    ap (option_map (λ e. e.1)) (get_before (functions_file fs) (globals_file gs) k (omega (arith, low, long)) ∙ entry)

-- a global, with its place behind the functions
pub global_found : (fs : List (ℕ × Signature)) (gs : List GlobalTree) (k : ℕ) (g : GlobalTree) → GlobalsApart gs → slice_get gs k ≡ Some g → number_of (functions_file fs ++ globals_file gs) (global_name g.id) ≡ Some (length fs + k)
global_found fs gs k g apart there =
    let entry : slice_get (globals_file gs) k ≡ Some (global_entry k g) = listed_at global_entry 0 k k gs (omega arith) ∙ ap (option_map (global_entry k)) there in
    found (functions_file fs ++ globals_file gs) (global_name g.id)
    ∙ sought_behind (functions_file fs) (globals_file gs) (global_name g.id) k
    (λ j x at same. let back = listed_back function_entry 0 j fs x at in no_global back.0.0 back.0.1 g.id (sym (same ∙ ap (λ z. z.0) back.2)))
    (sought_first (globals_file gs) k (global_entry k g) entry
    (λ j y less at same. let back = listed_back global_entry 0 j gs y at in
    let equal = apart k j g back.0 there back.1 (same ∙ ap (λ z. z.0) back.2) in omega (arith, less, equal)))
    ∙ ap (λ n. Some (n + k)) (listed_length function_entry 0 fs)

pub global_meant : (fs : List (ℕ × Signature)) (gs : List GlobalTree) (k : ℕ) (g : GlobalTree) → slice_get gs k ≡ Some g → value_at (functions_file fs ++ globals_file gs) (length fs + k) ≡ Some (Global (global_id k))
global_meant fs gs k g there =
    let entry : slice_get (globals_file gs) k ≡ Some (global_entry k g) = listed_at global_entry 0 k k gs (omega arith) ∙ ap (option_map (global_entry k)) there in
    ap (λ n. value_at (functions_file fs ++ globals_file gs) (n + k)) (sym (listed_length function_entry 0 fs))
    ∙ ap (option_map (λ e. e.1)) (get_after (functions_file fs) (globals_file gs) k ∙ entry)

-- a name that is new to the functions, and one that is new to the globals behind them
pub function_new : (fs : List (ℕ × Signature)) (name : List ℕ) → ((j : ℕ) (a : ℕ × Signature) → slice_get fs j ≡ Some a → name ≡ text_name a → ⊥) → number_of (functions_file fs) name ≡ None
function_new fs name none =
    found (functions_file fs) name
    ∙ sought_none (functions_file fs) name (λ j x at same. let back = listed_back function_entry 0 j fs x at in none j back.0 back.1 (same ∙ ap (λ z. z.0) back.2))

pub global_new : (fs : List (ℕ × Signature)) (gs : List GlobalTree) (g : ℕ) → ((j : ℕ) (a : GlobalTree) → slice_get gs j ≡ Some a → global_name g ≡ global_name a.id → ⊥) → number_of (functions_file fs ++ globals_file gs) (global_name g) ≡ None
global_new fs gs g none =
    found (functions_file fs ++ globals_file gs) (global_name g)
    ∙ sought_none (functions_file fs ++ globals_file gs) (global_name g)
    (joined_each (λ x. global_name g ≡ x.0 → ⊥) (functions_file fs) (globals_file gs)
    (λ j x at same. let back = listed_back function_entry 0 j fs x at in no_global back.0.0 back.0.1 g (sym (same ∙ ap (λ z. z.0) back.2)))
    (λ j x at same. let back = listed_back global_entry 0 j gs x at in none j back.0 back.1 (same ∙ ap (λ z. z.0) back.2)))
