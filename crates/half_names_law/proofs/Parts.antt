-- The parts of a function of a half: its parameters, which its prototype has too, and the variables behind them.
use Rattle.std.proofs.Common.{◌≡◌, ◌++◌, ◌∙◌, ◌≤◌, ◌+◌, ◌^◌, sym, ap, refl, ℕ, zero, suc, Bool, true, false, List, [], ◌∷◌, length, map, take, drop, Option, Some, arith, cond}
use Rattle.std.specs.Prelude.{◌&&◌, nat_eq, nat_le, not, slice_get, if◌then◌else◌}
use Rattle.std.specs.List.{find}
use Rattle.std.proofs.lemmas.Bool.Decides.{nat_tests}
use Rattle.std.proofs.lemmas.List.{length-take-le, map-append, take-append-drop}
use Rattle.pt_base.proofs.Booleans.{and_parts}
use Rattle.pt_base.proofs.Numbers.{nat_eq_same}
use Rattle.pt_base.proofs.Places.{get_mapped}
use Rattle.pt_tree.specs.declared.signature.Param.{Param}
use Rattle.pt_tree.specs.declared.signature.Signature.{Signature}
use Rattle.pt_tree.specs.SpecifierTree.{spec_trees}
use Rattle.pt_tree.specs.ProgramTree as parsed
use Rattle.pt_tree.specs.StatementTree.{stmt_trees}
use Rattle.typed_tree.specs.declared.types.StructInfo.{StructInfo}
use Rattle.typed_tree.specs.declared.variable.Var.{Var}
use Rattle.typed_tree.specs.TypeTests.{same_type, same_bool}
use Rattle.typed_tree.specs.WellFormed.{params_lead, are_rising}
use Rattle.typed_tree.specs.WellFormedExpression.{param_type}
use Rattle.check_declarations.specs.Structs.{Structs}
use Rattle.check_expressions.specs.declared.meaning.Variable.{Variable}
use Rattle.check_expressions.specs.Environment.{Env, object_of}
use Rattle.check_statements.specs.declared.context.Context as k
use Rattle.check_statements.specs.Statements.{checked_all}
use Rattle.check_programs.specs.declared.function_marks.FunctionMarks.{FunctionMarks}
use Rattle.pt_core.specs.CodeTree.{FunctionTree, ProgramTree}
use Rattle.pt_core.specs.WellFormed.{signature_at, with_own, counts_fit}
use Rattle.half_trees.specs.Names.{nowhere, local_name, function_by}
use Rattle.half_trees.specs.Declarations.{parameters_or_void, function_declarator}
use Rattle.half_trees.specs.Functions.{is_only_unpriv, parameters_from, locals_from, head_specs, body_tree}
use Rattle.half_meaning_law.specs.Known.{type_as, object_as}
use Rattle.typed_tree.proofs.SameTypes.{equal_types}
use Rattle.half_names_law.specs.Standing.{definition}
use Rattle.half_names_law.proofs.Tables.{Differ, listed}
use Rattle.half_names_law.proofs.Parameters.{Marked, parameter_of, parameter_as, local_entry, names_of, variables_of, parameters_by, scoped}
use Rattle.half_names_law.proofs.Heads.{declaration_by}
use Rattle.half_names_law.proofs.Prototypes.{marked_param}
use Rattle.half_names_law.proofs.Locals.{local_as, LocalsFit, declaration_trees, locals_added}
use Rattle.half_names_law.proofs.Numbers.{once_there}
use Rattle.half_names_law.proofs.Names.{text_name}
use Rattle.half_names_law.proofs.Known.{local_names, AreVariables}

-- ---- the definition

abbrev pub marked_var : Var → Marked
marked_var x = record { ty = x.ty; marked = x.marked; unpriv = is_only_unpriv x; declassify = false }

-- the parameters of a function, and the variables behind them
abbrev pub parameters_in : FunctionTree → List Marked
parameters_in f = map marked_var (take f.params f.vars)

variables_as : (infos : List StructInfo) (n : ℕ) (xs : List Var) → parameters_from infos n xs ≡ parameters_by infos n (map marked_var xs)
variables_as infos n [] = refl
variables_as infos n (x ∷ xs) = ap (λ ps. parameter_of infos n (marked_var x) ∷ ps) (variables_as infos (suc n) xs)

abbrev by_head : ProgramTree → FunctionTree → Option Signature → List parsed.ParamTree → parsed.FunctionTree
by_head p f o ps = record {
  span = nowhere;
  specs = spec_trees (head_specs o);
  declarator = function_declarator (function_by f.id o);
  params = parameters_or_void ps;
  body = Some (body_tree p f);
}

pub definition_is : (p : ProgramTree) (f : FunctionTree) (s : Signature) → signature_at p f.id ≡ Some s → definition p f ≡ declaration_by p.structs (text_name (f.id, s)) s (parameters_in f) (Some (body_tree p f))
definition_is p f s h = λ i. by_head p f (h i) (variables_as p.structs 0 (take f.params f.vars) i)

-- ---- its prototype has the same parameters

-- the function with a number, where numbers rise
pub function_there : (first : ℕ) (fs : List FunctionTree) (n : ℕ) (f : FunctionTree) → are_rising first (map (λ g. g.id) fs) ≡ true → slice_get fs n ≡ Some f → find (λ g. nat_eq f.id g.id) fs ≡ Some f
function_there first [] n f h is = cc
function_there first (g ∷ gs) zero f h is = go (nat_eq f.id g.id) (self f.id g.id (ap (λ x. x.id) (sym (same is)))) ∙ is
  where
    same : Some g ≡ Some f → g ≡ f
    same e = cc

    self : (a b : ℕ) → a ≡ b → nat_eq a b ≡ true
    self a b e = grind (arith, nat_tests, e)

    go : (b : Bool) → b ≡ true → cond b (Some g) (find (λ x. nat_eq f.id x.id) gs) ≡ Some g
    go true e = refl
    go false e = cc
function_there first (g ∷ gs) (suc n) f h is = go (nat_eq f.id g.id) refl (function_there (suc g.id) gs n f (and_parts (nat_le first g.id) (are_rising (suc g.id) (map (λ x. x.id) gs)) h).1 is)
  where
    apart : f.id ≡ g.id → ⊥
    apart e =
        let places = once_there first (map (λ x. x.id) (g ∷ gs)) 0 (suc n) f.id h (ap Some (sym e)) (get_mapped (λ x. x.id) gs n f is) in omega (arith, places)

    go : (b : Bool) → nat_eq f.id g.id ≡ b → find (λ x. nat_eq f.id x.id) gs ≡ Some f → cond b (Some g) (find (λ x. nat_eq f.id x.id) gs) ≡ Some f
    go true e again = absurd (apart (nat_eq_same f.id g.id e))
    go false e again = again

-- the leading variables have the parameters' types
lead_types : (ps : List Param) (xs : List Var) (n : ℕ) → params_lead ps xs ≡ true → length ps ≡ n → map (λ q. type_as q.ty) (map marked_var (take n xs)) ≡ map (λ q. type_as q.ty) (map marked_param ps)
lead_types [] xs zero h long = refl
lead_types [] xs (suc n) h long = absurd (omega (arith, long))
lead_types (p ∷ ps) xs zero h long = absurd (omega (arith, long))
lead_types (p ∷ ps) [] (suc n) h long = cc
lead_types (p ∷ ps) (x ∷ xs) (suc n) h long =
    let parts = and_parts (same_type (param_type p.kind) x.ty && same_bool p.marked x.marked) (params_lead ps xs) h in
    let same = equal_types (param_type p.kind) x.ty (and_parts (same_type (param_type p.kind) x.ty) (same_bool p.marked x.marked) parts.0).0 in
    λ i. type_as (sym same i) ∷ lead_types ps xs n parts.1 (omega (arith, long)) i

take_all : {A : Type 0} (xs : List A) (n : ℕ) → n ≡ length xs → take n xs ≡ xs
take_all [] zero h = refl
take_all [] (suc n) h = refl
take_all (x ∷ xs) zero h = absurd (omega (arith, h))
take_all (x ∷ xs) (suc n) h = ap (λ ys. x ∷ ys) (take_all xs n (omega (arith, h)))

-- what the prototype of a function with a body has
pub own_params : (monitor : Bool) (f : FunctionTree) (s : Signature) → not s.host ≡ true → counts_fit monitor f.params (length s.params) ≡ true → (with_own monitor (Some f) s).params ≡ take f.params s.params
own_params true f s host count = ap (λ b. (if b then record s { params = take f.params s.params } else s).params) host
own_params false f s host count = sym (take_all s.params f.params (nat_eq_same f.params (length s.params) count))

pub own_long : (monitor : Bool) (n all : ℕ) → counts_fit monitor n all ≡ true → n ≤ all
own_long true n all h = grind (arith, nat_tests, h)
own_long false n all h = let same = nat_eq_same n all h in omega (arith, same)

pub own_types : (monitor : Bool) (f : FunctionTree) (s : Signature) → not s.host ≡ true → counts_fit monitor f.params (length s.params) ≡ true → params_lead (take f.params s.params) f.vars ≡ true
    → map (λ q. type_as q.ty) (parameters_in f) ≡ map (λ q. type_as q.ty) (map marked_param (with_own monitor (Some f) s).params)
own_types monitor f s host count lead =
    lead_types (take f.params s.params) f.vars f.params lead (length-take-le f.params s.params (own_long monitor f.params (length s.params) count))
    ∙ ap (λ ps. map (λ q. type_as q.ty) (map marked_param ps)) (sym (own_params monitor f s host count))

lead_long : (ps : List Param) (xs : List Var) → params_lead ps xs ≡ true → length ps ≤ length xs
lead_long [] xs h = omega arith
lead_long (p ∷ ps) [] h = cc
lead_long (p ∷ ps) (x ∷ xs) h = let again = lead_long ps xs (and_parts (same_type (param_type p.kind) x.ty && same_bool p.marked x.marked) (params_lead ps xs) h).1 in omega (arith, again)

-- a function has as many variables as parameters, at least
pub enough : (monitor : Bool) (f : FunctionTree) (s : Signature) → counts_fit monitor f.params (length s.params) ≡ true → params_lead (take f.params s.params) f.vars ≡ true → f.params ≤ length f.vars
enough monitor f s count lead =
    let long = length-take-le f.params s.params (own_long monitor f.params (length s.params) count) in
    let more = lead_long (take f.params s.params) f.vars lead in omega (arith, long, more)

pub few_params : (monitor : Bool) (f : FunctionTree) (s : Signature) → counts_fit monitor f.params (length s.params) ≡ true → length s.params ≤ 8 → f.params ≤ 8
few_params monitor f s count few = let long = own_long monitor f.params (length s.params) count in omega (arith, long, few)

-- ---- its variables

-- the variables of a function, as its definition declares them
abbrev pub half_variables : FunctionMarks → FunctionTree → List Variable
half_variables m f = variables_of m (parameters_in f) ++ listed local_as f.params (drop f.params f.vars)

params_are : (m : FunctionMarks) (n : ℕ) (xs : List Var) → map object_of (listed (parameter_as m) n (map marked_var xs)) ≡ map (λ x. object_as x.ty) xs
params_are m n [] = refl
params_are m n (x ∷ xs) = ap (λ os. object_as x.ty ∷ os) (params_are m (suc n) xs)

locals_are : (n : ℕ) (xs : List Var) → map object_of (listed local_as n xs) ≡ map (λ x. object_as x.ty) xs
locals_are n [] = refl
locals_are n (x ∷ xs) = ap (λ os. object_as x.ty ∷ os) (locals_are (suc n) xs)

pub variables_are : (m : FunctionMarks) (f : FunctionTree) → AreVariables (half_variables m f) f.vars
variables_are m f =
    map-append object_of (variables_of m (parameters_in f)) (listed local_as f.params (drop f.params f.vars))
    ∙ (λ i. params_are m 0 (take f.params f.vars) i ++ locals_are f.params (drop f.params f.vars) i)
    ∙ sym (map-append (λ (x : Var). object_as x.ty) (take f.params f.vars) (drop f.params f.vars))
    ∙ ap (map (λ (x : Var). object_as x.ty)) (take-append-drop f.params f.vars)

names_alike : (n : ℕ) (xs : List Var) → listed local_entry n (map marked_var xs) ≡ listed local_entry n xs
names_alike n [] = refl
names_alike n (x ∷ xs) = ap (λ ns. local_entry n x ∷ ns) (names_alike (suc n) xs)

variables_length : (m : FunctionMarks) (n : ℕ) (xs : List Var) → length (listed (parameter_as m) n (map marked_var xs)) ≡ length xs
variables_length m n [] = refl
variables_length m n (x ∷ xs) = ap suc (variables_length m (suc n) xs)

-- the declarations of the variables behind the parameters
pub locals_declared : (c : k.Context) (env : Env) (m : FunctionMarks) (structs : Structs) (infos : List StructInfo) (next : ℕ) (f : FunctionTree) → LocalsFit structs infos (drop f.params f.vars)
    → f.params ≤ length f.vars → length f.vars ≤ 2 ^ 64 → Differ local_name (2 ^ 64)
    → checked_all c (record { env = scoped env (names_of (parameters_in f)) (variables_of m (parameters_in f)); structs = structs; next = next }) (stmt_trees (locals_from infos f.params (drop f.params f.vars)))
    ≡ record {
      state = record { env = scoped env (local_names f.vars) (half_variables m f); structs = structs; next = next };
      bodies = declaration_trees f.params (drop f.params f.vars);
      trees = [];
      faults = [];
    }
locals_declared c env m structs infos next f fit long small differ =
    let count : length (take f.params f.vars) ≡ f.params = length-take-le f.params f.vars long in
    ap (λ names. checked_all c (record { env = scoped env names (variables_of m (parameters_in f)); structs = structs; next = next }) (stmt_trees (locals_from infos f.params (drop f.params f.vars)))) (names_alike 0 (take f.params f.vars))
    ∙ locals_added c env (take f.params f.vars) (variables_of m (parameters_in f)) structs infos next f.params (drop f.params f.vars) fit (variables_length m 0 (take f.params f.vars) ∙ count) (sym count) (all_small f.params f.vars long small) differ
    ∙ ap (λ xs. record {
      state = record { env = scoped env (local_names xs) (half_variables m f); structs = structs; next = next };
      bodies = declaration_trees f.params (drop f.params f.vars);
      trees = [];
      faults = [];
    }) (take-append-drop f.params f.vars)
  where
    drop_long : (n : ℕ) (xs : List Var) → n ≤ length xs → n + length (drop n xs) ≡ length xs
    drop_long zero xs h = omega arith
    drop_long (suc n) [] h = absurd (omega (arith, h))
    drop_long (suc n) (x ∷ xs) h = let again = drop_long n xs (omega (arith, h)) in omega (arith, again)

    all_small : (n : ℕ) (xs : List Var) → n ≤ length xs → length xs ≤ 2 ^ 64 → n + length (drop n xs) ≤ 2 ^ 64
    all_small n xs h small = let same = drop_long n xs h in omega (arith, same, small)
