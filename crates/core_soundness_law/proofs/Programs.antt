-- What is known of a program that is sound, and of each of its functions.
use Rattle.std.proofs.Common.{◌≡◌, ℕ, zero, suc, nat_eq, refl, ap, sym, subst, arith, Bool, true, false, Option, Some, None, List, [], ◌∷◌, length, map, if◌then◌else◌}
use Rattle.std.specs.Prelude.{IsTrue, ◌&&◌, not, slice_get, is_some, take, unwrap_or}
use Rattle.std.specs.List.{list_all, find}
use Rattle.std.specs.Map.{lookup}
use Rattle.std.proofs.lemmas.Bool.Decides.{nat_tests}
use Rattle.pt_base.proofs.Booleans.{both_hold_first, both_hold_second, false_not_true}
use Rattle.pt_tree.specs.declared.signature.Signature.{Signature}
use Rattle.typed_tree.specs.declared.types.VarTy.{VarTy}
use Rattle.typed_tree.specs.declared.variable.Var.{Var}
use Rattle.typed_tree.specs.WellFormed.{structs_sound, params_lead}
use Rattle.pt_core.specs.CodeTree.{FunctionTree, GlobalTree, ProgramTree}
use Rattle.pt_core.specs.Calls.{signature_in, function_in, no_signature, no_function}
use Rattle.pt_core.specs.WellFormed.{signature_at, function_at, are_in_order, global_fits, are_small, signature_fits, variable_fits, scope_of, counts_fit, function_by, function_fits, callees, callee_fits, is_sound}
use Rattle.pt_core.specs.WellFormedStatement.{stmts_fit}

pub record ProgramFacts (monitor : Bool) (p : ProgramTree) : Type 0 where
  pub order : IsTrue (are_in_order p)
  pub structs : IsTrue (structs_sound p.structs 0 p.structs)
  pub globals : IsTrue (list_all (global_fits p.structs) p.globals)
  pub signatures : IsTrue (list_all (λ s. signature_fits p.structs s.1) p.signatures)
  pub functions : IsTrue (list_all (function_fits monitor p) p.functions)
  pub calls : IsTrue (list_all (callee_fits monitor p) (callees p))

pub facts_of : (monitor : Bool) (p : ProgramTree) → IsTrue (is_sound monitor p) → ProgramFacts monitor p
facts_of monitor p h =
    let a : Bool = are_in_order p && structs_sound p.structs 0 p.structs in
    let b : Bool = list_all (global_fits p.structs) p.globals && are_small p.globals in
    let c : Bool = list_all (λ s. signature_fits p.structs s.1) p.signatures && list_all (function_fits monitor p) p.functions in
    let d : Bool = list_all (callee_fits monitor p) (callees p) in
    let first : IsTrue a = both_hold_first a (b && (c && d)) h in
    let rest : IsTrue (b && (c && d)) = both_hold_second a (b && (c && d)) h in
    let second : IsTrue b = both_hold_first b (c && d) rest in
    let third : IsTrue c = both_hold_first c d (both_hold_second b (c && d) rest) in
    record {
      order = both_hold_first (are_in_order p) (structs_sound p.structs 0 p.structs) first;
      structs = both_hold_second (are_in_order p) (structs_sound p.structs 0 p.structs) first;
      globals = both_hold_first (list_all (global_fits p.structs) p.globals) (are_small p.globals) second;
      signatures = both_hold_first (list_all (λ s. signature_fits p.structs s.1) p.signatures) (list_all (function_fits monitor p) p.functions) third;
      functions = both_hold_second (list_all (λ s. signature_fits p.structs s.1) p.signatures) (list_all (function_fits monitor p) p.functions) third;
      calls = both_hold_second c d (both_hold_second b (c && d) rest);
    }

-- ---- functions

found_fits : (Q : FunctionTree → Bool) (f : ℕ) (fs : List FunctionTree) (g : FunctionTree) → find (λ x. nat_eq f x.id) fs ≡ Some g → IsTrue (list_all Q fs) → IsTrue (Q g) × (f ≡ g.id)
found_fits Q f [] g is h = cc
found_fits Q f (x ∷ xs) g is h = go (λ e. found_fits Q f xs g e (both_hold_second (Q x) (list_all Q xs) h)) (nat_eq f x.id) refl is
  where
    same : Some x ≡ Some g → x ≡ g
    same e = cc

    number : nat_eq f x.id ≡ true → f ≡ x.id
    number t = grind (arith, nat_tests)

    go : (find (λ y. nat_eq f y.id) xs ≡ Some g → IsTrue (Q g) × (f ≡ g.id)) → (b : Bool) → nat_eq f x.id ≡ b → (if b then Some x else find (λ y. nat_eq f y.id) xs) ≡ Some g → IsTrue (Q g) × (f ≡ g.id)
    go more true t e = subst (λ (z : FunctionTree). IsTrue (Q z) × (f ≡ z.id)) (same e) (both_hold_first (Q x) (list_all Q xs) h, number t)
    go more false t e = more e

-- a function of the program: its tree, its signature, and how they fit
pub record FunctionFacts (monitor : Bool) (p : ProgramTree) (f : ℕ) : Type 0 where
  pub tree : FunctionTree
  pub signature : Signature
  pub found : function_at p f ≡ Some tree
  pub signed : signature_at p f ≡ Some signature
  pub tree_is : function_in p f ≡ tree
  pub signature_is : signature_in p f ≡ signature
  pub no_host : IsTrue (not signature.host)
  pub counts : IsTrue (counts_fit monitor tree.params (length signature.params))
  pub leads : IsTrue (params_lead (take tree.params signature.params) tree.vars)
  pub variables : IsTrue (list_all (variable_fits p.structs) tree.vars)
  pub body : IsTrue (stmts_fit (scope_of monitor p tree signature) false tree.body)

function_by_parts : (monitor : Bool) (p : ProgramTree) (f : ℕ) (g : FunctionTree) → function_at p f ≡ Some g → (o : Option Signature) → signature_at p f ≡ o → IsTrue (function_by monitor p g o) → FunctionFacts monitor p f
function_by_parts monitor p f g found None signed h = false_not_true h
function_by_parts monitor p f g found (Some s) signed h =
    let a : Bool = not s.host in
    let b : Bool = counts_fit monitor g.params (length s.params) in
    let c : Bool = params_lead (take g.params s.params) g.vars in
    let d : Bool = list_all (variable_fits p.structs) g.vars in
    let e : Bool = stmts_fit (scope_of monitor p g s) false g.body in
    let first : IsTrue (a && (b && c)) = both_hold_first (a && (b && c)) (d && e) h in
    let second : IsTrue (d && e) = both_hold_second (a && (b && c)) (d && e) h in
    record {
      tree = g;
      signature = s;
      found = found;
      signed = signed;
      tree_is = ap (λ o. unwrap_or o no_function) found;
      signature_is = ap (λ o. unwrap_or o no_signature) signed;
      no_host = both_hold_first a (b && c) first;
      counts = both_hold_first b c (both_hold_second a (b && c) first);
      leads = both_hold_second b c (both_hold_second a (b && c) first);
      variables = both_hold_first d e second;
      body = both_hold_second d e second;
    }

pub function_facts : (monitor : Bool) (p : ProgramTree) → ProgramFacts monitor p → (f : ℕ) → IsTrue (is_some (function_at p f)) → FunctionFacts monitor p f
function_facts monitor p facts f known = go (function_at p f) refl known
  where
    go : (o : Option FunctionTree) → function_at p f ≡ o → IsTrue (is_some o) → FunctionFacts monitor p f
    go None e h = false_not_true h
    go (Some g) e h =
        let fits : IsTrue (function_fits monitor p g) × (f ≡ g.id) = found_fits (function_fits monitor p) f p.functions g e facts.functions in
        function_by_parts monitor p f g e (signature_at p f) refl (subst (λ n. IsTrue (function_by monitor p g (signature_at p n))) (sym fits.1) fits.0)

-- ---- globals

pub record GlobalOf (Q : GlobalTree → Bool) (ty : VarTy) : Type 0 where
  pub of : GlobalTree
  pub fits : IsTrue (Q of)
  pub typed : of.var.ty ≡ ty

pub global_of : (Q : GlobalTree → Bool) (g : ℕ) (gs : List GlobalTree) (ty : VarTy) → lookup (nat_eq g) (map (λ x. (x.id, x.var.ty)) gs) ≡ Some ty → IsTrue (list_all Q gs) → GlobalOf Q ty
global_of Q g [] ty is h = cc
global_of Q g (x ∷ xs) ty is h = go (λ e. global_of Q g xs ty e (both_hold_second (Q x) (list_all Q xs) h)) (nat_eq g x.id) is
  where
    same : Some x.var.ty ≡ Some ty → x.var.ty ≡ ty
    same e = cc

    go : (lookup (nat_eq g) (map (λ (y : GlobalTree). (y.id, y.var.ty)) xs) ≡ Some ty → GlobalOf Q ty) → (b : Bool) → (if b then Some x.var.ty else lookup (nat_eq g) (map (λ (y : GlobalTree). (y.id, y.var.ty)) xs)) ≡ Some ty → GlobalOf Q ty
    go more true e = record { of = x; fits = both_hold_first (Q x) (list_all Q xs) h; typed = same e }
    go more false e = more e

-- ---- variables

pub variable_of : (Q : Var → Bool) (xs : List Var) (v : ℕ) (ty : VarTy) → slice_get (map (λ x. x.ty) xs) v ≡ Some ty → IsTrue (list_all Q xs) → (x : Var) × IsTrue (Q x) × (x.ty ≡ ty)
variable_of Q [] v ty is h = cc
variable_of Q (x ∷ xs) zero ty is h = (x, both_hold_first (Q x) (list_all Q xs) h, same is)
  where
    same : Some x.ty ≡ Some ty → x.ty ≡ ty
    same e = cc
variable_of Q (x ∷ xs) (suc v) ty is h = variable_of Q xs v ty is (both_hold_second (Q x) (list_all Q xs) h)
