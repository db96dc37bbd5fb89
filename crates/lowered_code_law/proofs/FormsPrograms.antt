-- Functions and whole programs, lowered, are well formed.
use Rattle.std.proofs.Common.{◌≡◌, ◌∙◌, ◌≤◌, ◌^◌, ℕ, pos, zero, suc, ◌+◌, refl, ap, sym, subst, arith, Bool, true, false, Option, Some, None, List, [], ◌∷◌, ◌++◌, length, map, if◌then◌else◌}
use Rattle.std.specs.Prelude.{IsTrue, ◌&&◌, ◌||◌, not, slice_get, option_map, nat_eq, nat_le, nat_lt, take, is_some, is_none, sum_by, codes}
use Rattle.std.specs.List.{list_all, list_any, filter, flat_map}
use Rattle.std.specs.Str.{bytes_eq}
use Rattle.std.proofs.lemmas.Bool.Decides.{nat_tests}
use Rattle.std.proofs.lemmas.Slice.Eq.{bytes_eq-Decides}
use Rattle.pt_base.specs.declared.int_type.IntType.{IntType}
use Rattle.pt_base.specs.declared.int_type.IntType.TheVariants as i
use Rattle.pt_base.proofs.Booleans.{both_hold, both_hold_first, both_hold_second, cond_false, cond_true, false_not_true}
use Rattle.pt_base.proofs.Members.{all_true_append, all_true_at}
use Rattle.pt_base.proofs.Numbers.{nat_eq_self}
use Rattle.pt_base.proofs.Places.{get_map, take_whole}
use Rattle.pt_tree.specs.declared.signature.Param.{Param}
use Rattle.pt_tree.specs.declared.signature.Signature.{Signature}
use Rattle.typed_tree.specs.declared.types.VarTy.{VarTy}
use Rattle.typed_tree.specs.declared.types.VarTy.TheVariants.{Int, Struct, Array, Pointer}
use Rattle.typed_tree.specs.declared.types.StructInfo.{StructInfo}
use Rattle.typed_tree.specs.declared.variable.Var.{Var}
use Rattle.typed_tree.specs.declared.variable.TypedGlobal.{TypedGlobal}
use Rattle.typed_tree.specs.StatementTree.{BodyTree}
use Rattle.typed_tree.specs.TypedTree.{TypedTree, FunctionTree, signatures_of}
use Rattle.typed_tree.specs.Cells.{leaves_of}
use Rattle.typed_tree.specs.Nodes.{nodes_of, function_nodes, option_nodes, body_nodes, expr_nodes}
use Rattle.typed_tree.specs.TypeTests.{same_type, same_bool, same_int, both_int, is_scalar}
use Rattle.typed_tree.specs.WellFormedExpression.{param_type, is_main}
use Rattle.typed_tree.specs.WellFormedStatement as statement
use Rattle.typed_tree.specs.WellFormed as source
use Rattle.typed_tree.specs.WellFormed.{structs_sound, is_plain_type, is_variable_type, is_small, cells_fit, global_sound, globals_small, variable_sound, is_integer_param, params_lead, host_sound, is_block, names_in, scope_in, body_sound, function_sound, name_of, are_distinct, is_int_result, is_start, are_rising}
use Rattle.typed_tree.proofs.WellFormedLemmas.{Facts, facts_of}
use Rattle.typed_tree.proofs.LeavesLemmas.{leaves_of_int, leaves_of_pointer}
use Rattle.pt_core.specs.CodeTree as code
use Rattle.pt_core.specs.CodeTree.{ProgramTree, GlobalTree, StmtTree, clear, check, assign, copy, call, choose, repeat, break_out, continue_on, give_back, StmtTrees, no_stmts, stmt_and, constant, stmt_trees}
use Rattle.pt_core.specs.Types.{type_of}
use Rattle.pt_core.specs.WellFormedExpression.{expr_fits}
use Rattle.pt_core.specs.WellFormedStatement.{Scope, call_fits, stmt_fits, stmts_fit, callees_in, callees_of}
use Rattle.pt_core.specs.WellFormed as core
use Rattle.pt_core.specs.WellFormed.{signature_at, function_at, are_in_order, global_fits, are_small, param_fits, signature_fits, variable_fits, with_own, called_signature, scope_of, counts_fit, function_by, function_fits, callees, callee_by, callee_fits, is_main_by, starts_by, is_only_start, has_main}
use Rattle.lowering.specs.Lowered.{Temp, Effects}
use Rattle.lowering.specs.Functions.{variable_of, main_end, lowered_body, core_of, code_if, functions_from, signatures_from, globals_from, core_program}
use Rattle.lowering.specs.Statements.{nowhere}
use Rattle.lowered_code_law.proofs.FormsSettings.{Agrees, EffectsFit, Fit, Known, Setting, scope}
use Rattle.typed_tree.proofs.SameTypes.{equal_ints, equal_types}
use Rattle.lowered_code_law.proofs.FormsStanding.{fit_both, fit_trees}
use Rattle.lowered_code_law.proofs.FormsStatements.{few_nodes, statement_lowers}
use Rattle.lowered_code_law.proofs.FormsLists.{found_function, found_global, found_signature, functions_rise, global_cells, globals_rise, part_of_sum, signatures_rise, stand_behind, variable_front}

-- ---- signatures by number

signature_here : (t : TypedTree) (f : ℕ) → signature_at (core_program t) f ≡ slice_get (signatures_of t) f
signature_here t f = found_signature f 0 f (signatures_of t) (plain f)
  where
    plain : (f : ℕ) → f ≡ 0 + f
    plain f = omega arith

own_all : (o : Option code.FunctionTree) (s : Option Signature) → option_map (with_own false o) s ≡ s
own_all o None = refl
own_all None (Some s) = refl
own_all (Some f) (Some s) = refl

called_here : (t : TypedTree) (f : ℕ) → called_signature false (core_program t) f ≡ slice_get (signatures_of t) f
called_here t f = own_all (function_at (core_program t) f) (signature_at (core_program t) f) ∙ signature_here t f

pub signature_of_function : (t : TypedTree) (n : ℕ) (f : FunctionTree) → slice_get t.functions n ≡ Some f → signature_at (core_program t) n ≡ Some f.signature
signature_of_function t n f is = signature_here t n ∙ get_map (λ (f : FunctionTree). f.signature) t.functions n ∙ ap (option_map (λ (f : FunctionTree). f.signature)) is

-- ---- a function's code

abbrev pub setting : TypedTree → FunctionTree → List Temp → Setting
setting t f temps = record {
  names = names_in t f;
  globals = map (λ (g : GlobalTree). (g.id, g.var.ty)) (globals_from 0 t.globals);
  variables = map (λ (x : Var). x.ty) (f.vars ++ map variable_of temps);
  result = f.signature.result;
  called = called_signature false (core_program t);
}

pub agrees : (t : TypedTree) (f : FunctionTree) (temps : List Temp) → Facts t → list_all (variable_sound t.structs) f.vars ≡ true → Agrees (setting t f temps)
agrees t f temps facts sound = record {
  variables = λ x ty h. variable_front f.vars (map variable_of temps) x ty h;
  globals = λ g ty h. found_global g 0 g t.globals (plain g) ∙ h;
  calls = λ g. called_here t g;
  structs = facts.structs;
  vars = sound;
  plain = facts.globals;
}
  where
    plain : (g : ℕ) → g ≡ 0 + g
    plain g = omega arith

-- the variables of a function, and its temporaries

small_known : (structs : List StructInfo) (ty : VarTy) → is_scalar (Some ty) ≡ true → is_small structs ty ≡ true
small_known structs (Int a) h = subst (λ z. nat_le (length z) 65_536 ≡ true) (sym (leaves_of_int structs a)) refl
small_known structs (Pointer elem fixed) h = subst (λ z. nat_le (length z) 65_536 ≡ true) (sym (leaves_of_pointer structs elem fixed)) refl
small_known structs (Struct n) h = false_not_true h
small_known structs (Array elem n) h = false_not_true h

temporaries_fit : (structs : List StructInfo) (ts : List Temp) → Known structs ts → list_all (variable_fits structs) (map variable_of ts) ≡ true
temporaries_fit structs [] h = refl
temporaries_fit structs (x ∷ xs) h =
    both_hold (variable_fits structs (variable_of x)) (list_all (variable_fits structs) (map variable_of xs))
    (both_hold (is_variable_type (length structs) x.ty) (is_small structs x.ty) (both_hold_second (is_scalar (Some x.ty)) (is_variable_type (length structs) x.ty) h.0)
    (small_known structs x.ty (both_hold_first (is_scalar (Some x.ty)) (is_variable_type (length structs) x.ty) h.0)))
    (temporaries_fit structs xs h.1)

variables_fit : (structs : List StructInfo) (xs : List Var) → list_all (variable_sound structs) xs ≡ true → list_all (variable_fits structs) xs ≡ true
variables_fit structs [] h = refl
variables_fit structs (x ∷ xs) h =
    let one = both_hold_first (variable_sound structs x) (list_all (variable_sound structs) xs) h in
    both_hold (variable_fits structs x) (list_all (variable_fits structs) xs)
    (both_hold (is_variable_type (length structs) x.ty) (is_small structs x.ty) (both_hold_first (is_variable_type (length structs) x.ty) (is_small structs x.ty && is_none x.holds) one)
    (both_hold_first (is_small structs x.ty) (is_none x.holds) (both_hold_second (is_variable_type (length structs) x.ty) (is_small structs x.ty && is_none x.holds) one)))
    (variables_fit structs xs (both_hold_second (variable_sound structs x) (list_all (variable_sound structs) xs) h))

lead_more : (ps : List Param) (xs ys : List Var) → params_lead ps xs ≡ true → params_lead ps (xs ++ ys) ≡ true
lead_more [] xs ys h = refl
lead_more (p ∷ ps) [] ys h = false_not_true h
lead_more (p ∷ ps) (x ∷ xs) ys h =
    both_hold (same_type (param_type p.kind) x.ty && same_bool p.marked x.marked) (params_lead ps (xs ++ ys)) (both_hold_first (same_type (param_type p.kind) x.ty && same_bool p.marked x.marked) (params_lead ps xs) h)
    (lead_more ps xs ys (both_hold_second (same_type (param_type p.kind) x.ty && same_bool p.marked x.marked) (params_lead ps xs) h))

-- the closing brace of main
pub main_end_fits : (k : Scope) (s : Signature) → k.result ≡ s.result → (is_main s ≡ true → is_int_result s.result ≡ true) → Fit k false (main_end s)
main_end_fits k s is main = go (is_main s) refl
  where
    both : (o : Option IntType) → is_int_result o ≡ true → both_int (Some i.Int) o ≡ true
    both None h = false_not_true h
    both (Some r) h = subst (λ z. same_int i.Int z ≡ true) (sym (equal_ints r i.Int h)) refl

    go : (b : Bool) → is_main s ≡ b → Fit k false (if b then give_back (Some (constant i.Int (pos 0))) ∷ [] else [])
    go true e = (subst (λ z. both_int (Some i.Int) z ≡ true) (sym is) (both s.result (main e)), tt)
    go false e = tt

-- what is known of a function that has a body
pub record Sound (t : TypedTree) (f : FunctionTree) (b : BodyTree) : Type 0 where
  pub no_host : not f.signature.host ≡ true
  pub lead : params_lead f.signature.params f.vars ≡ true
  pub vars : list_all (variable_sound t.structs) f.vars ≡ true
  pub body : statement.is_sound (scope_in t f) false false b ≡ true
  pub few : body_nodes b ≤ few_nodes
  pub main : is_main f.signature ≡ true → is_int_result f.signature.result ≡ true

body_lowers : (t : TypedTree) (f : FunctionTree) (b : BodyTree) → Facts t → Sound t f b → EffectsFit (setting t f (lowered_body t f b).temps) false (lowered_body t f b).stmts (lowered_body t f b).temps
body_lowers t f b facts s =
    statement_lowers b (setting t f (lowered_body t f b).temps) t.exprs false false false nowhere (length f.vars) (agrees t f (lowered_body t f b).temps facts s.vars) s.body (λ e. false_not_true e) tt s.few
    (stand_behind f.vars (lowered_body t f b).temps)

code_fits : (t : TypedTree) (n : ℕ) (f : FunctionTree) (b : BodyTree) → Facts t → Sound t f b → signature_at (core_program t) n ≡ Some f.signature → function_fits false (core_program t) (core_of t n f b) ≡ true
code_fits t n f b facts s is = subst (λ z. function_by false (core_program t) (core_of t n f b) z ≡ true) (sym is)
    (both_hold (not f.signature.host && (nat_eq (length f.signature.params) (length f.signature.params) && params_lead (take (length f.signature.params) f.signature.params) vars)) (list_all (variable_fits t.structs) vars && stmts_fit k false (stmt_trees stmts))
    (both_hold (not f.signature.host) (nat_eq (length f.signature.params) (length f.signature.params) && params_lead (take (length f.signature.params) f.signature.params) vars) s.no_host
    (both_hold (nat_eq (length f.signature.params) (length f.signature.params)) (params_lead (take (length f.signature.params) f.signature.params) vars) (nat_eq_self (length f.signature.params))
    (subst (λ z. params_lead z vars ≡ true) (sym (take_whole f.signature.params)) (lead_more f.signature.params f.vars (map variable_of effects.temps) s.lead))))
    (both_hold (list_all (variable_fits t.structs) vars) (stmts_fit k false (stmt_trees stmts))
    (all_true_append (variable_fits t.structs) f.vars (map variable_of effects.temps) (variables_fit t.structs f.vars s.vars) (temporaries_fit t.structs effects.temps lowered.temps))
    (fit_trees k false stmts (fit_both k false effects.stmts (main_end f.signature) lowered.stmts (main_end_fits k f.signature refl s.main)))))
  where
    effects : Effects
    effects = lowered_body t f b

    vars : List Var
    vars = f.vars ++ map variable_of (lowered_body t f b).temps

    stmts : List StmtTree
    stmts = (lowered_body t f b).stmts ++ main_end f.signature

    k : Scope
    k = scope (setting t f (lowered_body t f b).temps)

    lowered : EffectsFit (setting t f (lowered_body t f b).temps) false (lowered_body t f b).stmts (lowered_body t f b).temps
    lowered = body_lowers t f b facts s

-- ---- main

-- what is named main is the start
other_names : (f : FunctionTree) (fs : List FunctionTree) → is_main f.signature ≡ true → not (list_any (bytes_eq (name_of f)) (map name_of fs)) ≡ true → list_all (λ (g : FunctionTree). not (is_main g.signature)) fs ≡ true
other_names f [] h k = refl
other_names f (g ∷ gs) h k = go (λ q. other_names f gs h q) (is_main g.signature) refl (bytes_eq (name_of f) (name_of g)) refl k
  where
    same : is_main g.signature ≡ true → bytes_eq (name_of f) (name_of g) ≡ true
    same e = (bytes_eq-Decides (name_of f) (name_of g)).1 ((bytes_eq-Decides (name_of f) (codes "main")).0 h ∙ sym ((bytes_eq-Decides (name_of g) (codes "main")).0 e))

    go : (not (list_any (bytes_eq (name_of f)) (map name_of gs)) ≡ true → list_all (λ (g : FunctionTree). not (is_main g.signature)) gs ≡ true) → (m : Bool) → is_main g.signature ≡ m → (d : Bool) → bytes_eq (name_of f) (name_of g) ≡ d → not (d || list_any (bytes_eq (name_of f)) (map name_of gs)) ≡ true → (not m && list_all (λ (g : FunctionTree). not (is_main g.signature)) gs) ≡ true
    go rest m e true p q = false_not_true q
    go rest true e false p q = false_not_true (sym p ∙ same e)
    go rest false e false p q = rest q

no_start : (fs : List FunctionTree) → list_all (λ (g : FunctionTree). not (is_main g.signature)) fs ≡ true → list_any is_start fs ≡ false
no_start [] h = refl
no_start (g ∷ gs) h = go (no_start gs (both_hold_second (not (is_main g.signature)) (list_all (λ (g : FunctionTree). not (is_main g.signature)) gs) h)) (is_main g.signature) (both_hold_first (not (is_main g.signature)) (list_all (λ (g : FunctionTree). not (is_main g.signature)) gs) h)
  where
    go : list_any is_start gs ≡ false → (m : Bool) → not m ≡ true → ((m && (is_some g.body && (is_int_result g.signature.result && nat_eq (length g.signature.params) 0))) || list_any is_start gs) ≡ false
    go rest true e = false_not_true e
    go rest false e = rest

first_of_two : (a b : Bool) → (a || b) ≡ true → b ≡ false → a ≡ true
first_of_two true b h k = refl
first_of_two false b h k = false_not_true (sym k ∙ h)

second_of_two : (a b : Bool) → (a || b) ≡ true → a ≡ false → b ≡ true
second_of_two true b h k = false_not_true (sym k)
second_of_two false b h k = h

-- a function that isn't main is no start
other_start : (f : FunctionTree) → is_main f.signature ≡ false → is_start f ≡ false
other_start f h = go (is_main f.signature) h
  where
    go : (m : Bool) → m ≡ false → (m && (is_some f.body && (is_int_result f.signature.result && nat_eq (length f.signature.params) 0))) ≡ false
    go false e = refl
    go true e = false_not_true (sym e)

-- the first of these is the start, if it is named main
first_start : (f : FunctionTree) (fs : List FunctionTree) → are_distinct (map name_of (f ∷ fs)) ≡ true → list_any is_start (f ∷ fs) ≡ true → is_main f.signature ≡ true → is_start f ≡ true
first_start f fs names start h =
    first_of_two (is_start f) (list_any is_start fs) start (no_start fs (other_names f fs h (both_hold_first (not (list_any (bytes_eq (name_of f)) (map name_of fs))) (are_distinct (map name_of fs)) names)))

mains_start : (fs : List FunctionTree) (k : ℕ) (f : FunctionTree) → are_distinct (map name_of fs) ≡ true → list_any is_start fs ≡ true → slice_get fs k ≡ Some f → is_main f.signature ≡ true → is_start f ≡ true
mains_start [] k f names start is h = cc
mains_start (g ∷ gs) zero f names start is h = subst (λ z. is_start z ≡ true) (same is) (first_start g gs names start (subst (λ z. is_main z.signature ≡ true) (sym (same is)) h))
  where
    same : Some g ≡ Some f → g ≡ f
    same e = cc
mains_start (g ∷ gs) (suc k) f names start is h = go (λ n s. mains_start gs k f n s is h) (is_main g.signature) refl
  where
    go : (are_distinct (map name_of gs) ≡ true → list_any is_start gs ≡ true → is_start f ≡ true) → (m : Bool) → is_main g.signature ≡ m → is_start f ≡ true
    go rest true e =
        let others = other_names g gs e (both_hold_first (not (list_any (bytes_eq (name_of g)) (map name_of gs))) (are_distinct (map name_of gs)) names) in
        false_not_true (subst (λ z. not z ≡ true) h (all_true_at (λ (g : FunctionTree). not (is_main g.signature)) gs k f others is))
    go rest false e =
        rest (both_hold_second (not (list_any (bytes_eq (name_of g)) (map name_of gs))) (are_distinct (map name_of gs)) names) (second_of_two (is_start g) (list_any is_start gs) start (other_start g e))

abbrev named_main : TypedTree → code.FunctionTree → Bool
named_main t c = is_main_by (signature_at (core_program t) c.id)

-- these are the functions from number n on
abbrev Numbered : TypedTree → ℕ → List FunctionTree → Type 0
Numbered t n fs = (k : ℕ) (f : FunctionTree) → slice_get fs k ≡ Some f → signature_at (core_program t) (n + k) ≡ Some f.signature

first_number : (t : TypedTree) (n : ℕ) (f : FunctionTree) (fs : List FunctionTree) → Numbered t n (f ∷ fs) → signature_at (core_program t) n ≡ Some f.signature
first_number t n f fs h = subst (λ m. signature_at (core_program t) m ≡ Some f.signature) (plain n) (h 0 f refl)
  where
    plain : (n : ℕ) → n + 0 ≡ n
    plain n = omega arith

other_numbers : (t : TypedTree) (n : ℕ) (f : FunctionTree) (fs : List FunctionTree) → Numbered t n (f ∷ fs) → Numbered t (suc n) fs
other_numbers t n f fs h k g is = subst (λ m. signature_at (core_program t) m ≡ Some g.signature) (next n k) (h (suc k) g is)
  where
    next : (n k : ℕ) → n + suc k ≡ suc n + k
    next n k = omega arith

none_main : (t : TypedTree) (n : ℕ) (fs : List FunctionTree) → Numbered t n fs → list_all (λ (g : FunctionTree). not (is_main g.signature)) fs ≡ true → filter (named_main t) (functions_from t n fs) ≡ []
none_main t n [] h k = refl
none_main t n (f ∷ fs) h k = go (none_main t (suc n) fs (other_numbers t n f fs h) (both_hold_second (not (is_main f.signature)) (list_all (λ (g : FunctionTree). not (is_main g.signature)) fs) k)) f.body
  where
    not_true : (b : Bool) → not b ≡ true → b ≡ false
    not_true true e = false_not_true e
    not_true false e = refl

    go : filter (named_main t) (functions_from t (suc n) fs) ≡ [] → (o : Option BodyTree) → filter (named_main t) (code_if t n f o ++ functions_from t (suc n) fs) ≡ []
    go rest None = rest
    go rest (Some b) =
        cond_false (named_main t (core_of t n f b)) (core_of t n f b ∷ filter (named_main t) (functions_from t (suc n) fs)) (filter (named_main t) (functions_from t (suc n) fs))
        (ap is_main_by (first_number t n f fs h) ∙ not_true (is_main f.signature) (both_hold_first (not (is_main f.signature)) (list_all (λ (g : FunctionTree). not (is_main g.signature)) fs) k)) ∙ rest

one_main : (t : TypedTree) (n : ℕ) (fs : List FunctionTree) → Numbered t n fs → are_distinct (map name_of fs) ≡ true → list_any is_start fs ≡ true → is_only_start (core_program t) (filter (named_main t) (functions_from t n fs)) ≡ true
one_main t n [] h names start = false_not_true start
one_main t n (f ∷ fs) h names start = by_name (λ a s. one_main t (suc n) fs (other_numbers t n f fs h) a s) (is_main f.signature) refl
  where
    here : signature_at (core_program t) n ≡ Some f.signature
    here = first_number t n f fs h

    later : (are_distinct (map name_of fs) ≡ true → list_any is_start fs ≡ true → is_only_start (core_program t) (filter (named_main t) (functions_from t (suc n) fs)) ≡ true) → is_main f.signature ≡ false → is_only_start (core_program t) (filter (named_main t) (functions_from t (suc n) fs)) ≡ true
    later rest e = rest (both_hold_second (not (list_any (bytes_eq (name_of f)) (map name_of fs))) (are_distinct (map name_of fs)) names) (second_of_two (is_start f) (list_any is_start fs) start (other_start f e))

    first : (o : Option BodyTree) → f.body ≡ o → is_main f.signature ≡ true → is_start f ≡ true → is_only_start (core_program t) (filter (named_main t) (code_if t n f o ++ functions_from t (suc n) fs)) ≡ true
    first None e m s = false_not_true (subst (λ z. is_some z ≡ true) e (both_hold_first (is_some f.body) (is_int_result f.signature.result && nat_eq (length f.signature.params) 0) (both_hold_second (is_main f.signature) (is_some f.body && (is_int_result f.signature.result && nat_eq (length f.signature.params) 0)) s)))
    first (Some b) e m s =
        let others = none_main t (suc n) fs (other_numbers t n f fs h) (other_names f fs m (both_hold_first (not (list_any (bytes_eq (name_of f)) (map name_of fs))) (are_distinct (map name_of fs)) names)) in
        let all : filter (named_main t) (core_of t n f b ∷ functions_from t (suc n) fs) ≡ core_of t n f b ∷ [] =
        cond_true (named_main t (core_of t n f b)) (core_of t n f b ∷ filter (named_main t) (functions_from t (suc n) fs)) (filter (named_main t) (functions_from t (suc n) fs)) (ap is_main_by here ∙ m)
        ∙ ap (λ z. core_of t n f b ∷ z) others in
        let rest = both_hold_second (is_some f.body) (is_int_result f.signature.result && nat_eq (length f.signature.params) 0) (both_hold_second (is_main f.signature) (is_some f.body && (is_int_result f.signature.result && nat_eq (length f.signature.params) 0)) s) in
        subst (λ z. is_only_start (core_program t) z ≡ true) (sym all) (subst (λ z. starts_by z ≡ true) (sym here) rest)

    after : (are_distinct (map name_of fs) ≡ true → list_any is_start fs ≡ true → is_only_start (core_program t) (filter (named_main t) (functions_from t (suc n) fs)) ≡ true) → (o : Option BodyTree) → is_main f.signature ≡ false → is_only_start (core_program t) (filter (named_main t) (code_if t n f o ++ functions_from t (suc n) fs)) ≡ true
    after rest None m = later rest m
    after rest (Some b) m =
        subst (λ z. is_only_start (core_program t) z ≡ true)
        (sym (cond_false (named_main t (core_of t n f b)) (core_of t n f b ∷ filter (named_main t) (functions_from t (suc n) fs)) (filter (named_main t) (functions_from t (suc n) fs)) (ap is_main_by here ∙ m))) (later rest m)

    by_name : (are_distinct (map name_of fs) ≡ true → list_any is_start fs ≡ true → is_only_start (core_program t) (filter (named_main t) (functions_from t (suc n) fs)) ≡ true) → (m : Bool) → is_main f.signature ≡ m → is_only_start (core_program t) (filter (named_main t) (code_if t n f f.body ++ functions_from t (suc n) fs)) ≡ true
    by_name rest true e = first f.body refl e (first_start f fs names start e)
    by_name rest false e = after rest f.body e

-- ---- what is called

mutual
  callees_pass : (a : StmtTree) (k : Scope) (l : Bool) (test : ℕ → Bool) → ((f : ℕ) → is_some (k.called f) ≡ true → test f ≡ true) → stmt_fits k l a ≡ true → list_all test (callees_in a) ≡ true
  callees_pass (clear v) k l test h fits = refl
  callees_pass (check p) k l test h fits = refl
  callees_pass (assign p a) k l test h fits = refl
  callees_pass (copy p q) k l test h fits = refl
  callees_pass (call f arguments v s) k l test h fits = both_hold (test f) true (h f (is_called (k.called f) fits)) refl
    where
      is_called : (o : Option Signature) → call_fits k.context o arguments v ≡ true → is_some o ≡ true
      is_called None e = false_not_true e
      is_called (Some s) e = refl
  callees_pass (choose a xs ys) k l test h fits =
      let both = both_hold_second (expr_fits k.context a && is_scalar (Some (type_of k.context a))) (stmts_fit k l xs && stmts_fit k l ys) fits in
      all_true_append test (callees_of xs) (callees_of ys) (all_pass xs k l test h (both_hold_first (stmts_fit k l xs) (stmts_fit k l ys) both)) (all_pass ys k l test h (both_hold_second (stmts_fit k l xs) (stmts_fit k l ys) both))
  callees_pass (repeat xs s) k l test h fits = all_pass xs k true test h fits
  callees_pass break_out k l test h fits = refl
  callees_pass continue_on k l test h fits = refl
  callees_pass (give_back a) k l test h fits = refl

  all_pass : (xs : StmtTrees) (k : Scope) (l : Bool) (test : ℕ → Bool) → ((f : ℕ) → is_some (k.called f) ≡ true → test f ≡ true) → stmts_fit k l xs ≡ true → list_all test (callees_of xs) ≡ true
  all_pass no_stmts k l test h fits = refl
  all_pass (stmt_and a rest) k l test h fits =
      all_true_append test (callees_in a) (callees_of rest) (callees_pass a k l test h (both_hold_first (stmt_fits k l a) (stmts_fit k l rest) fits)) (all_pass rest k l test h (both_hold_second (stmt_fits k l a) (stmts_fit k l rest) fits))

functions_pass : (p : ProgramTree) (fs : List code.FunctionTree) (test : ℕ → Bool) → ((f : ℕ) → is_some (called_signature false p f) ≡ true → test f ≡ true) → list_all (function_fits false p) fs ≡ true → list_all test (flat_map (λ (f : code.FunctionTree). callees_of f.body) fs) ≡ true
functions_pass p [] test h fits = refl
functions_pass p (f ∷ fs) test h fits =
    all_true_append test (callees_of f.body) (flat_map (λ (f : code.FunctionTree). callees_of f.body) fs) (go (signature_at p f.id) (both_hold_first (function_fits false p f) (list_all (function_fits false p) fs) fits))
    (functions_pass p fs test h (both_hold_second (function_fits false p f) (list_all (function_fits false p) fs) fits))
  where
    go : (o : Option Signature) → function_by false p f o ≡ true → list_all test (callees_of f.body) ≡ true
    go None e = false_not_true e
    go (Some s) e =
        let rest = both_hold_second (not s.host && (counts_fit false f.params (length s.params) && params_lead (take f.params s.params) f.vars)) (list_all (variable_fits p.structs) f.vars && stmts_fit (scope_of false p f s) false f.body) e in
        all_pass f.body (scope_of false p f s) false test h (both_hold_second (list_all (variable_fits p.structs) f.vars) (stmts_fit (scope_of false p f s) false f.body) rest)

-- a function of the source is a host, or has code
callee_here : (t : TypedTree) (f : ℕ) → list_all (function_sound t) t.functions ≡ true → is_some (called_signature false (core_program t) f) ≡ true → callee_fits false (core_program t) f ≡ true
callee_here t f sound h = go (slice_get t.functions f) refl
  where
    plain : (f : ℕ) → f ≡ 0 + f
    plain f = omega arith

    is : called_signature false (core_program t) f ≡ option_map (λ (f : FunctionTree). f.signature) (slice_get t.functions f)
    is = called_here t f ∙ get_map (λ (f : FunctionTree). f.signature) t.functions f

    either : (a b d : Bool) → d ≡ true → ((a || b) || d) ≡ true
    either true b d e = refl
    either false true d e = refl
    either false false d e = e

    host : (a b d : Bool) → a ≡ true → ((a || b) || d) ≡ true
    host true b d e = refl
    host false b d e = false_not_true e

    by_body : (g : FunctionTree) → slice_get t.functions f ≡ Some g → (o : Option BodyTree) → g.body ≡ o → body_sound t g o ≡ true → callee_by false (core_program t) f (Some g.signature) ≡ true
    by_body g e None b s = host g.signature.host (g.signature.privileged && true) (is_some (function_at (core_program t) f)) (both_hold_first g.signature.host (list_all is_integer_param g.signature.params && nat_eq (length g.vars) (length g.signature.params)) s)
    by_body g e (Some y) b s = either g.signature.host (g.signature.privileged && true) (is_some (function_at (core_program t) f)) (found_function t f 0 f t.functions g y (plain f) e b)

    go : (o : Option FunctionTree) → slice_get t.functions f ≡ o → callee_fits false (core_program t) f ≡ true
    go None e = false_not_true (subst (λ z. is_some z ≡ true) (is ∙ ap (option_map (λ (f : FunctionTree). f.signature)) e) h)
    go (Some g) e =
        let one = all_true_at (function_sound t) t.functions f g sound e in
        let body = both_hold_second (list_all (variable_sound t.structs) g.vars) (body_sound t g g.body) (both_hold_second (nat_le (length g.signature.params) 8 && params_lead g.signature.params g.vars) (list_all (variable_sound t.structs) g.vars && body_sound t g g.body) one) in
        subst (λ z. callee_by false (core_program t) f z ≡ true) (sym (signature_of_function t f g e)) (by_body g e g.body refl body)

-- ---- signatures and globals

params_fit : (structs : List StructInfo) (ps : List Param) (xs : List Var) → params_lead ps xs ≡ true → list_all (variable_sound structs) xs ≡ true → list_all (param_fits (length structs)) ps ≡ true
params_fit structs [] xs h k = refl
params_fit structs (p ∷ ps) [] h k = false_not_true h
params_fit structs (p ∷ ps) (x ∷ xs) h k =
    let one = both_hold_first (same_type (param_type p.kind) x.ty && same_bool p.marked x.marked) (params_lead ps xs) h in
    let same = equal_types (param_type p.kind) x.ty (both_hold_first (same_type (param_type p.kind) x.ty) (same_bool p.marked x.marked) one) in
    let known = both_hold_first (is_variable_type (length structs) x.ty) (is_small structs x.ty && is_none x.holds) (both_hold_first (variable_sound structs x) (list_all (variable_sound structs) xs) k) in
    both_hold (param_fits (length structs) p) (list_all (param_fits (length structs)) ps) (subst (λ z. is_variable_type (length structs) z ≡ true) (sym same) known)
    (params_fit structs ps xs (both_hold_second (same_type (param_type p.kind) x.ty && same_bool p.marked x.marked) (params_lead ps xs) h) (both_hold_second (variable_sound structs x) (list_all (variable_sound structs) xs) k))

signature_sound : (t : TypedTree) (f : FunctionTree) → function_sound t f ≡ true → signature_fits t.structs f.signature ≡ true
signature_sound t f h =
    let first = both_hold_first (nat_le (length f.signature.params) 8 && params_lead f.signature.params f.vars) (list_all (variable_sound t.structs) f.vars && body_sound t f f.body) h in
    let rest = both_hold_second (nat_le (length f.signature.params) 8 && params_lead f.signature.params f.vars) (list_all (variable_sound t.structs) f.vars && body_sound t f f.body) h in
    both_hold (nat_le (length f.signature.params) 8 && list_all (param_fits (length t.structs)) f.signature.params) (not f.signature.host || list_all is_integer_param f.signature.params)
    (both_hold (nat_le (length f.signature.params) 8) (list_all (param_fits (length t.structs)) f.signature.params) (both_hold_first (nat_le (length f.signature.params) 8) (params_lead f.signature.params f.vars) first)
    (params_fit t.structs f.signature.params f.vars (both_hold_second (nat_le (length f.signature.params) 8) (params_lead f.signature.params f.vars) first) (both_hold_first (list_all (variable_sound t.structs) f.vars) (body_sound t f f.body) rest)))
    (go f.body (both_hold_second (list_all (variable_sound t.structs) f.vars) (body_sound t f f.body) rest))
  where
    right : (a b : Bool) → b ≡ true → (a || b) ≡ true
    right true b e = refl
    right false b e = e

    left : (a b : Bool) → a ≡ true → (a || b) ≡ true
    left true b e = refl
    left false b e = false_not_true e

    go : (o : Option BodyTree) → body_sound t f o ≡ true → (not f.signature.host || list_all is_integer_param f.signature.params) ≡ true
    go None s = right (not f.signature.host) (list_all is_integer_param f.signature.params)
        (both_hold_first (list_all is_integer_param f.signature.params) (nat_eq (length f.vars) (length f.signature.params)) (both_hold_second f.signature.host (list_all is_integer_param f.signature.params && nat_eq (length f.vars) (length f.signature.params)) s))
    go (Some b) s = left (not f.signature.host) (list_all is_integer_param f.signature.params) (both_hold_first (not f.signature.host) (is_block b && statement.is_sound (scope_in t f) false false b) s)

signatures_sound : (t : TypedTree) (n : ℕ) (fs : List FunctionTree) → list_all (function_sound t) fs ≡ true → list_all (λ (s : ℕ × Signature). signature_fits t.structs s.1) (signatures_from n (map (λ (f : FunctionTree). f.signature) fs)) ≡ true
signatures_sound t n [] h = refl
signatures_sound t n (f ∷ fs) h =
    both_hold (signature_fits t.structs f.signature) (list_all (λ (s : ℕ × Signature). signature_fits t.structs s.1) (signatures_from (suc n) (map (λ (f : FunctionTree). f.signature) fs))) (signature_sound t f (both_hold_first (function_sound t f) (list_all (function_sound t) fs) h))
    (signatures_sound t (suc n) fs (both_hold_second (function_sound t f) (list_all (function_sound t) fs) h))

globals_fit : (structs : List StructInfo) (n : ℕ) (gs : List TypedGlobal) → list_all (global_sound structs) gs ≡ true → list_all (global_fits structs) (globals_from n gs) ≡ true
globals_fit structs n [] h = refl
globals_fit structs n (g ∷ gs) h =
    let one = both_hold_first (global_sound structs g) (list_all (global_sound structs) gs) h in
    let rest = both_hold_second (is_plain_type (length structs) g.var.ty && is_small structs g.var.ty) (is_none g.var.holds && cells_fit (leaves_of structs g.var.ty) g.cells) one in
    both_hold (global_fits structs (record { id = n; var = g.var; cells = g.cells })) (list_all (global_fits structs) (globals_from (suc n) gs))
    (both_hold (is_plain_type (length structs) g.var.ty && is_small structs g.var.ty) (cells_fit (leaves_of structs g.var.ty) g.cells)
    (both_hold_first (is_plain_type (length structs) g.var.ty && is_small structs g.var.ty) (is_none g.var.holds && cells_fit (leaves_of structs g.var.ty) g.cells) one)
    (both_hold_second (is_none g.var.holds) (cells_fit (leaves_of structs g.var.ty) g.cells) rest))
    (globals_fit structs (suc n) gs (both_hold_second (global_sound structs g) (list_all (global_sound structs) gs) h))

-- ---- functions

-- a function that has a body
pub sound_at : (t : TypedTree) (k : ℕ) (f : FunctionTree) (b : BodyTree) → Facts t → slice_get t.functions k ≡ Some f → f.body ≡ Some b → Sound t f b
sound_at t k f b facts is body =
    let one = all_true_at (function_sound t) t.functions k f facts.functions is in
    let first = both_hold_first (nat_le (length f.signature.params) 8 && params_lead f.signature.params f.vars) (list_all (variable_sound t.structs) f.vars && body_sound t f f.body) one in
    let rest = both_hold_second (nat_le (length f.signature.params) 8 && params_lead f.signature.params f.vars) (list_all (variable_sound t.structs) f.vars && body_sound t f f.body) one in
    let inner : body_sound t f (Some b) ≡ true = subst (λ z. body_sound t f z ≡ true) body (both_hold_second (list_all (variable_sound t.structs) f.vars) (body_sound t f f.body) rest) in
    let own = part_of_sum function_nodes t.functions k f is in
    let nodes : body_nodes b ≤ function_nodes f = subst (λ z. body_nodes b ≤ 1 + (length f.vars + option_nodes z)) (sym body) (least (length f.vars) (body_nodes b)) in
    record {
      no_host = both_hold_first (not f.signature.host) (is_block b && statement.is_sound (scope_in t f) false false b) inner;
      lead = both_hold_second (nat_le (length f.signature.params) 8) (params_lead f.signature.params f.vars) first;
      vars = both_hold_first (list_all (variable_sound t.structs) f.vars) (body_sound t f f.body) rest;
      body = both_hold_second (is_block b) (statement.is_sound (scope_in t f) false false b) (both_hold_second (not f.signature.host) (is_block b && statement.is_sound (scope_in t f) false false b) inner);
      few = below (body_nodes b) (function_nodes f) (sum_by function_nodes t.functions) (sum_by (λ s. 1 + length s.fields) t.structs) (length t.globals) (sum_by expr_nodes t.exprs) nodes own (bound (nodes_of t) facts.few);
      main = λ m. result (mains_start t.functions k f facts.names facts.start is m);
    }
  where
    least : (n m : ℕ) → m ≤ 1 + (n + m)
    least n m = omega arith

    bound : (n : ℕ) → nat_lt n (2 ^ 28) ≡ true → n ≤ few_nodes
    bound n h = grind (arith, nat_tests)

    below : (a b d s g e : ℕ) → a ≤ b → b ≤ d → s + (g + (d + e)) ≤ few_nodes → a ≤ few_nodes
    below a b d s g e h j l = omega (arith, h, j, l)

    result : is_start f ≡ true → is_int_result f.signature.result ≡ true
    result s = both_hold_first (is_int_result f.signature.result) (nat_eq (length f.signature.params) 0) (both_hold_second (is_some f.body) (is_int_result f.signature.result && nat_eq (length f.signature.params) 0) (both_hold_second (is_main f.signature) (is_some f.body && (is_int_result f.signature.result && nat_eq (length f.signature.params) 0)) s))

-- these are the functions of the program from number n on
abbrev Listed : TypedTree → ℕ → List FunctionTree → Type 0
Listed t n fs = (k : ℕ) (f : FunctionTree) → slice_get fs k ≡ Some f → slice_get t.functions (n + k) ≡ Some f

functions_fit : (t : TypedTree) (n : ℕ) (fs : List FunctionTree) → Facts t → Listed t n fs → list_all (function_fits false (core_program t)) (functions_from t n fs) ≡ true
functions_fit t n [] facts h = refl
functions_fit t n (f ∷ fs) facts h = go (functions_fit t (suc n) fs facts (λ k g is. subst (λ m. slice_get t.functions m ≡ Some g) (next n k) (h (suc k) g is))) f.body refl
  where
    plain : (n : ℕ) → n + 0 ≡ n
    plain n = omega arith

    next : (n k : ℕ) → n + suc k ≡ suc n + k
    next n k = omega arith

    here : slice_get t.functions n ≡ Some f
    here = subst (λ m. slice_get t.functions m ≡ Some f) (plain n) (h 0 f refl)

    go : list_all (function_fits false (core_program t)) (functions_from t (suc n) fs) ≡ true → (o : Option BodyTree) → f.body ≡ o → list_all (function_fits false (core_program t)) (code_if t n f o ++ functions_from t (suc n) fs) ≡ true
    go rest None e = rest
    go rest (Some b) e = both_hold (function_fits false (core_program t) (core_of t n f b)) (list_all (function_fits false (core_program t)) (functions_from t (suc n) fs)) (code_fits t n f b facts (sound_at t n f b facts here e) (signature_of_function t n f here)) rest

-- ---- programs

pub programs_are_well_formed : (t : TypedTree) → IsTrue (source.is_well_formed t) → IsTrue (core.is_well_formed (core_program t))
unfolding core.is_well_formed
programs_are_well_formed t h =
    let facts = facts_of t h in
    let p = core_program t in
    let functions = functions_fit t 0 t.functions facts (λ k f is. subst (λ m. slice_get t.functions m ≡ Some f) (plain k) is) in
    both_hold (core.is_sound false p) (has_main p)
    (both_hold (are_in_order p && structs_sound p.structs 0 p.structs)
    ((list_all (global_fits p.structs) p.globals && are_small p.globals) && ((list_all (λ s. signature_fits p.structs s.1) p.signatures && list_all (function_fits false p) p.functions) && list_all (callee_fits false p) (callees p)))
    (both_hold (are_in_order p) (structs_sound p.structs 0 p.structs) (in_order t) facts.structs)
    (both_hold (list_all (global_fits p.structs) p.globals && are_small p.globals) ((list_all (λ s. signature_fits p.structs s.1) p.signatures && list_all (function_fits false p) p.functions) && list_all (callee_fits false p) (callees p))
    (both_hold (list_all (global_fits p.structs) p.globals) (are_small p.globals) (globals_fit t.structs 0 t.globals facts.globals) (subst (λ m. nat_le m 1_048_576 ≡ true) (sym (global_cells 0 t.globals)) facts.small))
    (both_hold (list_all (λ s. signature_fits p.structs s.1) p.signatures && list_all (function_fits false p) p.functions) (list_all (callee_fits false p) (callees p))
    (both_hold (list_all (λ s. signature_fits p.structs s.1) p.signatures) (list_all (function_fits false p) p.functions) (signatures_sound t 0 t.functions facts.functions) functions)
    (functions_pass p p.functions (callee_fits false p) (λ f e. callee_here t f facts.functions e) functions))))
    (one_main t 0 t.functions (λ k f is. signature_of_function t (0 + k) f (subst (λ m. slice_get t.functions m ≡ Some f) (plain k) is)) facts.names facts.start)
  where
    plain : (k : ℕ) → k ≡ 0 + k
    plain k = omega arith

    in_order : (t : TypedTree) → are_in_order (core_program t) ≡ true
    in_order t =
        both_hold (are_rising 0 (map (λ (s : ℕ × Signature). s.0) (signatures_from 0 (signatures_of t)))) (are_rising 0 (map (λ (f : code.FunctionTree). f.id) (functions_from t 0 t.functions)) && are_rising 0 (map (λ (g : GlobalTree). g.id) (globals_from 0 t.globals)))
        (signatures_rise 0 (signatures_of t))
        (both_hold (are_rising 0 (map (λ (f : code.FunctionTree). f.id) (functions_from t 0 t.functions))) (are_rising 0 (map (λ (g : GlobalTree). g.id) (globals_from 0 t.globals))) (functions_rise t 0 0 t.functions (omega arith)) (globals_rise 0 t.globals))
