-- What the numbers in a boot's code name.
use Rattle.std.proofs.Common.{◌≡◌, ◌∙◌, sym, ap, subst, ℕ, Bool, false, List, map, nat_eq, Option}
use Rattle.std.specs.Prelude.{IsTrue, ◌&&◌, is_some}
use Rattle.std.specs.List.{list_any}
use Rattle.std.specs.Map.{lookup}
use Rattle.pt_base.specs.declared.ids.FnId.{FnId}
use Rattle.pt_base.specs.declared.int_type.IntType.{IntType}
use Rattle.pt_base.proofs.Booleans.{both_hold, both_hold_first, both_hold_second}
use Rattle.pt_base.proofs.Lists.{map_of_map}
use Rattle.pt_tree.specs.declared.host_model.HostModel.{HostModel}
use Rattle.pt_tree.specs.declared.signature.Signature.{Signature}
use Rattle.typed_tree.specs.declared.types.StructInfo.{StructInfo}
use Rattle.typed_tree.specs.declared.types.VarTy.{VarTy}
use Rattle.typed_tree.specs.declared.variable.Var.{Var}
use Rattle.typed_tree.specs.WellFormed.{are_rising}
use Rattle.pt_core.specs.declared.boot.Boot.{Boot}
use Rattle.pt_core.specs.declared.function.CoreFn.{CoreFn}
use Rattle.pt_core.specs.declared.global.GlobalVar.{GlobalVar}
use Rattle.pt_core.specs.declared.statement.Stmt.{Stmt}
use Rattle.pt_core.specs.CodeTree.{FunctionTree, GlobalTree, numbered, stmt_trees, view_boot, view_function, view_global, view_stmt}
use Rattle.pt_core.specs.WellFormed.{boot_program, called_signature, function_at, scope_of}
use Rattle.pt_core.specs.WellFormedStatement.{Scope, stmts_fit}
use Rattle.code_rules.proofs.Called.{called_is}
use Rattle.boot_rules.specs.Tests.{host_numbers, is_in_order}
use Rattle.boot_rules.proofs.RiseLemmas.{any_map, some_found}

-- ---- the orders

abbrev numbers_rise : {A : Type 0} → List (FnId × A) → Bool
numbers_rise xs = are_rising 0 (map (λ x. x.0) (numbered xs))

abbrev functions_rise : List CoreFn → Bool
functions_rise fs = are_rising 0 (map (λ f. f.id) (map view_function fs))

abbrev globals_rise : List GlobalVar → Bool
globals_rise gs = are_rising 0 (map (λ g. g.id) (map view_global gs))

record Orders (b : Boot) : Type 0 where
  pub signatures : IsTrue (numbers_rise b.signatures)
  pub functions : IsTrue (functions_rise b.functions.items)
  pub globals : IsTrue (globals_rise b.globals)
  pub hosts : IsTrue (numbers_rise b.hosts)

orders : (b : Boot) → IsTrue (is_in_order (view_boot b)) → Orders b
unfolding is_in_order
orders b h =
    let program = both_hold_first _ _ h in
    let code = both_hold_second _ _ program in
    record {
      signatures = both_hold_first _ _ program;
      functions = both_hold_first _ _ code;
      globals = both_hold_second _ _ code;
      hosts = both_hold_second _ _ h;
    }

pub ordered_lists : (b : Boot) (globals : List GlobalVar) (signatures : List (FnId × Signature)) → globals ≡ b.globals → signatures ≡ b.signatures → IsTrue (is_in_order (view_boot b)) → IsTrue (numbers_rise signatures && globals_rise globals)
ordered_lists b globals signatures same_globals same_signatures h =
    let o = orders b h in
    both_hold (numbers_rise signatures) (globals_rise globals)
    (subst (λ xs. IsTrue (numbers_rise xs)) (sym same_signatures) o.signatures) (subst (λ xs. IsTrue (globals_rise xs)) (sym same_globals) o.globals)

pub functions_in_order : (b : Boot) → IsTrue (is_in_order (view_boot b)) → IsTrue (are_rising 0 (map (λ f. f.id.0) b.functions.items))
functions_in_order b h = subst (λ ns. IsTrue (are_rising 0 ns)) (map_of_map (λ (f : FunctionTree). f.id) view_function b.functions.items) (orders b h).functions

pub hosts_in_order : (b : Boot) → IsTrue (is_in_order (view_boot b)) → IsTrue (are_rising 0 (map (λ (x : FnId × HostModel). x.0.0) b.hosts))
hosts_in_order b h = subst (λ ns. IsTrue (are_rising 0 ns)) (map_of_map (λ (x : ℕ × HostModel). x.0) (λ (x : FnId × HostModel). (x.0.0, x.1)) b.hosts) (orders b h).hosts

-- ---- what is found

pub function_found : (b : Boot) (f : ℕ) → list_any (λ g. nat_eq f g.id.0) b.functions.items ≡ is_some (function_at (boot_program (view_boot b)) f)
function_found b f =
    sym (any_map (λ (g : FunctionTree). nat_eq f g.id) view_function b.functions.items)
    ∙ sym (some_found (λ (g : FunctionTree). nat_eq f g.id) (map view_function b.functions.items))

pub host_found : (b : Boot) (f : ℕ) → list_any (λ (x : FnId × HostModel). nat_eq f x.0.0) b.hosts ≡ list_any (nat_eq f) (host_numbers (view_boot b))
host_found b f =
    sym (any_map (nat_eq f) (λ (x : FnId × HostModel). x.0.0) b.hosts)
    ∙ ap (list_any (nat_eq f)) (sym (map_of_map (λ (x : ℕ × HostModel). x.0) (λ (x : FnId × HostModel). (x.0.0, x.1)) b.hosts))

-- ---- scopes

called : (b : Boot) → (λ f. lookup (nat_eq f) (numbered b.signatures)) ≡ called_signature false (boot_program (view_boot b))
called b = λ i f. sym (called_is (boot_program (view_boot b)) f) i

abbrev made : List StructInfo → List GlobalVar → List Var → Option IntType → (ℕ → Option Signature) → Scope
made structs globals vars result find = record {
  context = record {
    structs = structs;
    globals = map {B = ℕ × VarTy} (λ (g : GlobalTree). (g.id, g.var.ty)) (map view_global globals);
    variables = map (λ (x : Var). x.ty) vars;
  };
  result = result;
  called = find;
}

abbrev named : List (FnId × Signature) → ℕ → Option Signature
named xs n = lookup (nat_eq n) (numbered xs)

-- what the code tests bodies by is what the definition does
same_scope : (b : Boot) (f : CoreFn) (s : Signature) (structs : List StructInfo) (globals : List GlobalVar) (signatures : List (FnId × Signature)) (vars : List Var) (result : Option IntType) →
    structs ≡ b.structs → globals ≡ b.globals → signatures ≡ b.signatures → vars ≡ f.vars → result ≡ s.result → made structs globals vars result (named signatures) ≡ scope_of false (boot_program (view_boot b)) (view_function f) s
same_scope b f s structs globals signatures vars result h i j k l =
    ap (λ xs. made xs globals vars result (named signatures)) h
    ∙ ap (λ xs. made b.structs xs vars result (named signatures)) i
    ∙ ap (λ xs. made b.structs b.globals xs result (named signatures)) k
    ∙ ap (λ r. made b.structs b.globals f.vars r (named signatures)) l
    ∙ ap (λ xs. made b.structs b.globals f.vars s.result (named xs)) j
    ∙ ap (made b.structs b.globals f.vars s.result) (called b)

pub body_tested : (b : Boot) (f : CoreFn) (s : Signature) (structs : List StructInfo) (globals : List GlobalVar) (signatures : List (FnId × Signature)) (vars : List Var) (result : Option IntType) (body : List Stmt) →
    structs ≡ b.structs → globals ≡ b.globals → signatures ≡ b.signatures → vars ≡ f.vars → result ≡ s.result → body ≡ f.body.items →
    stmts_fit (made structs globals vars result (named signatures)) false (stmt_trees (map view_stmt body)) ≡ stmts_fit (scope_of false (boot_program (view_boot b)) (view_function f) s) false (stmt_trees (map view_stmt f.body.items))
body_tested b f s structs globals signatures vars result body h i j k l m =
    ap (λ xs. stmts_fit (made structs globals vars result (named signatures)) false (stmt_trees (map view_stmt xs))) m
    ∙ ap (λ c. stmts_fit c false (stmt_trees (map view_stmt f.body.items))) (same_scope b f s structs globals signatures vars result h i j k l)
