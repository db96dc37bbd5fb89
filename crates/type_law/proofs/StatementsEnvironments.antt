-- Scopes that open and close, and variables that come, keep what is known of names.
use Rattle.std.proofs.Common.{◌≡◌, ◌≤◌, ℕ, sym, ap, ◌∙◌, subst, Bool, true, false, List, [], ◌∷◌, ◌++◌, length, length-append, arith, Some, inl, inr}
use Rattle.std.specs.Prelude.{IsTrue, All, slice_get, option_map, if◌then◌else◌}
use Rattle.std.proofs.lemmas.Bool.Decides.{nat_tests}
use Rattle.std.proofs.lemmas.List.{length-map}
use Rattle.std.proofs.lemmas.List.Elements.{All-nil, All-cons, All-head, All-tail, All-push}
use Rattle.typed_tree.specs.WellFormedExpression.{Names}
use Rattle.check_declarations.specs.NameTables.{is_new, with_name}
use Rattle.check_declarations.specs.Structs.{Structs}
use Rattle.check_expressions.specs.declared.meaning.Meaning.{Meaning}
use Rattle.check_expressions.specs.declared.meaning.Meaning.TheVariants.{Function, Global, Local}
use Rattle.check_expressions.specs.declared.meaning.Variable.{Variable}
use Rattle.check_expressions.specs.Environment.{Env, Scope, opened, closed, outer, bind_inner, with_variable}
use Rattle.check_expressions.specs.StructInfos.{struct_info, infos_of}
use Rattle.type_law.specs.DeclarationsTypes.{is_variable}
use Rattle.type_law.specs.ExpressionsAgreement.{Agrees, HasType, AreEntries, is_entry}
use Rattle.type_law.specs.StatementsLaws.{HasVariables}
use Rattle.type_law.proofs.StatementsListLemmas.{get_pushed}
use Rattle.type_law.proofs.StatementsTypeLemmas.{has_object_type}

-- the second has an entry wherever the first has one
record Keeping (env env' : Env) : Type 0 where
  functions : length env.functions ≤ length env'.functions
  globals : length env.globals ≤ length env'.globals
  variables : length env.variables ≤ length env'.variables

entry_kept : (env env' : Env) → Keeping env env' → (m : Meaning) → IsTrue (is_entry env m) → IsTrue (is_entry env' m)
entry_kept env env' k (Function f) h = let w = k.functions in grind (arith, nat_tests, w, h)
entry_kept env env' k (Global g) h = let w = k.globals in grind (arith, nat_tests, w, h)
entry_kept env env' k (Local x) h = let w = k.variables in grind (arith, nat_tests, w, h)

scope_kept : (env env' : Env) → Keeping env env' → (scope : Scope) → AreEntries env scope → AreEntries env' scope
scope_kept env env' g scope h = λ k d within. entry_kept env env' g _ (h k d within)

scopes_kept : (env env' : Env) → Keeping env env' → (scopes : List Scope) → All (AreEntries env) scopes → All (AreEntries env') scopes
scopes_kept env env' g scopes h = λ k d within. scope_kept env env' g _ (h k d within)

pub agrees_opened : (env : Env) (structs : Structs) (n : Names) → Agrees env structs n → Agrees (opened env) structs n
agrees_opened env structs n a =
    let same : Keeping env (opened env) = record { functions = omega arith; globals = omega arith; variables = omega arith } in
    record {
      more = a.more;
      sound = a.sound;
      structs_are = a.structs_are;
      functions = a.functions;
      globals = a.globals;
      fixed = a.fixed;
      variables = a.variables;
      file = scope_kept env (opened env) same env.file a.file;
      scopes = All-cons (AreEntries (opened env)) [] env.scopes (All-nil _) (scopes_kept env (opened env) same env.scopes a.scopes);
    }

outer_kept : (P : Scope → Type 0) (scopes : List Scope) → All P scopes → All P (outer scopes)
outer_kept P [] h = h
outer_kept P (scope ∷ scopes) h = All-tail P scope scopes h

pub agrees_closed : (env : Env) (structs : Structs) (n : Names) → Agrees env structs n → Agrees (closed env) structs n
agrees_closed env structs n a =
    let same : Keeping env (closed env) = record { functions = omega arith; globals = omega arith; variables = omega arith } in
    record {
      more = a.more;
      sound = a.sound;
      structs_are = a.structs_are;
      functions = a.functions;
      globals = a.globals;
      fixed = a.fixed;
      variables = a.variables;
      file = scope_kept env (closed env) same env.file a.file;
      scopes = outer_kept (AreEntries (closed env)) env.scopes (scopes_kept env (closed env) same env.scopes a.scopes);
    }

-- ---- a variable more

named_kept : (env : Env) (scope : Scope) (name : List ℕ) (m : Meaning) → AreEntries env scope → IsTrue (is_entry env m) → AreEntries env (with_name scope name m)
named_kept env scope name m h here = go (is_new scope name)
  where
    go : (b : Bool) → AreEntries env (if b then scope ++ (name, m) ∷ [] else scope)
    go true = All-push (λ (entry : List ℕ × Meaning). IsTrue (is_entry env entry.1)) scope (name, m) h here
    go false = h

bound_kept : (env : Env) (scopes : List Scope) (name : List ℕ) (m : Meaning) → All (AreEntries env) scopes → IsTrue (is_entry env m) → All (AreEntries env) (bind_inner scopes name m)
bound_kept env [] name m h here = h
bound_kept env (scope ∷ scopes) name m h here =
    All-cons (AreEntries env) (with_name scope name m) scopes
    (named_kept env scope name m (All-head (AreEntries env) scope scopes h) here)
    (All-tail (AreEntries env) scope scopes h)

variables_agree : (env : Env) (structs : Structs) (n : Names) (x : Variable) → Agrees env structs n → IsTrue (is_variable (length structs) x.ty) → HasVariables n (env.variables ++ x ∷ []) → (k : ℕ) (y : Variable) → slice_get (env.variables ++ x ∷ []) k ≡ Some y → HasType (length structs) y.ty (option_map (λ z. z.ty) (slice_get n.vars k))
variables_agree env structs n x a good has k y e =
    elim (get_pushed env.variables x k y e) [
      | inl old ↦ a.variables k y old
      | inr same ↦ let is = subst (λ (z : Variable). IsTrue (is_variable (length structs) z.ty)) same good in (is, has k y e ∙ sym (has_object_type (length structs) y.ty is))
    ]

pub agrees_variable : (env : Env) (structs : Structs) (n : Names) (x : Variable) → Agrees env structs n → IsTrue (is_variable (length structs) x.ty) → HasVariables n (env.variables ++ x ∷ []) → Agrees (with_variable env x) structs n
agrees_variable env structs n x a good has =
    let longer = length-append env.variables (x ∷ []) in
    let same : Keeping env (with_variable env x) = record { functions = omega arith; globals = omega arith; variables = omega (arith, longer) } in
    let here : IsTrue (is_entry (with_variable env x) (Local (record { 0 = length env.variables }))) = grind (arith, nat_tests, longer) in
    record {
      more = a.more;
      sound = a.sound;
      structs_are = a.structs_are;
      functions = a.functions;
      globals = a.globals;
      fixed = a.fixed;
      variables = variables_agree env structs n x a good has;
      file = scope_kept env (with_variable env x) same env.file a.file;
      scopes = bound_kept (with_variable env x) env.scopes x.name (Local (record { 0 = length env.variables })) (scopes_kept env (with_variable env x) same env.scopes a.scopes) here;
    }

-- ---- structs

-- the structs that are known are among those of the typed tree
pub structs_within : (env : Env) (structs : Structs) (n : Names) → Agrees env structs n → length structs ≤ length n.structs
structs_within env structs n a =
    let is : length n.structs ≡ length (infos_of (structs ++ a.more)) = ap length a.structs_are in
    let mapped : length (infos_of (structs ++ a.more)) ≡ length (structs ++ a.more) = length-map (structs ++ a.more) struct_info in
    let joined = length-append structs a.more in
    omega (arith, is, mapped, joined)
