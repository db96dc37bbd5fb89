-- What the head of a function in a half's text says: what it calls for, and its parameters.
use Rattle.std.proofs.Common.{◌≡◌, ◌++◌, ◌∙◌, ◌≤◌, ap, refl, ℕ, suc, Bool, true, false, List, [], ◌∷◌, length, map, Option, Some, None, is_some, arith}
use Rattle.std.specs.Prelude.{if◌then◌else◌}
use Rattle.pt_base.specs.declared.int_type.IntType.{IntType}
use Rattle.pt_tree.specs.declared.signature.Signature.{Signature}
use Rattle.pt_tree.specs.declared.specifier.Suffix.TheVariants.{Plain}
use Rattle.pt_tree.specs.SpecifierTree.{spec_trees}
use Rattle.pt_tree.specs.StatementTree.{BlockTree}
use Rattle.pt_tree.specs.ProgramTree as parsed
use Rattle.type_rules.specs.declared.types.Type.{«Type»}
use Rattle.type_rules.specs.declared.types.Type.TheVariants as ty
use Rattle.typed_tree.specs.declared.types.StructInfo.{StructInfo}
use Rattle.check_declarations.specs.declared.fault.FaultKind.TheVariants.{OutOfProfile}
use Rattle.check_declarations.specs.declared.fault.TypeFault.{TypeFault}
use Rattle.check_declarations.specs.declared.marks.Carrier.TheVariants as carrier
use Rattle.check_declarations.specs.Faults.{fault_if}
use Rattle.check_declarations.specs.Marks.{mark_faults}
use Rattle.check_declarations.specs.Objects.{is_wrong_result, result_type, result_faults}
use Rattle.check_declarations.specs.Specifiers as spec
use Rattle.check_declarations.specs.Specifiers.{specified}
use Rattle.check_declarations.specs.Structs.{Structs}
use Rattle.check_expressions.specs.declared.meaning.Callable.{Callable}
use Rattle.check_expressions.specs.declared.meaning.Object.{Object}
use Rattle.check_expressions.specs.Environment.{Env, Scope}
use Rattle.check_programs.specs.declared.function_marks.FunctionMarks.{FunctionMarks}
use Rattle.check_programs.specs.Functions.{Judged, Head, head_of, result_of, callable_of}
use Rattle.check_programs.specs.Parameters.{Declared, declared_all}
use Rattle.half_trees.specs.Names.{nowhere, local_name}
use Rattle.half_trees.specs.Declarations.{function_specs, function_declarator, parameters_or_void}
use Rattle.half_meaning_law.specs.Known.{type_as, result_as}
use Rattle.half_names_law.proofs.Tables.{Differ, listed}
use Rattle.half_names_law.proofs.Specifiers.{function_says, marks_stand}
use Rattle.half_names_law.proofs.Parameters.{Marked, parameter_as, scoped, ParametersFit, names_of, variables_of, parameters_by, parameters_added, parameters_are}

-- ---- the result

-- it is judged by what the specifiers say
abbrev by_result : Bool → spec.Judged → Judged
by_result privileged j = record {
  structs = j.structs;
  ty = result_type j.given false Plain;
  faults = j.faults ++ result_faults j.given false Plain nowhere ++ mark_faults (carrier.Function privileged) j.given.attributes;
}

abbrev by_tests : Structs → Bool → «Type» → List TypeFault → Judged
by_tests structs wrong t mf = record {
  structs = structs;
  ty = if wrong then ty.Bad else t;
  faults = [] ++ fault_if wrong OutOfProfile nowhere ++ mf;
}

good_result : (o : Option IntType) → is_wrong_result (result_as o) false Plain ≡ false
good_result None = refl
good_result (Some t) = refl

-- a declaration with these parts
abbrev pub declaration_by : List StructInfo → List ℕ → Signature → List Marked → Option BlockTree → parsed.FunctionTree
declaration_by infos name s qs body = record {
  span = nowhere;
  specs = spec_trees (function_specs s);
  declarator = function_declarator name;
  params = parameters_or_void (parameters_by infos 0 qs);
  body = body;
}

result_is : (m : FunctionMarks) (structs : Structs) (infos : List StructInfo) (name : List ℕ) (s : Signature) (qs : List Marked) (body : Option BlockTree) → (s.declassify ≡ true → m.privileged ≡ true)
    → result_of m.privileged structs (declaration_by infos name s qs body) ≡ record { structs = structs; ty = result_as s.result; faults = [] }
result_is m structs infos name s qs body declassify =
    ap (by_result m.privileged) (function_says structs s)
    ∙ (λ i. by_tests structs (good_result s.result i) (result_as s.result) (marks_stand (carrier.Function m.privileged) s.privileged false s.declassify (λ e. refl) (λ e. cc) declassify i))

-- ---- the head

-- a function with this result and these parameters
abbrev pub callable_as : List ℕ → Option IntType → List Marked → Callable
callable_as name result qs = record { name = name; result = result_as result; params = map (λ q. type_as q.ty) qs }

types_are : (m : FunctionMarks) (k : ℕ) (qs : List Marked) → map (λ v. v.ty) (listed (parameter_as m) k qs) ≡ map (λ q. type_as q.ty) qs
types_are m k [] = refl
types_are m k (q ∷ qs) = ap (λ ts. type_as q.ty ∷ ts) (types_are m (suc k) qs)

-- where no variable is declared
abbrev pub file_env : Scope → List Callable → List Object → Env
file_env file functions globals = record { file = file; functions = functions; globals = globals; scopes = []; variables = [] }

abbrev head_by : List ℕ → Judged → Declared → Head
head_by name r ps = record { callable = callable_of ps.env name r.ty; env = ps.env; structs = ps.structs; faults = r.faults ++ ps.faults }

-- everything but the result's type and the parameters' is as it was
abbrev pub head_as : Env → Structs → FunctionMarks → List ℕ → Option IntType → List Marked → Head
head_as env structs m name result qs = record { callable = callable_as name result qs; env = scoped env (names_of qs) (variables_of m qs); structs = structs; faults = [] }

pub head_is : (m : FunctionMarks) (file : Scope) (functions : List Callable) (globals : List Object) (structs : Structs) (infos : List StructInfo) (name : List ℕ) (s : Signature) (qs : List Marked) (body : Option BlockTree)
    → (s.declassify ≡ true → m.privileged ≡ true) → ParametersFit m structs infos qs → length qs ≤ 8 → Differ local_name 8
    → head_of m (file_env file functions globals) structs (declaration_by infos name s qs body) ≡ head_as (file_env file functions globals) structs m name s.result qs
unfolding head_of
head_is m file functions globals structs infos name s qs body declassify fit few differ =
    (λ i. head_by name (result_is m structs infos name s qs body declassify i)
    (declared_all m (is_some body) (scoped (file_env file functions globals) [] []) (result_is m structs infos name s qs body declassify i).structs (parameters_are infos 0 qs i)))
    ∙ ap (head_by name (record { structs = structs; ty = result_as s.result; faults = [] })) (parameters_added m (is_some body) (file_env file functions globals) structs infos [] qs 0 fit refl (omega (arith, few)) differ)
    ∙ ap (λ ts. record { callable = record { name = name; result = result_as s.result; params = ts }; env = scoped (file_env file functions globals) (names_of qs) (variables_of m qs); structs = structs; faults = [] }) (types_are m 0 qs)
