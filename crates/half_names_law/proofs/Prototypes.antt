-- What the declaration of a function without a body adds to the names of the file.
use Rattle.std.proofs.Common.{◌≡◌, ◌++◌, ◌∙◌, ◌≤◌, ap, refl, ℕ, suc, Bool, true, false, List, [], ◌∷◌, length, map, Option, Some, None, is_none}
use Rattle.std.specs.Prelude.{◌||◌, if◌then◌else◌}
use Rattle.pt_tree.specs.declared.signature.Param.{Param}
use Rattle.pt_tree.specs.declared.signature.Signature.{Signature}
use Rattle.pt_tree.specs.SpecifierTree.{spec_trees}
use Rattle.pt_tree.specs.ProgramTree.{ItemTree, ParamTree, function}
use Rattle.typed_tree.specs.declared.types.StructInfo.{StructInfo}
use Rattle.typed_tree.specs.declared.variable.TypedGlobal.{TypedGlobal}
use Rattle.typed_tree.specs.ExpressionTree.{ExprTree}
use Rattle.typed_tree.specs.TypedTree.{FunctionTree}
use Rattle.typed_tree.specs.WellFormedExpression.{param_type}
use Rattle.check_declarations.specs.declared.fault.FaultKind.TheVariants.{Redeclared}
use Rattle.check_declarations.specs.Faults.{fault_if}
use Rattle.check_declarations.specs.NameTables.{number_of}
use Rattle.check_declarations.specs.Structs.{Structs}
use Rattle.check_expressions.specs.declared.meaning.Callable.{Callable}
use Rattle.check_expressions.specs.declared.meaning.Meaning.{Meaning}
use Rattle.check_expressions.specs.declared.meaning.Meaning.TheVariants.{Function}
use Rattle.check_expressions.specs.declared.meaning.Object.{Object}
use Rattle.check_expressions.specs.Environment.{Env, Scope, meaning_at}
use Rattle.check_programs.specs.declared.function_marks.FunctionMarks.{FunctionMarks}
use Rattle.check_programs.specs.Functions.{Checked, Head, checked_function, completed, clashes, function_in, declared_as, behind_prototype, with_start, with_head, entry_of, is_start}
use Rattle.check_programs.specs.Progress.{Progress}
use Rattle.half_trees.specs.Names.{nowhere, local_name, function_by}
use Rattle.half_trees.specs.Declarations.{declared_from, parameters_or_void, function_specs, function_declarator, prototype_item}
use Rattle.half_meaning_law.specs.Known.{function_id}
use Rattle.half_names_law.proofs.Tables.{Differ}
use Rattle.half_names_law.proofs.Parameters.{Marked, ParametersFit, parameter_of, variables_of, parameters_by}
use Rattle.half_names_law.proofs.Heads.{declaration_by, callable_as, file_env, head_as, head_is}

-- ---- a state of the walk

-- what a program makes besides names and structs
pub record Rest : Type 0 where
  pub functions : List FunctionTree
  pub globals : List TypedGlobal
  pub cells : ℕ
  pub exprs : List ExprTree
  pub has_main : Bool

abbrev pub at : Env → Structs → Rest → Progress
at env structs r = record { env = env; structs = structs; functions = r.functions; globals = r.globals; cells = r.cells; exprs = r.exprs; has_main = r.has_main }

-- ---- one declaration

abbrev pub marked_param : Param → Marked
marked_param p = record { ty = param_type p.kind; marked = p.marked; unpriv = false; declassify = p.declassify }

params_as : (infos : List StructInfo) (k : ℕ) (ps : List Param) → declared_from infos k ps ≡ parameters_by infos k (map marked_param ps)
params_as infos k [] = refl
params_as infos k (p ∷ ps) = ap (λ qs. parameter_of infos k (marked_param p) ∷ qs) (params_as infos (suc k) ps)

-- the declaration with these parameters
abbrev by_params : ℕ → Signature → List ParamTree → ItemTree
by_params f s ps = function (record { span = nowhere; specs = spec_trees (function_specs s); declarator = function_declarator (function_by f (Some s)); params = parameters_or_void ps; body = None })

pub prototype_as : (infos : List StructInfo) (f : ℕ) (s : Signature) → prototype_item infos f s ≡ function (declaration_by infos (function_by f (Some s)) s (map marked_param s.params) None)
prototype_as infos f s = ap (by_params f s) (params_as infos 0 s.params)

-- the walk behind the head, and behind the look for an earlier declaration
abbrev by_head : FunctionMarks → Progress → List StructInfo → List ℕ → Signature → List Marked → Head → Checked
by_head m st infos name s qs h =
    let c = completed m (with_start (with_head st h) h.callable false) h.callable (declaration_by infos name s qs None) in
    record { progress = c.progress; faults = h.faults ++ c.faults }

abbrev by_meaning : FunctionMarks → Progress → Callable → Option Meaning → Checked
by_meaning m st f meaning = record {
  progress = behind_prototype (declared_as m st f nowhere (function_in meaning));
  faults = fault_if (clashes st f false meaning) Redeclared nowhere ++ [];
}

abbrev pub with_prototype : Rest → FunctionMarks → Callable → List Marked → Rest
with_prototype r m f qs = record {
  functions = r.functions ++ entry_of m f (variables_of m qs) nowhere ∷ [];
  globals = r.globals;
  cells = r.cells;
  exprs = r.exprs;
  has_main = is_start f false || r.has_main;
}

abbrev by_new : FunctionMarks → Scope → List Callable → List Object → Structs → Rest → Callable → List Marked → Bool → Checked
by_new m file functions globals structs r f qs new = record {
  progress = at (file_env (if new then file ++ (f.name, Function (function_id (length functions))) ∷ [] else file) (functions ++ f ∷ []) globals) structs (with_prototype r m f qs);
  faults = [];
}

pub prototype_added : (m : FunctionMarks) (file : Scope) (functions : List Callable) (globals : List Object) (structs : Structs) (r : Rest) (infos : List StructInfo) (name : List ℕ) (s : Signature) (qs : List Marked)
    → (s.declassify ≡ true → m.privileged ≡ true) → ParametersFit m structs infos qs → length qs ≤ 8 → Differ local_name 8 → number_of file name ≡ None
    → checked_function m (at (file_env file functions globals) structs r) (declaration_by infos name s qs None)
    ≡ record { progress = at (file_env (file ++ (name, Function (function_id (length functions))) ∷ []) (functions ++ callable_as name s.result qs ∷ []) globals) structs (with_prototype r m (callable_as name s.result qs) qs); faults = [] }
unfolding completed
prototype_added m file functions globals structs r infos name s qs declassify fit few differ new =
    ap (by_head m (at (file_env file functions globals) structs r) infos name s qs) (head_is m file functions globals structs infos name s qs None declassify fit few differ)
    ∙ ap (λ o. by_meaning m (with_start (with_head (at (file_env file functions globals) structs r) (head_as (file_env file functions globals) structs m name s.result qs)) (callable_as name s.result qs) false) (callable_as name s.result qs) (meaning_at file o)) new
    ∙ ap (λ o. by_new m file functions globals structs r (callable_as name s.result qs) qs (is_none o)) new
