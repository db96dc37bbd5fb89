-- The C trees of functions with bodies.
use Rattle.std.specs.Prelude.{ℕ, suc, List, [], ◌∷◌, ◌++◌, Option, None, Some, Bool, false, not, ◌&&◌, take, drop, nat_eq}
use Rattle.std.specs.Map.{lookup}
use Rattle.pt_tree.specs.declared.signature.Signature.{Signature}
use Rattle.pt_tree.specs.SpecifierTree.{SpecTree, spec_trees}
use Rattle.pt_tree.specs.StatementTree.{StmtTree, declare, no_init, BlockTree}
use Rattle.pt_tree.specs.ProgramTree.{ParamTree, ItemTree, function}
use Rattle.typed_tree.specs.declared.types.StructInfo.{StructInfo}
use Rattle.typed_tree.specs.declared.variable.Var.{Var}
use Rattle.pt_core.specs.CodeTree.{FunctionTree, ProgramTree}
use Rattle.pt_core.specs.WellFormed.{signature_at, context_of}
use Rattle.half_trees.specs.Names.{nowhere, local_name, function_by}
use Rattle.half_trees.specs.Declarations.{mark_specs, result_specs, object, parameter, parameters_or_void, function_specs, function_declarator}
use Rattle.half_trees.specs.Statements.{statements_trees}

-- A parameter may be marked both `priv` and `unpriv`, each by another declaration of its function. One declaration
-- can't say both, and `priv` is the one that tells something.
abbrev pub is_only_unpriv : Var → Bool
is_only_unpriv x = x.unpriv && not x.marked

abbrev pub variable_marks : Var → List SpecTree
variable_marks x = mark_specs x.marked (is_only_unpriv x) false

-- the variables from this number on, as parameters
abbrev pub parameters_from : List StructInfo → ℕ → List Var → List ParamTree
parameters_from structs n [] = []
parameters_from structs n (x ∷ rest) = parameter structs (variable_marks x) x.ty (local_name n) ∷ parameters_from structs (suc n) rest

-- the variables from this number on, declared one by one
abbrev pub locals_from : List StructInfo → ℕ → List Var → List StmtTree
locals_from structs n [] = []
locals_from structs n (x ∷ rest) = declare (object structs (variable_marks x) x.ty (local_name n) no_init) ∷ locals_from structs (suc n) rest

-- the marks and the result, if it is known what the function is called with
abbrev pub head_specs : Option Signature → List SpecTree
head_specs None = result_specs None
head_specs (Some s) = function_specs s

abbrev pub body_tree : ProgramTree → FunctionTree → BlockTree
body_tree p f = record {
  span = nowhere;
  items = locals_from p.structs f.params (drop f.params f.vars) ++ statements_trees p.signatures (context_of p f.vars) f.body;
}

abbrev pub function_item : ProgramTree → FunctionTree → ItemTree
function_item p f = function (record {
  span = nowhere;
  specs = spec_trees (head_specs (signature_at p f.id));
  declarator = function_declarator (function_by f.id (signature_at p f.id));
  params = parameters_or_void (parameters_from p.structs 0 (take f.params f.vars));
  body = Some (body_tree p f);
})
