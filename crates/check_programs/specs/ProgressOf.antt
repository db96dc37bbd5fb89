-- The tables of a program as what its items make.
use Rattle.std.specs.Prelude.{map}
use Rattle.typed_tree.specs.ExpressionTree.{view_expr}
use Rattle.typed_tree.specs.TypedTree.{view_function}
use Rattle.check_expressions.specs.EnvOf.{env_of}
use Rattle.check_programs.specs.declared.progress.Progress as code
use Rattle.check_programs.specs.Progress.{Progress}

abbrev pub progress_of : code.Progress → Progress
progress_of p = record {
  env = env_of p.names;
  structs = p.walk.findings.structs;
  functions = map view_function p.functions.items;
  globals = p.globals.items;
  cells = p.cells;
  exprs = map view_expr p.walk.exprs.items;
  has_main = p.has_main;
}
