-- What code names, as the definitions speak of it.
use Rattle.std.specs.Prelude.{map}
use Rattle.typed_tree.specs.TypedView.{view_typed}
use Rattle.lowering.specs.Expressions.{Scope}
use Rattle.lowering.specs.Statements.{Code}
use Rattle.lowering.specs.declared.names.Names.{Names}

unfoldable pub scope_of : Names → Scope
scope_of names = record {
  structs = (view_typed names.program.now).structs;
  globals = map (λ g. g.var.ty) (view_typed names.program.now).globals;
  variables = map (λ x. x.ty) names.variables.now;
}

abbrev pub code_in : Names → Code
code_in names = record { scope = scope_of names; exprs = (view_typed names.program.now).exprs }
