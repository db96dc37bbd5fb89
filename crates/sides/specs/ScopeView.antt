-- What contracts see of a scope.
use Rattle.sides.specs.declared.scope.Scope.{Scope}
use Rattle.sides.specs.Carried as is

abbrev pub view_scope : Scope → is.Scope
view_scope s = record { structs = s.structs.now; globals = s.globals.now; variables = s.variables.now; results = s.results }
