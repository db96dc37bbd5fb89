-- The tables as an environment.
use Rattle.std.specs.Prelude.{reverse}
use Rattle.check_expressions.specs.declared.names.Names.{Names}
use Rattle.check_expressions.specs.Environment.{Env}

abbrev pub env_of : Names → Env
env_of n = record { file = n.file; functions = n.functions.items; globals = n.globals.items; scopes = reverse n.scopes.items; variables = n.variables.items }
