-- The numbers of the rules that have names.
use Rattle.std.specs.Prelude.{ℕ}
use Rattle.c_parser.specs.declared.statement_rule.StatementRule.{StatementRule}
use Rattle.c_parser.specs.declared.statement_rule.StatementRule.TheVariants as statement

abbrev pub statement_number : StatementRule → ℕ
statement_number statement.Block = 68
statement_number statement.Empty = 69
statement_number statement.Expression = 70
statement_number statement.If = 71
statement_number statement.While = 72
statement_number statement.Do = 73
statement_number statement.For = 74
statement_number statement.Return = 75
statement_number statement.Break = 76
statement_number statement.Continue = 77
statement_number statement.Switch = 169
