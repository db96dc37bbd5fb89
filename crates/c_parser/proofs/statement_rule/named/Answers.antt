use Rattle.std.proofs.Common.{sym, rules}
use Rattle.c_parser.proofs.LastRules.{last_Statement}
use Rattle.c_parser.proofs.statement_rule.named.Goals as goal

pub returns-in_default : goal.returns-in_default
returns-in_default c = sym (last_Statement c.args.number (search rules) (search rules) (search rules) (search rules) (search rules) (search rules) (search rules) (search rules) (search rules) (search rules) c.requires)
