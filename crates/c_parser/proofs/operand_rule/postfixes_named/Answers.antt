use Rattle.std.proofs.Common.{sym, rules}
use Rattle.c_parser.proofs.LastRules.{last_Postfixes}
use Rattle.c_parser.proofs.operand_rule.postfixes_named.Goals as goal

pub returns-in_default : goal.returns-in_default
returns-in_default c = sym (last_Postfixes c.args.number (search rules) (search rules) (search rules) (search rules) (search rules) (search rules) c.requires)
