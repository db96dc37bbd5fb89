use Rattle.std.proofs.Common.{sym, subst}
use Rattle.c_grammar.specs.Table.{alternatives_of}
use Rattle.c_parser.specs.Levels.{EntersLink}
use Rattle.c_parser.specs.Parses.{Enters, IsOneOf}
use Rattle.c_parser.proofs.LevelRules.{link_rule}
use Rattle.c_parser.proofs.operators.link_operator.Goals as goal

pub returns-clause-enters : goal.returns-clause-enters
returns-clause-enters c = subst (EntersLink c.args.tokens.now c.args.level c.args.at) (sym c.operator_by.ensures) (link_rule c.args.tokens.now c.args.level c.args.at c.in_ok-rule.rule (subst (λ x. IsOneOf c.in_ok-rule.rule (alternatives_of x)) c.tail.ensures c.in_ok-rule.ensures.among) (subst (λ x. Enters c.args.tokens.now x c.args.at c.in_ok-rule.rule) c.tail.ensures c.in_ok-rule.ensures.enters))
