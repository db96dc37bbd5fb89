use Rattle.std.proofs.Common.{[], rules, subst}
use Rattle.c_grammar.specs.declared.symbol.Symbol.TheVariants as s
use Rattle.c_parser.specs.Parses.{Enters}
use Rattle.c_parser.proofs.LastRules.{last_ForInit}
use Rattle.c_parser.proofs.Steps.{by_rule}
use Rattle.c_parser.specs.Parts.{of_for_init}
use Rattle.c_parser.proofs.heads.for_init.Goals as goal

pub returns-in-80-clause-parses : goal.returns-in-80-clause-parses
returns-in-80-clause-parses c = by_rule [] of_for_init c.args.tokens.now s.ForInit c.args.at c.args.depth 80 _ (subst (Enters c.args.tokens.now s.ForInit c.args.at) c.in-80.is c.in_ok-rule.ensures.enters) c.for_declaration.ensures.parses

pub returns-in-81-clause-parses : goal.returns-in-81-clause-parses
returns-in-81-clause-parses c = by_rule [] of_for_init c.args.tokens.now s.ForInit c.args.at c.args.depth 81 _ (subst (Enters c.args.tokens.now s.ForInit c.args.at) c.in-81.is c.in_ok-rule.ensures.enters) (c.for_nothing.ensures.parses c.args.depth)

pub returns-in_default-clause-parses : goal.returns-in_default-clause-parses
returns-in_default-clause-parses c = by_rule [] of_for_init c.args.tokens.now s.ForInit c.args.at c.args.depth 82 _ (subst (Enters c.args.tokens.now s.ForInit c.args.at) (last_ForInit c.in_ok-rule.rule (search rules) (search rules) c.in_ok-rule.ensures.among) c.in_ok-rule.ensures.enters) c.for_expression.ensures.parses
