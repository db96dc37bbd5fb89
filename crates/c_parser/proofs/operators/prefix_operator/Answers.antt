use Rattle.std.proofs.Common.{[], rules, subst}
use Rattle.c_grammar.specs.declared.symbol.Symbol.TheVariants as s
use Rattle.c_parser.specs.Parses.{Enters}
use Rattle.c_parser.proofs.LastRules.{last_UnaryOp}
use Rattle.c_parser.proofs.Steps.{by_rule}
use Rattle.c_parser.specs.Parts.{of_prefix_op}
use Rattle.c_parser.proofs.operators.prefix_operator.Goals as goal

pub returns-in-125-clause-parses : goal.returns-in-125-clause-parses
returns-in-125-clause-parses c = λ depth. by_rule [] of_prefix_op c.args.tokens.now s.UnaryOp c.args.at depth 125 _ (subst (Enters c.args.tokens.now s.UnaryOp c.args.at) c.in-125.is c.in_ok-rule.ensures.enters) (c.prefixing_by.ensures.parses depth)

pub returns-in-126-clause-parses : goal.returns-in-126-clause-parses
returns-in-126-clause-parses c = λ depth. by_rule [] of_prefix_op c.args.tokens.now s.UnaryOp c.args.at depth 126 _ (subst (Enters c.args.tokens.now s.UnaryOp c.args.at) c.in-126.is c.in_ok-rule.ensures.enters) (c.prefixing_by-in-126.ensures.parses depth)

pub returns-in-127-clause-parses : goal.returns-in-127-clause-parses
returns-in-127-clause-parses c = λ depth. by_rule [] of_prefix_op c.args.tokens.now s.UnaryOp c.args.at depth 127 _ (subst (Enters c.args.tokens.now s.UnaryOp c.args.at) c.in-127.is c.in_ok-rule.ensures.enters) (c.prefixing_by-in-127.ensures.parses depth)

pub returns-in-128-clause-parses : goal.returns-in-128-clause-parses
returns-in-128-clause-parses c = λ depth. by_rule [] of_prefix_op c.args.tokens.now s.UnaryOp c.args.at depth 128 _ (subst (Enters c.args.tokens.now s.UnaryOp c.args.at) c.in-128.is c.in_ok-rule.ensures.enters) (c.prefixing_by-in-128.ensures.parses depth)

pub returns-in-129-clause-parses : goal.returns-in-129-clause-parses
returns-in-129-clause-parses c = λ depth. by_rule [] of_prefix_op c.args.tokens.now s.UnaryOp c.args.at depth 129 _ (subst (Enters c.args.tokens.now s.UnaryOp c.args.at) c.in-129.is c.in_ok-rule.ensures.enters) (c.prefixing_by-in-129.ensures.parses depth)

pub returns-in_default-clause-parses : goal.returns-in_default-clause-parses
returns-in_default-clause-parses c = λ depth. by_rule [] of_prefix_op c.args.tokens.now s.UnaryOp c.args.at depth 130 _ (subst (Enters c.args.tokens.now s.UnaryOp c.args.at) (last_UnaryOp c.in_ok-rule.rule (search rules) (search rules) (search rules) (search rules) (search rules) c.in_ok-rule.ensures.among) c.in_ok-rule.ensures.enters) (c.prefixing_by-in_default.ensures.parses depth)
