use Rattle.std.proofs.Common.{[], rules, subst}
use Rattle.c_grammar.specs.declared.symbol.Symbol.TheVariants as s
use Rattle.c_parser.specs.Parses.{Enters}
use Rattle.c_parser.proofs.LastRules.{last_AssignOp}
use Rattle.c_parser.proofs.Steps.{by_rule}
use Rattle.c_parser.specs.Parts.{of_assign_op}
use Rattle.c_parser.proofs.operators.assignment_operator.Goals as goal

pub returns-in-114-clause-parses : goal.returns-in-114-clause-parses
returns-in-114-clause-parses c = λ depth. by_rule [] of_assign_op c.args.tokens.now s.AssignOp c.args.at depth 114 _ (subst (Enters c.args.tokens.now s.AssignOp c.args.at) c.in-114.is c.in_ok-rule.ensures.enters) (c.assigning_by.ensures.parses depth)

pub returns-in-115-clause-parses : goal.returns-in-115-clause-parses
returns-in-115-clause-parses c = λ depth. by_rule [] of_assign_op c.args.tokens.now s.AssignOp c.args.at depth 115 _ (subst (Enters c.args.tokens.now s.AssignOp c.args.at) c.in-115.is c.in_ok-rule.ensures.enters) (c.assigning_by-in-115.ensures.parses depth)

pub returns-in-116-clause-parses : goal.returns-in-116-clause-parses
returns-in-116-clause-parses c = λ depth. by_rule [] of_assign_op c.args.tokens.now s.AssignOp c.args.at depth 116 _ (subst (Enters c.args.tokens.now s.AssignOp c.args.at) c.in-116.is c.in_ok-rule.ensures.enters) (c.assigning_by-in-116.ensures.parses depth)

pub returns-in-117-clause-parses : goal.returns-in-117-clause-parses
returns-in-117-clause-parses c = λ depth. by_rule [] of_assign_op c.args.tokens.now s.AssignOp c.args.at depth 117 _ (subst (Enters c.args.tokens.now s.AssignOp c.args.at) c.in-117.is c.in_ok-rule.ensures.enters) (c.assigning_by-in-117.ensures.parses depth)

pub returns-in-118-clause-parses : goal.returns-in-118-clause-parses
returns-in-118-clause-parses c = λ depth. by_rule [] of_assign_op c.args.tokens.now s.AssignOp c.args.at depth 118 _ (subst (Enters c.args.tokens.now s.AssignOp c.args.at) c.in-118.is c.in_ok-rule.ensures.enters) (c.assigning_by-in-118.ensures.parses depth)

pub returns-in-119-clause-parses : goal.returns-in-119-clause-parses
returns-in-119-clause-parses c = λ depth. by_rule [] of_assign_op c.args.tokens.now s.AssignOp c.args.at depth 119 _ (subst (Enters c.args.tokens.now s.AssignOp c.args.at) c.in-119.is c.in_ok-rule.ensures.enters) (c.assigning_by-in-119.ensures.parses depth)

pub returns-in-120-clause-parses : goal.returns-in-120-clause-parses
returns-in-120-clause-parses c = λ depth. by_rule [] of_assign_op c.args.tokens.now s.AssignOp c.args.at depth 120 _ (subst (Enters c.args.tokens.now s.AssignOp c.args.at) c.in-120.is c.in_ok-rule.ensures.enters) (c.assigning_by-in-120.ensures.parses depth)

pub returns-in-121-clause-parses : goal.returns-in-121-clause-parses
returns-in-121-clause-parses c = λ depth. by_rule [] of_assign_op c.args.tokens.now s.AssignOp c.args.at depth 121 _ (subst (Enters c.args.tokens.now s.AssignOp c.args.at) c.in-121.is c.in_ok-rule.ensures.enters) (c.assigning_by-in-121.ensures.parses depth)

pub returns-in-122-clause-parses : goal.returns-in-122-clause-parses
returns-in-122-clause-parses c = λ depth. by_rule [] of_assign_op c.args.tokens.now s.AssignOp c.args.at depth 122 _ (subst (Enters c.args.tokens.now s.AssignOp c.args.at) c.in-122.is c.in_ok-rule.ensures.enters) (c.assigning_by-in-122.ensures.parses depth)

pub returns-in-123-clause-parses : goal.returns-in-123-clause-parses
returns-in-123-clause-parses c = λ depth. by_rule [] of_assign_op c.args.tokens.now s.AssignOp c.args.at depth 123 _ (subst (Enters c.args.tokens.now s.AssignOp c.args.at) c.in-123.is c.in_ok-rule.ensures.enters) (c.assigning_by-in-123.ensures.parses depth)

pub returns-in_default-clause-parses : goal.returns-in_default-clause-parses
returns-in_default-clause-parses c = λ depth. by_rule [] of_assign_op c.args.tokens.now s.AssignOp c.args.at depth 124 _ (subst (Enters c.args.tokens.now s.AssignOp c.args.at) (last_AssignOp c.in_ok-rule.rule (search rules) (search rules) (search rules) (search rules) (search rules) (search rules) (search rules) (search rules) (search rules) (search rules) c.in_ok-rule.ensures.among) c.in_ok-rule.ensures.enters) (c.assigning_by-in_default.ensures.parses depth)
