use Rattle.std.proofs.Common.{[], subst}
use Rattle.c_grammar.specs.declared.symbol.Symbol.TheVariants as s
use Rattle.c_parser.specs.OperandNames.{primary_number}
use Rattle.c_parser.specs.Parses.{Enters}
use Rattle.c_parser.proofs.Steps.{by_rule}
use Rattle.c_parser.specs.Parts.{of_expr}
use Rattle.c_parser.proofs.primaries.primary.Goals as goal

pub returns-in-Name-clause-parses : goal.returns-in-Name-clause-parses
returns-in-Name-clause-parses c = λ depth. by_rule [] of_expr c.args.tokens.now s.Primary c.args.at depth 111 _ (subst (λ r. Enters c.args.tokens.now s.Primary c.args.at (primary_number r)) c.in-Name.is c.in_ok-rule.ensures.enters) (c.name.ensures.parses depth)

pub returns-in-Number-clause-parses : goal.returns-in-Number-clause-parses
returns-in-Number-clause-parses c = λ depth. by_rule [] of_expr c.args.tokens.now s.Primary c.args.at depth 112 _ (subst (λ r. Enters c.args.tokens.now s.Primary c.args.at (primary_number r)) c.in-Number.is c.in_ok-rule.ensures.enters) (c.literal.ensures.parses depth)

pub returns-in-Character-clause-parses : goal.returns-in-Character-clause-parses
returns-in-Character-clause-parses c = λ depth. by_rule [] of_expr c.args.tokens.now s.Primary c.args.at depth 113 _ (subst (λ r. Enters c.args.tokens.now s.Primary c.args.at (primary_number r)) c.in-Character.is c.in_ok-rule.ensures.enters) (c.literal-in-Character.ensures.parses depth)
