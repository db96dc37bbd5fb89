use Rattle.std.proofs.Common.{sym, ap, ◌∙◌, nat_eq}
use Rattle.c_parser.proofs.Steps.{of_two}
use Rattle.c_parser.proofs.text.takes_first.Goals as goal

pub returns-in-Some-clause-goes : goal.returns-in-Some-clause-goes
returns-in-Some-clause-goes c = of_two c.args.tokens.now c.args.symbol c.args.at c.in-Some.rule _ c.requires.double (sym c.rule_at.ensures ∙ c.in-Some.is) (ap (λ x. nat_eq c.in-Some.rule x) c.first_rule.ensures)
