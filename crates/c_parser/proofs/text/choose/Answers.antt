use Rattle.std.proofs.Common.{sym, ◌∙◌}
use Rattle.c_parser.proofs.Steps.{entered, among}
use Rattle.c_parser.proofs.text.choose.Goals as goal

pub returns-in-Some-clause-enters : goal.returns-in-Some-clause-enters
returns-in-Some-clause-enters c = entered _ _ _ _ (sym c.rule_at.ensures ∙ c.in-Some.is)

pub returns-in-Some-clause-among : goal.returns-in-Some-clause-among
returns-in-Some-clause-among c = among c.args.tokens.now c.args.symbol c.args.at c.in-Some.rule (sym c.rule_at.ensures ∙ c.in-Some.is)
