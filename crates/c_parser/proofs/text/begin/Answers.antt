use Rattle.std.proofs.Common.{sym, ◌∙◌}
use Rattle.c_parser.proofs.Steps.{only_rule}
use Rattle.c_parser.proofs.text.begin.Goals as goal

pub returns-in-Some : goal.returns-in-Some
returns-in-Some c = only_rule _ _ _ _ c.requires.single (sym c.rule_at.ensures ∙ c.in-Some.is)
