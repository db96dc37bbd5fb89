use Rattle.std.proofs.Common.{sym, ◌∙◌}
use Rattle.c_parser.proofs.Climbing.{descends, no_level}
use Rattle.c_parser.proofs.Steps.{no_rule}
use Rattle.c_parser.specs.Levels.{symbol_of}
use Rattle.c_parser.proofs.levels.begin_operand.Goals as goal

pub returns-in-Some-clause-enters : goal.returns-in-Some-clause-enters
returns-in-Some-clause-enters c = descends c.args.tokens.now c.args.level c.args.at _ (sym c.rule_at.ensures ∙ c.in-Some.is)

pub returns-in-None-clause-fails : goal.returns-in-None-clause-fails
returns-in-None-clause-fails c = λ depth. no_rule c.args.tokens.now (symbol_of c.args.level) c.args.at depth (no_level c.args.tokens.now c.args.level c.args.at (sym c.rule_at.ensures ∙ c.in-None.is))
