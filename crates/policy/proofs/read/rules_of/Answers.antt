use Rattle.policy.specs.Functions.{known}
use Rattle.policy.proofs.TextLaws.{text_is}
use Rattle.policy.proofs.read.rules_of.Goals as goal

pub returns : goal.returns
returns c = text_is (known c.args.functions.now) c.args.text.now c.read_rules.result c.if-text-gt-TEXT_LIMIT.false c.read_rules.ensures
