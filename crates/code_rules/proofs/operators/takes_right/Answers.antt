use Rattle.std.proofs.Common.{◌∙◌, sym}
use Rattle.code_rules.proofs.OperatorLemmas.{right_tested, right_refused, right_other}
use Rattle.code_rules.proofs.operators.takes_right.Goals as goal

pub returns-then-is_promoted : goal.returns-then-is_promoted
returns-then-is_promoted c =
    right_tested c.args.op c.args.ty c.in-Some.of c.args.right c.is_promoted.result _ (sym c.in-Some.ensures) c.is_promoted.ensures c.if-is_promoted.true c.goes_behind.ensures

pub returns-else-is_promoted : goal.returns-else-is_promoted
returns-else-is_promoted c = c.if-is_promoted.false ∙ right_refused c.args.op c.args.ty c.in-Some.of c.args.right c.is_promoted.result (sym c.in-Some.ensures) c.is_promoted.ensures c.if-is_promoted.false

pub returns-in-None : goal.returns-in-None
returns-in-None c = right_other c.args.op c.args.ty c.args.right (sym c.in-None.ensures)
