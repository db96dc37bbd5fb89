use Rattle.std.proofs.Common.{◌≡◌, reverse, ap, subst, ◌∙◌}
use Rattle.std.specs.Prelude.{Ok}
use Rattle.std.proofs.lemmas.Result.{err_from_is_err_and}
use Rattle.pt_core.specs.CodeTree.{view_expr}
use Rattle.boot_fields.specs.Reading.{expr_at}
use Rattle.boot_reading.specs.ChainReading.{upwards}
use Rattle.boot_reading.proofs.FirstOperands.{not_closed, pushed}
use Rattle.boot_reading.proofs.expressions.+nodes.Goals as goal

pub expr-returns-in_err-whole : goal.expr-returns-in_err-whole
expr-returns-in_err-whole t c =
    let p = err_from_is_err_and c.from_residual-in_err-whole.result c.from_residual-in_err-whole.ensures.1 in
    let so_far = subst (λ hs. upwards c.loop-head.left hs (Ok (view_expr c.loop-head.found, c.loop-head.rest.now)) ≡ expr_at c.args.depth c.args.bytes.now) (ap reverse c.in-Some.ensures.items ∙ pushed c.pop.new.self.items c.in-Some.head) c.loop-head.invariant.up in
    rw (p.1, p.2) (not_closed c.loop-head.left c.in-Some.head (reverse c.pop.new.self.items) (view_expr c.loop-head.found) c.loop-head.rest.now c.in_err-whole.field-0.0 (expr_at c.args.depth c.args.bytes.now) c.in_err-whole.ensures so_far)
