use Rattle.std.proofs.Common.{◌≡◌, ◌+◌, ◌<◌, [], ◌∷◌, length, length-append, reverse, ap, ◌∙◌, arith}
use Rattle.std.specs.Prelude.{Ok}
use Rattle.std.proofs.lemmas.Result.{err_from_is_err_and}
use Rattle.pt_core.specs.CodeTree.{view_expr}
use Rattle.boot_fields.specs.Reading.{expr_at}
use Rattle.boot_reading.specs.ChainReading.{view_start}
use Rattle.boot_reading.proofs.FirstOperands.{ends_there, goes_in, no_start, pushed}
use Rattle.boot_reading.proofs.expressions.innermost.Goals as goal

pub returns-in_err-start-clause-down : goal.returns-in_err-start-clause-down
returns-in_err-start-clause-down c =
    let p = err_from_is_err_and c.from_residual.result c.from_residual.ensures.1 in
    rw (p.1, p.2) (no_start c.loop-left.left (reverse c.loop-left.heads.items) c.loop-left.rest.now c.in_err-start.field-0.0 (expr_at c.args.depth c.args.bytes.now) c.loop-left-test.true c.in_err-start.ensures c.loop-left.invariant.down)

pub returns-in-Whole-clause-down : goal.returns-in-Whole-clause-down
returns-in-Whole-clause-down c =
    ends_there c.loop-left.left (reverse c.loop-left.heads.items) c.loop-left.rest.now c.in_ok-start.after.now (view_expr c.in-Whole.expr) (expr_at c.args.depth c.args.bytes.now) c.loop-left-test.true
    (c.in_ok-start.ensures ∙ ap (λ s. Ok (view_start s, c.in_ok-start.after.now)) c.in-Whole.is) c.loop-left.invariant.down

pub loop-left-preserved : goal.loop-left-preserved
loop-left-preserved c =
    let is : reverse c.push.new.self.items ≡ c.in-Opens.head ∷ reverse c.loop-left.heads.items = ap reverse c.in_ok-push-in-Opens.ensures.items ∙ pushed c.loop-left.heads.items c.in-Opens.head in
    let longer : length c.push.new.self.items ≡ length c.loop-left.heads.items + 1 = ap length c.in_ok-push-in-Opens.ensures.items ∙ length-append c.loop-left.heads.items (c.in-Opens.head ∷ []) in
    let deep : c.loop-left.left + length c.loop-left.heads.items ≡ c.args.depth = c.loop-left.invariant.deep in
    let more : 0 < c.loop-left.left = c.loop-left-test.true in
    record {
      down =
          rw is (goes_in c.loop-left.left (reverse c.loop-left.heads.items) c.in-Opens.head c.loop-left.rest.now c.in_ok-start.after.now (expr_at c.args.depth c.args.bytes.now) c.loop-left-test.true
          (c.in_ok-start.ensures ∙ ap (λ s. Ok (view_start s, c.in_ok-start.after.now)) c.in-Opens.is) c.loop-left.invariant.down);
      deep = omega arith;
    }
