use Rattle.std.proofs.Common.{map}
use Rattle.std.proofs.lemmas.Result.{err_from_is_err_and}
use Rattle.pt_core.specs.CodeTree.{view_stmt}
use Rattle.boot_fields.specs.Reading.{list_at, stmt_at}
use Rattle.boot_reading.proofs.Loop.{starts, no_length, goes_on_by, ends, is_done, stmts_fail, stmts_read}
use Rattle.boot_reading.proofs.code.+steps.Goals as goal

pub stmts-returns-in_err-count : goal.stmts-returns-in_err-count
stmts-returns-in_err-count t c =
    let p = err_from_is_err_and c.from_residual.result c.from_residual.ensures.1 in
    rw (p.1, p.2) (stmts_fail (stmt_at c.args.depth) c.args.bytes.now c.in_err-count.field-0.0 (no_length (stmt_at c.args.depth) c.args.bytes.now c.in_err-count.field-0.0 c.in_err-count.ensures))

pub stmts-loop-init : goal.stmts-loop-init
stmts-loop-init t c = rw c.new-items.ensures.items (starts (stmt_at c.args.depth) c.args.bytes.now c.in_ok-count.front.now c.in_ok-count.count c.in_ok-count.ensures)

pub stmts-returns-in_err-item : goal.stmts-returns-in_err-item
stmts-returns-in_err-item t c =
    let p = err_from_is_err_and c.from_residual-in_err-item.result c.from_residual-in_err-item.ensures.1 in
    rw (p.1, p.2) (stmts_fail (stmt_at c.args.depth) c.args.bytes.now c.in_err-item.field-0.0
    (ends (stmt_at c.args.depth) c.in_err-item.field-0.0 (map view_stmt c.loop.items.items) c.in_ok-count.count c.loop.counter c.loop.rest.now (list_at (stmt_at c.args.depth) c.args.bytes.now) c.loop-test.true c.in_err-item.ensures c.loop.invariant))

pub stmts-loop-preserved : goal.stmts-loop-preserved
stmts-loop-preserved t c =
    goes_on_by view_stmt (stmt_at c.args.depth) c.loop.items.items c.push.new.self.items c.in_ok-count.count c.loop.counter c.loop.rest.now c.in_ok-item.item c.in_ok-item.after.now (list_at (stmt_at c.args.depth) c.args.bytes.now) c.loop-test.true c.in_ok-item.ensures c.in_ok-push.ensures.items c.loop.invariant

pub stmts-returns : goal.stmts-returns
stmts-returns t c =
    stmts_read (stmt_at c.args.depth) c.args.bytes.now c.loop.rest.now (map view_stmt c.loop.items.items)
    (is_done (stmt_at c.args.depth) (map view_stmt c.loop.items.items) c.in_ok-count.count c.loop.counter c.loop.rest.now (list_at (stmt_at c.args.depth) c.args.bytes.now) c.loop-test.false c.loop.invariant)
