use Rattle.boot_writing.proofs.TreeLists.{stmts_put, if_ok, choice_put, choice_fits, loop_put, loop_fits}
use Rattle.boot_writing.proofs.code.+blocks.Goals as goal

pub put_stmt-returns-in_ok-put_stmts-in-If-clause-bytes : goal.put_stmt-returns-in_ok-put_stmts-in-If-clause-bytes
put_stmt-returns-in_ok-put_stmts-in-If-clause-bytes t c =
    if_ok c.put_stmts-in-If.result
    (choice_put c.args.statement.now c.in-If.cond c.in-If.yes c.in-If.no c.deref-in-If.result.now c.deref-in-If-2.result.now c.args.out.now.items c.put_byte-in-If.new.out.items c.put_expr-in-If.new.out.items c.put_stmts.new.out.items c.put_stmts-in-If.new.out.items
    c.in-If.is c.deref-in-If.ensures.value c.deref-in-If-2.ensures.value c.in_ok-put_byte-in-If.ensures c.in_ok-put_expr-in-If.ensures.bytes c.in_ok-put_stmts-in-If.ensures.bytes)
    c.put_stmts-in-If.ensures.bytes

pub put_stmt-returns-in_ok-put_stmts-in-If-clause-fits : goal.put_stmt-returns-in_ok-put_stmts-in-If-clause-fits
put_stmt-returns-in_ok-put_stmts-in-If-clause-fits t c =
    if_ok c.put_stmts-in-If.result
    (choice_fits c.args.statement.now c.in-If.cond c.in-If.yes c.in-If.no c.deref-in-If.result.now c.deref-in-If-2.result.now
    c.in-If.is c.deref-in-If.ensures.value c.deref-in-If-2.ensures.value c.in_ok-put_expr-in-If.ensures.fits c.in_ok-put_stmts-in-If.ensures.fits)
    c.put_stmts-in-If.ensures.fits

pub put_stmt-returns-in_ok-put_stmts-in-Loop-clause-bytes : goal.put_stmt-returns-in_ok-put_stmts-in-Loop-clause-bytes
put_stmt-returns-in_ok-put_stmts-in-Loop-clause-bytes t c =
    if_ok c.put_span-in-Loop.result
    (loop_put c.args.statement.now c.in-Loop.body c.in-Loop.span c.deref-in-Loop.result.now c.args.out.now.items c.put_byte-in-Loop.new.out.items c.put_stmts-in-Loop.new.out.items c.put_span-in-Loop.new.out.items
    c.in-Loop.is c.deref-in-Loop.ensures.value c.in_ok-put_byte-in-Loop.ensures c.in_ok-put_stmts-in-Loop.ensures.bytes)
    c.put_span-in-Loop.ensures.bytes

pub put_stmt-returns-in_ok-put_stmts-in-Loop-clause-fits : goal.put_stmt-returns-in_ok-put_stmts-in-Loop-clause-fits
put_stmt-returns-in_ok-put_stmts-in-Loop-clause-fits t c =
    if_ok c.put_span-in-Loop.result
    (loop_fits c.args.statement.now c.in-Loop.body c.in-Loop.span c.deref-in-Loop.result.now c.in-Loop.is c.deref-in-Loop.ensures.value c.in_ok-put_stmts-in-Loop.ensures.fits)
    c.put_span-in-Loop.ensures.fits

pub put_stmts-returns-clause-bytes : goal.put_stmts-returns-clause-bytes
put_stmts-returns-clause-bytes t c =
    (stmts_put c.args.statements.now c.loop-statement.statement-index c.args.out.now.items c.loop-statement.out.items c.loop-statement-test.false c.put_count.ensures.fits c.loop-statement.invariant).0

pub put_stmts-returns-clause-fits : goal.put_stmts-returns-clause-fits
put_stmts-returns-clause-fits t c =
    (stmts_put c.args.statements.now c.loop-statement.statement-index c.args.out.now.items c.loop-statement.out.items c.loop-statement-test.false c.put_count.ensures.fits c.loop-statement.invariant).1
