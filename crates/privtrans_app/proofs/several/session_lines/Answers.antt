use Rattle.privtrans_app.proofs.SessionLemmas.{next_line}
use Rattle.privtrans_app.proofs.several.session_lines.Goals as goal

pub loop-number-preserved : goal.loop-number-preserved
loop-number-preserved c =
    next_line c.args.names.now c.loop-number.lines.items _ _ c.loop-number.number c.index-sessions-number.result c.args.sessions.now c.loop-number-test.true c.index-sessions-number.is c.in_ok-push_line.ensures c.loop-number.invariant
