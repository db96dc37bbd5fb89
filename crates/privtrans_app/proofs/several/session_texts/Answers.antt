use Rattle.privtrans_app.proofs.SessionLemmas.{next_text}
use Rattle.privtrans_app.proofs.several.session_texts.Goals as goal

pub loop-number-preserved : goal.loop-number-preserved
loop-number-preserved c =
    next_text c.loop-number.text.items _ _ c.loop-number.number c.index-sessions-number.result c.args.sessions.now c.loop-number-test.true c.index-sessions-number.is c.in_ok-push_text.ensures c.loop-number.invariant
