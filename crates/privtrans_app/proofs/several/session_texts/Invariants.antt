use Rattle.std.proofs.Common.{◌≡◌, ◌++◌, drop, map}
use Rattle.pair_running.specs.ServedPairsTurns.{view_session}
use Rattle.privtrans_app.specs.Sessions.{texts_from}
use Rattle.privtrans_app.proofs.several.session_texts.Given as goal

-- what is told of those so far, and then of the others, is told of all
abbrev pub invariant-loop-number : goal.invariant-loop-number
invariant-loop-number l =
    l.text.items ++ texts_from l.number (map view_session (drop l.number l.sessions)) ≡ texts_from 0 (map view_session l.fn.sessions)
