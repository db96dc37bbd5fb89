use Rattle.std.proofs.Common.{◌≡◌, ◌++◌, drop, map}
use Rattle.pair_running.specs.ServedPairsTurns.{view_session}
use Rattle.privtrans_app.specs.Sessions.{lines_from}
use Rattle.privtrans_app.proofs.several.session_lines.Given as goal

-- what is told of those so far, and then of the others, is told of all
abbrev pub invariant-loop-number : goal.invariant-loop-number
invariant-loop-number l =
    l.lines.items ++ lines_from l.names l.number (map view_session (drop l.number l.sessions)) ≡ lines_from l.names 0 (map view_session l.fn.sessions)
