use Rattle.std.proofs.Common.{◌≡◌, ◌<◌, length, drop, Err, ◌∙◌, ap, arith, length-drop, rules}
use Rattle.wire.specs.Limits.{longest_piece}
use Rattle.pair_runner.proofs.Causes.{cause_after}
use Rattle.pair_runner.proofs.Pieces.{sent_one, sent_all, middle_part, last_part, end_part}
use Rattle.pair_runner.proofs.Stuck.{on_err}
use Rattle.pair_runner.proofs.sending.send_boot.Goals as goal

pub returns-in_err-send_piece-clause-err : goal.returns-in_err-send_piece-clause-err
returns-in_err-send_piece-clause-err g c =
    on_err _ _ (middle_part g.L.Link.came g.L.Link.sent g.L.Link.given _ _ _ _ _ c.loop-rest.invariant.sent (grind arith) (rw c.front-piece.ensures.front at c.in_err-send_piece.ensures.err))

pub returns-in_err-send_piece-clause-cause : goal.returns-in_err-send_piece-clause-cause
returns-in_err-send_piece-clause-cause g c =
    let is : c.from_residual.result ≡ Err c.in_err-send_piece.field-0.0 = search rules in
    rw is (cause_after _ _ _ _ _ _ c.loop-rest.invariant.links c.in_err-send_piece.ensures.cause)

pub loop-rest-smaller : goal.loop-rest-smaller
loop-rest-smaller g c =
    let long : longest_piece < length c.loop-rest.rest.now = grind arith in
    let same : length c.behind-more.result.now ≡ length (drop longest_piece c.loop-rest.rest.now) = ap length c.behind-more.ensures.back in
    omega (arith, long, same, length-drop longest_piece c.loop-rest.rest.now)

pub loop-rest-preserved : goal.loop-rest-preserved
loop-rest-preserved g c = record {
  ready = c.in_ok-send_piece.ensures.ready;
  sent = rw c.behind-more.ensures.back (sent_one g.L.Link.came g.L.Link.sent g.L.Link.given g.met.L.Link.further _ _ _ _ _ c.loop-rest.invariant.sent (grind arith) (rw c.front-piece.ensures.front at c.in_ok-send_piece.ensures.ok));
  links = c.in_ok-send_piece.ensures.cause.stays ∙ c.loop-rest.invariant.links;
}

pub returns-in_err-send_piece-2-clause-err : goal.returns-in_err-send_piece-2-clause-err
returns-in_err-send_piece-2-clause-err g c =
    on_err _ _ (last_part g.L.Link.came g.L.Link.sent g.L.Link.given _ _ _ _ _ c.loop-rest.invariant.sent (grind arith) c.in_err-send_piece-2.ensures.err)

pub returns-in_err-send_piece-3-clause-err : goal.returns-in_err-send_piece-3-clause-err
returns-in_err-send_piece-3-clause-err g c =
    on_err _ _ (end_part g.L.Link.came g.L.Link.sent g.L.Link.given g.met.L.Link.further _ _ _ _ _ _ c.loop-rest.invariant.sent (grind arith) c.in_ok-send_piece-2.ensures.ok c.in_err-send_piece-3.ensures.err)

pub returns-clause-ok : goal.returns-clause-ok
returns-clause-ok g c =
    sent_all g.L.Link.came g.L.Link.sent g.L.Link.given g.met.L.Link.further _ _ _ _ _ _ c.loop-rest.invariant.sent (grind arith) c.in_ok-send_piece-2.ensures.ok c.in_ok-send_piece-3.ensures.ok
