use Rattle.std.proofs.Common.{subst, sym}
use Rattle.pair_meaning.specs.Serving.{serve}
use Rattle.sessions.specs.IsHub.{AreSeats}
use Rattle.sessions.proofs.SeatPlaces.{Seats, closed_over}
use Rattle.std.specs.Prelude.{remove}
use Rattle.sessions.proofs.seats.handle_at.Goals as goal

pub returns-in-Ok-clause-handled : goal.returns-in-Ok-clause-handled
returns-in-Ok-clause-handled c ms s m all there =
    closed_over c.args.program.now ms c.args.place s m (serve m c.args.message.now) c.in-Ok.handled c.serve_at.new.seats.items c.close_over.new.seats.items c.args.out.now.items c.serve_at.new.out.items
    (c.in-Ok.ensures.served ms s m all there) (c.in-Ok.ensures.others ms all) c.close_over.ensures

pub returns-in-Err-clause-closed : goal.returns-in-Err-clause-closed
returns-in-Err-clause-closed c ms all = subst (λ (xs : Seats). AreSeats c.args.program.now xs (remove ms c.args.place)) (sym c.close_at.ensures) (c.in-Err.ensures.others ms all)
