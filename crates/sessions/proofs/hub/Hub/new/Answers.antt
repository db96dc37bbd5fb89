use Rattle.std.proofs.Common.{[], arith, refl, subst, sym}
use Rattle.sessions.specs.IsHub.{AreSeats}
use Rattle.sessions.proofs.SeatPlaces.{Seats}
use Rattle.sessions.proofs.hub.Hub.new.Goals as goal

pub returns : goal.returns
returns c = record {
  program = refl;
  hosts = refl;
  policy = refl;
  budget = refl;
  opened = refl;
  seats = subst (λ (xs : Seats). AreSeats c.args.program xs []) (sym c.new.ensures.items) (tt {0});
  kept = record { rising = tt {0}; few = omega arith };
  well_formed = c.requires.well_formed;
  serve = c.requires.hosts;
}
