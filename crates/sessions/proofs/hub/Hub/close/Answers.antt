use Rattle.std.proofs.Common.{◌∙◌, refl, subst, sym}
use Rattle.std.specs.Prelude.{remove}
use Rattle.pt_base.proofs.Options.{some_not_none}
use Rattle.sessions.specs.Alone.{after_call, closes}
use Rattle.sessions.specs.IsHub.{AreSeats}
use Rattle.sessions.proofs.HubSeats.{closed_already, closed_hub, closed_others, nowhere_by, rising, same_others, sits_at, stands_within}
use Rattle.sessions.proofs.SeatPlaces.{Seats, seats_remove}
use Rattle.sessions.proofs.hub.Hub.close.Goals as goal

pub place-requires : goal.place-requires
place-requires c = rising c.args.self.now c.requires

pub close_at-requires : goal.close_at-requires
close_at-requires c = stands_within c.args.self.now.seats.items c.args.session c.in-Some.place c.in-Some.ensures

pub returns-in_default-clause-closed : goal.returns-in_default-clause-closed
returns-in_default-clause-closed c h is = closed_already c.args.self.now h c.args.session is (nowhere_by c.args.self.now h c.args.session c.place.result is c.in_default.is c.place.ensures)

pub returns-in_default-clause-not_open : goal.returns-in_default-clause-not_open
returns-in_default-clause-not_open c h is = (λ e. nowhere_by c.args.self.now h c.args.session c.place.result is c.in_default.is c.place.ensures, λ none. refl)

pub returns-in_default-clause-others : goal.returns-in_default-clause-others
returns-in_default-clause-others c h is = (h, is, same_others h c.args.session)

pub returns-clause-closed : goal.returns-clause-closed
returns-clause-closed c h is =
    let at = sits_at c.args.self.now h c.args.session c.in-Some.place is c.in-Some.ensures in
    closed_hub c.args.self.now c.close_at.new.seats h c.args.session c.in-Some.place is at
    (subst (λ (xs : Seats). AreSeats c.args.self.now.program xs (remove h.seats c.in-Some.place)) (sym c.close_at.ensures) (seats_remove c.args.self.now.program c.args.self.now.seats.items h.seats c.in-Some.place is.seats))

pub returns-clause-not_open : goal.returns-clause-not_open
returns-clause-not_open c h is =
    let at = sits_at c.args.self.now h c.args.session c.in-Some.place is c.in-Some.ensures in (λ e. cc, λ none. some_not_none at.monitor (sym at.found ∙ none))

pub returns-clause-others : goal.returns-clause-others
returns-clause-others c h is =
    let at = sits_at c.args.self.now h c.args.session c.in-Some.place is c.in-Some.ensures in (
      after_call (closes c.args.session) h,
      closed_hub c.args.self.now c.close_at.new.seats h c.args.session c.in-Some.place is at
          (subst (λ (xs : Seats). AreSeats c.args.self.now.program xs (remove h.seats c.in-Some.place)) (sym c.close_at.ensures) (seats_remove c.args.self.now.program c.args.self.now.seats.items h.seats c.in-Some.place is.seats)),
      closed_others h c.args.session,
    )
