use Rattle.std.proofs.Common.{◌≡◌, ◌∙◌, Err, refl, rules, sym}
use Rattle.pt_base.proofs.Options.{some_not_none}
use Rattle.sessions.specs.declared.error.HubError.TheVariants.{Memory}
use Rattle.sessions.specs.Alone.{after_call, closes, handles}
use Rattle.sessions.proofs.HubSeats.{closed_already, closed_hub, closed_others, handled_hub, handled_others, handled_over, handled_tells, nowhere_by, rising, same_others, sits_at, stands_within}
use Rattle.sessions.proofs.hub.Hub.handle.Goals as goal

pub place-requires : goal.place-requires
place-requires c = rising c.args.self.now c.requires.stands

-- ---- it isn't open

pub returns-in_default-clause-closed : goal.returns-in_default-clause-closed
returns-in_default-clause-closed c h is = closed_already c.args.self.now h c.args.session is (nowhere_by c.args.self.now h c.args.session c.place.result is c.in_default.is c.place.ensures)

pub returns-in_default-clause-not_open : goal.returns-in_default-clause-not_open
returns-in_default-clause-not_open c h is = (λ e. nowhere_by c.args.self.now h c.args.session c.place.result is c.in_default.is c.place.ensures, λ none. refl)

pub returns-in_default-clause-others : goal.returns-in_default-clause-others
returns-in_default-clause-others c h is = (h, is, same_others h c.args.session)

-- ---- memory was wanting

pub handle_at-requires-clause-stands : goal.handle_at-requires-clause-stands
handle_at-requires-clause-stands c = (c.requires.stands.0.seats, c.requires.stands.1.seats)

pub handle_at-requires-clause-within : goal.handle_at-requires-clause-within
handle_at-requires-clause-within c = stands_within c.args.self.now.seats.items c.args.session c.in-Some.place c.in-Some.ensures

pub returns-in_err-handled-clause-closed : goal.returns-in_err-handled-clause-closed
returns-in_err-handled-clause-closed c =
    let wants : c.from_residual.result ≡ Err Memory = search rules in
    rw wants (λ h is. closed_hub c.args.self.now c.handle_at.new.seats h c.args.session c.in-Some.place is
    (sits_at c.args.self.now h c.args.session c.in-Some.place is c.in-Some.ensures) (c.in_err-handled.ensures.closed h.seats is.seats))

pub returns-in_err-handled-clause-not_open : goal.returns-in_err-handled-clause-not_open
returns-in_err-handled-clause-not_open c h is =
    let wants : c.from_residual.result ≡ Err Memory = search rules in
    let at = sits_at c.args.self.now h c.args.session c.in-Some.place is c.in-Some.ensures in
    rw wants (λ e. cc, λ none. some_not_none at.monitor (sym at.found ∙ none))

pub returns-in_err-handled-clause-others : goal.returns-in_err-handled-clause-others
returns-in_err-handled-clause-others c h is =
    let at = sits_at c.args.self.now h c.args.session c.in-Some.place is c.in-Some.ensures in (
      after_call (closes c.args.session) h,
      closed_hub c.args.self.now c.handle_at.new.seats h c.args.session c.in-Some.place is at (c.in_err-handled.ensures.closed h.seats is.seats),
      closed_others h c.args.session,
    )

-- ---- it was handled

pub returns-clause-handled : goal.returns-clause-handled
returns-clause-handled c h is =
    let at = sits_at c.args.self.now h c.args.session c.in-Some.place is c.in-Some.ensures in
    handled_tells h c.args.session c.in-Some.place c.args.message.now c.in_ok-handled.handled c.args.out.now.items c.handle_at.new.out.items at
    (c.in_ok-handled.ensures.handled h.seats c.args.session at.monitor is.seats at.there).0

pub returns-clause-after : goal.returns-clause-after
returns-clause-after c h is =
    let at = sits_at c.args.self.now h c.args.session c.in-Some.place is c.in-Some.ensures in
    handled_hub c.args.self.now c.handle_at.new.seats h c.args.session c.in-Some.place c.args.message.now is at (c.in_ok-handled.ensures.handled h.seats c.args.session at.monitor is.seats at.there).1

pub returns-clause-not_open : goal.returns-clause-not_open
returns-clause-not_open c h is =
    let at = sits_at c.args.self.now h c.args.session c.in-Some.place is c.in-Some.ensures in (λ e. cc, λ none. some_not_none at.monitor (sym at.found ∙ none))

pub returns-clause-others : goal.returns-clause-others
returns-clause-others c h is =
    let at = sits_at c.args.self.now h c.args.session c.in-Some.place is c.in-Some.ensures in (
      after_call (handles c.args.session c.args.message.now) h,
      handled_hub c.args.self.now c.handle_at.new.seats h c.args.session c.in-Some.place c.args.message.now is at (c.in_ok-handled.ensures.handled h.seats c.args.session at.monitor is.seats at.there).1,
      handled_others h c.args.session c.args.message.now,
    )

pub returns-clause-over : goal.returns-clause-over
returns-clause-over c over h is =
    let at = sits_at c.args.self.now h c.args.session c.in-Some.place is c.in-Some.ensures in
    let done = c.in_ok-handled.ensures.handled h.seats c.args.session at.monitor is.seats at.there in (
      after_call (handles c.args.session c.args.message.now) h,
      handled_hub c.args.self.now c.handle_at.new.seats h c.args.session c.in-Some.place c.args.message.now is at done.1,
      handled_over h c.args.session c.in-Some.place c.args.message.now c.in_ok-handled.handled c.args.out.now.items c.handle_at.new.out.items is.kept at done.0 over,
    )
