use Rattle.std.proofs.Common.{◌++◌, ◌∙◌, ℕ, List, ap, slice_set, subst}
use Rattle.pair_meaning.specs.Serving.{serve}
use Rattle.monitor_interp.specs.Handling.{Handles}
use Rattle.monitor_interp.specs.Monitors.{IsSeat}
use Rattle.sessions.specs.IsHub.{AreSeats}
use Rattle.sessions.proofs.SeatPlaces.{handles_as, others_stay, read_seat, seats_set, some_seat}
use Rattle.sessions.proofs.seats.serve_at.Goals as goal

pub handle-requires-clause-stands : goal.handle-requires-clause-stands
handle-requires-clause-stands c =
    some_seat c.args.program.now c.args.seats.now.items c.requires.stands.0 c.args.place c.index_mut-entry.result.now c.requires.stands.1 c.requires.within c.index_mut-entry.ensures.value

pub returns-in_err-handled-clause-others : goal.returns-in_err-handled-clause-others
returns-in_err-handled-clause-others c ms all = others_stay c.args.program.now c.args.seats.now.items ms c.args.place (c.index_mut-entry.result.now.0, c.handle.new.self) all

pub returns-in_err-extend_from_slice-clause-others : goal.returns-in_err-extend_from_slice-clause-others
returns-in_err-extend_from_slice-clause-others c ms all = others_stay c.args.program.now c.args.seats.now.items ms c.args.place (c.index_mut-entry.result.now.0, c.handle.new.self) all

pub returns-clause-others : goal.returns-clause-others
returns-clause-others c ms all = others_stay c.args.program.now c.args.seats.now.items ms c.args.place (c.index_mut-entry.result.now.0, c.handle.new.self) all

pub returns-clause-served : goal.returns-clause-served
returns-clause-served c ms s m all there =
    let sits : IsSeat c.args.program.now c.index_mut-entry.result.now.1 m = (read_seat c.args.program.now c.args.seats.now.items ms c.args.place s m c.index_mut-entry.result.now all there c.index_mut-entry.ensures.value).1 in
    handles_as (IsSeat c.args.program.now c.handle.new.self)
    (λ next. AreSeats c.args.program.now (slice_set c.args.seats.now.items c.args.place (c.index_mut-entry.result.now.0, c.handle.new.self)) (slice_set ms c.args.place (s, next)))
    m (serve m c.args.message.now) c.in_ok-handled.handled c.args.out.now.items c.handle.new.out.items c.extend_from_slice.new.self.items
    (λ next at. seats_set c.args.program.now c.args.seats.now.items ms c.args.place s m next c.index_mut-entry.result.now c.handle.new.self all there c.index_mut-entry.ensures.value at)
    (subst (λ (l : List ℕ). Handles (IsSeat c.args.program.now c.handle.new.self) m (serve m c.args.message.now) c.in_ok-handled.handled l c.handle.new.out.items) c.new-bytes.ensures.items (c.in_ok-handled.ensures.handled m sits))
    (c.in_ok-extend_from_slice.ensures.items ∙ ap (λ (l : List ℕ). c.args.out.now.items ++ l) c.as_slice.ensures.value)
