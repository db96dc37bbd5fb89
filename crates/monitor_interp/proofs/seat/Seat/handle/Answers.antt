use Rattle.pair_meaning.specs.Serving.{left_for, verdict_on}
use Rattle.monitor_interp.specs.Monitors.{IsSeat}
use Rattle.monitor_interp.specs.Standing.{Stands}
use Rattle.monitor_interp.proofs.MessageLemmas.{acts_handles, acts_unchanged}
use Rattle.monitor_interp.proofs.seat.Seat.handle.Goals as goal

pub returns-clause-handled : goal.returns-clause-handled
unfolding IsSeat
returns-clause-handled c m is =
    acts_handles (Stands c.args.program.now c.serve.new.state) m c.args.message.now (left_for m c.args.message.now) (verdict_on m c.args.message.now) c.in_ok-handled.handled c.args.out.now.items c.serve.new.out.items (c.in_ok-handled.ensures m is)

pub returns-clause-unchanged : goal.returns-clause-unchanged
unfolding IsSeat
returns-clause-unchanged c m is none =
    acts_unchanged (Stands c.args.program.now c.serve.new.state) m c.args.message.now (left_for m c.args.message.now) (verdict_on m c.args.message.now) c.in_ok-handled.handled c.args.out.now.items c.serve.new.out.items (c.in_ok-handled.ensures m is) none
