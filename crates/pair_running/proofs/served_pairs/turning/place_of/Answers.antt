use Rattle.std.proofs.Common.{◌-◌, subst, arith}
use Rattle.pair_running.specs.ServedPairsTurns.{IsOpenAt}
use Rattle.pair_running.proofs.ServedPairsPlaces.{fewer_run, same_run, seek_here, seek_on}
use Rattle.pair_running.proofs.served_pairs.turning.place_of.Goals as goal

pub loop-place-preserved-then-not-runs_at : goal.loop-place-preserved-then-not-runs_at
loop-place-preserved-then-not-runs_at c =
    seek_on c.args.talks.now c.args.passed c.loop-place.place c.loop-place.left c.loop-place.left c.runs_at.result c.runs_at.ensures (same_run c.loop-place.left c.runs_at.result c.if-not-runs_at.true) c.loop-place.invariant

pub returns-then-left-eq0 : goal.returns-then-left-eq0
returns-then-left-eq0 c =
    seek_here c.args.talks.now c.args.passed c.loop-place.place c.loop-place.left
    (subst (IsOpenAt c.args.talks.now c.loop-place.place) c.if-not-runs_at.false c.runs_at.ensures) c.if-left-eq0.true c.loop-place.invariant

pub loop-place-preserved : goal.loop-place-preserved
loop-place-preserved c =
    seek_on c.args.talks.now c.args.passed c.loop-place.place c.loop-place.left (c.loop-place.left - 1) c.runs_at.result c.runs_at.ensures (fewer_run c.loop-place.left c.runs_at.result c.if-not-runs_at.false (grind arith)) c.loop-place.invariant
