use Rattle.std.proofs.Common.{◌<◌, ℕ, List, length, subst, arith}
use Rattle.sessions.specs.Hubs.{with_opened}
use Rattle.sessions.specs.IsHub.{IsHub}
use Rattle.pair_running.proofs.ServedPairsBeginning.{has_room, opened_all, opened_none, opened_on}
use Rattle.pair_running.proofs.ServedPairsPlaces.{item_at}
use Rattle.pair_running.proofs.served_pairs.beginning.open_all.Goals as goal

pub loop-input-init : goal.loop-input-init
loop-input-init c = λ first is fresh. opened_none c.args.hub.now first c.args.all.now is fresh

pub open_one-requires : goal.open_one-requires
open_one-requires c =
    let within : c.loop-input.input-index < length c.args.all.now = grind arith in
    let first = c.requires.fresh.0 in
    let so_far = c.loop-input.invariant first c.requires.fresh.1 c.requires.fresh.2 in
    (so_far.h, so_far.hub_is, has_room c.loop-input.hub first c.loop-input.input-index c.args.all.now within c.requires.few so_far)

pub loop-input-preserved : goal.loop-input-preserved
loop-input-preserved c = λ first is fresh.
    let within : c.loop-input.input-index < length c.args.all.now = grind arith in
    let at = item_at c.args.all.now c.loop-input.input-index c.input-item.result within c.input-item.is in
    let so_far = c.loop-input.invariant first is fresh in
    opened_on c.loop-input.hub c.open_one.new.hub first c.loop-input.input-index c.args.all.now c.input-item.result at c.requires.few so_far
    (subst (λ (bytes : List ℕ). IsHub c.open_one.new.hub (with_opened bytes so_far.h)) c.as_slice.ensures (c.in_ok-open_one.ensures so_far.h so_far.hub_is))

pub returns : goal.returns
returns c = λ first is fresh. opened_all c.loop-input.hub first c.loop-input.input-index c.args.all.now (grind arith) (c.loop-input.invariant first is fresh)
