use Rattle.std.proofs.Common.{◌≡◌, length, arith, subst, sym}
use Rattle.propagation.specs.Levels.{AreRoots}
use Rattle.propagation.proofs.PathLemmas.{shows}
use Rattle.propagation.proofs.VisitLemmas.{at_length, adjacent_at, walking_start, walking_step, walked}
use Rattle.propagation.proofs.marks.propagate.Goals as goal

pub seed-requires-clause-sound : goal.seed-requires-clause-sound
seed-requires-clause-sound c = (c.args.edges.now, at_length _ _ _ _ _ (c.in_ok-reached.ensures.sound c.args.seeds.now c.args.edges.now))

pub seed-requires-clause-within : goal.seed-requires-clause-within
seed-requires-clause-within c = let s = (c.in_ok-reached.ensures.sound c.args.seeds.now c.args.edges.now).size in grind (arith, s)

pub seed-requires-clause-few : goal.seed-requires-clause-few
seed-requires-clause-few c = let s = (c.in_ok-reached.ensures.sound c.args.seeds.now c.args.edges.now).size in grind (arith, s)

pub loop-next-init : goal.loop-next-init
loop-next-init c =
    let size : length c.in_ok-reached.reached.places.items ≡ c.args.slots = (c.in_ok-reached.ensures.sound c.args.seeds.now c.args.edges.now).size in
    walking_start _ _ _ _ _ _ size (c.in_ok-seed.ensures.sound c.args.edges.now (at_length _ _ _ _ _ (c.in_ok-reached.ensures.sound c.args.seeds.now c.args.edges.now))) c.in_ok-seed.ensures.done (c.in_ok-seed.ensures.roots (subst AreRoots (sym c.in_ok-reached.ensures.nothing) (λ p lt. absurd (omega arith))))

pub visit-requires-clause-sound : goal.visit-requires-clause-sound
visit-requires-clause-sound c =
    let w = c.loop-next.invariant in
    (c.args.seeds.now, c.args.edges.now, adjacent_at _ _ _ _ _ _ _ w c.in_ok-adjacent.ensures, at_length _ _ _ _ _ w.sound)

pub visit-requires-clause-few : goal.visit-requires-clause-few
visit-requires-clause-few c = let s = c.loop-next.invariant.sound.size in grind (arith, s)

pub loop-next-preserved : goal.loop-next-preserved
loop-next-preserved c =
    let w = c.loop-next.invariant in
    let are = adjacent_at _ _ _ _ _ _ _ w c.in_ok-adjacent.ensures in
    walking_step _ _ _ _ _ _ _ _ w (grind arith) (λ seeds sound. c.in_ok-visit.ensures.sound seeds c.args.edges.now are sound) c.in_ok-visit.ensures.keeps c.in_ok-visit.ensures.levels (c.in_ok-visit.ensures.done c.args.edges.now are)

pub returns : goal.returns
returns c = shows _ _ _ _ _ (walked _ _ _ _ _ _ c.loop-next.invariant (grind arith))
