use Rattle.std.proofs.Common.{arith, ◌≤◌, ◌<◌}
use Rattle.propagation.specs.Reached.{slot_at}
use Rattle.propagation.specs.Adjacent.{start_of, end_of}
use Rattle.propagation.proofs.VisitLemmas.{room, slot_within, visits_step, visits_all}
use Rattle.propagation.proofs.reached.Reached.visit.Goals as goal

pub loop-at-preserved : goal.loop-at-preserved
loop-at-preserved c =
    let w = slot_within _ _ _ _ _ c.args.parent c.requires.sound.3 c.requires.parent in
    let low : start_of c.args.adjacent.now (slot_at c.args.self.now.order.items c.args.parent) ≤ c.loop-at.at = (let e = c.start-at.ensures in grind (arith, e)) in
    let high : c.loop-at.at < end_of c.args.adjacent.now (slot_at c.args.self.now.order.items c.args.parent) = (let e = c.end-at-end.ensures in grind (arith, e)) in
    visits_step c.requires.sound.0 c.requires.sound.1 _ _ c.loop-at.at c.args.parent _ _ _ _ c.args.adjacent.now _ c.requires.sound.2 c.requires.sound.3 c.requires.parent w low high c.loop-at.invariant c.link-link.ensures c.in_ok-mark.ensures.places c.in_ok-mark.ensures.order c.mark.new.self.earlier

pub mark-requires-clause-room : goal.mark-requires-clause-room
mark-requires-clause-room c =
    let size = c.loop-at.invariant.keeps.size in
    let r = room _ _ _ _ _ (c.loop-at.invariant.sound c.requires.sound.0 c.requires.sound.1 c.requires.sound.2 c.requires.sound.3) in
    omega (arith, size, r)

pub returns-clause-done : goal.returns-clause-done
returns-clause-done c = λ edges are k lt is.
    let w = slot_within _ _ _ _ _ c.args.parent c.requires.sound.3 c.requires.parent in
    let done : end_of c.args.adjacent.now (slot_at c.args.self.now.order.items c.args.parent) ≤ c.loop-at.at = (let e = c.end-at-end.ensures in grind (arith, e)) in
    visits_all edges _ _ c.args.adjacent.now _ c.loop-at.at _ _ are w done c.loop-at.invariant k lt is
