use Rattle.std.proofs.Common.{◌≡◌, length, get_or, arith, subst, below_more, None, List, ◌∙◌}
use Rattle.std.proofs.lemmas.List.{get_or_default}
use Rattle.std.proofs.lemmas.List.Elements.{Contains-get_or}
use Rattle.pt_base.specs.declared.slot.Edge.{Edge}
use Rattle.propagation.specs.Reached.{AreSound, HasPlace}
use Rattle.propagation.proofs.MarkLemmas.{marked_is, Marked}
use Rattle.propagation.proofs.LevelLemmas.{roots_marked}
use Rattle.propagation.proofs.SlotLemmas.{zero_slot}
use Rattle.propagation.proofs.VisitLemmas.{room}
use Rattle.propagation.proofs.reached.Reached.seed.Goals as goal

pub loop-seed-preserved : goal.loop-seed-preserved
loop-seed-preserved c =
    let size : length c.loop-seed.self.places.items ≡ length c.args.self.now.places.items = c.loop-seed.invariant.size in
    let w = c.requires.within c.loop-seed.seed-index zero_slot c.loop-seed-test.true in
    let marked : (edges : List Edge) → AreSound c.args.seeds.now edges (length c.args.self.now.places.items) c.args.self.now.places.items c.args.self.now.order.items → Marked c.args.seeds.now edges (length c.args.self.now.places.items) c.loop-seed.self.places.items c.loop-seed.self.order.items (get_or c.args.seeds.now c.loop-seed.seed-index zero_slot) c.mark.new.self.places.items c.mark.new.self.order.items =
    λ edges s. marked_is _ _ _ _ _ _ None _ _ c.in_ok-mark.ensures.places c.in_ok-mark.ensures.order (omega (arith, w, size)) (λ step e. cc) (Contains-get_or c.args.seeds.now c.loop-seed.seed-index zero_slot c.loop-seed-test.true) (c.loop-seed.invariant.sound edges s) c.mark.new.self.earlier in
    let m = marked c.requires.sound.0 c.requires.sound.1 in
    record {
      size = m.keeps.size ∙ size;
      sound = λ edges s. (marked edges s).sound;
      roots = λ are. roots_marked c.loop-seed.self.places.items _ (get_or c.args.seeds.now c.loop-seed.seed-index zero_slot) _ c.in_ok-mark.ensures.order (c.loop-seed.invariant.roots are);
      done = below_more _ _ (λ k lt. m.keeps.has _ (c.loop-seed.invariant.done k lt)) m.has;
    }

pub mark-requires-clause-room : goal.mark-requires-clause-room
mark-requires-clause-room c =
    let size = c.loop-seed.invariant.size in
    let r = room _ _ _ _ _ (c.loop-seed.invariant.sound c.requires.sound.0 c.requires.sound.1) in
    omega (arith, size, r)

pub returns-clause-done : goal.returns-clause-done
returns-clause-done c = λ k d lt. subst (HasPlace c.loop-seed.self.places.items) (get_or_default c.args.seeds.now k zero_slot d lt) (c.loop-seed.invariant.done k (omega arith))
