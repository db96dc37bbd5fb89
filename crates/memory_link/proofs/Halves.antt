-- The slave with its queue.
use Rattle.std.proofs.Common.{◌≡◌, ◌++◌, ℕ, Bool, true, false, Option, refl, sym, ap, subst, ◌∙◌}
use Rattle.pt_base.proofs.Booleans.{true_not_false}
use Rattle.wire.specs.declared.message.Message.{Message}
use Rattle.pair_protocol.specs.Sides.{Mode, Moved, going}
use Rattle.pair_protocol.specs.SlaveRun.{listed}
use Rattle.pair_protocol.specs.Links.{Half, moved}
use Rattle.pair_protocol.proofs.OrderFacts.{over_going}
use Rattle.pair_meaning.specs.Pair.{the_sides}
use Rattle.pair_meaning.specs.SlaveRun as s
use Rattle.slave_interp.specs.declared.slave.Slave.{Slave}
use Rattle.slave_interp.specs.Running.{next_by, next_of}
use Rattle.slave_interp.specs.Slaves.{HasRun, IsSlave}
use Rattle.memory_link.specs.declared.slave_half.SlaveHalf.{SlaveHalf}
use Rattle.memory_link.specs.Halves.{HasRunTo, IsHalf, IsHeld}

held_slave : (refused : Bool) (x : Slave) (y : s.Slave) → refused ≡ false → IsHeld refused x y → IsSlave x y
held_slave true x y e held = true_not_false e
held_slave false x y e held = held

-- what goes on refused nothing
refused_nothing : (refused : Bool) (x : Slave) (y : s.Slave) → s.mode_of y ≡ going → IsHeld refused x y → refused ≡ false
refused_nothing true x y m (from, is, same) = over_going (sym (ap s.mode_of same) ∙ m)
refused_nothing false x y m held = refl

next_going : (y : s.Slave) → s.mode_of y ≡ going → next_of y ≡ s.slave_step y
next_going y m = ap (λ (m : Mode). next_by m y) m

-- a step of a slave that goes on, whose words wait behind the others
pub steps_once : (x end : SlaveHalf) (said : Option Message) → ((from : s.Slave) → IsSlave x.slave from → IsSlave end.slave (next_of from).slave × (said ≡ (next_of from).said)) → end.refused ≡ x.refused →
    end.queue.items ≡ x.queue.items ++ listed said → (h : Half s.Slave Message) → IsHalf x h → s.mode_of h.slave ≡ going → IsHalf end (moved the_sides h)
steps_once x end said steps same put h is m =
    let nothing : x.refused ≡ false = refused_nothing x.refused x.slave h.slave m is.slave in
    let stepped : IsSlave end.slave (next_of h.slave).slave × (said ≡ (next_of h.slave).said) = steps h.slave (held_slave x.refused x.slave h.slave nothing is.slave) in
    let next : next_of h.slave ≡ s.slave_step h.slave = next_going h.slave m in
    record {
      slave = subst (λ (b : Bool). IsHeld b end.slave (s.slave_step h.slave).slave) (sym (same ∙ nothing)) (subst (λ (n : Moved s.Slave Message). IsSlave end.slave n.slave) next stepped.0);
      queue = put ∙ ap (λ q. q ++ listed said) is.queue ∙ ap (λ (o : Option Message). h.queue ++ listed o) (stepped.1 ∙ ap (λ (n : Moved s.Slave Message). n.said) next);
    }

-- so many steps of it, whose words wait behind the others
pub runs_so : (x end : SlaveHalf) (made most : ℕ) (said : Option Message) → ((from : s.Slave) → IsSlave x.slave from → HasRun made most from said end.slave) → end.refused ≡ x.refused →
    end.queue.items ≡ x.queue.items ++ listed said → (h : Half s.Slave Message) → IsHalf x h → s.mode_of h.slave ≡ going → HasRunTo made h end
runs_so x end made most said runs same put h is m =
    let nothing : x.refused ≡ false = refused_nothing x.refused x.slave h.slave m is.slave in
    let ran : HasRun made most h.slave said end.slave = runs h.slave (held_slave x.refused x.slave h.slave nothing is.slave) in
    record {
      to = ran.to;
      said = said;
      there = record {
        slave = subst (λ (b : Bool). IsHeld b end.slave ran.to) (sym (same ∙ nothing)) ran.there;
        queue = put ∙ ap (λ q. q ++ listed said) is.queue;
      };
      came_to = ran.came_to;
      quiet = ran.quiet;
    }
