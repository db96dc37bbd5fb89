-- The moves of a slave under a chooser.
use Rattle.std.proofs.Common.{◌≡◌, ◌+◌, ℕ, List, [], ◌∷◌, ◌++◌, length, Bool, true, false, Option, None, IfSome, refl, sym, subst, ◌∙◌, append_assoc, append-nil, length-append, arith}
use Rattle.std.specs.Prelude.{◌&&◌, ◌||◌, nat_lt}
use Rattle.pt_base.specs.Turns.{DropsFirst}
use Rattle.pt_base.specs.declared.chooser.Who as base
use Rattle.wire.specs.declared.message.Message.{Message}
use Rattle.pair_protocol.specs.Sides.{going}
use Rattle.pair_protocol.specs.SlaveRun.{listed}
use Rattle.pair_protocol.specs.Links.{half, Half, front, behind, is_live, moved, Either, Pops, Hands}
use Rattle.pair_protocol.specs.Pair.{Who, is_going, is_slaves, is_empty, moves}
use Rattle.pair_protocol.proofs.OrderEvery.{is_going_so}
use Rattle.pair_meaning.specs.Pair.{the_sides}
use Rattle.pair_meaning.specs.SlaveRun.{Slave, mode_of}
use Rattle.pair_meaning.specs.LinkChoosing.{half_named, AreTaken}
use Rattle.memory_link.specs.declared.slave_half.SlaveHalf.{SlaveHalf}
use Rattle.memory_link.specs.CameLaws.{taken_append, taken_none, taken_one}
use Rattle.memory_link.specs.Halves.{HasRunTo, IsHalf, MovesAlone}
use Rattle.memory_link.specs.Onward.{Asked, HandsOver, Onward}
use Rattle.memory_link.proofs.RunAhead.{runs_ahead}

-- ---- answers

pub taken_more : (x : List Who) (who : base.Who) (a b c : Option (ℕ → base.Who)) → AreTaken x a b → IfSome b (λ told. who ≡ told 0) → DropsFirst b c → AreTaken (x ++ half_named who ∷ []) a c
taken_more x who a b c h g d = taken_append x (half_named who ∷ []) a b c h (taken_one who b c g d)

pub none_asked : (a : Option (ℕ → base.Who)) → Asked 0 a a
none_asked a = record { under = []; many = refl; taken = taken_none a }

pub one_asked : (n : ℕ) (who : base.Who) (a b c : Option (ℕ → base.Who)) → Asked n a b → IfSome b (λ told. who ≡ told 0) → DropsFirst b c → Asked (n + 1) a c
one_asked n who a b c h g d = record {
  under = h.under ++ half_named who ∷ [];
  many = let many = h.many in omega (arith, many, length-append h.under (half_named who ∷ []));
  taken = taken_more h.under who a b c h.taken g d;
}

pub all_asked : (n times : ℕ) (a b : Option (ℕ → base.Who)) → n ≡ times → Asked n a b → Asked times a b
all_asked n times a b e h = subst (λ (k : ℕ). Asked k a b) e h

-- ---- where the slave moves

and_first : (a b c : Bool) → ((a && b) && c) ≡ true → a ≡ true
and_first true b c e = refl
and_first false b c e = e

moves_going : (window : ℕ) (who : Who) (h : Half Slave Message) → moves the_sides window who h.slave h.queue ≡ true → mode_of h.slave ≡ going
moves_going window who h e = is_going_so (mode_of h.slave) (and_first (is_going (mode_of h.slave)) (nat_lt (length h.queue) window) (is_slaves who || is_empty h.queue) e)

-- ---- so far nothing was handed over

pub begins : (window : ℕ) (start : SlaveHalf) (a : Option (ℕ → base.Who)) → Onward window start start a a
begins window start a = record { so = []; taken = taken_none a; leads = λ h is. (h, is, λ answers said end hands. hands) }

-- many steps while nothing waits
pub runs_on : (window : ℕ) (start now : SlaveHalf) (a b : Option (ℕ → base.Who)) (made : ℕ) → ((h : Half Slave Message) → IsHalf start h → MovesAlone window h) →
    ((h : Half Slave Message) → IsHalf start h → mode_of h.slave ≡ going → HasRunTo made h now) → Asked made a b → Onward window start now a b
runs_on window start now a b made alone ran asked = record {
  so = asked.under;
  taken = asked.taken;
  leads = λ h is.
      let one : MovesAlone window h = alone h is in
      let to : HasRunTo made h now = ran h is one.goes in (
        half to.to (h.queue ++ listed to.said),
        to.there,
        λ answers said end hands.
            subst (λ (q : List Message). Hands the_sides window (asked.under ++ answers) (half h.slave q) said end) (sym one.none)
            (runs_ahead the_sides window one.room answers said end made h.slave to.to to.said asked.under asked.many (to.came_to, to.quiet)
            (subst (λ (q : List Message). Hands the_sides window answers (half to.to (q ++ listed to.said)) said end) one.none hands)),
      );
}

-- the slave moves
pub goes_on : (window : ℕ) (start now next : SlaveHalf) (a b c : Option (ℕ → base.Who)) (who : base.Who) (test : Bool) → Onward window start now a b →
    IfSome b (λ told. who ≡ told 0) → DropsFirst b c → ((h : Half Slave Message) → IsHalf now h → test ≡ moves the_sides window (half_named who) h.slave h.queue) → test ≡ true →
    ((h : Half Slave Message) → IsHalf now h → mode_of h.slave ≡ going → IsHalf next (moved the_sides h)) → Onward window start next a c
goes_on window start now next a b c who test so gives rest is_test yes' steps = record {
  so = so.so ++ half_named who ∷ [];
  taken = taken_more so.so who a b c so.taken gives rest;
  leads = λ h is.
      let at = so.leads h is in
      let m : moves the_sides window (half_named who) at.0.slave at.0.queue ≡ true = sym (is_test at.0 at.1) ∙ yes' in (
        moved the_sides at.0,
        steps at.0 at.1 (moves_going window (half_named who) at.0 m),
        λ answers said end hands.
            subst (λ (x : List Who). Hands the_sides window x h said end) (sym (append_assoc so.so (half_named who ∷ []) answers))
            (at.2 (half_named who ∷ answers) said end
            (subst (λ (b : Bool). Either b (Hands the_sides window answers (moved the_sides at.0) said end) (Pops answers at.0 said end)) (sym m) hands)),
      );
}

-- the front of the queue is handed over
pub hands_over : (window : ℕ) (start now next : SlaveHalf) (a b c : Option (ℕ → base.Who)) (who : base.Who) (test : Bool) (said : Option Message) → Onward window start now a b →
    IfSome b (λ told. who ≡ told 0) → DropsFirst b c → ((h : Half Slave Message) → IsHalf now h → test ≡ moves the_sides window (half_named who) h.slave h.queue) → test ≡ false →
    ((h : Half Slave Message) → IsHalf now h → (said ≡ front h.queue) × IsHalf next (half h.slave (behind h.queue))) → HandsOver window start said next a c
hands_over window start now next a b c who test said so gives rest is_test no' pops = record {
  under = so.so ++ half_named who ∷ [];
  taken = taken_more so.so who a b c so.taken gives rest;
  hands = λ h is.
      let at = so.leads h is in
      let m : moves the_sides window (half_named who) at.0.slave at.0.queue ≡ false = sym (is_test at.0 at.1) ∙ no' in
      let popped = pops at.0 at.1 in
      let end : Half Slave Message = half at.0.slave (behind at.0.queue) in (
        end,
        popped.1,
        at.2 (half_named who ∷ []) said end
            (subst (λ (b : Bool). Either b (Hands the_sides window [] (moved the_sides at.0) said end) (Pops [] at.0 said end)) (sym m) (refl, popped.0, refl)),
      );
}

-- all was handed over
pub all_said : (window : ℕ) (start now : SlaveHalf) (a b : Option (ℕ → base.Who)) (test : Bool) → Onward window start now a b →
    ((h : Half Slave Message) → IsHalf now h → test ≡ is_live the_sides window h) → test ≡ false → HandsOver window start None now a b
all_said window start now a b test so is_test no' = record {
  under = so.so;
  taken = so.taken;
  hands = λ h is.
      let at = so.leads h is in (
        at.0,
        at.1,
        subst (λ (x : List Who). Hands the_sides window x h None at.0) (append-nil so.so) (at.2 [] None at.0 (sym (is_test at.0 at.1) ∙ no', refl, refl)),
      );
}
