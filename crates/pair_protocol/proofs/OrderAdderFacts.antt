-- The example is fair and bounded.
use Rattle.std.proofs.Common.{◌≡◌, ◌≤◌, ℕ, zero, suc, List, [], ◌∷◌, length, refl, ap, subst, arith, Bool, true, false}
use Rattle.pair_protocol.specs.Sides.{Mode, going, waits, over, waiting, asks, AreFair, HasReply}
use Rattle.pair_protocol.specs.SlaveRun.{ready_in, ready, slave_at, moved_on}
use Rattle.pair_protocol.specs.OrderAdder.{Act, think, post, ask, Message, posted, wanted, Slave, slave, mode_of, act, step_of, wants_of, serve_of, adder, AdderEnds}
use Rattle.pair_protocol.proofs.OrderFacts.{waits_going, over_going}

idle : (acts : List Act) → waiting (mode_of false acts) ≡ 0
idle [] = refl
idle (a ∷ acts) = refl

steps_act : (a : Act) (acts : List Act) (got : List ℕ) → waiting (mode_of (act a acts got).slave.waiting (act a acts got).slave.acts) ≡ asks wants_of (act a acts got).said
steps_act think acts got = idle acts
steps_act (post n) acts got = idle acts
steps_act (ask n) acts got = refl

steps : (w : Bool) (acts : List Act) (got : List ℕ) → mode_of w acts ≡ going → waiting (mode_of (step_of acts got).slave.waiting (step_of acts got).slave.acts) ≡ asks wants_of (step_of acts got).said
steps true acts got e = waits_going e
steps false [] got e = over_going e
steps false (a ∷ acts) got e = steps_act a acts got

serves : (m : ℕ) (x : Message) → HasReply (wants_of x) (serve_of m x)
serves m (posted zero) = tt {0}
serves m (posted (suc n)) = tt {0}
serves m (wanted n) = tt {0}

adder_fair : AreFair adder
adder_fair = record { steps = λ s e. steps s.waiting s.acts s.got e; takes = λ s r e. idle s.acts; serves = serves }

-- ---- a step for each act

same_acts : (mode : Mode) (s : Slave) (rs : List ℕ) → (ready_in adder mode s rs).slave.acts ≡ s.acts
same_acts going s rs = refl
same_acts waits s [] = refl
same_acts waits s (r ∷ rs) = refl
same_acts over s rs = refl

fewer : (a : Act) (acts : List Act) (got : List ℕ) → (act a acts got).slave.acts ≡ acts
fewer think acts got = refl
fewer (post n) acts got = refl
fewer (ask n) acts got = refl

bound_in : (k : ℕ) (acts : List Act) (got : List ℕ) (w : Bool) (left : List ℕ) → ((s : Slave) (rs : List ℕ) → (slave_at adder k s rs).made ≤ length s.acts) →
    (moved_on adder (mode_of w acts) record { slave = slave acts got w; left = left } (slave_at adder k (step_of acts got).slave left)).made ≤ length acts
bound_in k acts got true left more = omega arith
bound_in k [] got false left more = omega arith
bound_in k (a ∷ acts) got false left more =
    let most : (slave_at adder k (act a acts got).slave left).made ≤ length (act a acts got).slave.acts = more (act a acts got).slave left in
    let same : length (act a acts got).slave.acts ≡ length acts = ap length (fewer a acts got) in
    omega (arith, most, same)

adder_bound : (k : ℕ) (s : Slave) (rs : List ℕ) → (slave_at adder k s rs).made ≤ length s.acts
adder_bound zero s rs = omega arith
adder_bound (suc k) s rs =
    let c = ready adder s rs in
    subst (λ n. (moved_on adder (mode_of c.slave.waiting c.slave.acts) c (slave_at adder k (step_of c.slave.acts c.slave.got).slave c.left)).made ≤ n) (ap length (same_acts (mode_of s.waiting s.acts) s rs))
    (bound_in k c.slave.acts c.slave.got c.slave.waiting c.left (adder_bound k))

pub adder_ends : AdderEnds
adder_ends = record {
  fair = adder_fair;
  bound = λ s replies k. adder_bound k s replies;
  expected = refl;
  by_slaves = (refl, refl);
  by_parents = (refl, refl);
  ahead = (refl, refl, refl, refl);
}
