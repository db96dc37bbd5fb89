-- A slave that keeps a machine makes only so many steps.
use Rattle.std.proofs.Common.{◌≡◌, ◌⊎◌, inl, inr, ◌∙◌, ℕ, zero, suc, ◌≤◌, ◌<◌, List, [], ◌∷◌, refl, sym, ap, subst, arith}
use Rattle.pt_base.proofs.Numbers.{at_most_self}
use Rattle.pt_core.specs.CodeTree.{ProgramTree}
use Rattle.pt_core.specs.Steps.{Machine}
use Rattle.pair_protocol.specs.Sides.{Mode, going, waits, over, Sides}
use Rattle.pair_protocol.specs.SlaveRun.{At, Ready, taken, ready_in, ready, moved_on, slave_at}
use Rattle.pair_protocol.proofs.OrderFacts.{over_going, waits_going}
use Rattle.core_steps_law.specs.MachinesRoom.{breadth, room_by, room}
use Rattle.core_steps_law.specs.MachinesBounded.{IsUsed, IsLeft, GoesOn}
use Rattle.pair_meaning.specs.BoundsLongest.{KeepsMachine, SlavesAreBounded}
use Rattle.core_steps_law.proofs.MachinesBounds.{left_used}
use Rattle.core_steps_law.proofs.MachinesRooms.{steps_use_room}

-- at most so much room, and no larger code
record Holds (program : ProgramTree) (wide n : ℕ) (m : Machine) : Type 0 where
  most : room_by wide m ≤ n
  fits : breadth program m.active ≤ wide

going_over : {A : Type 0} (x : Mode) → x ≡ over → x ≡ going → A
going_over x e f = differ (sym e ∙ f)
  where
    differ : {A : Type 0} → over ≡ going → A
    differ e = cc

module _ {S M X R E Q G : Type 0} (g : Sides S M X R E Q) (program : S → ProgramTree) (machine : S → Machine) (keeps : KeepsMachine S M X R E Q G g program machine) (wide : ℕ) where
  abbrev HoldsAt : ℕ → S → Type 0
  HoldsAt n s = Holds (program s) wide n (machine s)

  holds_left : (code : ProgramTree) (n : ℕ) (m m' : Machine) → IsLeft m m' → Holds code wide n m → Holds code wide n m'
  holds_left code n m m' same h =
      let most : room_by wide m ≤ n = h.most in
      let used = left_used code wide (suc n) m m' same (record { less = omega arith; fits = h.fits }) in
      let less : room_by wide m' < suc n = used.less in
      record { most = omega arith; fits = used.fits }

  -- once it has taken what it can
  taken_holds : (n : ℕ) (s : S) (rs : List R) → HoldsAt n s → g.mode s ≡ waits → g.mode (taken g s rs).slave ≡ going → HoldsAt n (taken g s rs).slave
  taken_holds n s [] h e f = h
  taken_holds n s (r ∷ rs) h e f = by_take (keeps.takes r s e)
    where
      by_take : (g.mode (g.take r s) ≡ over) ⊎ IsLeft (machine s) (machine (g.take r s)) → HoldsAt n (g.take r s)
      by_take (inl o) = going_over (g.mode (g.take r s)) o f
      by_take (inr same) = subst (λ code. Holds code wide n (machine (g.take r s))) (sym (keeps.keeps_code r s)) (holds_left (program s) n (machine s) (machine (g.take r s)) same h)

  ready_holds : (n : ℕ) (mode : Mode) (s : S) (rs : List R) → g.mode s ≡ mode → HoldsAt n s → g.mode (ready_in g mode s rs).slave ≡ going → HoldsAt n (ready_in g mode s rs).slave
  ready_holds n going s rs e h f = h
  ready_holds n waits s rs e h f = taken_holds n s rs h e f
  ready_holds n over s rs e h f = h

  -- a slave that is over makes no step
  over_ready : (mode : Mode) (s : S) (rs : List R) → mode ≡ over → (ready_in g mode s rs).slave ≡ s
  over_ready going s rs e = refl
  over_ready waits s rs e = absurd (differ e)
    where
      differ : waits ≡ over → ⊥
      differ e = cc
  over_ready over s rs e = refl

  ended_at : (mode : Mode) (c : Ready S R) (rest : At S X R) → mode ≡ over → (moved_on g mode c rest).made ≡ 0
  ended_at going c rest e = absurd (over_going (sym e))
  ended_at waits c rest e = refl
  ended_at over c rest e = refl

  ended_slave : (mode : Mode) (c : Ready S R) (rest : At S X R) → mode ≡ over → (moved_on g mode c rest).slave ≡ c.slave
  ended_slave going c rest e = absurd (over_going (sym e))
  ended_slave waits c rest e = refl
  ended_slave over c rest e = refl

  over_made : (k : ℕ) (s : S) (rs : List R) → g.mode s ≡ over → (slave_at g k s rs).made ≡ 0
  over_made zero s rs e = refl
  over_made (suc k) s rs e =
      let c : Ready S R = ready g s rs in
      ended_at (g.mode c.slave) c (slave_at g k (g.step c.slave).slave c.left) (ap g.mode (over_ready (g.mode s) s rs e) ∙ e)

  over_stays : (k : ℕ) (s : S) (rs : List R) → g.mode s ≡ over → (slave_at g k s rs).slave ≡ s
  over_stays zero s rs e = over_ready (g.mode s) s rs e
  over_stays (suc k) s rs e =
      let c : Ready S R = ready g s rs in
      ended_slave (g.mode c.slave) c (slave_at g k (g.step c.slave).slave c.left) (ap g.mode (over_ready (g.mode s) s rs e) ∙ e) ∙ over_ready (g.mode s) s rs e

  -- one step more
  used_by : (n : ℕ) (s : S) → HoldsAt n s → GoesOn (program s) (keeps.gate s) (keeps.heard s) (machine s) (machine (g.step s).slave) → IsUsed (program (g.step s).slave) wide (room_by wide (machine s)) (machine (g.step s).slave)
  used_by n s h goes =
      subst (λ code. IsUsed code wide (room_by wide (machine s)) (machine (g.step s).slave)) (sym (keeps.same_code s))
      (left_used (program s) wide (room_by wide (machine s)) _ (machine (g.step s).slave) goes.left
      (steps_use_room (program s) (keeps.gate s) (machine s) (keeps.heard s) wide h.fits goes.going))

  mutual_made : (n : ℕ) (c : Ready S R) (rest : At S X R) (mode : Mode) → g.mode c.slave ≡ mode → (g.mode c.slave ≡ going → HoldsAt n c.slave) →
      (g.mode (g.step c.slave).slave ≡ over → rest.made ≡ 0) →
      ((j : ℕ) → HoldsAt j (g.step c.slave).slave → rest.made ≤ suc j) →
      (moved_on g mode c rest).made ≤ suc n
  mutual_made n c rest going e h ended more = by_step (keeps.steps c.slave e)
    where
      by_step : (g.mode (g.step c.slave).slave ≡ over) ⊎ GoesOn (program c.slave) (keeps.gate c.slave) (keeps.heard c.slave) (machine c.slave) (machine (g.step c.slave).slave) → suc rest.made ≤ suc n
      by_step (inl o) = let none : rest.made ≡ 0 = ended o in omega arith
      by_step (inr goes) =
          let holds = h e in
          let most : room_by wide (machine c.slave) ≤ n = holds.most in
          let used = used_by n c.slave holds goes in
          let less : room_by wide (machine (g.step c.slave).slave) < room_by wide (machine c.slave) = used.less in
          let few : rest.made ≤ suc (room_by wide (machine (g.step c.slave).slave)) = more (room_by wide (machine (g.step c.slave).slave)) (record { most = omega arith; fits = used.fits }) in
          omega arith
  mutual_made n c rest waits e h ended more = omega arith
  mutual_made n c rest over e h ended more = omega arith

  few_made : (k n : ℕ) (s : S) (rs : List R) → HoldsAt n s → (slave_at g k s rs).made ≤ suc n
  few_made zero n s rs h = omega arith
  few_made (suc k) n s rs h =
      let c : Ready S R = ready g s rs in
      mutual_made n c (slave_at g k (g.step c.slave).slave c.left) (g.mode c.slave) refl (ready_holds n (g.mode s) s rs refl h)
      (over_made k (g.step c.slave).slave c.left)
      (λ j holds. few_made k j (g.step c.slave).slave c.left holds)

  stops_by : (n k : ℕ) (c : Ready S R) (rest : At S X R) (mode : Mode) → n ≤ k → g.mode c.slave ≡ mode → (g.mode c.slave ≡ going → HoldsAt n c.slave) →
      (g.mode (g.step c.slave).slave ≡ over → rest.slave ≡ (g.step c.slave).slave) →
      ((j : ℕ) → j < k → HoldsAt j (g.step c.slave).slave → g.mode rest.slave ≡ going → ⊥) →
      g.mode (moved_on g mode c rest).slave ≡ going → ⊥
  stops_by n k c rest going le e h ended more f = by_step (keeps.steps c.slave e)
    where
      by_step : (g.mode (g.step c.slave).slave ≡ over) ⊎ GoesOn (program c.slave) (keeps.gate c.slave) (keeps.heard c.slave) (machine c.slave) (machine (g.step c.slave).slave) → ⊥
      by_step (inl o) = going_over (g.mode rest.slave) (ap g.mode (ended o) ∙ o) f
      by_step (inr goes) =
          let holds = h e in
          let most : room_by wide (machine c.slave) ≤ n = holds.most in
          let used = used_by n c.slave holds goes in
          let less : room_by wide (machine (g.step c.slave).slave) < room_by wide (machine c.slave) = used.less in
          more (room_by wide (machine (g.step c.slave).slave)) (omega arith) (record { most = omega arith; fits = used.fits }) f
  stops_by n k c rest waits le e h ended more f = waits_going (sym e ∙ f)
  stops_by n k c rest over le e h ended more f = over_going (sym e ∙ f)

  stops : (k n : ℕ) (s : S) (rs : List R) → n < k → HoldsAt n s → g.mode (slave_at g k s rs).slave ≡ going → ⊥
  stops zero n s rs less h f = absurd (omega arith)
  stops (suc k) n s rs less h f =
      let c : Ready S R = ready g s rs in
      stops_by n k c (slave_at g k (g.step c.slave).slave c.left) (g.mode c.slave) (omega arith) refl (ready_holds n (g.mode s) s rs refl h)
      (over_stays k (g.step c.slave).slave c.left)
      (λ j lower holds. stops k j (g.step c.slave).slave c.left lower holds) f

pub slaves_are_bounded : {S M X R E Q G : Type 0} → SlavesAreBounded S M X R E Q G
slaves_are_bounded g program machine keeps s =
    let m : Machine = machine s in
    let wide : ℕ = breadth (program s) m.active in
    let holds : Holds (program s) wide (room (program s) m) m = record { most = at_most_self (room (program s) m); fits = at_most_self wide } in
    record {
      bound = λ replies k. few_made g program machine keeps wide k (room (program s) m) s replies holds;
      stops = λ replies. stops g program machine keeps wide (suc (room (program s) m)) (room (program s) m) s replies (more (room (program s) m)) holds;
    }
  where
    more : (k : ℕ) → k < suc k
    more k = omega arith
