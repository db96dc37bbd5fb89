-- The largest set of slaves that is kept.
use Rattle.std.proofs.Common.{ℕ, zero, suc}
use Rattle.pair_meaning.specs.SlaveRun.{Slave, slave_step, take}
use Rattle.pair_invariant_law.specs.Slaves.{AreKept, Stays, StaysFor}

-- it is kept
pub slaves_stay : AreKept Stays
slaves_stay = record {
  steps = λ x own going n. (own (suc n)).1 going;
  takes = λ x reply own n. (own (suc n)).2 reply;
  sound = λ x own. (own 1).0.sound;
  plain = λ x own. (own 1).0.plain;
  marked = λ x f args depth own going e. (own 1).0.marked f args depth going e;
}

module _ (Own : Slave → Type 0) (kept : AreKept Own) where
  stays_for : (n : ℕ) (x : Slave) → Own x → StaysFor n x
  stays_for zero x own = tt {0}
  stays_for (suc n) x own = (
    record { sound = kept.sound x own; plain = kept.plain x own; marked = λ f args depth going e. kept.marked x f args depth own going e },
    λ going. stays_for n (slave_step x).slave (kept.steps x own going),
    λ reply. stays_for n (take reply x) (kept.takes x reply own),
  )

-- and has every other one that is
pub kept_stay : (Own : Slave → Type 0) → AreKept Own → (x : Slave) → Own x → Stays x
kept_stay Own kept x own n = stays_for Own kept n x own
