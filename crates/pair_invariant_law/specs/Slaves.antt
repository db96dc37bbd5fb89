-- What is kept of a slave, whatever it is told.
use Rattle.std.specs.Prelude.{◌≡◌, ℕ, zero, suc, Bool, false, List}
use Rattle.wire.specs.declared.message.ReplyBody.{ReplyBody}
use Rattle.block_memory.specs.declared.cell.Cell.{Cell}
use Rattle.pt_core.specs.Calls.{signature_in}
use Rattle.pt_core.specs.Steps.{asked}
use Rattle.handle_classes.specs.Computes.{computes_next}
use Rattle.marshalling_law.specs.CallsSending.{HandlesStand}
use Rattle.monitor_soundness_law.specs.Laws.{IsSound}
use Rattle.pair_meaning.specs.SlaveRun.{Slave, goes, heard_by, machine_step, slave_gate, slave_step, stepped, take}

-- Of some slaves a step and a reply lead to others of them. Each is sound, computes with no handle in its next step, and asks with
-- handles under marks alone.
pub record AreKept (Own : Slave → Type 0) : Type 0 where
  pub steps : (x : Slave) → Own x → x.doing ≡ goes → Own (slave_step x).slave
  pub takes : (x : Slave) (reply : ReplyBody) → Own x → Own (take reply x)
  pub sound : (x : Slave) → Own x → IsSound x
  pub plain : (x : Slave) → Own x → (marked : ℕ → ℕ → Bool) × (computes_next marked x.program (slave_gate x.program) x.machine (heard_by x) ≡ false)
  pub marked : (x : Slave) (f : ℕ) (args : List Cell) (depth : ℕ) → Own x → x.doing ≡ goes → (machine_step x).answer ≡ asked f args depth →
      HandlesStand x.program.structs (stepped x (machine_step x)).machine.blocks (signature_in x.program f).params args

-- ---- the largest such set: a law's statement can't speak of every set of slaves, so it speaks of this one

pub record IsPlain (x : Slave) : Type 0 where
  pub sound : IsSound x
  pub plain : (marked : ℕ → ℕ → Bool) × (computes_next marked x.program (slave_gate x.program) x.machine (heard_by x) ≡ false)
  pub marked : (f : ℕ) (args : List Cell) (depth : ℕ) → x.doing ≡ goes → (machine_step x).answer ≡ asked f args depth →
      HandlesStand x.program.structs (stepped x (machine_step x)).machine.blocks (signature_in x.program f).params args

-- it is such a slave, and so is whatever it comes to in so many steps and replies
abbrev pub StaysFor : ℕ → Slave → Type 0
StaysFor zero x = Unit {0}
StaysFor (suc n) x = IsPlain x × (x.doing ≡ goes → StaysFor n (slave_step x).slave) × ((reply : ReplyBody) → StaysFor n (take reply x))

abbrev pub Stays : Slave → Type 0
Stays x = (n : ℕ) → StaysFor n x
