-- Two sides by example: a slave of a few acts, and a monitor that ends at a posted 0.
use Rattle.std.specs.Prelude.{◌≡◌, ◌+◌, ℕ, zero, suc, List, [], ◌∷◌, length, replicate, Bool, true, false, Some, None}
use Rattle.pair_protocol.specs.Sides.{Mode, going, waits, over, Moved, Served, goes_on, ends, Sides, AreFair}
use Rattle.pair_protocol.specs.SlaveRun.{IsLongest}
use Rattle.pair_protocol.specs.Pair.{done, both, slaves, parents, Pair, goes, stops, breaks, pair_steps, IsWhole, caught_up}

pub data Act : Type 0 where
  think : Act
  post : ℕ → Act
  ask : ℕ → Act

pub data Message : Type 0 where
  posted : ℕ → Message
  wanted : ℕ → Message

pub record Slave : Type 0 where
  pub acts : List Act
  pub got : List ℕ
  pub waiting : Bool

abbrev pub slave : List Act → List ℕ → Bool → Slave
slave acts got w = record { acts = acts; got = got; waiting = w }

abbrev pub mode_of : Bool → List Act → Mode
mode_of true acts = waits
mode_of false [] = over
mode_of false (a ∷ acts) = going

abbrev pub act : Act → List Act → List ℕ → Moved Slave Message
act think acts got = record { slave = slave acts got false; said = None }
act (post n) acts got = record { slave = slave acts got false; said = Some (posted n) }
act (ask n) acts got = record { slave = slave acts got true; said = Some (wanted n) }

abbrev pub step_of : List Act → List ℕ → Moved Slave Message
step_of [] got = record { slave = slave [] got false; said = None }
step_of (a ∷ acts) got = act a acts got

abbrev pub wants_of : Message → Bool
wants_of (posted n) = false
wants_of (wanted n) = true

-- the monitor adds up what is posted
abbrev pub serve_of : ℕ → Message → Served ℕ ℕ ℕ ℕ
serve_of m (posted zero) = ends (9 ∷ []) m
serve_of m (posted (suc n)) = goes_on (m + suc n) None (suc n ∷ [])
serve_of m (wanted n) = goes_on m (Some (m + n)) (n ∷ [])

abbrev pub adder : Sides Slave ℕ Message ℕ ℕ ℕ
adder = record {
  mode = λ s. mode_of s.waiting s.acts;
  step = λ s. step_of s.acts s.got;
  take = λ r s. slave s.acts (r ∷ s.got) false;
  wants = wants_of;
  serve = serve_of;
}

-- behind the posted 0, at which the monitor ends, the slave goes on and then waits for a reply that never comes
abbrev pub first : Slave
first = slave (post 5 ∷ ask 1 ∷ post 0 ∷ think ∷ ask 7 ∷ think ∷ []) [] false

abbrev pub IsAhead : Pair Slave ℕ Message ℕ ℕ → Type 0
IsAhead (goes p) = (p.queue ≡ posted 0 ∷ wanted 7 ∷ []) × (p.slave ≡ slave (think ∷ []) (6 ∷ []) true) × (p.written ≡ 5 ∷ 1 ∷ []) × (caught_up adder p ≡ done (5 ∷ 1 ∷ 9 ∷ []) 5)
IsAhead (stops bytes e) = ⊥
IsAhead (breaks bytes q) = ⊥

pub record AdderEnds : Type 0 where
  pub fair : AreFair adder
  pub bound : (s : Slave) → IsLongest adder (length s.acts) s
  pub expected : both adder first 0 3 ≡ done (5 ∷ 1 ∷ 9 ∷ []) 5
  pub by_slaves : IsWhole adder first 0 10 (replicate 8 slaves) (5 ∷ 1 ∷ 9 ∷ []) 5
  pub by_parents : IsWhole adder first 0 1 (replicate 6 parents) (5 ∷ 1 ∷ 9 ∷ []) 5
  pub ahead : IsAhead (pair_steps adder first 0 10 (replicate 7 slaves))
