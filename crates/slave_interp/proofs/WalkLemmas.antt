-- So many steps of a slave's machine are so many steps of the slave.
use Rattle.std.proofs.Common.{◌≡◌, ◌∙◌, ◌<◌, ℕ, zero, suc, refl, sym, ap, subst, arith, List, [], Bool, false, Option, Some, None}
use Rattle.std.specs.Prelude.{is_some}
use Rattle.block_memory.specs.declared.cell.Cell.{Cell}
use Rattle.wire.specs.declared.message.Message.{Message}
use Rattle.wire.specs.declared.message.ReplyBody.{ReplyBody}
use Rattle.pt_core.specs.CodeTree.{ProgramTree}
use Rattle.pt_core.specs.Steps.{Gate, Answer, moved, asked, ended, trapped, spent, idle, Step, answers}
use Rattle.core_steps_law.specs.WholeRun.{further, further_by, steps_run}
use Rattle.core_machine.specs.Stops.{MovesOn}
use Rattle.core_soundness_law.proofs.CalledAccounts.{steps_keep_account}
use Rattle.pair_protocol.specs.Sides.{Mode, going, waits, over, Moved}
use Rattle.pair_protocol.specs.SlaveRun.{At, Ready, came, having, listed, moved_on, ready, ready_in, slave_at, with_said}
use Rattle.pair_meaning.specs.Pair.{the_sides}
use Rattle.pair_meaning.specs.SlaveRun.{Slave, goes, Heard, after_step, heard_by, machine_step, mode_by, mode_of, silent, slave_gate, slave_step, stepped}
use Rattle.slave_soundness_law.specs.Laws.{IsReady}
use Rattle.slave_soundness_law.specs.Sound.{IsSound}
use Rattle.slave_soundness_law.proofs.Stepping.{calls_are_ready, slaves_stay_sound}
use Rattle.slave_interp.proofs.HearingLemmas.{keeps_input}

-- ---- without replies

pub none_ready : (x : Slave) → ready the_sides x [] ≡ having x []
none_ready x = go (mode_of x)
  where
    go : (m : Mode) → ready_in the_sides m x [] ≡ having x []
    go going = refl
    go waits = refl
    go over = refl

abbrev At' : Type 0
At' = At Slave Message ReplyBody

abbrev at_by : Mode → Slave → At' → At'
at_by m x rest = moved_on the_sides m (having x []) rest

pub none_made : (x : Slave) → slave_at the_sides 0 x [] ≡ came x [] [] 0
none_made x = ap (λ (r : Ready Slave ReplyBody). came r.slave [] r.left 0) (none_ready x)

pub made_by : (k : ℕ) (x : Slave) → slave_at the_sides (suc k) x [] ≡ at_by (mode_of x) x (slave_at the_sides k (slave_step x).slave [])
made_by k x = ap (λ (r : Ready Slave ReplyBody). moved_on the_sides (mode_of r.slave) r (slave_at the_sides k (slave_step r.slave).slave r.left)) (none_ready x)

-- a step, and then the rest
abbrev behind : Moved Slave Message → At' → At'
behind m rest = came rest.slave (with_said m.said rest.said) rest.left (suc rest.made)

pub made_more : (k : ℕ) (x : Slave) → mode_of x ≡ going → slave_at the_sides (suc k) x [] ≡ behind (slave_step x) (slave_at the_sides k (slave_step x).slave [])
made_more k x e = made_by k x ∙ ap (λ (m : Mode). at_by m x (slave_at the_sides k (slave_step x).slave [])) e

said_alone : (o : Option Message) → with_said o [] ≡ listed o
said_alone None = refl
said_alone (Some m) = refl

-- where it doesn't go on it makes none
pub made_none : (k : ℕ) (x : Slave) → (mode_of x ≡ going → ⊥) → slave_at the_sides k x [] ≡ came x [] [] 0
made_none zero x stopped = none_made x
made_none (suc k) x stopped = made_by k x ∙ go (mode_of x) refl
  where
    go : (m : Mode) → mode_of x ≡ m → at_by m x (slave_at the_sides k (slave_step x).slave []) ≡ came x [] [] 0
    go going e = absurd (stopped e)
    go waits e = refl
    go over e = refl

pub made_one : (x : Slave) → mode_of x ≡ going → slave_at the_sides 1 x [] ≡ came (slave_step x).slave (listed (slave_step x).said) [] 1
made_one x e =
    made_more 0 x e ∙ ap (behind (slave_step x)) (none_made (slave_step x).slave)
    ∙ ap (λ (xs : List Message). came (slave_step x).slave xs [] 1) (said_alone (slave_step x).said)

-- ---- steps of its machine

abbrev pub steps_of : Slave → ℕ → Step Heard
steps_of x n = steps_run x.program (slave_gate x.program) n x.machine (heard_by x)

abbrev pub has_heard : Heard → Bool
has_heard h = is_some h.wrote

-- one step
first_step : (program : ProgramTree) (gate : Gate Heard) (y : Step Heard) → further y (steps_run program gate 0) ≡ y
first_step program gate y = go y.answer refl
  where
    go : (a : Answer) → y.answer ≡ a → further_by a y (steps_run program gate 0) ≡ y
    go moved e = ap (λ (a : Answer). answers a y.machine y.gate) (sym e)
    go (asked f args depth) e = refl
    go (ended v) e = refl
    go (trapped trap span) e = refl
    go spent e = refl
    go idle e = refl

-- what the slave is behind so many steps of its machine, where all but the last of them say nothing
pub record Walk (x : Slave) (n : ℕ) (z : Step Heard) : Type 0 where
  pub budget : z.machine.budget ≡ x.machine.budget
  pub sound : IsSound (after_step (stepped x z) z.answer z.gate.wrote).slave
  pub ready_for : (f : ℕ) (args : List Cell) (depth : ℕ) → z.answer ≡ asked f args depth → IsReady (stepped x z) f args depth
  pub came_to : slave_at the_sides n x [] ≡ came (after_step (stepped x z) z.answer z.gate.wrote).slave (listed (after_step (stepped x z) z.answer z.gate.wrote).said) [] n
  pub quiet : (j : ℕ) → j < n → (slave_at the_sides j x []).said ≡ []

clash : (f : ℕ) (args : List Cell) (depth : ℕ) → moved ≡ asked f args depth → ⊥
clash f args depth e = cc

no_steps : (x : Slave) → IsSound x → Walk x 0 (steps_of x 0)
no_steps x sound = record {
  budget = refl;
  sound = sound;
  ready_for = λ f args depth e. absurd (clash f args depth e);
  came_to = none_made x;
  quiet = λ j h. absurd (omega (arith, h));
}

goes_on : (x : Slave) → x.doing ≡ goes → mode_of x ≡ going
goes_on x e = ap mode_by e

quiet_first : (x : Slave) (j : ℕ) → j < 1 → (slave_at the_sides j x []).said ≡ []
quiet_first x zero h = refl
quiet_first x (suc j) h = absurd (omega (arith, h))

one_step : (x : Slave) → IsSound x → x.doing ≡ goes → Walk x 1 (machine_step x)
one_step x sound e = record {
  budget = (steps_keep_account x.program (slave_gate x.program) x.machine (heard_by x)).budget;
  sound = slaves_stay_sound x sound e;
  ready_for = λ f args depth a. calls_are_ready x f args depth sound e a;
  came_to = made_one x (goes_on x e);
  quiet = quiet_first x;
}

abbrev heard_with : Heard → List ℕ → Option (List ℕ) → Heard
heard_with h input wrote = record { hosts = h.hosts; input = input; wrote = wrote }

module _ (x : Slave) (sound : IsSound x) (e : x.doing ≡ goes) (first : MovesOn has_heard (machine_step x)) where
  abbrev next : Slave
  next = stepped x (machine_step x)

  unheard : (o : Option (List ℕ)) → is_some o ≡ false → o ≡ None
  unheard None h = refl
  unheard (Some bytes) h = cc

  step_is : slave_step x ≡ silent next
  step_is =
      ap (λ (a : Answer). after_step next a (machine_step x).gate.wrote) first.0
      ∙ ap (λ (o : Option (List ℕ)). after_step next moved o) (unheard (machine_step x).gate.wrote first.1)

  next_sound : IsSound next
  next_sound = subst (λ (m : Moved Slave Message). IsSound m.slave) step_is (slaves_stay_sound x sound e)

  same_input : (machine_step x).gate.input ≡ x.input
  same_input =
      ap (λ (s : Step Heard). s.gate.input) (sym (first_step x.program (slave_gate x.program) (machine_step x)))
      ∙ keeps_input x.program 1 x.machine (heard_by x)

  same_gate : heard_by next ≡ (machine_step x).gate
  same_gate =
      ap (λ (input : List ℕ). heard_with (machine_step x).gate input None) (sym same_input)
      ∙ ap (λ (o : Option (List ℕ)). heard_with (machine_step x).gate (machine_step x).gate.input o) (sym (unheard (machine_step x).gate.wrote first.1))

  later : (k : ℕ) → steps_of x (suc k) ≡ steps_of next k
  later k =
      ap (λ (a : Answer). further_by a (machine_step x) (steps_run x.program (slave_gate x.program) k)) first.0
      ∙ ap (λ (h : Heard). steps_run x.program (slave_gate x.program) k (machine_step x).machine h) (sym same_gate)

  more_quiet : (n : ℕ) → ((j : ℕ) → j < n → (slave_at the_sides j next []).said ≡ []) → (j : ℕ) → j < suc n → (slave_at the_sides j x []).said ≡ []
  more_quiet n quiet zero h = refl
  more_quiet n quiet (suc j) h =
      ap (λ (a : At'). a.said) (made_more j x (goes_on x e))
      ∙ ap (λ (m : Moved Slave Message). with_said m.said (slave_at the_sides j m.slave []).said) step_is
      ∙ quiet j (omega (arith, h))

  grown : (n : ℕ) (z : Step Heard) → Walk next n z → Walk x (suc n) z
  grown n z w = record {
    budget = w.budget ∙ (steps_keep_account x.program (slave_gate x.program) x.machine (heard_by x)).budget;
    sound = w.sound;
    ready_for = w.ready_for;
    came_to =
        made_more n x (goes_on x e)
        ∙ ap (λ (m : Moved Slave Message). behind m (slave_at the_sides n m.slave [])) step_is
        ∙ ap (λ (rest : At'). behind (silent next) rest) w.came_to;
    quiet = more_quiet n w.quiet;
  }

pub walk : (n : ℕ) (x : Slave) → IsSound x → x.doing ≡ goes → ((k : ℕ) → k < n → MovesOn has_heard (steps_of x k)) → Walk x n (steps_of x n)
walk zero x sound e moves = no_steps x sound
walk (suc zero) x sound e moves = subst (λ (z : Step Heard). Walk x 1 z) (sym (first_step x.program (slave_gate x.program) (machine_step x))) (one_step x sound e)
walk (suc (suc n)) x sound e moves =
    let first : MovesOn has_heard (machine_step x) = subst (λ (z : Step Heard). MovesOn has_heard z) (first_step x.program (slave_gate x.program) (machine_step x)) (moves 1 (omega arith)) in
    let rest : Walk (next x sound e first) (suc n) (steps_of (next x sound e first) (suc n)) =
    walk (suc n) (next x sound e first) (next_sound x sound e first) e
    (λ k h. subst (λ (z : Step Heard). MovesOn has_heard z) (later x sound e first k) (moves (suc k) (omega (arith, h)))) in
    subst (λ (z : Step Heard). Walk x (suc (suc n)) z) (sym (later x sound e first (suc n))) (grown x sound e first (suc n) (steps_of (next x sound e first) (suc n)) rest)
