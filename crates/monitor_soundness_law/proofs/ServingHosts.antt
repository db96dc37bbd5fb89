-- Hosts that may be asked for go on fitting, and the input stays.
use Rattle.std.proofs.Common.{◌≡◌, ◌∙◌, ◌≤◌, ◌<◌, ◌-◌, ℕ, zero, suc, ℤ, nat_eq, refl, ap, sym, subst, arith, List, [], Option, None, Bool, true, false, map}
use Rattle.std.specs.Prelude.{IsTrue, All, if◌then◌else◌}
use Rattle.pt_base.proofs.Numbers.{nat_eq_same}
use Rattle.pt_tree.specs.HostStep.{host_step}
use Rattle.runs.specs.Run.{deepest}
use Rattle.runs.specs.State.{Hosts, gives, put_host}
use Rattle.host_models.specs.Fitting.{fits}
use Rattle.host_models.proofs.AnswerLemmas.{fits_in_range}
use Rattle.block_memory.specs.declared.cell.Cell.{Cell}
use Rattle.block_memory.specs.Blocks.{Blocks}
use Rattle.pt_core.specs.CodeTree.{MonitorTree, ProgramTree}
use Rattle.pt_core.specs.Statements.{State, Outcome}
use Rattle.pt_core.specs.Values.{number_in}
use Rattle.pt_core.specs.Calls.{body_run, calls_within}
use Rattle.pt_core.specs.Steps as s
use Rattle.pt_core.specs.Steps.{Machine, Gate, Answer, moved, asked, ended, trapped, spent, idle, Step, answers, started, step}
use Rattle.pt_core.specs.WellFormed.{monitor_program}
use Rattle.core_steps_law.specs.WholeRun.{further_by, steps_run}
use Rattle.core_steps_law.specs.Laws.{machine_at}
use Rattle.core_steps_law.specs.GatesWritten.{Written, bytes_gate}
use Rattle.core_soundness_law.specs.Called.{CallOwn}
use Rattle.core_soundness_law.proofs.CalledGates.{gate_keeps}
use Rattle.core_soundness_law.proofs.CalledSteps.{started_call_own, steps_call_own}
use Rattle.core_steps_law.specs.MachinesBodies.{body_frame, body_outcome, written_then, BodyIsSteps, IsOutcome}
use Rattle.core_steps_law.proofs.MachinesBodies.{bodies_are_steps}
use Rattle.monitor_soundness_law.specs.ServingSound.{AskedFit}

-- what stands for a host behind an answer may do so too
pub put_asked : (p : MonitorTree) (hosts : Hosts) (f : ℕ) (input : List ℕ) (numbers : List ℤ) → AskedFit p hosts → All (λ b. b < 256) input → AskedFit p (put_host hosts f (host_step input (hosts f) numbers).next)
put_asked p hosts f input numbers old bytes k sig entry host = go (nat_eq k f) refl
  where
    go : (b : Bool) → nat_eq k f ≡ b → IsTrue (fits (if b then (host_step input (hosts f) numbers).next else hosts k) sig)
    go true e = (fits_in_range input (hosts f) numbers sig bytes (subst (λ n. IsTrue (fits (hosts n) sig)) (nat_eq_same k f e) (old k sig entry host))).next
    go false e = old k sig entry host

-- ---- steps

after_one : {G : Type 0} (P : G → Type 0) (a : Answer) (x : Step G) (next : Machine → G → Step G) → P x.gate → P (next x.machine x.gate).gate → P (further_by a x next).gate
after_one P moved x next h k = k
after_one P (asked f args depth) x next h k = h
after_one P (ended v) x next h k = h
after_one P (trapped trap span) x next h k = h
after_one P spent x next h k = h
after_one P idle x next h k = h

-- What holds of a gate on which calls leave no note holds after so many steps, where each answer of a host keeps it.
pub gate_after : {G : Type 0} (program : ProgramTree) (gate : Gate G) (P : G → Type 0) → ((g : G) → P g → (active : Bool) (f : ℕ) (args : List Cell) → P (gate.noted active f args g)) →
    ((g : G) → P g → (active : Bool) (f : ℕ) (args : List Cell) → P (gate.answer f (map number_in args) (gate.noted active f args g)).1) →
    (n : ℕ) (m : Machine) (g : G) → CallOwn program m.active → P g → P (steps_run program gate n m g).gate
gate_after program gate P noted answered zero m g own h = h
gate_after {G} program gate P noted answered (suc n) m g own h =
    let x : Step G = step program gate m g in
    let one : P x.gate = gate_keeps program gate g P h (λ active f args. noted g h active f args) (λ active f args called e. answered g h active f args) m own in
    after_one P x.answer x (steps_run program gate n) one (gate_after program gate P noted answered n x.machine x.gate (steps_call_own program gate m g own).left one)

abbrev pub IsHeard : MonitorTree → List ℕ → Written → Type 0
IsHeard p input g = AskedFit p g.hosts × (g.input ≡ input)

heard_after : (p : MonitorTree) (input : List ℕ) → All (λ b. b < 256) input → (n : ℕ) (m : Machine) (g : Written) → CallOwn (monitor_program p) m.active → IsHeard p input g →
    IsHeard p input (steps_run (monitor_program p) (bytes_gate (monitor_program p)) n m g).gate
heard_after p input bytes n m g own h =
    gate_after (monitor_program p) (bytes_gate (monitor_program p)) (IsHeard p input) (λ g h active f args. h)
    (λ g h active f args. (put_asked p g.hosts f g.input (map number_in args) h.0 (subst (λ xs. All (λ b. b < 256) xs) (sym h.1) bytes), h.1)) n m g own h

-- ---- a body

abbrev resting : Blocks → ℕ → Machine
resting blocks left = record { active = []; blocks = blocks; turns = 0; budget = left; awaits = None }

abbrev begun : Hosts → List ℕ → Written
begun hosts input = record { hosts = hosts; input = input; bytes = [] }

pub body_heard : (p : MonitorTree) (f depth : ℕ) (args : List Cell) (blocks : Blocks) (hosts : Hosts) (input : List ℕ) (left : ℕ) (v : Option Cell) (st : State) → All (λ b. b < 256) input → AskedFit p hosts →
    body_run (monitor_program p) (calls_within (monitor_program p) (deepest - depth)) (body_frame (monitor_program p) true f depth) f args (record { memory = blocks; hosts = hosts; input = input; events = []; left = left }) ≡ gives v st →
    AskedFit p st.hosts × (st.input ≡ input)
body_heard p f depth args blocks hosts input left v st bytes fit is =
    let program : ProgramTree = monitor_program p in
    let steps : BodyIsSteps program true f depth args (resting blocks left) (begun hosts input) = bodies_are_steps program true f depth args (resting blocks left) (begun hosts input) (none_taken left) in
    let same : body_outcome program true f depth args (resting blocks left) (begun hosts input) ≡ gives v st =
    ap (λ n. body_run program (calls_within program (deepest - depth)) (body_frame program true f depth) f args (record { memory = blocks; hosts = hosts; input = input; events = []; left = n })) (same_left left) ∙ is in
    let comes : steps_run program (bytes_gate program) steps.comes.0 (started program true f depth args (resting blocks left)) (begun hosts input) ≡ answers (s.ended v) (machine_at (resting blocks left) [] st) (written_then (begun hosts input) st) =
    subst (λ (o : Outcome (Option Cell)). IsOutcome (resting blocks left) (begun hosts input) o (steps_run program (bytes_gate program) steps.comes.0 (started program true f depth args (resting blocks left)) (begun hosts input))) same steps.comes.2 in
    subst (λ (y : Step Written). IsHeard p input y.gate) comes
    (heard_after p input bytes steps.comes.0 (started program true f depth args (resting blocks left)) (begun hosts input) (started_call_own program true f depth args (resting blocks left)) (fit, refl))
  where
    none_taken : (n : ℕ) → 0 ≤ n
    none_taken n = omega arith

    same_left : (n : ℕ) → n - 0 ≡ n
    same_left n = omega arith
