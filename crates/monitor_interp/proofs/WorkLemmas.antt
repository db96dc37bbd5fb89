-- The work of a call on the machine and its gate comes to what the definitions say.
use Rattle.std.proofs.Common.{◌≡◌, ◌∙◌, ◌+◌, ◌-◌, ◌<◌, ◌≤◌, ◌≢◌, ◌⊎◌, ◌^◌, ℕ, refl, ap, sym, subst, arith, Bool, true, List, [], ◌∷◌, Option, Some, None, map}
use Rattle.std.specs.Prelude.{ℤ, option_map}
use Rattle.pt_base.specs.declared.span.Span.{Span}
use Rattle.pt_base.specs.declared.trap.Trap.{Trap}
use Rattle.pt_base.proofs.Numbers.{as_minus_self}
use Rattle.pt_tree.specs.HostStep.{Answer, host_step}
use Rattle.runs.specs.Run.{deepest}
use Rattle.runs.specs.State.{Hosts, gives, out_event, put_host}
use Rattle.runs.specs.State as r
use Rattle.block_memory.specs.declared.cell.Cell.{Cell}
use Rattle.block_memory.specs.Blocks.{Blocks}
use Rattle.pt_core.specs.CodeTree.{ProgramTree}
use Rattle.pt_core.specs.Calls.{body_run, calls_within, number_cell}
use Rattle.pt_core.specs.Statements.{Outcome, State}
use Rattle.pt_core.specs.Steps as s
use Rattle.pt_core.specs.Steps.{Active, Step, answers, moved, asked, ended, trapped, spent, idle, started, with_budget}
use Rattle.pt_core.specs.Values.{number_in}
use Rattle.core_steps_law.specs.WholeRun.{steps_run}
use Rattle.core_steps_law.specs.Laws.{machine_at}
use Rattle.core_machine.specs.declared.machine.Machine.{Machine}
use Rattle.core_machine.specs.declared.stepped.Stepped.{Stepped}
use Rattle.core_machine.specs.Gates.{gate_of}
use Rattle.core_machine.specs.Machines.{Follows, IsIdle, Shown, flat_of, state_of}
use Rattle.core_machine.specs.Shows.{StandAt}
use Rattle.core_machine.specs.declared.frame.Frame.{Frame}
use Rattle.core_machine.specs.Flat.{FlatProgram}
use Rattle.core_machine.specs.States.{answer_of}
use Rattle.core_machine.specs.Stops.{MovesOn}
use Rattle.core_steps_law.specs.GatesShown.{Shows, step_shown}
use Rattle.core_steps_law.specs.GatesWritten.{Written, bytes_gate, wrote}
use Rattle.core_steps_law.proofs.GatesAgreement.{gates_agree}
use Rattle.core_soundness_law.proofs.CalledSteps.{started_call_own}
use Rattle.core_steps_law.specs.MachinesBodies.{BodyIsSteps, IsOutcome, TakesTurns, body_frame, body_outcome, written_then}
use Rattle.core_steps_law.proofs.MachinesBodies.{bodies_are_steps}
use Rattle.monitor_soundness_law.proofs.ServingHosts.{gate_after}
use Rattle.monitor_interp.specs.declared.work.Task.{Task}
use Rattle.monitor_interp.specs.declared.worked.Worked.{Worked}
use Rattle.monitor_interp.specs.declared.worked.Worked.TheVariants.{Gave}
use Rattle.monitor_interp.specs.Heard.{Heard}
use Rattle.monitor_interp.specs.Gates.{heard_answer, heard_way, hosts_in, is_host_in, told_of}
use Rattle.monitor_interp.specs.Working.{IsAt, IsOfABody, IsSomewhere, IsWorkedBy, Works, at_first, begun_state, body_work, host_gives_at, resting}
use Rattle.monitor_interp.proofs.GateLemmas.{heard_shows, marks_stay}

-- ---- a host

number_back : (o : Option ℤ) → o ≡ option_map number_in (number_cell o)
number_back None = refl
number_back (Some v) = refl

no_more : (a b : ℕ) → a ≤ b → a ≤ b + 0
no_more a b h = omega (arith, h)

-- what the gate of the bytes answers of hosts that have written nothing
abbrev wrote_first : Hosts → List ℕ → ℕ → List ℤ → Option ℤ × Written
wrote_first hosts input f numbers = wrote f (host_step input (hosts f) numbers) (at_first hosts input)

told_answer : (program : ProgramTree) (f : ℕ) (numbers : List ℤ) (hosts : Hosts) (input : List ℕ) (g0 g1 : Heard) (value : Option ℤ) → is_host_in g0 ≡ hosts_in program → told_of g0 ≡ at_first hosts input → heard_answer f numbers g0 ≡ (value, g1) →
    wrote_first hosts input f numbers ≡ (value, told_of g1)
told_answer program f numbers hosts input g0 g1 value knows told is =
    let shows : Shows told_of is_host_in (hosts_in program) (gate_of heard_way heard_answer) (bytes_gate program) = heard_shows program in
    ap (λ (w : Written). wrote f (host_step w.input (w.hosts f) numbers) w) (sym told) ∙ shows.answer f numbers g0 knows ∙ ap (λ (p : Option ℤ × Heard). (p.0, told_of p.1)) is

pub works_host : (program : ProgramTree) (task : Task) (args : List Cell) (most : ℕ) (blocks : Blocks) (hosts : Hosts) (input : List ℕ) (x : Machine) (g0 g1 : Heard) (value : Option ℤ) →
    IsAt program x g0 most blocks (at_first hosts input) → heard_answer task.function.0 (map number_in args) g0 ≡ (value, g1) → Works program most task.left (host_gives_at task args blocks hosts input) (Gave value 0) x g1
works_host program task args most blocks hosts input x g0 g1 value at is =
    let told : wrote_first hosts input task.function.0 (map number_in args) ≡ (value, told_of g1) = told_answer program task.function.0 (map number_in args) hosts input g0 g1 value at.knows at.heard is in
    let a : Answer = host_step input (hosts task.function.0) (map number_in args) in (
      sym (ap (λ (p : Option ℤ × Written). p.0) told) ∙ number_back a.result,
      as_minus_self task.left,
      record {
        taken = at.taken;
        limit = at.limit;
        shown = at.shown;
        few = no_more at.taken most at.few;
        knows = sym (ap (λ (p : Option ℤ × Heard). is_host_in p.1) is) ∙ marks_stay g0 task.function.0 (map number_in args) ∙ at.knows;
        heard = sym (ap (λ (p : Option ℤ × Written). p.1) told);
      },
    )

-- ---- a body

abbrev machine_for : Blocks → ℕ → ℕ → s.Machine
machine_for blocks before left = resting blocks before (before + left)

abbrev outcome_for : ProgramTree → ℕ → ℕ → List Cell → Blocks → Hosts → List ℕ → ℕ → ℕ → Outcome (Option Cell)
outcome_for program f depth args blocks hosts input before left = body_outcome program true f depth args (machine_for blocks before left) (at_first hosts input)

-- the machine has run the body so far
pub record Ran (program : ProgramTree) (f depth : ℕ) (args : List Cell) (blocks : Blocks) (hosts : Hosts) (input : List ℕ) (before left : ℕ) (stepped : Stepped) (x : Machine) (g : Heard) : Type 0 where
  pub last : Step Written
  pub answer : answer_of stepped ≡ last.answer
  pub shown : Shown program x last.machine
  pub told : told_of g ≡ last.gate
  pub knows : is_host_in g ≡ hosts_in program
  pub outcome : (last.answer ≡ moved → ⊥) → IsOutcome (machine_for blocks before left) (at_first hosts input) (outcome_for program f depth args blocks hosts input before left) last
  pub turns : TakesTurns left (outcome_for program f depth args blocks hosts input before left)

within : (a b : ℕ) → a ≤ a + b
within a b = omega arith

left_again : (a b : ℕ) → (a + b) - a ≡ b
left_again a b = omega arith

-- what the methods of the machine say, one after the other
pub ran : (program : ProgramTree) (f depth : ℕ) (args : List Cell) (most : ℕ) (blocks : Blocks) (hosts : Hosts) (input : List ℕ) (before left : ℕ) (g0 g1 : Heard) (x0 x1 x2 x3 : Machine) → IsAt program x0 g0 most blocks (at_first hosts input) →
    ((p : ProgramTree) (m : s.Machine) → Shown p x0 m → before ≡ m.turns) →
    ((p : ProgramTree) (m : s.Machine) → Shown p x0 m → Shown p x1 (with_budget (before + left) m)) →
    ((p : ProgramTree) (privileged : Bool) (m : s.Machine) → Shown p x1 m → Shown p x2 (started p privileged f depth args m)) →
    (stepped : Stepped) (steps still : ℕ) (stops : Heard → Bool) →
    ((p : ProgramTree) (m : s.Machine) → Shown p x2 m →
    (n : ℕ) × (n + still ≡ steps) × ((k : ℕ) → k < n → MovesOn stops (steps_run p (gate_of heard_way heard_answer) k m g0)) × (0 < still → (answer_of stepped ≢ s.moved) ⊎ (stops g1 ≡ true)) × Follows p stepped x3 g1 (steps_run p (gate_of heard_way heard_answer) n m g0)) →
    Ran program f depth args blocks hosts input before left stepped x3 g1
ran program f depth args most blocks hosts input before left g0 g1 x0 x1 x2 x3 at counts budgets enters stepped steps still stops runs =
    let m : s.Machine = machine_for blocks before left in
    let w : Written = at_first hosts input in
    let first : Shown program x0 (resting blocks before at.limit) = subst (λ (n : ℕ). Shown program x0 (resting blocks n at.limit)) (sym (counts program (resting blocks at.taken at.limit) at.shown)) at.shown in
    let went = runs program (started program true f depth args m) (enters program true m (budgets program (resting blocks before at.limit) first)) in
    let so : Step Heard = steps_run program (gate_of heard_way heard_answer) went.0 (started program true f depth args m) g0 in
    let same : steps_run program (bytes_gate program) went.0 (started program true f depth args m) w ≡ step_shown told_of so =
    ap (λ (v : Written). steps_run program (bytes_gate program) went.0 (started program true f depth args m) v) (sym at.heard)
    ∙ gates_agree told_of is_host_in (hosts_in program) (gate_of heard_way heard_answer) (bytes_gate program) (heard_shows program) program went.0 (started program true f depth args m) g0 at.knows in
    let body : BodyIsSteps program true f depth args m w = bodies_are_steps program true f depth args m w (within before left) in
    record {
      last = step_shown told_of so;
      answer = went.4.answer;
      shown = went.4.shown;
      told = ap told_of went.4.gate;
      knows = ap is_host_in went.4.gate
          ∙ gate_after program (gate_of heard_way heard_answer) (λ (h : Heard). is_host_in h ≡ hosts_in program) (λ h is active k vs. is) (λ h is active k vs. marks_stay h k (map number_in vs) ∙ is) went.0
          (started program true f depth args m) g0 (started_call_own program true f depth args m) at.knows;
      outcome = λ stopped.
          subst (λ (y : Step Written). IsOutcome m w (outcome_for program f depth args blocks hosts input before left) y) same
          (body.only went.0 (λ e. stopped (sym (ap (λ (y : Step Written). y.answer) same) ∙ e)));
      turns = subst (λ n. TakesTurns n (outcome_for program f depth args blocks hosts input before left)) (left_again before left) body.turns;
    }

-- ---- its last step

of_outcome : (m : s.Machine) (w : Written) (o : Outcome (Option Cell)) (x : Step Written) → IsOutcome m w o x → IsOfABody x.answer
of_outcome m w (gives v st) x h = subst (λ (y : Step Written). IsOfABody y.answer) (sym h) (tt {0})
of_outcome m w (r.trapped trap span st) x h = subst (λ (y : Step Written). IsOfABody y.answer) (sym h.1) (tt {0})
of_outcome m w (r.spent st) x h = subst (λ (y : Step Written). IsOfABody y.answer) (sym h.1) (tt {0})

pub of_a_body : (program : ProgramTree) (f depth : ℕ) (args : List Cell) (blocks : Blocks) (hosts : Hosts) (input : List ℕ) (before left : ℕ) (stepped : Stepped) (x : Machine) (g : Heard) →
    Ran program f depth args blocks hosts input before left stepped x g → IsOfABody (answer_of stepped)
of_a_body program f depth args blocks hosts input before left stepped x g ran = subst IsOfABody (sym ran.answer) (go ran.last.answer refl)
  where
    known : (ran.last.answer ≡ moved → ⊥) → IsOfABody ran.last.answer
    known stopped = of_outcome (machine_for blocks before left) (at_first hosts input) (outcome_for program f depth args blocks hosts input before left) ran.last (ran.outcome stopped)

    asked_moved : (k : ℕ) (vs : List Cell) (d : ℕ) → asked k vs d ≡ moved → ⊥
    asked_moved k vs d e = cc

    idle_moved : idle ≡ moved → ⊥
    idle_moved e = cc

    go : (a : s.Answer) → ran.last.answer ≡ a → IsOfABody a
    go moved e = tt {0}
    go (asked k vs d) e = subst IsOfABody e (known (λ h. asked_moved k vs d (sym e ∙ h)))
    go (ended v) e = tt {0}
    go (trapped trap span) e = tt {0}
    go spent e = tt {0}
    go idle e = subst IsOfABody e (known (λ h. idle_moved (sym e ∙ h)))

-- where it is over it hasn't moved
not_moved : (a : s.Answer) (turns : ℕ) (w : Worked) → IsWorkedBy a turns w → a ≡ moved → ⊥
not_moved a turns w is e = gone (subst (λ b. IsWorkedBy b turns w) e is)
  where
    gone : IsWorkedBy moved turns w → ⊥
    gone h = h

spent_turns : (before left still after turns : ℕ) → still ≤ left → turns ≡ after - before → after ≡ (before + left) - still → turns ≡ left - still
spent_turns before left still after turns h e k = omega (arith, h, e, k)

few_taken : (before left still most turns : ℕ) → still ≤ left → before ≤ most → turns ≡ left - still → (before + left) - still ≤ most + turns
few_taken before left still most turns h k e = omega (arith, h, k, e)

pub works_body : (program : ProgramTree) (task : Task) (args : List Cell) (most : ℕ) (blocks : Blocks) (hosts : Hosts) (input : List ℕ) (before after turns : ℕ) (stepped : Stepped) (w : Worked) (x : Machine) (g : Heard) → before ≤ most →
    Ran program task.function.0 task.depth args blocks hosts input before task.left stepped x g → IsWorkedBy (answer_of stepped) turns w → turns ≡ after - before → ((p : ProgramTree) (m : s.Machine) → Shown p x m → after ≡ m.turns) →
    Works program most task.left (body_work program task args blocks hosts input) w x g
works_body program task args most blocks hosts input before after turns stepped w x g few ran worked counts later =
    subst (λ o. Works program most task.left o w x g) same (go (outcome_for program task.function.0 task.depth args blocks hosts input before task.left) (ran.outcome (not_moved ran.last.answer turns w by)) ran.turns)
  where
    by : IsWorkedBy ran.last.answer turns w
    by = subst (λ a. IsWorkedBy a turns w) ran.answer worked

    same : outcome_for program task.function.0 task.depth args blocks hosts input before task.left ≡ body_work program task args blocks hosts input
    same = ap (λ n. body_run program (calls_within program (deepest - task.depth)) (body_frame program true task.function.0 task.depth) task.function.0 args (begun_state blocks hosts input n)) (left_again before task.left)

    gave : (v : Option Cell) (st : State) → ran.last ≡ answers (s.ended v) (machine_at (machine_for blocks before task.left) [] st) (written_then (at_first hosts input) st) → st.left ≤ task.left → Works program most task.left (gives v st) w x g
    gave v st h turns_back =
        let shown : Shown program x (resting st.memory ((before + task.left) - st.left) (before + task.left)) = subst (λ (y : Step Written). Shown program x y.machine) h ran.shown in
        let is : turns ≡ task.left - st.left = spent_turns before task.left st.left after turns turns_back counts (later program (resting st.memory ((before + task.left) - st.left) (before + task.left)) shown) in
        subst (λ (u : Worked). Works program most task.left (gives v st) u x g) (sym (subst (λ (y : Step Written). IsWorkedBy y.answer turns w) h by)) (
          refl,
          is,
          record {
            taken = (before + task.left) - st.left;
            limit = before + task.left;
            shown = shown;
            few = few_taken before task.left st.left most turns turns_back few is;
            knows = ran.knows;
            heard = ran.told ∙ ap (λ (y : Step Written). y.gate) h;
          },
        )

    trapped_so : (trap : Trap) (span : Span) (st : State) (active : List Active) → ran.last ≡ answers (s.trapped trap span) (machine_at (machine_for blocks before task.left) active st) (written_then (at_first hosts input) st) →
        Works program most task.left (r.trapped trap span st) w x g
    trapped_so trap span st active h =
        subst (λ (u : Worked). Works program most task.left (r.trapped trap span st) u x g) (sym (subst (λ (y : Step Written). IsWorkedBy y.answer turns w) h by))
        (refl, ap (λ (v : Written). v.bytes) (ran.told ∙ ap (λ (y : Step Written). y.gate) h))

    spent_so : (st : State) (active : List Active) → ran.last ≡ answers s.spent (machine_at (machine_for blocks before task.left) active st) (written_then (at_first hosts input) st) → Works program most task.left (r.spent st) w x g
    spent_so st active h =
        subst (λ (u : Worked). Works program most task.left (r.spent st) u x g) (sym (subst (λ (y : Step Written). IsWorkedBy y.answer turns w) h by))
        (refl, ap (λ (v : Written). v.bytes) (ran.told ∙ ap (λ (y : Step Written). y.gate) h))

    go : (o : Outcome (Option Cell)) → IsOutcome (machine_for blocks before task.left) (at_first hosts input) o ran.last → TakesTurns task.left o → Works program most task.left o w x g
    go (gives v st) h back = gave v st h back
    go (r.trapped trap span st) h back = trapped_so trap span st h.0 h.1
    go (r.spent st) h back = spent_so st h.0 h.1

-- ---- where it begins

-- no function is active
none_active : (program : ProgramTree) (flat : FlatProgram) (frames : List Frame) → StandAt program flat frames [] → frames ≡ []
none_active program flat [] h = refl
none_active program flat (x ∷ xs) h = elim h [ ]

pub idle_at : (program : ProgramTree) (x : Machine) (blocks : Blocks) (taken limit : ℕ) → Shown program x (resting blocks taken limit) → IsIdle x
idle_at program x blocks taken limit shown = none_active program (flat_of x) (state_of x).frames shown.shows.stand

pub turns_before : (x : Machine) (g : Heard) (before : ℕ) → IsSomewhere x g → ((p : ProgramTree) (m : s.Machine) → Shown p x m → before ≡ m.turns) → before ≤ 2 ^ 32
turns_before x g before is counts =
    let same : before ≡ is.4.taken = counts is.0 (resting is.1 is.4.taken is.4.limit) is.4.shown in
    let few : is.4.taken ≤ 2 ^ 32 = is.4.few in
    omega (arith, same, few)

pub few_before : (program : ProgramTree) (x : Machine) (g : Heard) (most : ℕ) (blocks : Blocks) (before : ℕ) (w : Written) → IsAt program x g most blocks w → ((p : ProgramTree) (m : s.Machine) → Shown p x m → before ≡ m.turns) → before ≤ most
few_before program x g most blocks before w at counts =
    let same : before ≡ at.taken = counts program (resting blocks at.taken at.limit) at.shown in
    let few : at.taken ≤ most = at.few in
    omega (arith, same, few)
