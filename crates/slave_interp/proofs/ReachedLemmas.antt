-- What a run of the machine of code comes to: the slave behind so many steps.
use Rattle.std.proofs.Common.{◌≡◌, ◌∙◌, ◌⊎◌, inl, inr, ◌+◌, ◌-◌, ◌<◌, ◌≤◌, ◌≢◌, ℕ, refl, sym, ap, subst, arith, List, [], true, Option, Some, None}
use Rattle.std.specs.Prelude.{is_some}
use Rattle.std.proofs.Math.Logic.{∥∥₁_elim, ∥∥₁_prop}
use Rattle.std.proofs.Props.{props}
use Rattle.pt_base.proofs.Numbers.{below_is_prop}
use Rattle.block_memory.specs.declared.cell.Cell.{Cell}
use Rattle.wire.specs.declared.message.Message.{Message}
use Rattle.runs.specs.Run.{deepest}
use Rattle.runs.specs.State.{Hosts}
use Rattle.pt_core.specs.CodeTree.{ProgramTree}
use Rattle.pt_core.specs.Steps.{Machine, Answer, moved, asked, Step}
use Rattle.core_steps_law.specs.WholeRun.{steps_run}
use Rattle.core_steps_law.specs.GatesShown.{step_shown}
use Rattle.core_steps_law.proofs.GatesAgreement.{gates_agree}
use Rattle.core_machine.specs.declared.machine.Machine as code
use Rattle.core_machine.specs.declared.stepped.Stepped.{Stepped}
use Rattle.core_machine.specs.Gates.{gate_of}
use Rattle.core_machine.specs.Machines.{Follows, Shown}
use Rattle.core_machine.specs.States.{answer_of}
use Rattle.core_machine.specs.Stops.{MovesOn}
use Rattle.pair_protocol.specs.Sides.{going, Moved}
use Rattle.pair_protocol.specs.SlaveRun.{came, listed, slave_at}
use Rattle.pair_meaning.specs.Pair.{the_sides}
use Rattle.pair_meaning.specs.SlaveRun as s
use Rattle.pair_meaning.specs.SlaveRun.{Heard, after_step, heard_by, mode_of, slave_gate, stepped}
use Rattle.slave_soundness_law.specs.Laws.{IsReady}
use Rattle.slave_soundness_law.specs.Sound.{IsSound}
use Rattle.slave_interp.specs.declared.doing.Doing.TheVariants.{Goes}
use Rattle.slave_interp.specs.declared.engine.Engine.{Engine}
use Rattle.slave_interp.specs.declared.ran.Next.{Next}
use Rattle.slave_interp.specs.Engines.{Calls, HasMoved, IsAt, IsGoing, MayAsk, Runs}
use Rattle.slave_interp.specs.Hearing.{Hearing}
use Rattle.slave_interp.specs.Hearings.{has_written, hearing_answer, hearing_way, model_in, told_of}
use Rattle.slave_interp.specs.Running.{HasGone}
use Rattle.slave_interp.proofs.HearingLemmas.{hearing_shows, keeps_rest}
use Rattle.slave_interp.proofs.MovedLemmas.{tells}
use Rattle.slave_interp.proofs.WalkLemmas.{Walk, has_heard, steps_of, walk}

less_set : (m n : ℕ) → IsProp (m ≤ n)
less_set m n = hlevel props

-- so many steps of the definitions under the gate of code
abbrev code_steps : ProgramTree → ℕ → Machine → Hearing → Step Hearing
code_steps program n m g = steps_run program (gate_of hearing_way hearing_answer) n m g

-- what a run of the machine says of itself
abbrev pub Went : code.Machine → code.Machine → Hearing → Hearing → Stepped → ℕ → ℕ → Type 0
Went x y g h r left most = (program : ProgramTree) (m : Machine) → Shown program x m →
    (n : ℕ) × (n + left ≡ most)
    × ((k : ℕ) → k < n → MovesOn has_written (code_steps program k m g))
    × (0 < left → (answer_of r ≢ moved) ⊎ (has_written h ≡ true))
    × Follows program r y h (code_steps program n m g)

-- the slave behind it, before it says anything
pub record Reached (e : Engine) (a : Answer) (left most : ℕ) (from : s.Slave) : Type 0 where
  pub n : ℕ
  pub count : n + left ≡ most
  pub y : s.Slave
  pub same : y.doing ≡ from.doing
  pub runs : Runs e y
  pub sound : IsSound (after_step y a e.gate.wrote).slave
  pub ready_for : (f : ℕ) (args : List Cell) (depth : ℕ) → a ≡ asked f args depth → IsReady y f args depth
  pub came_to : slave_at the_sides n from [] ≡ came (after_step y a e.gate.wrote).slave (listed (after_step y a e.gate.wrote).said) [] n
  pub quiet : (j : ℕ) → j < n → (slave_at the_sides j from []).said ≡ []
  pub stops : 0 < left → (a ≢ moved) ⊎ (is_some e.gate.wrote ≡ true)

-- it goes on
abbrev goes_at : s.Slave → Type 0
goes_at from = from.doing ≡ s.goes

some_same : (a b : s.Doing) → Some a ≡ Some b → a ≡ b
some_same a b e = cc

pub goes_from : (e : Engine) (from : s.Slave) → IsAt e Goes from → goes_at from
goes_from e from is = sym (some_same s.goes from.doing is.doing)

abbrev unheard : Hosts → List ℕ → Heard
unheard hosts input = record { hosts = hosts; input = input; wrote = None }

module _ (e : Engine) (x : code.Machine) (g h : Hearing) (r : Stepped) (left most : ℕ) (cleared : g ≡ record e.gate { wrote = None }) (from : s.Slave) (is : IsAt e Goes from) where
  -- the gate at the start
  begins : heard_by from ≡ told_of g
  begins =
      ap (λ (hosts : Hosts). unheard hosts from.input) is.runs.hosts_are
      ∙ ap (λ (input : List ℕ). unheard (model_in e.gate) input) is.runs.input_is
      ∙ ap told_of (sym cleared)

  steps_are : (n : ℕ) → steps_of from n ≡ step_shown told_of (code_steps from.program n from.machine g)
  steps_are n =
      ap (λ (k : Heard). steps_run from.program (slave_gate from.program) n from.machine k) begins
      ∙ gates_agree told_of (λ k. k.signatures) from.program.signatures (gate_of hearing_way hearing_answer) (slave_gate from.program) (hearing_shows from.program) from.program n from.machine g
      (ap (λ (k : Hearing). k.signatures) cleared ∙ is.runs.signatures_are)

  moves_on : (k : ℕ) → MovesOn has_written (code_steps from.program k from.machine g) → MovesOn has_heard (steps_of from k)
  moves_on k m = subst (λ (z : Step Heard). MovesOn has_heard z) (sym (steps_are k)) (m.0, m.1)

  reached_by : (n : ℕ) → n + left ≡ most → Walk from n (steps_of from n) → (0 < left → (answer_of r ≢ moved) ⊎ (has_written h ≡ true)) → Follows from.program r x h (code_steps from.program n from.machine g) →
      Reached (record e { machine = x; gate = h }) (answer_of r) left most from
  reached_by n count w stops follows =
      let z : Step Heard = steps_of from n in
      let y : s.Slave = stepped from z in
      let kept = keeps_rest from.program n from.machine g in
      let answer : z.answer ≡ answer_of r = ap (λ (k : Step Heard). k.answer) (steps_are n) ∙ sym follows.answer in
      let wrote : z.gate.wrote ≡ h.wrote = ap (λ (k : Step Heard). k.gate.wrote) (steps_are n) ∙ ap (λ (k : Hearing). k.wrote) (sym follows.gate) in
      let after : after_step y z.answer z.gate.wrote ≡ after_step y (answer_of r) h.wrote =
      ap (λ (a : Answer). after_step y a z.gate.wrote) answer ∙ ap (λ (o : Option (List ℕ)). after_step y (answer_of r) o) wrote in
      record {
        n = n;
        count = count;
        y = y;
        same = refl;
        runs = record {
          shown = subst (λ (m : Machine). Shown from.program x m) (sym (ap (λ (k : Step Heard). k.machine) (steps_are n))) follows.shown;
          structs_are = is.runs.structs_are;
          signatures_are = ap (λ (k : Hearing). k.signatures) follows.gate ∙ kept.0 ∙ ap (λ (k : Hearing). k.signatures) cleared ∙ is.runs.signatures_are;
          hosts_are = ap (λ (k : Step Heard). k.gate.hosts) (steps_are n) ∙ ap (λ (k : Hearing). model_in k) (sym follows.gate);
          input_is = is.runs.input_is ∙ sym (ap (λ (k : Hearing). k.input) follows.gate ∙ kept.1 ∙ ap (λ (k : Hearing). k.input) cleared);
          given_are = is.runs.given_are;
          calls_are = is.runs.calls_are;
          budget_is = is.runs.budget_is ∙ sym w.budget;
        };
        sound = subst (λ (m : Moved s.Slave Message). IsSound m.slave) after w.sound;
        ready_for = λ f args depth a. w.ready_for f args depth (answer ∙ a);
        came_to = w.came_to ∙ ap (λ (m : Moved s.Slave Message). came m.slave (listed m.said) [] n) after;
        quiet = w.quiet;
        stops = stops;
      }

  pub reached : Went e.machine x g h r left most → Reached (record e { machine = x; gate = h }) (answer_of r) left most from
  reached went =
      let w = went from.program from.machine is.runs.shown in
      reached_by w.0 w.1 (walk w.0 from is.sound (goes_from e from is) (λ k less. moves_on k (w.2 k less))) w.3 w.4

-- ---- what may be asked for

may_call : (e : Engine) (a : Answer) (left most : ℕ) (from : s.Slave) → Reached e a left most from → (f : ℕ) (args : List Cell) (depth : ℕ) → a ≡ asked f args depth → Calls e f args
may_call e a left most from w f args depth is =
    let ready = w.ready_for f args depth is in
    record { slave = w.y; runs = w.runs; signed = ready.signed; packable = ready.packable; room = ready.room }

pub may_ask : (e : Engine) (x : code.Machine) (g h : Hearing) (r : Stepped) (left most : ℕ) → IsGoing e → g ≡ record e.gate { wrote = None } → Went e.machine x g h r left most →
    (f : ℕ) (args : List Cell) (depth : ℕ) → answer_of r ≡ asked f args depth → MayAsk (record e { machine = x; gate = h }) f args depth
may_ask e x g h r left most some cleared went f args depth is = (
  ∥∥₁_elim some ∥∥₁_prop (λ at. ∣ may_call (record e { machine = x; gate = h }) (answer_of r) left most at.0 (reached e x g h r left most cleared at.0 at.1 went) f args depth is ∣₁),
  ∥∥₁_elim some (below_is_prop _ _) (λ at. shallow depth ((reached e x g h r left most cleared at.0 at.1 went).ready_for f args depth is).depth_is),
)
  where
    shallow : (d : ℕ) → d ≤ deepest → d < 256
    shallow d h = omega (arith, h)

-- no more steps are left than there were
pub no_more : (e : Engine) (x : code.Machine) (g h : Hearing) (r : Stepped) (left most : ℕ) → IsGoing e → g ≡ record e.gate { wrote = None } → Went e.machine x g h r left most → left ≤ most
no_more e x g h r left most some cleared went = ∥∥₁_elim some (less_set _ _) (λ at. within (reached e x g h r left most cleared at.0 at.1 went))
  where
    sum : (n : ℕ) → n + left ≡ most → left ≤ most
    sum n k = omega (arith, k)

    within : {from : s.Slave} → Reached (record e { machine = x; gate = h }) (answer_of r) left most from → left ≤ most
    within w = sum w.n w.count

-- ---- what it came to

pub gone : (e end : Engine) (a : Answer) (left most made : ℕ) (from : s.Slave) (next : Next) → made ≡ most - left → from.doing ≡ s.goes → Reached e a left most from → ((y : s.Slave) → Runs e y → y.doing ≡ s.goes → HasMoved end next (after_step y a e.gate.wrote)) →
    HasGone made most from next.said end next.doing
gone e end a left most made from next made_is goes w moves =
    let m : Moved s.Slave Message = after_step w.y a e.gate.wrote in
    let moved' : HasMoved end next m = moves w.y w.runs (w.same ∙ goes) in
    let is : made ≡ w.n = counted w.n w.count in
    subst (λ k. HasGone k most from next.said end next.doing) (sym is) (record {
      few = below w.n w.count;
      to = m.slave;
      there = record { runs = moved'.runs; doing = moved'.doing; sound = w.sound };
      came_to = w.came_to ∙ ap (λ (o : Option Message). came m.slave (listed o) [] w.n) (sym moved'.said);
      quiet = w.quiet;
      stops = λ less. by_said m moved'.said (tells w.y a e.gate.wrote (w.stops (some_left w.n w.count less)));
    })
  where
    counted : (n : ℕ) → n + left ≡ most → made ≡ n
    counted n k = omega (arith, k, made_is)

    below : (n : ℕ) → n + left ≡ most → n ≤ most
    below n k = omega (arith, k)

    some_left : (n : ℕ) → n + left ≡ most → n < most → 0 < left
    some_left n k h = omega (arith, k, h)

    by_said : (m : Moved s.Slave Message) → next.said ≡ m.said → (m.said ≢ None) ⊎ (mode_of m.slave ≢ going) → (next.said ≢ None) ⊎ (mode_of m.slave ≢ going)
    by_said m same (inl h) = inl (λ none. h (sym same ∙ none))
    by_said m same (inr h) = inr h
