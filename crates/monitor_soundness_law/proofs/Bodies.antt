-- A body of a monitor, step by step.
use Rattle.std.proofs.Common.{◌≡◌, ◌∙◌, ◌≤◌, ◌<◌, ℕ, zero, suc, ◌+◌, ◌-◌, ℤ, refl, ap, sym, subst, arith, List, [], ◌∷◌, ◌++◌, Option, Some, None, Bool, true, false, length, map}
use Rattle.std.specs.Prelude.{IsTrue, All, ◌&&◌, ◌||◌, not, is_some, if◌then◌else◌, unwrap_or}
use Rattle.std.specs.List.{list_all, list_any}
use Rattle.pt_tree.specs.HostStep.{host_step}
use Rattle.pt_tree.specs.declared.signature.Signature.{Signature}
use Rattle.runs.specs.Run.{deepest, written}
use Rattle.runs.specs.State as r
use Rattle.runs.specs.State.{Hosts, gives}
use Rattle.host_models.specs.Fitting.{fits}
use Rattle.host_models.proofs.AnswerLemmas.{fits_in_range}
use Rattle.block_memory.specs.declared.cell.Cell.{Cell}
use Rattle.block_memory.specs.declared.cell.BlockName.TheVariants.{Local, Received}
use Rattle.block_memory.specs.Block.{with_cell}
use Rattle.block_memory.specs.Blocks.{Blocks, put, with_frame}
use Rattle.pt_core.specs.Types.{shape_of}
use Rattle.pt_core.specs.CodeTree.{ProgramTree}
use Rattle.pt_core.specs.Statements.{State, Outcome}
use Rattle.pt_core.specs.Values.{number_in}
use Rattle.pt_core.specs.Calls.{signature_in, no_signature, function_in, with_arguments, body_run, calls_within}
use Rattle.pt_core.specs.Steps as s
use Rattle.pt_core.specs.Steps.{Active, Machine, Gate, Answer, Way, enters, here, away, moved, asked, ended, trapped, spent, idle, Step, answers, started, step}
use Rattle.pt_core.specs.WellFormed.{signature_at, function_at, callees, callee_by, callee_fits, is_sound}
use Rattle.core_steps_law.specs.WholeRun.{further, steps_run, whole_way}
use Rattle.core_steps_law.specs.Laws.{machine_at}
use Rattle.core_steps_law.specs.GatesWritten.{Written, bytes_gate}
use Rattle.core_soundness_law.specs.Kept.{none}
use Rattle.core_soundness_law.specs.Fits.{Fits, MemoryFits, AllFit}
use Rattle.core_soundness_law.specs.Outside.{ArgumentsFit, GivenFits, own_params}
use Rattle.core_soundness_law.specs.StepLaws.{AnswerFits, IsSameShape, NumberFits, StepFits}
use Rattle.core_soundness_law.proofs.Programs.{ProgramFacts, facts_of}
use Rattle.core_soundness_law.proofs.Shapes.{received_stay}
use Rattle.core_soundness_law.proofs.Starting.{started_fits}
use Rattle.core_soundness_law.specs.Called.{is_called, CallOwn, GoesBy, HasOutermost}
use Rattle.core_soundness_law.specs.CalledKeeping.{FitsCalls}
use Rattle.core_soundness_law.proofs.CalledAccounts.{steps_keep_account}
use Rattle.core_soundness_law.proofs.CalledGates.{gate_keeps}
use Rattle.core_soundness_law.proofs.CalledKeeping.{steps_keep_called}
use Rattle.core_soundness_law.proofs.CalledSteps.{started_call_own, steps_call_own}
use Rattle.core_steps_law.specs.MachinesBodies.{body_frame, body_outcome, written_then, BodyIsSteps, IsOutcome}
use Rattle.core_steps_law.proofs.MachinesBodies.{bodies_are_steps}
use Rattle.slave_soundness_law.proofs.Hosts.{each_holds, number_fits}
use Rattle.monitor_soundness_law.specs.Laws.{HostsFit, IsAtRest, LeavesNumbers, BodiesLeaveNumbers}
use Rattle.monitor_soundness_law.proofs.Hosts.{put_fits}

-- ---- the gate of bytes

pub way_enters : (host : Bool) → (if host then here else enters) ≡ enters → host ≡ false
way_enters true e = cc
way_enters false e = refl

pub way_here : (host : Bool) → (if host then here else enters) ≡ here → host ≡ true
way_here true e = refl
way_here false e = cc

known_by : (o : Option Signature) (known : Bool) → (unwrap_or o no_signature).host ≡ false → (p : ProgramTree) (f : ℕ) → IsTrue (callee_by true p f o) → (is_some (function_at p f) ≡ known) → IsTrue known
known_by None known e p f h k = cc
known_by (Some s) known e p f h k = subst IsTrue k (go s.host s.privileged e h)
  where
    go : (host privileged : Bool) → host ≡ false → IsTrue ((host || (privileged && not true)) || is_some (function_at p f)) → IsTrue (is_some (function_at p f))
    go true privileged e h = cc
    go false true e h = h
    go false false e h = h

module _ (program : ProgramTree) (input : List ℕ) (sound : IsTrue (is_sound true program)) (bytes : All (λ b. b < 256) input) where
  fits_gate : (g : Written) → HostsFit program g.hosts → g.input ≡ input → FitsCalls program (bytes_gate program) g
  fits_gate g hosts same = record {
    entered = λ f args own e.
        known_by (signature_at program f) (is_some (function_at program f)) (way_enters (signature_in program f).host e) program f
        (each_holds (callee_fits true program) f (callees program) (facts_of true program sound).calls own) refl;
    made = λ f args own e. way_here (signature_in program f).host e;
    answered = λ privileged f args own e.
        number_fits (signature_in program f).result (host_step g.input (g.hosts f) (map number_in args)).result
        (fits_in_range g.input (g.hosts f) (map number_in args) (signature_in program f) (subst (λ xs. All (λ b. b < 256) xs) (sym same) bytes) (hosts f own (way_here (signature_in program f).host e))).result;
  }

  -- what holds of a machine while the body runs
  record Goes (f : ℕ) (before : Blocks) (m : Machine) (g : Written) : Type 0 where
    machine : Fits none true program m
    own : CallOwn program m.active
    free : m.awaits ≡ None
    outermost : HasOutermost f m.active
    hosts : HostsFit program g.hosts
    same : g.input ≡ input
    received : (n : ℕ) → IsSameShape (m.blocks (Received n)) (before (Received n))

  -- what holds where it has ended
  record Ends (f : ℕ) (before : Blocks) (value : Option Cell) (m : Machine) (g : Written) : Type 0 where
    machine : Fits none true program m
    hosts : HostsFit program g.hosts
    result : GivenFits none (signature_in program f).result value
    received : (n : ℕ) → IsSameShape (m.blocks (Received n)) (before (Received n))

  shape_then : (a b c : _) → IsSameShape a b → IsSameShape b c → IsSameShape a c
  shape_then a b c h k = record { types = h.types ∙ k.types; count = h.count ∙ k.count }

  module _ (f : ℕ) (before : Blocks) (m : Machine) (g : Written) (goes : Goes f before m g) where
    abbrev x : Step Written
    x = step program (bytes_gate program) m g

    step_fits : StepFits none true program m.active x
    step_fits = steps_keep_called none true program (bytes_gate program) m g sound (fits_gate g goes.hosts goes.same) goes.own goes.machine goes.free

    shapes : (n : ℕ) → IsSameShape (x.machine.blocks (Received n)) (before (Received n))
    shapes n = shape_then (x.machine.blocks (Received n)) (m.blocks (Received n)) (before (Received n)) (received_stay program (bytes_gate program) m g n) (goes.received n)

    abbrev HeardFits : Written → Type 0
    HeardFits h = HostsFit program h.hosts × (h.input ≡ input)

    heard : HeardFits x.gate
    heard = gate_keeps program (bytes_gate program) g HeardFits (goes.hosts, goes.same) (λ active f args. (goes.hosts, goes.same))
        (λ active f args called e. (
          put_fits program g.hosts f (host_step g.input (g.hosts f) (map number_in args)).next goes.hosts
              (fits_in_range g.input (g.hosts f) (map number_in args) (signature_in program f) (subst (λ xs. All (λ b. b < 256) xs) (sym goes.same) bytes) (goes.hosts f called (way_here (signature_in program f).host e))).next,
          goes.same,
        ))
        m goes.own

    goes_on : x.answer ≡ moved → Goes f before x.machine x.gate
    goes_on e =
        let by = subst (λ a. GoesBy m.active m a x.machine) e (steps_keep_account program (bytes_gate program) m g).goes in
        record {
          machine = step_fits.machine;
          own = (steps_call_own program (bytes_gate program) m g goes.own).left;
          free = by.0 ∙ goes.free;
          outermost = by.1 f goes.outermost;
          hosts = heard.0;
          same = heard.1;
          received = shapes;
        }

    -- the outermost function is the one that was started
    given : (active : List Active) (v : Option Cell) → m.active ≡ active → (a : Active) → active ≡ a ∷ [] → AnswerFits none true program active x.machine.blocks (ended v) → GivenFits none (signature_in program f).result v
    given active v is a one answer =
        subst (λ n. GivenFits none (signature_in program n).result v) (subst (λ active. HasOutermost f active) (is ∙ one) goes.outermost) (subst (λ active. AnswerFits none true program active x.machine.blocks (ended v)) one answer)

    ends : (v : Option Cell) → x.answer ≡ ended v → Ends f before v x.machine x.gate
    ends v e =
        let by = subst (λ a. GoesBy m.active m a x.machine) e (steps_keep_account program (bytes_gate program) m g).goes in
        record {
          machine = step_fits.machine;
          hosts = heard.0;
          result = given m.active v refl by.0 by.1 (subst (λ a. AnswerFits none true program m.active x.machine.blocks a) e step_fits.answer);
          received = shapes;
        }

  -- after any number of steps
  ends_after : (f : ℕ) (before : Blocks) (v : Option Cell) (n : ℕ) (m : Machine) (g : Written) → Goes f before m g → (steps_run program (bytes_gate program) n m g).answer ≡ ended v →
      Ends f before v (steps_run program (bytes_gate program) n m g).machine (steps_run program (bytes_gate program) n m g).gate
  ends_after f before v zero m g goes e = cc
  ends_after f before v (suc n) m g goes e = by_answer (step program (bytes_gate program) m g).answer refl (λ h. ends_after f before v n _ _ (goes_on f before m g goes h)) e
    where
      by_answer : (a : Answer) → (step program (bytes_gate program) m g).answer ≡ a → ((step program (bytes_gate program) m g).answer ≡ moved → (steps_run program (bytes_gate program) n (step program (bytes_gate program) m g).machine (step program (bytes_gate program) m g).gate).answer ≡ ended v → Ends f before v (steps_run program (bytes_gate program) n (step program (bytes_gate program) m g).machine (step program (bytes_gate program) m g).gate).machine (steps_run program (bytes_gate program) n (step program (bytes_gate program) m g).machine (step program (bytes_gate program) m g).gate).gate) →
          (further (record { answer = a; machine = (step program (bytes_gate program) m g).machine; gate = (step program (bytes_gate program) m g).gate }) (steps_run program (bytes_gate program) n)).answer ≡ ended v → Ends f before v (further (record { answer = a; machine = (step program (bytes_gate program) m g).machine; gate = (step program (bytes_gate program) m g).gate }) (steps_run program (bytes_gate program) n)).machine (further (record { answer = a; machine = (step program (bytes_gate program) m g).machine; gate = (step program (bytes_gate program) m g).gate }) (steps_run program (bytes_gate program) n)).gate
      by_answer moved h rest e = rest h e
      by_answer (asked f1 args depth) h rest e = cc
      by_answer (ended w) h rest e = subst (λ u. Ends f before u (step program (bytes_gate program) m g).machine (step program (bytes_gate program) m g).gate) (same w e) (ends f before m g goes w h)
        where
          same : (w : Option Cell) → ended w ≡ ended v → w ≡ v
          same w e = cc
      by_answer (trapped trap span) h rest e = cc
      by_answer spent h rest e = cc
      by_answer idle h rest e = cc

-- ---- a body

-- arguments stand in locals
arguments_stay : (args : List Cell) (blocks : Blocks) (depth v n : ℕ) → with_arguments blocks depth v args (Received n) ≡ blocks (Received n)
arguments_stay [] blocks depth v n = refl
arguments_stay (a ∷ rest) blocks depth v n = arguments_stay rest (put blocks (Local depth v) (with_cell (blocks (Local depth v)) 0 a)) depth (v + 1) n

pub bodies_leave_numbers : BodiesLeaveNumbers
bodies_leave_numbers program privileged f depth args blocks hosts input left value st rest known low high given is =
    go (body_outcome program privileged f depth args m g)
    (ap (λ n. body_run program (calls_within program (deepest - depth)) (body_frame program privileged f depth) f args (record { memory = blocks; hosts = hosts; input = input; events = []; left = n })) (same_left left) ∙ is)
    steps.comes.2
  where
    m : Machine
    m = record { active = []; blocks = blocks; turns = 0; budget = left; awaits = None }

    g : Written
    g = record { hosts = hosts; input = input; bytes = [] }

    steps : BodyIsSteps program privileged f depth args m g
    steps = bodies_are_steps program privileged f depth args m g (none_taken left)
      where
        none_taken : (n : ℕ) → 0 ≤ n
        none_taken n = omega arith

    machine : Fits none true program m
    machine = record { memory = rest.memory; active = tt {0}; awaited = tt {0} }

    same_shape : (b : _) → IsSameShape b b
    same_shape b = record { types = refl; count = refl }

    begun : Goes program input rest.sound rest.bytes f blocks (started program privileged f depth args m) g
    begun = record {
      machine = started_fits none true program m privileged f depth args rest.sound machine refl refl known low high given;
      own = started_call_own program privileged f depth args m;
      free = refl;
      outermost = refl;
      hosts = rest.hosts_fit;
      same = refl;
      received = λ n. subst (λ b. IsSameShape b (blocks (Received n))) (sym (arguments_stay args (with_frame blocks depth (map (λ x. shape_of program.structs x.ty) (function_in program f).vars)) depth 0 n)) (same_shape (blocks (Received n)));
    }

    done : (v : Option Cell) (now : State) → (steps_run program (bytes_gate program) steps.comes.0 (started program privileged f depth args m) g) ≡ answers (ended v) (machine_at m [] now) (written_then g now) → LeavesNumbers program f blocks v now
    done v now h =
        let ended : Ends program input rest.sound rest.bytes f blocks v (steps_run program (bytes_gate program) steps.comes.0 (started program privileged f depth args m) g).machine (steps_run program (bytes_gate program) steps.comes.0 (started program privileged f depth args m) g).gate =
        ends_after program input rest.sound rest.bytes f blocks v steps.comes.0 (started program privileged f depth args m) g begun (ap (λ (y : Step Written). y.answer) h) in
        let at : Ends program input rest.sound rest.bytes f blocks v (machine_at m [] now) (written_then g now) = subst (λ (y : Step Written). Ends program input rest.sound rest.bytes f blocks v y.machine y.gate) h ended in
        record { memory = at.machine.memory; hosts_fit = at.hosts; result = at.result; received = at.received }

    parts : (v : Option Cell) (now : State) → gives v now ≡ gives value st → (v ≡ value) × (now ≡ st)
    parts v now e = (cc, cc)

    go : (o : Outcome (Option Cell)) → o ≡ gives value st → IsOutcome m g o (steps_run program (bytes_gate program) steps.comes.0 (started program privileged f depth args m) g) → LeavesNumbers program f blocks value st
    go (gives v now) e h =
        let same = parts v now e in
        subst (λ w. LeavesNumbers program f blocks w st) same.0 (subst (λ (now : State). LeavesNumbers program f blocks v now) same.1 (done v now h))
    go (r.trapped trap span now) e h = cc
    go (r.spent now) e h = cc

    same_left : (n : ℕ) → n - 0 ≡ n
    same_left n = omega arith
