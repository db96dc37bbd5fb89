-- Hosts that have models, and what the gate of bytes fits.
use Rattle.std.proofs.Common.{◌≡◌, ◌<◌, ℕ, ℤ, nat_eq, refl, sym, subst, List, map, Bool, true, false, Option, Some, None}
use Rattle.std.specs.Prelude.{IsTrue, All, if◌then◌else◌, is_some}
use Rattle.std.proofs.lemmas.Bool.{and_from}
use Rattle.pt_base.proofs.Booleans.{false_not_true}
use Rattle.pt_base.proofs.Numbers.{nat_eq_same}
use Rattle.pt_tree.specs.HostStep.{host_step}
use Rattle.pt_tree.specs.declared.host_model.HostModel.{HostModel}
use Rattle.pt_tree.specs.declared.signature.Signature.{Signature}
use Rattle.runs.specs.State.{Hosts, put_host}
use Rattle.host_models.specs.Fitting.{fits}
use Rattle.host_models.proofs.AnswerLemmas.{fits_in_range}
use Rattle.pt_core.specs.CodeTree.{ProgramTree}
use Rattle.pt_core.specs.Calls.{signature_in}
use Rattle.pt_core.specs.Values.{number_in}
use Rattle.pt_core.specs.Steps.{Gate, Machine, Step, enters, here, away}
use Rattle.pt_core.specs.WellFormed.{callee_by, callee_fits, callees, is_sound, signature_at}
use Rattle.core_steps_law.specs.WholeRun.{steps_run, whole_way}
use Rattle.core_steps_law.specs.GatesShown.{Shows, step_shown}
use Rattle.core_steps_law.specs.GatesWritten.{Written, bytes_gate, wrote}
use Rattle.core_steps_law.proofs.GatesAgreement.{gates_agree}
use Rattle.core_soundness_law.proofs.Programs.{facts_of}
use Rattle.core_soundness_law.specs.Called.{is_called}
use Rattle.core_soundness_law.specs.CalledKeeping.{FitsCalls}
use Rattle.part_views_law.specs.StepsParts.{HasSignature}
use Rattle.slave_soundness_law.proofs.Hosts.{each_holds, number_fits}
use Rattle.monitor_soundness_law.proofs.Bodies.{way_enters, way_here}
use Rattle.pair_invariant_law.specs.MonitorGatesLaws.{HasFunctions, HaveModels, BodiesCallsFit, HostsKeepModels, is_host_of}

-- ---- ways

pub way_away : (host : Bool) → (if host then here else enters) ≡ away → ⊥
way_away true e = cc
way_away false e = cc

-- ---- models

put_models : (program : ProgramTree) (hosts : Hosts) (f : ℕ) (next : HostModel) → HaveModels program hosts → (IsTrue (is_host_of program f) → IsTrue (fits next (signature_in program f))) → HaveModels program (put_host hosts f next)
put_models program hosts f next old fit f1 is = go (nat_eq f1 f) refl
  where
    go : (b : Bool) → nat_eq f1 f ≡ b → IsTrue (fits (if b then next else hosts f1) (signature_in program f1))
    go true e = subst (λ n. IsTrue (fits next (signature_in program n))) (sym (nat_eq_same f1 f e)) (fit (subst (λ n. IsTrue (is_host_of program n)) (nat_eq_same f1 f e) is))
    go false e = old f1 is

-- what stands for a host behind a call may stand for it
pub next_models : (program : ProgramTree) (g : Written) (f : ℕ) (numbers : List ℤ) → HaveModels program g.hosts → All (λ b. b < 256) g.input → HaveModels program (put_host g.hosts f (host_step g.input (g.hosts f) numbers).next)
next_models program g f numbers models bytes =
    put_models program g.hosts f (host_step g.input (g.hosts f) numbers).next models (λ is. (fits_in_range g.input (g.hosts f) numbers (signature_in program f) bytes (models f is)).next)

pub bodies_calls_fit : BodiesCallsFit
bodies_calls_fit monitor g functions models bytes = record {
  entered = λ f args known e. functions f known (way_enters (signature_in monitor f).host e);
  made = λ f args known e. way_here (signature_in monitor f).host e;
  answered = λ privileged f args known e.
      number_fits (signature_in monitor f).result (host_step g.input (g.hosts f) (map number_in args)).result
      (fits_in_range g.input (g.hosts f) (map number_in args) (signature_in monitor f) bytes (models f (and_from (is_some (signature_at monitor f)) (signature_in monitor f).host known (way_here (signature_in monitor f).host e)))).result;
}

-- what is called has a signature
pub called_signed : (p : ProgramTree) (f : ℕ) → IsTrue (is_sound true p) → IsTrue (is_called p f) → HasSignature p f
called_signed p f sound own = go (signature_at p f) (each_holds (callee_fits true p) f (callees p) (facts_of true p sound).calls own)
  where
    go : (o : Option Signature) → IsTrue (callee_by true p f o) → IsTrue (is_some o)
    go None h = false_not_true h
    go (Some s) h = refl

-- ---- a gate whose hosts always have models

pub record Fitting (program : ProgramTree) : Type 0 where
  pub now : Written
  pub models : HaveModels program now.hosts
  pub bytes : All (λ b. b < 256) now.input

-- behind a host's call
abbrev pub fitting_next : (program : ProgramTree) → ℕ → List ℤ → Fitting program → Fitting program
fitting_next program f numbers g = record {
  now = (wrote f (host_step g.now.input (g.now.hosts f) numbers) g.now).1;
  models = next_models program g.now f numbers g.models g.bytes;
  bytes = g.bytes;
}

-- the gate of bytes, in states whose hosts have models
abbrev pub fitting_gate : (program : ProgramTree) → Gate (Fitting program)
fitting_gate program = record {
  way = λ g f args. whole_way program f;
  noted = λ active f args g. g;
  answer = λ f numbers g. ((host_step g.now.input (g.now.hosts f) numbers).result, fitting_next program f numbers g);
}

abbrev pub shown_now : {program : ProgramTree} → Fitting program → Written
shown_now g = g.now

abbrev no_state : {program : ProgramTree} → Fitting program → ℕ
no_state g = 0

fitting_shows : (program : ProgramTree) → Shows (shown_now {program = program}) (no_state {program = program}) 0 (fitting_gate program) (bytes_gate program)
fitting_shows program = record {
  way = λ f args g e. refl;
  noted = λ active f args g e. refl;
  answer = λ f numbers g e. refl;
  noted_stays = λ active f args g. refl;
  answer_stays = λ f numbers g. refl;
}

pub fitting_run : (program : ProgramTree) (n : ℕ) (m : Machine) (g : Fitting program) → steps_run program (bytes_gate program) n m g.now ≡ step_shown (shown_now {program = program}) (steps_run program (fitting_gate program) n m g)
fitting_run program n m g = gates_agree (shown_now {program = program}) (no_state {program = program}) 0 (fitting_gate program) (bytes_gate program) (fitting_shows program) program n m g refl

-- it fits what the program's functions call, whatever its state
pub fitting_fits : (program : ProgramTree) → IsTrue (is_sound true program) → HasFunctions program → (g : Fitting program) → FitsCalls program (fitting_gate program) g
fitting_fits program sound functions g = record {
  entered = λ f args own e. functions f (called_signed program f sound own) (way_enters (signature_in program f).host e);
  made = λ f args own e. way_here (signature_in program f).host e;
  answered = λ privileged f args own e. (bodies_calls_fit program g.now functions g.models g.bytes).answered privileged f args (called_signed program f sound own) e;
}

pub hosts_keep_models : HostsKeepModels
hosts_keep_models monitor n m g models bytes =
    let begun : Fitting monitor = record { now = g; models = models; bytes = bytes } in
    subst (λ (s : Step Written). HaveModels monitor s.gate.hosts) (sym (fitting_run monitor n m begun)) (steps_run monitor (fitting_gate monitor) n m begun).gate.models

pub input_keeps_bytes : (monitor : ProgramTree) (n : ℕ) (m : Machine) (g : Written) → HaveModels monitor g.hosts → All (λ b. b < 256) g.input → All (λ b. b < 256) (steps_run monitor (bytes_gate monitor) n m g).gate.input
input_keeps_bytes monitor n m g models bytes =
    let begun : Fitting monitor = record { now = g; models = models; bytes = bytes } in
    subst (λ (s : Step Written). All (λ b. b < 256) s.gate.input) (sym (fitting_run monitor n m begun)) (steps_run monitor (fitting_gate monitor) n m begun).gate.bytes
