-- A body that a monitor serves, under the gate that keeps its bytes, beside the judged run of the whole program.
use Rattle.std.specs.Prelude.{◌≡◌, ◌<◌, ℕ, ℤ, Bool, true, false, ◌&&◌, List, ◌++◌, None, IsTrue, All, is_some, if◌then◌else◌}
use Rattle.pt_tree.specs.HostStep.{host_step}
use Rattle.runs.specs.Run.{Answers}
use Rattle.runs.specs.State.{Hosts}
use Rattle.host_models.specs.Fitting.{fits}
use Rattle.pt_core.specs.CodeTree.{ProgramTree}
use Rattle.pt_core.specs.Calls.{signature_in}
use Rattle.pt_core.specs.Steps.{Machine}
use Rattle.pt_core.specs.WellFormed.{function_at, is_sound, signature_at}
use Rattle.core_steps_law.specs.WholeRun.{steps_run}
use Rattle.core_steps_law.specs.GatesWritten.{Written, bytes_gate}
use Rattle.core_soundness_law.specs.Fits.{Fits}
use Rattle.core_soundness_law.specs.Kept.{none}
use Rattle.core_soundness_law.specs.Called.{CallOwn}
use Rattle.core_steps_law.specs.MachinesJudged.{Judging, judging_gate}
use Rattle.part_views_law.specs.Views.{View}
use Rattle.part_views_law.specs.StepsParts.{CallsFit, GatesAgree, HasSignature, ShowAlike}
use Rattle.part_views_law.specs.StepsRuns.{AllPlain}

-- ---- the monitor's hosts

-- the program has a signature of this number, which is a host's
abbrev pub is_host_of : ProgramTree → ℕ → Bool
is_host_of program f = is_some (signature_at program f) && (signature_in program f).host

-- each host of the program has a model that may stand for it
abbrev pub HaveModels : ProgramTree → Hosts → Type 0
HaveModels program hosts = (f : ℕ) → IsTrue (is_host_of program f) → IsTrue (fits (hosts f) (signature_in program f))

-- what has a signature in the program and is no host is one of its functions
abbrev pub HasFunctions : ProgramTree → Type 0
HasFunctions program = (f : ℕ) → HasSignature program f → (signature_in program f).host ≡ false → IsTrue (is_some (function_at program f))

-- ---- what both gates show

-- the whole's gate; and what stands for hosts that stay as they are, with the input
pub record Told (S : Type 0) : Type 0 where
  pub judging : Judging S
  pub hosts : Hosts
  pub input : List ℕ

-- of the whole's gate, where a body began with this one
abbrev pub told_whole : {S : Type 0} → Judging S → Judging S → Told S
told_whole start h = record { judging = h; hosts = start.hosts; input = start.input }

-- the first hosts where the test says so, else the second
abbrev pub hosts_by : (ℕ → Bool) → Hosts → Hosts → Hosts
hosts_by test now before f = if test f then now f else before f

-- Of a body's: its hosts are the monitor's, all others are as they were, and its bytes come behind those before. The policy and the
-- count of guarded calls are as they were.
abbrev pub told_body : {S : Type 0} → ProgramTree → (ℕ → Bool) → Judging S → Written → Told S
told_body monitor fixed start g = record {
  judging = record {
    hosts = hosts_by (is_host_of monitor) g.hosts start.hosts;
    input = g.input;
    judgement = record (start.judgement) { bytes = start.judgement.bytes ++ g.bytes };
  };
  hosts = hosts_by fixed g.hosts start.hosts;
  input = g.input;
}

-- ---- laws

-- these hosts, as far as they are the program's, answer alike for ever
abbrev pub AreFixed : {S : Type 0} → ProgramTree → (ℕ → Bool) → Judging S → Type 0
AreFixed program fixed start = (f : ℕ) → fixed f ≡ true → IsTrue (is_host_of program f) → (args : List ℤ) → (host_step start.input (start.hosts f) args).next ≡ start.hosts f

-- The whole's gate, which judges by the policy, does at each call of a body what the body's gate does, whatever view shows the
-- body: no call in it is guarded, since a privileged function is active.
abbrev pub BodiesGatesAgree : Type 0 → Type 0
BodiesGatesAgree S = (policy : Answers S) (whole monitor : ProgramTree) (v : View) (fixed : ℕ → Bool) (start : Judging S) →
    ((f : ℕ) → HasSignature monitor f → signature_in whole f ≡ signature_in monitor f) → start.judgement.refused ≡ None → AreFixed monitor fixed start →
    GatesAgree v monitor true (bytes_gate monitor) (judging_gate policy whole) (ShowAlike (told_whole start) (told_body monitor fixed start))

-- Where hosts have models, the gate fits all that the monitor has signatures for.
abbrev pub BodiesCallsFit : Type 0
BodiesCallsFit = (monitor : ProgramTree) (g : Written) → HasFunctions monitor → HaveModels monitor g.hosts → All (λ b. b < 256) g.input → CallsFit monitor (bytes_gate monitor) g

-- A machine of the monitor's that fits has no handle, so none of its steps computes with one.
abbrev pub BodiesArePlain : Type 0
BodiesArePlain = (marked : ℕ → ℕ → Bool) (monitor : ProgramTree) (k : ℕ) (m : Machine) (g : Written) → IsTrue (is_sound true monitor) → HasFunctions monitor → HaveModels monitor g.hosts → All (λ b. b < 256) g.input →
    Fits none true monitor m → CallOwn monitor m.active → m.awaits ≡ None → AllPlain marked monitor (bytes_gate monitor) k m g

-- Hosts go on having models, however many steps are made.
abbrev pub HostsKeepModels : Type 0
HostsKeepModels = (monitor : ProgramTree) (n : ℕ) (m : Machine) (g : Written) → HaveModels monitor g.hosts → All (λ b. b < 256) g.input →
    HaveModels monitor (steps_run monitor (bytes_gate monitor) n m g).gate.hosts
