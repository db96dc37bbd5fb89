-- A run that is judged as it goes is judged as a whole.
use Rattle.std.specs.Prelude.{◌≡◌, ℕ, List, Some, None}
use Rattle.pt_base.specs.declared.end.End.{End}
use Rattle.runs.specs.State.{Event, Hosts}
use Rattle.runs.specs.Run.{Answers, expected, expected_from, after_bytes}
use Rattle.pt_core.specs.CodeTree.{ProgramTree}
use Rattle.pt_core.specs.CoreRun.{core_run}
use Rattle.pt_core.specs.Steps.{Machine, Step}
use Rattle.core_steps_law.specs.WholeRun.{Outside, whole_gate, steps_run, end_of}
use Rattle.core_steps_law.specs.GatesShown.{step_shown}
use Rattle.core_steps_law.specs.MachinesJudged.{Judgement, Judging, judged, judged_end, judging_gate, judging_of, judged_after}

-- After so many steps from anywhere, the judgement is the fold of the events that the whole run has seen,
-- from the judgement that it began with; all else is the whole run's.
abbrev pub JudgedRuns : Type 0 → Type 0
JudgedRuns S = (policy : Answers S) (program : ProgramTree) (n : ℕ) (m : Machine) (g : Outside) (j : Judgement S) →
    steps_run program (judging_gate policy program) n m (judging_of policy j g) ≡ step_shown (judging_of policy j) (steps_run program (whole_gate program) n m g)

-- What is expected of events and the end behind them is read off their fold.
abbrev pub FoldsAreExpected : Type 0 → Type 0
FoldsAreExpected S = (policy : Answers S) (j : Judgement S) (events : List Event) (end : End) → j.refused ≡ None →
    judged_end (judged policy j events) end ≡ after_bytes j.bytes (expected_from policy j.state j.calls events end)

-- A refusal stays, with all that was judged before it.
abbrev pub RefusalsStay : Type 0 → Type 0
RefusalsStay S = (policy : Answers S) (j : Judgement S) (events : List Event) (refusal : End) → j.refused ≡ Some refusal → judged policy j events ≡ j

-- it has come to this end, and what is expected of the program under the policy is read off it
pub record IsJudged {S : Type 0} (policy : Answers S) (program : ProgramTree) (hosts : Hosts) (input : List ℕ) (turns : ℕ) (s : Step (Judging S)) (end : End) : Type 0 where
  pub judgement_is : judged_end s.gate.judgement end ≡ expected policy (core_run program hosts input turns)
  pub end_is : end ≡ (core_run program hosts input turns).end
  pub turns_are : s.machine.turns ≡ (core_run program hosts input turns).turns

-- Whatever number of steps a run has come to its end after, it is so; and it comes to one.
pub record RunIsJudged {S : Type 0} (policy : Answers S) (program : ProgramTree) (hosts : Hosts) (input : List ℕ) (turns : ℕ) : Type 0 where
  pub ends : (n : ℕ) (end : End) → end_of (judged_after policy program hosts input turns n).answer ≡ Some end → IsJudged policy program hosts input turns (judged_after policy program hosts input turns n) end
  pub comes : (n : ℕ) × (end_of (judged_after policy program hosts input turns n).answer ≡ Some (core_run program hosts input turns).end)

abbrev pub RunsAreJudged : Type 0 → Type 0
RunsAreJudged S = (policy : Answers S) (program : ProgramTree) (hosts : Hosts) (input : List ℕ) (turns : ℕ) → RunIsJudged policy program hosts input turns

-- A refusal decides the run, however many steps are left: what is expected are the bytes before it, and it.
abbrev pub RefusedRunsAreExpected : Type 0 → Type 0
RefusedRunsAreExpected S = (policy : Answers S) (program : ProgramTree) (hosts : Hosts) (input : List ℕ) (turns n : ℕ) (refusal : End) →
    (judged_after policy program hosts input turns n).gate.judgement.refused ≡ Some refusal →
    expected policy (core_run program hosts input turns) ≡ record { bytes = (judged_after policy program hosts input turns n).gate.judgement.bytes; end = refusal }
