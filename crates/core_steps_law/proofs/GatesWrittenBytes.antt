-- A whole run under the gate that keeps the written bytes.
use Rattle.std.proofs.Common.{◌≡◌, ◌∙◌, ℕ, List, [], ◌∷◌, ◌++◌, Option, Some, None, refl, sym, ap, append_assoc}
use Rattle.std.specs.Prelude.{ℤ, option_map}
use Rattle.pt_base.specs.declared.end.End.{End}
use Rattle.pt_tree.specs.HostStep.{Answer, host_step}
use Rattle.runs.specs.Run.{Run, written}
use Rattle.runs.specs.State.{Event, Hosts, guarded, out, out_event, put_host}
use Rattle.pt_core.specs.CodeTree.{ProgramTree}
use Rattle.pt_core.specs.CoreRun.{core_run}
use Rattle.pt_core.specs.Steps.{Step}
use Rattle.core_steps_law.specs.Laws.{OnlyTheRunIsSeen}
use Rattle.core_steps_law.specs.Silent.{SilentRunsAgree, outs, silent_gate, silenced_step}
use Rattle.core_steps_law.specs.WholeRun.{Outside, after_steps, begun_machine, begun_outside, end_of, run_seen, steps_run}
use Rattle.core_steps_law.specs.GatesLaws.{HasRun, BytesAreTheRuns}
use Rattle.core_steps_law.specs.GatesShown.{Shows, step_shown}
use Rattle.core_steps_law.specs.GatesWritten.{Written, begun_written, bytes_after, bytes_gate, written_of, wrote}
use Rattle.core_steps_law.proofs.GatesAgreement.{gates_agree}

-- ---- bytes of events

pub written-append : (xs ys : List Event) → written (xs ++ ys) ≡ written xs ++ written ys
written-append [] ys = refl
written-append (out bytes ∷ xs) ys = ap (λ l. bytes ++ l) (written-append xs ys) ∙ sym (append_assoc bytes (written xs) (written ys))
written-append (guarded f vs ∷ xs) ys = written-append xs ys

-- guarded calls write nothing
pub written-outs : (xs : List Event) → written (outs xs) ≡ written xs
written-outs [] = refl
written-outs (out bytes ∷ xs) = ap (λ l. bytes ++ l) (written-outs xs)
written-outs (guarded f vs ∷ xs) = written-outs xs

-- ---- the gate

wrote_same : (f : ℕ) (answer : Answer) (g : Outside) → (record (written_of g) { hosts = put_host g.hosts f answer.next; bytes = written g.events ++ written (out_event answer.written) }) ≡ written_of (record g { hosts = put_host g.hosts f answer.next; events = g.events ++ out_event answer.written })
wrote_same f answer g = ap (λ (bytes : List ℕ). record (written_of g) { hosts = put_host g.hosts f answer.next; bytes = bytes }) (sym (written-append g.events (out_event answer.written)))

-- nothing has to stay
abbrev nothing : Outside → ℕ
nothing g = 0

pub bytes_show : (program : ProgramTree) → Shows written_of nothing 0 (silent_gate program) (bytes_gate program)
bytes_show program = record {
  way = λ f args g e. refl;
  noted = λ active f args g e. refl;
  answer = λ f numbers g e. ap (λ (w : Written). ((host_step g.input (g.hosts f) numbers).result, w)) (wrote_same f (host_step g.input (g.hosts f) numbers) g);
  noted_stays = λ active f args g. refl;
  answer_stays = λ f numbers g. refl;
}

-- ---- the run

pub bytes_run : SilentRunsAgree → (program : ProgramTree) (hosts : Hosts) (input : List ℕ) (turns n : ℕ) → bytes_after program hosts input turns n ≡ step_shown written_of (silenced_step (after_steps program hosts input turns n))
bytes_run silent program hosts input turns n =
    gates_agree written_of nothing 0 (silent_gate program) (bytes_gate program) (bytes_show program) program n (begun_machine program turns) (begun_outside hosts input) refl
    ∙ ap (step_shown written_of) (silent program n (begun_machine program turns) (begun_outside hosts input))

seen_at : (s : Step Outside) (end : End) → end_of s.answer ≡ Some end → run_seen s ≡ Some (record { events = s.gate.events; end = end; turns = s.machine.turns })
seen_at s end h = ap (option_map (λ e. record { events = s.gate.events; end = e; turns = s.machine.turns })) h

pub bytes_are : SilentRunsAgree → OnlyTheRunIsSeen → BytesAreTheRuns
bytes_are silent only program hosts input turns n end h =
    let same = bytes_run silent program hosts input turns n in
    let s : Step Outside = after_steps program hosts input turns n in
    let ends : end_of s.answer ≡ Some end = sym (ap (λ (x : Step Written). end_of x.answer) same) ∙ h in
    let is : record { events = s.gate.events; end = end; turns = s.machine.turns } ≡ core_run program hosts input turns = only program hosts input turns n (record { events = s.gate.events; end = end; turns = s.machine.turns }) (seen_at s end ends) in
    record {
      bytes = ap (λ (x : Step Written). x.gate.bytes) same ∙ written-outs s.gate.events ∙ ap (λ (r : Run). written r.events) is;
      end_is = ap (λ (r : Run). r.end) is;
      turns_are = ap (λ (x : Step Written). x.machine.turns) same ∙ ap (λ (r : Run). r.turns) is;
    }
