-- The gate of a whole run that keeps the bytes which hosts write, and no events.
use Rattle.std.specs.Prelude.{ℕ, ℤ, List, [], ◌++◌, Option}
use Rattle.pt_tree.specs.HostStep.{Answer, host_step}
use Rattle.runs.specs.Run.{written}
use Rattle.runs.specs.State.{Hosts, out_event, put_host}
use Rattle.pt_core.specs.CodeTree.{ProgramTree}
use Rattle.pt_core.specs.Steps.{Gate, Step}
use Rattle.core_steps_law.specs.WholeRun.{Outside, begun_machine, steps_run, whole_way}

-- what stands for the hosts, the run's input, and all that was written
pub record Written : Type 0 where
  pub hosts : Hosts
  pub input : List ℕ
  pub bytes : List ℕ

-- of what a run has beside its memory
abbrev pub written_of : Outside → Written
written_of g = record { hosts = g.hosts; input = g.input; bytes = written g.events }

-- a host gave this answer
abbrev pub wrote : ℕ → Answer → Written → Option ℤ × Written
wrote f answer g = (answer.result, record g { hosts = put_host g.hosts f answer.next; bytes = g.bytes ++ written (out_event answer.written) })

abbrev pub bytes_gate : ProgramTree → Gate Written
bytes_gate program = record {
  way = λ g f args. whole_way program f;
  noted = λ active f args g. g;
  answer = λ f numbers g. wrote f (host_step g.input (g.hosts f) numbers) g;
}

-- nothing is written yet
abbrev pub begun_written : Hosts → List ℕ → Written
begun_written hosts input = record { hosts = hosts; input = input; bytes = [] }

-- so many steps of a whole run
abbrev pub bytes_after : ProgramTree → Hosts → List ℕ → ℕ → ℕ → Step Written
bytes_after program hosts input turns n = steps_run program (bytes_gate program) n (begun_machine program turns) (begun_written hosts input)
