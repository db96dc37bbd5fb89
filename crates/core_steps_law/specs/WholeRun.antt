-- The run of a whole program by single steps: what its calls go through, so many steps, where it begins,
-- and what is seen of its end.
use Rattle.std.specs.Prelude.{ℕ, zero, suc, ℤ, Bool, false, List, [], ◌++◌, Option, Some, None, map, if◌then◌else◌, option_map}
use Rattle.pt_base.specs.declared.end.End.{End}
use Rattle.pt_base.specs.declared.end.End.TheVariants as e
use Rattle.pt_tree.specs.HostStep as h
use Rattle.runs.specs.State.{Event, Hosts, put_host, guarded_event, out_event}
use Rattle.runs.specs.Run.{Run}
use Rattle.block_memory.specs.declared.cell.Cell.{Cell}
use Rattle.pt_core.specs.CodeTree.{ProgramTree}
use Rattle.pt_core.specs.Values.{number_in}
use Rattle.pt_core.specs.Calls.{signature_in}
use Rattle.pt_core.specs.CoreRun.{main_in, status_of}
use Rattle.pt_core.specs.Steps.{Machine, Way, enters, here, Gate, Answer, moved, asked, ended, trapped, spent, idle, Step, answers, step, at_rest, started}

-- ---- the gate of a whole run

-- what a run has beside its memory and its turns
pub record Outside : Type 0 where
  pub hosts : Hosts
  pub input : List ℕ
  pub events : List Event

abbrev pub with_events : List Event → Outside → Outside
with_events events g = record g { events = g.events ++ events }

-- a host's call is made here, and every other call enters
abbrev pub whole_way : ProgramTree → ℕ → Way
whole_way program f = if (signature_in program f).host then here else enters

-- a guarded call is seen
abbrev pub whole_noted : ProgramTree → Bool → ℕ → List Cell → Outside → Outside
whole_noted program active f args g = with_events (guarded_event active (signature_in program f) f (map number_in args)) g

-- a host gave this answer
abbrev pub answered : ℕ → h.Answer → Outside → Option ℤ × Outside
answered f answer g = (answer.result, with_events (out_event answer.written) (record g { hosts = put_host g.hosts f answer.next }))

abbrev pub whole_gate : ProgramTree → Gate Outside
whole_gate program = record {
  way = λ g f args. whole_way program f;
  noted = whole_noted program;
  answer = λ f numbers g. answered f (h.host_step g.input (g.hosts f) numbers) g;
}

-- ---- so many steps

-- what a step answered, and where it moved, what comes next
abbrev pub further_by : {G : Type 0} → Answer → Step G → (Machine → G → Step G) → Step G
further_by moved s next = next s.machine s.gate
further_by (asked f args depth) s next = s
further_by (ended v) s next = s
further_by (trapped trap span) s next = s
further_by spent s next = s
further_by idle s next = s

abbrev pub further : {G : Type 0} → Step G → (Machine → G → Step G) → Step G
further s next = further_by s.answer s next

-- so many steps, or fewer where one of them doesn't move the machine
abbrev pub steps_run : {G : Type 0} → ProgramTree → Gate G → ℕ → Machine → G → Step G
steps_run program gate zero m g = answers moved m g
steps_run program gate (suc n) m g = further (step program gate m g) (steps_run program gate n)

-- ---- a whole run

-- main is active at depth 1, and no turn is taken
abbrev pub begun_machine : ProgramTree → ℕ → Machine
begun_machine program turns = started program false (main_in program) 1 [] (at_rest program turns)

abbrev pub begun_outside : Hosts → List ℕ → Outside
begun_outside hosts input = record { hosts = hosts; input = input; events = [] }

abbrev pub after_steps : ProgramTree → Hosts → List ℕ → ℕ → ℕ → Step Outside
after_steps program hosts input turns n = steps_run program (whole_gate program) n (begun_machine program turns) (begun_outside hosts input)

-- the end of a run, if that is what a step answered
abbrev pub end_of : Answer → Option End
end_of moved = None
end_of (asked f args depth) = None
end_of (ended v) = Some (e.Exit (status_of v))
end_of (trapped trap span) = Some (e.Trapped trap span)
end_of spent = Some e.Spent
end_of idle = None

-- the run that has come to its end
abbrev pub run_seen : Step Outside → Option Run
run_seen s = option_map (λ end. record { events = s.gate.events; end = end; turns = s.machine.turns }) (end_of s.answer)
