-- A slave: the machine of its program, the calls that it says, and the replies that it takes.
use Rattle.std.specs.Prelude.{ℕ, ◌+◌, ℤ, Bool, true, false, ◌&&◌, ◌||◌, List, [], ◌++◌, Option, Some, None, length, nat_le, if◌then◌else◌}
use Rattle.std.specs.List.{list_any}
use Rattle.pt_base.specs.declared.int_type.IntType.{IntType}
use Rattle.pt_base.specs.declared.trap.Trap.{Trap}
use Rattle.pt_tree.specs.declared.signature.Signature.{Signature}
use Rattle.pt_tree.specs.HostStep as h
use Rattle.pt_tree.specs.HostStep.{host_step}
use Rattle.runs.specs.State.{Hosts, put_host}
use Rattle.host_models.specs.Mixed.{is_mixed}
use Rattle.host_table.specs.Hosts.{models_by}
use Rattle.host_table.specs.RunHosts.{models_of}
use Rattle.block_memory.specs.declared.cell.Cell.{Cell}
use Rattle.block_memory.specs.declared.cell.Cell.TheVariants as cell
use Rattle.wire.specs.declared.message.CallBody.{CallBody}
use Rattle.wire.specs.declared.message.Message.{Message}
use Rattle.wire.specs.declared.message.Message.TheVariants as message
use Rattle.wire.specs.declared.message.ReplyBody.{ReplyBody}
use Rattle.pt_core.specs.CodeTree.{ProgramTree, BootTree}
use Rattle.pt_core.specs.Calls.{signature_in}
use Rattle.pt_core.specs.CoreRun.{status_of}
use Rattle.pt_core.specs.Steps as s
use Rattle.pt_core.specs.Steps.{Machine, Way, enters, here, away, Gate, Answer, moved, asked, ended, trapped, spent, idle, Step, step, resumed}
use Rattle.pt_core.specs.WellFormed.{boot_program}
use Rattle.core_steps_law.specs.WholeRun.{begun_machine}
use Rattle.marshalling.specs.Packing.{packed}
use Rattle.marshalling.specs.Taking.{Taken, after_posting, after_reply, call_places, is_reply}
use Rattle.marshalling.specs.Replies.{Place, has_plain, result_places}
use Rattle.pair_meaning.specs.BoundsLongest.{longest_run}
use Rattle.pair_protocol.specs.Sides.{Mode, Moved}
use Rattle.pair_protocol.specs.Sides as side
use Rattle.pair_meaning.specs.LowView.{types_kept}

-- ---- a slave

-- it goes on; it waits for the reply to a call of this function with these arguments; or it has said its last
pub data Doing : Type 0 where
  goes : Doing
  waits_for : ℕ → List Cell → Doing
  is_over : Doing

pub record Slave : Type 0 where
  pub program : ProgramTree
  pub machine : Machine
  pub hosts : Hosts
  pub input : List ℕ
  -- the type of each handle that it was given, that of handle 0 first
  pub given : List IntType
  -- the calls that it said
  pub calls : ℕ
  pub doing : Doing

-- main is entered, and nothing is said yet
abbrev pub slave_of : BootTree → Slave
slave_of b = record {
  program = boot_program b;
  machine = begun_machine (boot_program b) b.turns;
  hosts = models_of (models_by b.hosts);
  input = b.input;
  given = [];
  calls = 0;
  doing = goes;
}

abbrev pub mode_by : Doing → Mode
mode_by goes = side.going
mode_by (waits_for f args) = side.waits
mode_by is_over = side.over

abbrev pub mode_of : Slave → Mode
mode_of x = mode_by x.doing

-- ---- the gate

-- what stands for its hosts, and what one of them wrote in this step, if one did
pub record Heard : Type 0 where
  pub hosts : Hosts
  pub input : List ℕ
  pub wrote : Option (List ℕ)

abbrev pub is_handle : Cell → Bool
is_handle (cell.Int v) = false
is_handle (cell.Ptr p) = false
is_handle (cell.Sealed handle) = true

-- a mixed host is asked for in the monitor where it is given a handle
abbrev pub goes_with_handles : Signature → List Cell → Bool
goes_with_handles s args = is_mixed s && list_any is_handle args

-- what is privileged goes away, other functions are entered, other hosts are called here
abbrev pub way_by : Signature → List Cell → Way
way_by s args = if s.privileged then away else (if s.host then (if goes_with_handles s args then away else here) else enters)

abbrev pub heard_answer : ℕ → h.Answer → Heard → Option ℤ × Heard
heard_answer f answer g = (answer.result, record { hosts = put_host g.hosts f answer.next; input = g.input; wrote = answer.written })

abbrev pub slave_gate : ProgramTree → Gate Heard
slave_gate program = record {
  way = λ g f args. way_by (signature_in program f) args;
  noted = λ active f args g. g;
  answer = λ f numbers g. heard_answer f (host_step g.input (g.hosts f) numbers) g;
}

abbrev pub heard_by : Slave → Heard
heard_by x = record { hosts = x.hosts; input = x.input; wrote = None }

-- one step of its machine
abbrev pub machine_step : Slave → Step Heard
machine_step x = step x.program (slave_gate x.program) x.machine (heard_by x)

-- ---- what it says

-- it says this, and goes on so
abbrev pub says : Slave → Message → Moved Slave Message
says x m = record { slave = x; said = Some m }

abbrev pub silent : Slave → Moved Slave Message
silent x = record { slave = x; said = None }

-- its last message
abbrev pub says_last : Slave → Message → Moved Slave Message
says_last x m = says (record x { doing = is_over }) m

-- it would take more turns than there are, or a call would
abbrev pub parks : Slave → Moved Slave Message
parks x = says_last x (message.Park (x.machine.budget + 1))

-- it says what a host wrote
abbrev pub moves_with : Slave → Option (List ℕ) → Moved Slave Message
moves_with x None = silent x
moves_with x (Some bytes) = says x (message.Emit x.machine.turns bytes)

-- ---- calls

-- the call that is sent
abbrev pub call_body : Slave → ℕ → List Cell → CallBody
call_body x f args = packed x.machine.blocks (signature_in x.program f).params args

abbrev pub call_of : Slave → ℕ → List Cell → ℕ → Bool → Message
call_of x f args depth wants = message.Call x.machine.turns f depth wants (call_body x f args)

-- the places of its result, and those of the cells of its blocks
abbrev pub results_of : Slave → ℕ → List Place
results_of x f = result_places (signature_in x.program f) (signature_in x.program f).result

abbrev pub places_of_call : Slave → ℕ → List Cell → List Place
places_of_call x f args = call_places x.machine.blocks x.program.structs (signature_in x.program f).params args

-- the reply holds a number, which can't be known here
abbrev pub must_wait : Slave → ℕ → List Cell → Bool
must_wait x f args = has_plain (results_of x f) || has_plain (places_of_call x f args)

-- the types of the handles that the reply gives
abbrev pub types_given : Slave → ℕ → List Cell → List IntType
types_given x f args = types_kept (results_of x f) ++ types_kept (places_of_call x f args)

-- what came back stands in its memory, cells first, and it goes on
abbrev pub with_taken : Slave → ℕ → List Cell → Taken → Slave
with_taken x f args t = record x {
  machine = resumed t.result (s.with_blocks t.blocks x.machine);
  given = x.given ++ types_given x f args;
  doing = goes;
}

-- what a call leaves whose reply holds handles alone, which are the next ones
abbrev pub posted : Slave → ℕ → List Cell → Slave
posted x f args = with_taken x f args (after_posting (length x.given) x.machine.blocks x.program.structs (signature_in x.program f) args)

-- it waits for the reply
abbrev pub awaits_reply : Slave → ℕ → List Cell → ℕ → Moved Slave Message
awaits_reply x f args depth = says (record x { calls = x.calls + 1; doing = waits_for f args }) (call_of x f args depth true)

-- it goes on with the next handles
abbrev pub posts : Slave → ℕ → List Cell → ℕ → Moved Slave Message
posts x f args depth = says (record (posted x f args) { calls = x.calls + 1 }) (call_of x f args depth false)

abbrev pub says_call : Slave → ℕ → List Cell → ℕ → Moved Slave Message
says_call x f args depth = if must_wait x f args then awaits_reply x f args depth else posts x f args depth

-- each call that was said takes a turn of the monitor at least, so with as many as there are it can't be served
abbrev pub calls_or_parks : Slave → ℕ → List Cell → ℕ → Moved Slave Message
calls_or_parks x f args depth = if nat_le x.machine.budget (x.machine.turns + x.calls) then parks x else says_call x f args depth

-- ---- steps

abbrev pub after_step : Slave → Answer → Option (List ℕ) → Moved Slave Message
after_step x moved wrote = moves_with x wrote
after_step x (asked f args depth) wrote = calls_or_parks x f args depth
after_step x (ended v) wrote = says_last x (message.Exit x.machine.turns (status_of v))
after_step x (trapped trap span) wrote = says_last x (message.Trap x.machine.turns trap span)
after_step x spent wrote = parks x
after_step x idle wrote = silent (record x { doing = is_over })

-- the slave with its machine and hosts as a step left them
abbrev pub stepped : Slave → Step Heard → Slave
stepped x y = record x { machine = y.machine; hosts = y.gate.hosts }

-- One step of a slave that goes on, and what it says.
abbrev pub slave_step : Slave → Moved Slave Message
slave_step x = let y = machine_step x in after_step (stepped x y) y.answer y.gate.wrote

-- ---- replies

-- the reply is one that the call can have, with the next handles
abbrev pub is_reply_to : Slave → ℕ → List Cell → ReplyBody → Bool
is_reply_to x f args reply = is_reply (length x.given) x.machine.blocks x.program.structs (signature_in x.program f) args reply

abbrev pub with_reply : Slave → ℕ → List Cell → ReplyBody → Slave
with_reply x f args reply = with_taken x f args (after_reply (length x.given) x.machine.blocks x.program.structs (signature_in x.program f) args reply)

-- whether it may take this reply
abbrev pub may_take : Slave → Doing → ReplyBody → Bool
may_take x goes reply = false
may_take x (waits_for f args) reply = is_reply_to x f args reply
may_take x is_over reply = false

abbrev pub taken_by : Slave → Doing → ReplyBody → Slave
taken_by x goes reply = x
taken_by x (waits_for f args) reply = if is_reply_to x f args reply then with_reply x f args reply else record x { doing = is_over }
taken_by x is_over reply = x

-- It takes the reply that it waits for. One that its call can't have is its end.
abbrev pub take : ReplyBody → Slave → Slave
take reply x = taken_by x x.doing reply

-- it makes at most so many steps, whatever it is told
abbrev pub longest : BootTree → ℕ
longest b = longest_run (boot_program b) b.turns
