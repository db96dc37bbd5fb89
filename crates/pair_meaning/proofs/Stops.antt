-- A slave keeps its machine, so its steps are bounded.
use Rattle.std.proofs.Common.{◌≡◌, ◌⊎◌, inl, inr, ℕ, List, refl, ap, Bool, true, false, Option, Some, None}
use Rattle.std.specs.Prelude.{◌+◌, if◌then◌else◌, nat_le}
use Rattle.pt_base.specs.declared.end.End.{End}
use Rattle.block_memory.specs.declared.cell.Cell.{Cell}
use Rattle.wire.specs.declared.message.Message.{Message}
use Rattle.wire.specs.declared.message.ReplyBody.{ReplyBody}
use Rattle.pt_core.specs.Steps.{Machine, Answer, moved, asked, ended, trapped, spent, idle}
use Rattle.pair_meaning.specs.BoundsLongest.{goes as goes_on, IsLeft, GoesOn}
use Rattle.pair_protocol.specs.Sides.{going, waits, over, Moved}
use Rattle.pair_protocol.proofs.OrderFacts.{going_waits, over_waits}
use Rattle.pair_meaning.specs.BoundsLongest.{KeepsMachine}
use Rattle.pair_meaning.proofs.BoundsLongest.{slaves_are_bounded}
use Rattle.pair_meaning.specs.Monitors.{Monitor}
use Rattle.pair_meaning.specs.Rules.{PeerRule}
use Rattle.pair_meaning.specs.SlaveRun.{Slave, Doing, goes, waits_for, is_over, Heard, after_step, awaits_reply, calls_or_parks, heard_by, is_reply_to, machine_step, mode_by, mode_of, moves_with, must_wait, parks, posts, says_call, slave_gate, slave_of, stepped, taken_by, with_reply}
use Rattle.pair_meaning.specs.Pair.{the_sides}
use Rattle.pair_meaning.specs.Laws.{SlavesStop}

same_machine : (m : Machine) → IsLeft m m
same_machine m = record { active = refl; turns = refl; budget = refl }

-- it is over, or has the machine but for what is told it from outside
abbrev Keeps : Machine → Slave → Type 0
Keeps m x = (mode_of x ≡ over) ⊎ IsLeft m x.machine

keeps_either : (m : Machine) (b : Bool) (y z : Moved Slave Message) → Keeps m y.slave → Keeps m z.slave → Keeps m (if b then y else z).slave
keeps_either m true y z h k = h
keeps_either m false y z h k = k

keeps_moves : (x : Slave) (wrote : Option (List ℕ)) → Keeps x.machine (moves_with x wrote).slave
keeps_moves x None = inr (same_machine x.machine)
keeps_moves x (Some bytes) = inr (same_machine x.machine)

keeps_call : (x : Slave) (f : ℕ) (args : List Cell) (depth : ℕ) → Keeps x.machine (says_call x f args depth).slave
keeps_call x f args depth = keeps_either x.machine (must_wait x f args) (awaits_reply x f args depth) (posts x f args depth) (inr (same_machine x.machine)) (inr (record { active = refl; turns = refl; budget = refl }))

keeps_or_parks : (x : Slave) (f : ℕ) (args : List Cell) (depth : ℕ) → Keeps x.machine (calls_or_parks x f args depth).slave
keeps_or_parks x f args depth = keeps_either x.machine (nat_le x.machine.budget (x.machine.turns + x.calls)) (parks x) (says_call x f args depth) (inl refl) (keeps_call x f args depth)

-- ---- a step

goes_or_over : (x : Slave) (y : Slave) → goes_on (machine_step x).answer ≡ true → Keeps (machine_step x).machine y →
    (mode_of y ≡ over) ⊎ GoesOn x.program (slave_gate x.program) (heard_by x) x.machine y.machine
goes_or_over x y e (inl h) = inl h
goes_or_over x y e (inr h) = inr (record { going = e; left = h })

steps_by : (x : Slave) (a : Answer) → (machine_step x).answer ≡ a →
    let y = (after_step (stepped x (machine_step x)) a (machine_step x).gate.wrote).slave in
    (mode_of y ≡ over) ⊎ GoesOn x.program (slave_gate x.program) (heard_by x) x.machine y.machine
steps_by x moved e = let s = stepped x (machine_step x) in
    goes_or_over x (moves_with s (machine_step x).gate.wrote).slave (ap goes_on e) (keeps_moves s (machine_step x).gate.wrote)
steps_by x (asked f args depth) e = let s = stepped x (machine_step x) in
    goes_or_over x (calls_or_parks s f args depth).slave (ap goes_on e) (keeps_or_parks s f args depth)
steps_by x (ended v) e = inl refl
steps_by x (trapped trap span) e = inl refl
steps_by x spent e = inl refl
steps_by x idle e = inl refl

takes_by : (x : Slave) (d : Doing) (reply : ReplyBody) → mode_by d ≡ waits → Keeps x.machine (taken_by x d reply)
takes_by x goes reply e = going_waits e
takes_by x is_over reply e = over_waits e
takes_by x (waits_for f args) reply e = by_test (is_reply_to x f args reply)
  where
    by_test : (b : Bool) → Keeps x.machine (if b then with_reply x f args reply else record x { doing = is_over })
    by_test true = inr (record { active = refl; turns = refl; budget = refl })
    by_test false = inl refl

-- ---- the program

code_either : (x : Slave) (b : Bool) (y z : Moved Slave Message) → y.slave.program ≡ x.program → z.slave.program ≡ x.program → (if b then y else z).slave.program ≡ x.program
code_either x true y z h k = h
code_either x false y z h k = k

code_moves : (x : Slave) (wrote : Option (List ℕ)) → (moves_with x wrote).slave.program ≡ x.program
code_moves x None = refl
code_moves x (Some bytes) = refl

same_code : (x : Slave) (a : Answer) (wrote : Option (List ℕ)) → (after_step x a wrote).slave.program ≡ x.program
same_code x moved wrote = code_moves x wrote
same_code x (asked f args depth) wrote =
    code_either x (nat_le x.machine.budget (x.machine.turns + x.calls)) (parks x) (says_call x f args depth) refl
    (code_either x (must_wait x f args) (awaits_reply x f args depth) (posts x f args depth) refl refl)
same_code x (ended v) wrote = refl
same_code x (trapped trap span) wrote = refl
same_code x spent wrote = refl
same_code x idle wrote = refl

code_taken : (x : Slave) (d : Doing) (reply : ReplyBody) → (taken_by x d reply).program ≡ x.program
code_taken x goes reply = refl
code_taken x is_over reply = refl
code_taken x (waits_for f args) reply = by_test (is_reply_to x f args reply)
  where
    by_test : (b : Bool) → (if b then with_reply x f args reply else record x { doing = is_over }).program ≡ x.program
    by_test true = refl
    by_test false = refl

pub slaves_keep : KeepsMachine Slave Monitor Message ReplyBody End PeerRule Heard the_sides (λ x. x.program) (λ x. x.machine)
slaves_keep = record {
  gate = λ x. slave_gate x.program;
  heard = heard_by;
  steps = λ x e. steps_by x (machine_step x).answer refl;
  takes = λ reply x e. takes_by x x.doing reply e;
  same_code = λ x. let y = machine_step x in same_code (stepped x y) y.answer y.gate.wrote;
  keeps_code = λ reply x. code_taken x x.doing reply;
}

pub slaves_stop : SlavesStop
slaves_stop b = slaves_are_bounded the_sides (λ x. x.program) (λ x. x.machine) slaves_keep (slave_of b)
