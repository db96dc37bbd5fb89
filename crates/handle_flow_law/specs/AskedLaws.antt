-- What a slave of an accepted program asks for has its handles under marks alone.
use Rattle.std.specs.Prelude.{◌≡◌, ℕ, List, IsTrue}
use Rattle.pt_tree.specs.declared.host_model.HostModel.{HostModel}
use Rattle.typed_tree.specs.TypedTree.{TypedTree}
use Rattle.typed_tree.specs.WellFormed.{is_well_formed}
use Rattle.flow_rules.specs.declared.accepted.Accepted.{Accepted}
use Rattle.flow_rules.specs.Faults.{IsAccepted}
use Rattle.block_memory.specs.declared.cell.Cell.{Cell}
use Rattle.wire.specs.declared.message.ReplyBody.{ReplyBody}
use Rattle.pt_core.specs.Calls.{signature_in}
use Rattle.pt_core.specs.Steps.{asked}
use Rattle.marshalling_law.specs.CallsSending.{HandlesStand}
use Rattle.pair_meaning.specs.SlaveRun.{Slave, goes, machine_step, stepped}
use Rattle.pair_meaning.specs.Pair.{slave_at}
use Rattle.handle_flow_law.specs.KeptLaws.{boot_of}

-- where the slave's next step asks for this, a handle is an argument of a marked parameter, or lies behind one or under a
-- marked field, by the signatures of the slave's own program
abbrev pub AsksUnderMarks : Slave → ℕ → List Cell → ℕ → Type 0
AsksUnderMarks x f args depth = x.doing ≡ goes → (machine_step x).answer ≡ asked f args depth →
    HandlesStand x.program.structs (stepped x (machine_step x)).machine.blocks (signature_in x.program f).params args

-- Whatever replies it is given, and however many steps it made.
abbrev pub AskedHandlesStand : Type 0
AskedHandlesStand = (t : TypedTree) (a : Accepted) (hosts : List (ℕ × HostModel)) (input : List ℕ) (turns : ℕ) (replies : List ReplyBody) (k f : ℕ) (args : List Cell) (depth : ℕ) →
    IsTrue (is_well_formed t) → IsAccepted t a → AsksUnderMarks (slave_at (boot_of t a hosts input turns) replies k).slave f args depth
