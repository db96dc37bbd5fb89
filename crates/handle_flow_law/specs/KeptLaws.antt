-- No handle is ever computed with in a slave of an accepted program, whatever replies it is given.
use Rattle.std.specs.Prelude.{◌≡◌, ℕ, Bool, false, List, IsTrue, slice_get}
use Rattle.std.specs.Option.{option_map_or}
use Rattle.pt_tree.specs.declared.host_model.HostModel.{HostModel}
use Rattle.pt_tree.specs.declared.signature.Param.{Param}
use Rattle.typed_tree.specs.TypedTree.{TypedTree}
use Rattle.typed_tree.specs.WellFormed.{is_well_formed}
use Rattle.flow_rules.specs.declared.accepted.Accepted.{Accepted}
use Rattle.flow_rules.specs.Faults.{IsAccepted}
use Rattle.wire.specs.declared.message.ReplyBody.{ReplyBody}
use Rattle.pt_core.specs.CodeTree.{ProgramTree, BootTree}
use Rattle.pt_core.specs.BootLaw.{boot_with}
use Rattle.pt_core.specs.Calls.{signature_in}
use Rattle.lowering.specs.Functions.{functions_from}
use Rattle.splitter.specs.Halves.{halves_of, slave_of}
use Rattle.handle_classes.specs.Computes.{computes_next}
use Rattle.pair_meaning.specs.SlaveRun.{Slave, slave_gate, heard_by}
use Rattle.pair_meaning.specs.Pair.{slave_at}

-- what the slave of an accepted program starts from: its half, with any models for its hosts, any input, and so many turns
abbrev pub boot_of : TypedTree → Accepted → List (ℕ × HostModel) → List ℕ → ℕ → BootTree
boot_of t a hosts input turns = boot_with (slave_of t (halves_of a.sides) (functions_from t 0 t.functions)) hosts input turns

-- by the signatures of the slave's own program, a request of this function may hold a handle for this parameter
abbrev pub is_marked : ProgramTree → ℕ → ℕ → Bool
is_marked program f n = option_map_or (λ (p : Param). p.marked) (slice_get (signature_in program f).params n) false

-- the slave's next step would compute with a handle: an operator, a conversion to another type, an index, a condition, a host
-- that it calls itself, a parameter of a request that isn't marked, or the exit status would meet one
abbrev pub computes : Slave → Bool
computes x = computes_next (is_marked x.program) x.program (slave_gate x.program) x.machine (heard_by x)

-- Whatever replies it is given, and however many steps it made, posted calls that are never served among them.
abbrev pub NoHandleIsComputedWith : Type 0
NoHandleIsComputedWith = (t : TypedTree) (a : Accepted) (hosts : List (ℕ × HostModel)) (input : List ℕ) (turns : ℕ) (replies : List ReplyBody) (k : ℕ) →
    IsTrue (is_well_formed t) → IsAccepted t a → computes (slave_at (boot_of t a hosts input turns) replies k).slave ≡ false
