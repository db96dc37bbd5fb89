-- What the next step of a slave asks for, whose machine is fine.
use Rattle.std.proofs.Common.{◌≡◌, ℕ, sym, subst, List}
use Rattle.std.specs.Prelude.{IsTrue}
use Rattle.typed_tree.specs.TypedTree.{TypedTree}
use Rattle.typed_tree.specs.WellFormed.{is_well_formed}
use Rattle.typed_tree.proofs.WellFormedLemmas.{facts_of}
use Rattle.block_memory.specs.declared.cell.Cell.{Cell}
use Rattle.flow_rules.specs.declared.accepted.Accepted.{Accepted}
use Rattle.flow_rules.specs.Faults.{IsAccepted}
use Rattle.pt_core.specs.Calls.{signature_in}
use Rattle.pt_core.specs.Steps.{away, asked}
use Rattle.marshalling_law.specs.CallsSending.{HandlesStand}
use Rattle.handle_classes.specs.Laws.{AnswerFits}
use Rattle.handle_classes_law.specs.SlavesLaws.{slave_half, marks_of, IsSlaveWorld}
use Rattle.handle_classes_law.specs.SlavesMarked.{slave_world}
use Rattle.pair_meaning.specs.SlaveRun.{Slave, slave_of, heard_by, machine_step, slave_gate, way_by}
use Rattle.pair_meaning.specs.Pair.{slave_at}
use Rattle.handle_flow_law.specs.KeptLaws.{boot_of}
use Rattle.handle_flow_law.proofs.KeptAsked.{IsAway, steps_ask_away}
use Rattle.handle_flow_law.proofs.KeptRuns.{IsKnown, Keeps, begin_keeps, runs_keep, step_stays, world_of}
use Rattle.handle_flow_law.specs.AskedLaws.{AsksUnderMarks, AskedHandlesStand}
use Rattle.handle_flow_law.proofs.AskedArguments.{arguments_stand}

keeps_asks : (t : TypedTree) (a : Accepted) (x : Slave) (f : ℕ) (args : List Cell) (depth : ℕ) → IsKnown t a → Keeps t a x → AsksUnderMarks x f args depth
keeps_asks t a x f args depth known k going is =
    let stays = step_stays t a x known k going in
    let fits : AnswerFits (world_of t a) (machine_step x).machine (asked f args depth) = subst (λ answer. AnswerFits (world_of t a) (machine_step x).machine answer) is stays.answer in
    let out : way_by (signature_in x.program f) args ≡ away = subst (λ answer. IsAway (slave_gate x.program) (heard_by x) answer) is (steps_ask_away x.program (slave_gate x.program) x.machine (heard_by x)) in
    subst (λ p. HandlesStand p.structs (machine_step x).machine.blocks (signature_in p f).params args) (sym k.program)
    (arguments_stand t a (machine_step x).machine f args known.facts known.world (record { fits = fits.0; way = subst (λ p. way_by (signature_in p f) args ≡ away) k.program out }) stays.fine)

pub asks_stand : ((t : TypedTree) (a : Accepted) → IsTrue (is_well_formed t) → IsAccepted t a → IsSlaveWorld t (slave_half t a) (slave_world (marks_of t a) t)) → AskedHandlesStand
asks_stand classes t a hosts input turns replies k f args depth sound accepted =
    let known : IsKnown t a = record { sound = sound; facts = facts_of t sound; accepted = accepted; world = classes t a sound accepted } in
    keeps_asks t a (slave_at (boot_of t a hosts input turns) replies k).slave f args depth known (runs_keep t a k (slave_of (boot_of t a hosts input turns)) replies known (begin_keeps t a hosts input turns known))
