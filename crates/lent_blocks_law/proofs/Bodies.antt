-- The body of a called function keeps what doesn't come back.
use Rattle.std.proofs.Common.{◌≡◌, ◌∙◌, ℕ, ap, sym, true, false, List}
use Rattle.std.specs.Prelude.{slice_get}
use Rattle.pt_tree.specs.declared.signature.Param.{Param}
use Rattle.typed_tree.specs.declared.types.StructInfo.{StructInfo}
use Rattle.block_memory.specs.declared.cell.Cell.{Cell}
use Rattle.block_memory.specs.declared.cell.BlockName.{BlockName}
use Rattle.block_memory.specs.declared.cell.BlockName.TheVariants.{Received}
use Rattle.block_memory.specs.Blocks.{Blocks}
use Rattle.pt_core.specs.Calls.{signature_in, function_in}
use Rattle.pt_core.specs.Steps.{Machine, started}
use Rattle.core_steps_law.specs.WholeRun.{steps_run}
use Rattle.core_soundness_law.specs.Fits.{Fits}
use Rattle.core_soundness_law.proofs.Starting.{started_fits}
use Rattle.core_soundness_law.proofs.CalledSteps.{started_call_own}
use Rattle.marshalling.specs.HonestCalls.{IsSameWork}
use Rattle.marshalling.specs.Packing.{is_among, names_of, number_of}
use Rattle.marshalling.specs.Taking.{comes_back, call_crossing}
use Rattle.lent_blocks_law.specs.Lent.{Writable}
use Rattle.lent_blocks_law.specs.Laws.{StartIsLent, StepIsLent}
use Rattle.lent_blocks_law.specs.Received.{returning, IsLentCall, own_arguments, BodiesKeepWhatStays}
use Rattle.lent_blocks_law.proofs.Stores.{stays_on}
use Rattle.lent_blocks_law.proofs.Steps.{lent_blocks_stay_in_runs}
use Rattle.lent_blocks_law.proofs.Outside.{starts_are_lent}
use Rattle.lent_blocks_law.proofs.Received.{calls_are_lent}

pub bodies_keep_what_stays : {G : Type 0} → BodiesKeepWhatStays G
bodies_keep_what_stays {G} kept monitor program gate m g privileged f depth n store blocks args sound coded ok fits idle free known deep shallow same given k i back =
    let w : Writable = returning program.structs (signature_in program f).params args in
    let own : List Cell = own_arguments program f store blocks args in
    let call : IsLentCall store program.structs (signature_in program f).params blocks args = calls_are_lent store program.structs (signature_in program f).params blocks args same in
    let m1 : Machine = started program privileged f depth own m in
    let start : StartIsLent monitor program w m.blocks m1 = starts_are_lent monitor program w m privileged f depth own sound coded known idle (call.owns program) (call.own (function_in program f).params) in
    let fit : Fits kept monitor program m1 = started_fits kept monitor program m privileged f depth own sound fits idle free known deep shallow given in
    let run : StepIsLent monitor program w m1.blocks (steps_run program gate n m1 g) = lent_blocks_stay_in_runs kept monitor program w gate n m1 g sound coded ok (started_call_own program privileged f depth own m) fit free (call.owns program) start.lends in
    call.stays m.blocks (steps_run program gate n m1 g).machine.blocks (stays_on w m.blocks m1.blocks (steps_run program gate n m1 g).machine.blocks start.stays run.stays) k i back

-- Where a callee's work is seen in the caller's memory, the caller's cells that don't come back stay too.
pub same_work : (structs : List StructInfo) (params : List Param) (args : List Cell) (start sent served ends : Blocks) →
    ((name : BlockName) → is_among (names_of args) name ≡ true → (sent (Received (number_of (names_of args) name))).cells ≡ (start name).cells) →
    ((name : BlockName) → is_among (names_of args) name ≡ true → (served (Received (number_of (names_of args) name))).cells ≡ (ends name).cells) →
    ((k i : ℕ) → comes_back (call_crossing structs params args k i) ≡ false → slice_get (served (Received k)).cells i ≡ slice_get (sent (Received k)).cells i) →
    ((name : BlockName) → is_among (names_of args) name ≡ false → (ends name).cells ≡ (start name).cells) → ((name : BlockName) → (ends name).types ≡ (start name).types) →
    IsSameWork (call_crossing structs params args) (names_of args) start served ends
same_work structs params args start sent served ends first same stays beside types = record {
  same = same;
  stays = λ name i among h. ap (λ cs. slice_get cs i) (sym (same name among)) ∙ stays (number_of (names_of args) name) i (ap comes_back h) ∙ ap (λ cs. slice_get cs i) (first name among);
  beside = beside;
  types = types;
}
