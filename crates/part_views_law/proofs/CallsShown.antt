-- What is shown of slaves and bodies at calls.
use Rattle.std.proofs.Common.{◌≡◌, ◌∙◌, ◌+◌, ◌<◌, ◌≤◌, ℕ, zero, suc, ap, sym, refl, subst, arith, List, [], ◌∷◌, length, get_or, Bool, true, false}
use Rattle.std.specs.Prelude.{IsTrue}
use Rattle.std.proofs.lemmas.List.{length-map}
use Rattle.pt_base.specs.declared.int_type.IntType.{IntType}
use Rattle.pt_tree.specs.declared.signature.Param.{Param}
use Rattle.typed_tree.specs.WellFormed.{structs_sound}
use Rattle.block_memory.specs.declared.cell.BlockName.TheVariants.{Received}
use Rattle.block_memory.specs.Block.{Block}
use Rattle.block_memory.specs.Blocks.{Blocks}
use Rattle.pt_core.specs.CodeTree.{ProgramTree}
use Rattle.pt_core.specs.Calls.{signature_in}
use Rattle.pt_core.specs.Steps.{Active, Machine, resumed, started, with_blocks}
use Rattle.pt_core.specs.WellFormed.{is_sound}
use Rattle.core_soundness_law.specs.Fits.{AllFit, Fits, MemoryFits}
use Rattle.core_soundness_law.specs.Kept.{by_store, none}
use Rattle.core_soundness_law.specs.Outside.{ArgumentsFit, GivenFits}
use Rattle.core_soundness_law.proofs.Outside.{resumed_fits}
use Rattle.core_soundness_law.proofs.Programs.{facts_of}
use Rattle.core_soundness_law.proofs.Shapes.{entered_beside}
use Rattle.core_soundness_law.proofs.Starting.{started_fits}
use Rattle.marshalling.specs.Handles.{Entries}
use Rattle.marshalling.specs.HonestCalls.{IsServed, for_callee, grown, returned}
use Rattle.marshalling.specs.Packing.{names_of, packed}
use Rattle.marshalling.specs.Replies.{types_in}
use Rattle.marshalling.proofs.NameLemmas.{from_distinct}
use Rattle.marshalling_law.proofs.PostingLemmas.{packed_types}
use Rattle.part_views_law.specs.Views.{slave_view}
use Rattle.part_views_law.proofs.Instances.{none_own}
use Rattle.part_views_law.specs.CrossingsCalls.{IsSent, body_memory, whole_memory}
use Rattle.part_views_law.specs.CrossingsMachines.{resting}
use Rattle.part_views_law.proofs.CrossingsFits.{sent_by_fits}
use Rattle.part_views_law.proofs.CrossingsReturned.{returned_fits}
use Rattle.part_views_law.proofs.CrossingsStarted.{bodies_fit}
use Rattle.part_views_law.proofs.CrossingsStores.{stores_grow}
use Rattle.part_views_law.specs.StepsParts.{Stands}
use Rattle.part_views_law.proofs.StepsInstances.{bodies_stand, slaves_stand}
use Rattle.part_views_law.specs.CallsLaws.{BodiesAreShown, ShownCallsAreSent, SlavesGoOn}

-- the slave's memory, with its innermost function
held : (slave : ProgramTree) (store : Entries) (m : Blocks) (turns n : ℕ) (x : Machine) (a : Active) (rest : List Active) → Stands (slave_view slave store m) 0 false turns n slave x → x.active ≡ a ∷ rest → MemoryFits (by_store store) slave (a ∷ rest) x.blocks
held slave store m turns n x a rest stands is = subst (λ active. MemoryFits (by_store store) slave active x.blocks) is stands.fits.memory

sound_structs : (monitor : Bool) (p : ProgramTree) → IsTrue (is_sound monitor p) → IsTrue (structs_sound p.structs 0 p.structs)
sound_structs monitor p sound = (facts_of monitor p sound).structs

pub shown_calls_are_sent : ShownCallsAreSent
shown_calls_are_sent whole slave monitor store m turns n x a rest f args halves stands asks =
    sent_by_fits slave monitor store (signature_in slave f).params x.blocks m a rest args (sound_structs false slave halves.slave_sound) asks.params
    (held slave store m turns n x a rest stands asks.active) (subst (λ active. AllFit false slave active) asks.active stands.fits.active) asks.given halves.memory halves.apart asks.marked asks.small

no_more : (types : List (List IntType)) (k : ℕ) → 1 ≤ length (get_or types k []) → k < length types
no_more [] k some = absurd (omega (arith, some))
no_more (ts ∷ types) zero some = omega arith
no_more (ts ∷ types) (suc k) some = let less = no_more types k some in omega (arith, less)

pub bodies_are_shown : BodiesAreShown
bodies_are_shown whole slave monitor store m turns n x a rest f args own_turns budget halves ranged stands asks known own shallow left =
    bodies_stand whole monitor a.depth (names_of args) (whole_memory slave store m x.blocks) (suc x.turns) n body halves.monitor_part halves.monitor_sound begun
    (from_distinct [] args refl) received (λ k some. none_own monitor a.depth (names_of args) sent.outside k (received k some)) (omega arith, refl, tt {0}) left
  where
    params : List Param
    params = (signature_in slave f).params

    sent : IsSent slave monitor a.depth store slave.structs (signature_in slave f).params x.blocks m args
    sent = shown_calls_are_sent whole slave monitor store m turns n x a rest f args halves stands asks

    memory : Blocks
    memory = body_memory store (signature_in slave f).params x.blocks m args

    body : Machine
    body = started monitor true f (a.depth + 1) (for_callee store x.blocks args).args (resting (body_memory store (signature_in slave f).params x.blocks m args) own_turns budget)

    both : MemoryFits none monitor [] (body_memory store (signature_in slave f).params x.blocks m args) × ArgumentsFit none monitor.structs (body_memory store (signature_in slave f).params x.blocks m args) 0 (signature_in slave f).params (for_callee store x.blocks args).args
    both = bodies_fit slave monitor store (signature_in slave f).params x.blocks m a rest args (sound_structs false slave halves.slave_sound) asks.params (sym halves.slave_part.structs ∙ halves.monitor_part.structs)
        (held slave store m turns n x a rest stands asks.active) asks.given halves.memory ranged sent.whole

    begun : Fits none true monitor (started monitor true f (a.depth + 1) (for_callee store x.blocks args).args (resting (body_memory store (signature_in slave f).params x.blocks m args) own_turns budget))
    begun = started_fits none true monitor (resting (body_memory store (signature_in slave f).params x.blocks m args) own_turns budget) true f (a.depth + 1) (for_callee store x.blocks args).args halves.monitor_sound
        (record { memory = both.0; active = tt {0}; awaited = tt {0} }) refl refl known (omega arith) shallow
        (subst (λ ps. ArgumentsFit none monitor.structs (body_memory store (signature_in slave f).params x.blocks m args) 0 ps (for_callee store x.blocks args).args) (sym own) both.1)

    count : length (types_in (packed x.blocks (signature_in slave f).params args)) ≡ length (names_of args)
    count = ap length (packed_types x.blocks (names_of args) sent.whole) ∙ length-map (names_of args) (λ b. (x.blocks b).types)

    received : (k : ℕ) → 1 ≤ length ((started monitor true f (a.depth + 1) (for_callee store x.blocks args).args (resting (body_memory store (signature_in slave f).params x.blocks m args) own_turns budget)).blocks (Received k)).types → k < length (names_of args)
    received k some =
        let there : 1 ≤ length (body_memory store (signature_in slave f).params x.blocks m args (Received k)).types =
        subst (λ (b : Block). 1 ≤ length b.types) (entered_beside monitor f (a.depth + 1) (for_callee store x.blocks args).args (body_memory store (signature_in slave f).params x.blocks m args) k) some in
        subst (λ c. k < c) count (no_more (types_in (packed x.blocks (signature_in slave f).params args)) k there)

pub slaves_go_on : SlavesGoOn
slaves_go_on whole slave monitor store m turns n x a rest f args awaited z after value later halves ranged stands asks work is callee left =
    slaves_stand whole slave (grown store slave.structs (signature_in slave f) x.blocks args z value) after later n
    (resumed (returned store slave.structs (signature_in slave f) x.blocks args z value).result (with_blocks (returned store slave.structs (signature_in slave f) x.blocks args z value).blocks x))
    halves.slave_part halves.slave_sound
    ((stores_grow store slave.structs (signature_in slave f) x.blocks args z value sent.whole work.numbers work.result).ranged ranged)
    (resumed_fits (by_store (grown store slave.structs (signature_in slave f) x.blocks args z value)) false slave (with_blocks (returned store slave.structs (signature_in slave f) x.blocks args z value).blocks x) awaited
    (returned store slave.structs (signature_in slave f) x.blocks args z value).result halves.slave_sound
    (record { memory = both.0; active = stands.fits.active; awaited = stands.fits.awaited }) is
    (subst (λ j. GivenFits (by_store (grown store slave.structs (signature_in slave f) x.blocks args z value)) (signature_in slave j).result (returned store slave.structs (signature_in slave f) x.blocks args z value).result) (sym callee) both.1))
    stands.above left
  where
    sent : IsSent slave monitor a.depth store slave.structs (signature_in slave f).params x.blocks m args
    sent = shown_calls_are_sent whole slave monitor store m turns n x a rest f args halves stands asks

    served : IsServed store slave.structs (signature_in slave f) x.blocks args z value
    served = record { sendable = sent.sendable; whole = sent.whole; integers = sent.integers; known = sent.known; numbers = work.numbers; result = work.result }

    both : MemoryFits (by_store (grown store slave.structs (signature_in slave f) x.blocks args z value)) slave x.active (returned store slave.structs (signature_in slave f) x.blocks args z value).blocks
        × GivenFits (by_store (grown store slave.structs (signature_in slave f) x.blocks args z value)) (signature_in slave f).result (returned store slave.structs (signature_in slave f) x.blocks args z value).result
    both = returned_fits slave x.active store slave.structs (signature_in slave f) x.blocks args z value stands.fits.memory served
