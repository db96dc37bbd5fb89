use Rattle.std.proofs.Common.{◌≡◌, ◌^◌, ◌∙◌, [], None, ap, refl, subst, sym, true}
use Rattle.std.specs.Prelude.{IfOk}
use Rattle.machine_memory.specs.Memory.{blocks_of}
use Rattle.marshalling.specs.Packing.{are_distinct}
use Rattle.marshalling.specs.Ranges.{crossing_among}
use Rattle.marshalling.specs.Returns.{placed}
use Rattle.marshalling.specs.Taking.{call_crossing}
use Rattle.marshalling.proofs.NameLemmas.{from_distinct}
use Rattle.marshalling.proofs.SealingLemmas.{posted_by, room_by}
use Rattle.marshalling.proofs.posting.post_blocks.Goals as goal

pub take_planned-requires-clause-distinct : goal.take_planned-requires-clause-distinct
take_planned-requires-clause-distinct c = subst (λ ns. are_distinct ns ≡ true) (sym c.in_ok-plan.ensures.targets) (from_distinct [] c.args.args.now refl)

pub take_planned-requires-clause-room : goal.take_planned-requires-clause-room
take_planned-requires-clause-room c =
    let same = posted_by c.args.names.now (blocks_of c.args.memory.now) c.args.structs.now c.args.sig.now c.args.args.now
    (crossing_among c.in_ok-plan.plan.ranges.items) c.in_ok-plan.plan.targets.items (record { result = None; cells = c.new-2.result })
    (c.in_ok-plan.ensures.ranges ∙ ap (λ ps. call_crossing c.args.structs.now ps c.args.args.now) c.as_slice.ensures)
    c.in_ok-plan.ensures.targets (ap (λ xs. record { result = None; cells = xs }) (c.new-2.ensures ∙ c.new.ensures.items))
    c.requires.no_result c.requires.no_cell in
    room_by _ _ (2 ^ 63) same c.requires.room

pub returns-clause-posted : goal.returns-clause-posted
returns-clause-posted c =
    subst (λ t. IfOk c.take_planned.result (λ r. placed r c.take_planned.new.names (blocks_of c.args.memory.now) ≡ t))
    (posted_by c.args.names.now (blocks_of c.args.memory.now) c.args.structs.now c.args.sig.now c.args.args.now
    (crossing_among c.in_ok-plan.plan.ranges.items) c.in_ok-plan.plan.targets.items (record { result = None; cells = c.new-2.result })
    (c.in_ok-plan.ensures.ranges ∙ ap (λ ps. call_crossing c.args.structs.now ps c.args.args.now) c.as_slice.ensures)
    c.in_ok-plan.ensures.targets (ap (λ xs. record { result = None; cells = xs }) (c.new-2.ensures ∙ c.new.ensures.items))
    c.requires.no_result c.requires.no_cell)
    c.take_planned.ensures.ok
