use Rattle.std.proofs.Common.{◌≡◌, ◌≤◌, ◌^◌, ◌∙◌, ℕ, List, [], ap, refl, subst, sym, true}
use Rattle.std.proofs.lemmas.Result.{IfOk-weaker}
use Rattle.block_memory.specs.declared.cell.BlockName.{BlockName}
use Rattle.machine_memory.specs.Memory.{blocks_of}
use Rattle.marshalling.specs.declared.crossing.Crossing.{Crossing}
use Rattle.marshalling.specs.Packing.{are_distinct}
use Rattle.marshalling.specs.Plans.{part}
use Rattle.marshalling.specs.Ranges.{crossing_among}
use Rattle.marshalling.specs.Replies.{next_after, result_places}
use Rattle.marshalling.specs.Returns.{Takes}
use Rattle.marshalling.specs.Taking.{after_reply_for, block_places, call_crossing, ended, is_reply_for, taken_blocks, taken_result}
use Rattle.marshalling.proofs.NameLemmas.{from_distinct}
use Rattle.marshalling.proofs.ReturnLemmas.{no_names, none_long}
use Rattle.marshalling.proofs.SealingLemmas.{room_alone}
use Rattle.marshalling.proofs.taking.unpack_results.Goals as goal

pub take_alone-requires : goal.take_alone-requires
take_alone-requires c =
    let next = next_after c.args.names.now (result_places c.args.sig.now c.args.sig.now.result) in
    room_alone (call_crossing c.args.structs.now c.args.sig.now.params c.args.args.now) c.args.args.now
    (part c.args.reply.now.cells next (blocks_of c.args.memory.now)) (2 ^ 63) (sym c.any_points.ensures ∙ c.if-not-any_points.true) c.requires.room

pub returns-then-not-any_points-clause-taken : goal.returns-then-not-any_points-clause-taken
returns-then-not-any_points-clause-taken c =
    let results = result_places c.args.sig.now c.args.sig.now.result in
    let before = blocks_of c.args.memory.now in
    let crossing = call_crossing c.args.structs.now c.args.sig.now.params c.args.args.now in
    let P : List BlockName → Type 0 =
    λ ns. Takes c.take_alone.result (is_reply_for c.args.names.now results (block_places crossing ns before) c.args.reply.now)
    (ended (taken_result results c.args.names.now c.args.reply.now.result)
    (taken_blocks crossing 0 ns (part c.args.reply.now.cells (next_after c.args.names.now results) before)))
    c.args.names.now c.take_alone.new.names before in
    subst P (sym (no_names [] c.args.args.now (sym c.any_points.ensures ∙ c.if-not-any_points.true))) (c.take_alone.ensures.taken before)

pub take_fitting-requires-clause-distinct : goal.take_fitting-requires-clause-distinct
take_fitting-requires-clause-distinct c = subst (λ ns. are_distinct ns ≡ true) (sym c.in-Ok.ensures.targets) (from_distinct [] c.args.args.now refl)

pub take_fitting-requires-clause-room : goal.take_fitting-requires-clause-room
take_fitting-requires-clause-room c =
    let ranges : crossing_among c.in-Ok.plan.ranges.items ≡ call_crossing c.args.structs.now c.args.sig.now.params c.args.args.now =
    c.in-Ok.ensures.ranges ∙ ap (λ ps. call_crossing c.args.structs.now ps c.args.args.now) c.as_slice.ensures in
    let P : (ℕ → ℕ → Crossing) → List BlockName → Type 0 =
    λ f ns. (after_reply_for c.args.names.now (blocks_of c.args.memory.now) f ns (result_places c.args.sig.now c.args.sig.now.result)
    c.args.reply.now).next ≤ 2 ^ 63 in
    subst (λ f. P f c.in-Ok.plan.targets.items) (sym ranges)
    (subst (P (call_crossing c.args.structs.now c.args.sig.now.params c.args.args.now)) (sym c.in-Ok.ensures.targets) c.requires.room)

pub returns-in-Ok-clause-taken : goal.returns-in-Ok-clause-taken
returns-in-Ok-clause-taken c =
    let ranges : crossing_among c.in-Ok.plan.ranges.items ≡ call_crossing c.args.structs.now c.args.sig.now.params c.args.args.now =
    c.in-Ok.ensures.ranges ∙ ap (λ ps. call_crossing c.args.structs.now ps c.args.args.now) c.as_slice.ensures in
    let results = result_places c.args.sig.now c.args.sig.now.result in
    let before = blocks_of c.args.memory.now in
    let P : (ℕ → ℕ → Crossing) → List BlockName → Type 0 =
    λ f ns. Takes c.take_fitting.result (is_reply_for c.args.names.now results (block_places f ns before) c.args.reply.now)
    (after_reply_for c.args.names.now before f ns results c.args.reply.now)
    c.args.names.now c.take_fitting.new.names before in
    subst (P (call_crossing c.args.structs.now c.args.sig.now.params c.args.args.now)) c.in-Ok.ensures.targets
    (subst (λ f. P f c.in-Ok.plan.targets.items) ranges c.take_fitting.ensures.taken)

pub returns-then-not-any_points-clause-long : goal.returns-then-not-any_points-clause-long
returns-then-not-any_points-clause-long c =
    IfOk-weaker c.take_alone.result _ _ (λ r none. none_long (blocks_of c.args.memory.now) r.blocks.items none) c.take_alone.ensures.long
