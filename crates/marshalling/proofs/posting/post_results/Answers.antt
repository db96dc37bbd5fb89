use Rattle.std.proofs.Common.{◌^◌, ◌∙◌, ap, sym}
use Rattle.std.proofs.lemmas.Result.{IfOk-weaker}
use Rattle.machine_memory.specs.Memory.{blocks_of}
use Rattle.marshalling.specs.Plans.{part}
use Rattle.marshalling.specs.Replies.{next_after, result_places}
use Rattle.marshalling.specs.Returns.{with_cells}
use Rattle.marshalling.specs.Taking.{call_crossing, known_reply}
use Rattle.marshalling.proofs.ReturnLemmas.{none_long}
use Rattle.marshalling.proofs.SealingLemmas.{none_exactly, posted_alone, room_alone, taken}
use Rattle.marshalling.proofs.posting.post_results.Goals as goal

pub take_result-value-requires : goal.take_result-value-requires
take_result-value-requires c =
    let before = blocks_of c.args.memory.now in
    let known = known_reply c.args.names.now before c.args.structs.now c.args.sig.now c.args.args.now in
    let next = next_after c.args.names.now (result_places c.args.sig.now c.args.sig.now.result) in
    room_alone (call_crossing c.args.structs.now c.args.sig.now.params c.args.args.now) c.args.args.now
    (part known.cells next before) (2 ^ 63) (sym c.any_points.ensures ∙ c.if-not-any_points.true) c.requires.room

pub returns-then-not-any_points-clause-posted : goal.returns-then-not-any_points-clause-posted
returns-then-not-any_points-clause-posted c =
    let before = blocks_of c.args.memory.now in
    ap (λ bs. taken c.take_result-value.result c.take_result-value.new.names (with_cells bs before)) c.new.ensures.items
    ∙ posted_alone c.args.names.now before c.args.structs.now c.args.sig.now c.args.args.now c.take_result-value.result
    c.take_result-value.new.names (sym c.any_points.ensures ∙ c.if-not-any_points.true) c.requires.no_result
    c.take_result-value.ensures.value c.take_result-value.ensures.names

pub returns-then-not-any_points-clause-none : goal.returns-then-not-any_points-clause-none
returns-then-not-any_points-clause-none c =
    none_exactly c.args.names.now (blocks_of c.args.memory.now) (blocks_of c.args.memory.now) c.args.structs.now c.args.sig.now c.args.args.now
    c.take_result-value.result c.take_result-value.new.names c.requires.no_result
    (posted_alone c.args.names.now (blocks_of c.args.memory.now) c.args.structs.now c.args.sig.now c.args.args.now c.take_result-value.result
    c.take_result-value.new.names (sym c.any_points.ensures ∙ c.if-not-any_points.true) c.requires.no_result
    c.take_result-value.ensures.value c.take_result-value.ensures.names)

pub returns-clause-none : goal.returns-clause-none
returns-clause-none c =
    let before = blocks_of c.args.memory.now in
    IfOk-weaker c.post_blocks.result _ _
    (λ r same. none_exactly c.args.names.now before (with_cells r.blocks.items before) c.args.structs.now c.args.sig.now c.args.args.now r.value
    c.post_blocks.new.names c.requires.no_result same)
    c.post_blocks.ensures.posted

pub returns-then-not-any_points-clause-long : goal.returns-then-not-any_points-clause-long
returns-then-not-any_points-clause-long c = none_long (blocks_of c.args.memory.now) c.new.result.items c.new.ensures.items
