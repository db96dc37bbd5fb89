use Rattle.std.proofs.Common.{◌≡◌, ◌++◌, ◌∙◌, ap, length}
use Rattle.std.specs.Prelude.{option_to_list}
use Rattle.machine_memory.specs.Memory.{blocks_of}
use Rattle.marshalling.specs.Crossings.{crossing_of}
use Rattle.marshalling.specs.Ranges.{crossing_among}
use Rattle.marshalling.specs.Replies.{kept, places_of, received, result_places, sent, types_in, types_of}
use Rattle.marshalling.proofs.ReplyLemmas.{keeps_are, reply_is, reply_with}
use Rattle.marshalling.proofs.replies.pack_results.Goals as goal

pub returns-clause-reply : goal.returns-clause-reply
returns-clause-reply c =
    let structs = c.args.structs.now in
    let sig = c.args.sig.now in
    let body = c.args.body.now in
    let memory = blocks_of c.args.blocks.now in
    let ranged = crossing_among c.as_slice-3.result.now in
    let same : ranged ≡ crossing_of structs sig.params body.args =
    ap crossing_among c.as_slice-3.ensures.value ∙ c.in_ok-ranges.ensures
    ∙ ap (λ ps. crossing_of structs ps c.as_slice-2.result.now) c.as_slice.ensures ∙ ap (crossing_of structs sig.params) c.as_slice-2.ensures in
    let before = c.new-cells.result.items in
    let added = c.in_ok-pack_blocks.ensures.sent
    ∙ ap (λ bs. before ++ sent (length c.pack_value.new.store) (places_of ranged 0 (types_of bs)) (received memory 0 (types_of bs)))
    c.as_slice-4.ensures in
    ap (reply_with c.in_ok-result.result) c.new.ensures
    ∙ reply_is sig c.args.value c.args.store.now c.pack_value.new.store ranged (crossing_of structs sig.params body.args) (types_in body)
    (received memory 0 (types_in body)) c.in_ok-result.result
    before _ c.requires.value same c.new-cells.ensures.items c.in_ok-result.ensures.sent c.in_ok-result.ensures.kept added

pub returns-clause-kept : goal.returns-clause-kept
returns-clause-kept c =
    let structs = c.args.structs.now in
    let sig = c.args.sig.now in
    let body = c.args.body.now in
    let memory = blocks_of c.args.blocks.now in
    let ranged = crossing_among c.as_slice-3.result.now in
    let same : ranged ≡ crossing_of structs sig.params body.args =
    ap crossing_among c.as_slice-3.ensures.value ∙ c.in_ok-ranges.ensures
    ∙ ap (λ ps. crossing_of structs ps c.as_slice-2.result.now) c.as_slice.ensures ∙ ap (crossing_of structs sig.params) c.as_slice-2.ensures in
    let more = c.in_ok-pack_blocks.ensures.kept
    ∙ ap (λ bs. c.pack_value.new.store ++ kept (places_of ranged 0 (types_of bs)) (received memory 0 (types_of bs))) c.as_slice-4.ensures in
    keeps_are ranged (crossing_of structs sig.params body.args) (result_places sig sig.result) (option_to_list c.args.value) (types_in body)
    (received memory 0 (types_in body)) c.args.store.now c.pack_value.new.store
    _ same c.in_ok-result.ensures.kept more
