use Rattle.std.proofs.Common.{◌≡◌, ◌∙◌, ap, sym}
use Rattle.std.specs.Prelude.{◌||◌}
use Rattle.marshalling.specs.Crossings.{crossing_of}
use Rattle.marshalling.specs.Ranges.{crossing_among}
use Rattle.marshalling.specs.Replies.{has_plain, places_of, types_in, types_of}
use Rattle.marshalling.proofs.wants.reply_holds_number.Goals as goal

pub returns : goal.returns
returns c =
    let structs = c.args.structs.now in
    let sig = c.args.sig.now in
    let body = c.args.body.now in
    let crossing = crossing_of structs sig.params body.args in
    let same : crossing_among c.as_slice-3.result.now ≡ crossing =
    ap crossing_among c.as_slice-3.ensures.value ∙ c.in_ok-ranges.ensures
    ∙ ap (λ ps. crossing_of structs ps c.as_slice-2.result.now) c.as_slice.ensures ∙ ap (crossing_of structs sig.params) c.as_slice-2.ensures in
    c.blocks_hold_number.ensures
    ∙ ap (λ f. has_plain (places_of f 0 (types_of c.as_slice-4.result.now))) same
    ∙ ap (λ bs. has_plain (places_of crossing 0 (types_of bs))) c.as_slice-4.ensures
    ∙ ap (λ b. b || has_plain (places_of crossing 0 (types_in body))) (sym (sym c.result_is_number.ensures ∙ c.if-result_is_number.false))
