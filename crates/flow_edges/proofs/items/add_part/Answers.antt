-- What a part adds, as far as it is wanted.
use Rattle.std.proofs.Common.{◌∙◌, ap, sym, take}
use Rattle.pt_base.proofs.Results.{on_ok_implies}
use Rattle.flow_edges.specs.ItemParts.{added, finished}
use Rattle.flow_edges.proofs.PartLemmas.{finished_alike}
use Rattle.flow_edges.proofs.items.add_part.Goals as goal

pub returns-in-Object : goal.returns-in-Object
returns-in-Object c =
    let structs = c.args.scope.now.structs.now in
    let same = ap (λ p. take c.args.wanted (finished structs c.args.parts.now.items (added structs p c.args.slots.now.items))) (sym c.in-Object.is) in
    on_ok_implies c.add_object.result _ _ (λ h. ap (take c.args.wanted) (h structs) ∙ same) c.add_object.ensures

pub returns-in-Fields : goal.returns-in-Fields
returns-in-Fields c =
    let structs = c.args.scope.now.structs.now in
    let same = ap (λ p. take c.args.wanted (finished structs c.args.parts.now.items (added structs p c.args.slots.now.items))) (sym c.in-Fields.is) in
    on_ok_implies c.add_field.result _ _ (λ h. ap (take c.args.wanted) (h c.args.slots.now.items) ∙ same) c.add_field.ensures

pub returns-in-Again : goal.returns-in-Again
returns-in-Again c =
    let structs = c.args.scope.now.structs.now in
    let same = ap (λ p. take c.args.wanted (finished structs c.args.parts.now.items (added structs p c.args.slots.now.items))) (sym c.in-Again.is) in
    on_ok_implies c.add_again.result _ _ (λ h. finished_alike structs c.args.wanted c.args.parts.now.items _ _ h ∙ same) c.add_again.ensures
