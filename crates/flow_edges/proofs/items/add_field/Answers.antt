use Rattle.std.proofs.Common.{◌∙◌, ◌+◌, ap, sym}
use Rattle.flow_edges.proofs.PartLemmas.{fields_left, no_fields_left}
use Rattle.flow_edges.proofs.items.add_field.Goals as goal

pub returns-in_default : goal.returns-in_default
returns-in_default c = λ zs. no_fields_left c.args.scope.now.structs.now c.args.parts.now.items zs c.args.structure c.args.next c.args.start c.args.depth (sym c.field_type.ensures ∙ c.in_default.is)

pub returns : goal.returns
returns c = λ zs.
    fields_left c.args.scope.now.structs.now _ _ _ zs c.args.structure c.args.next _ c.args.start _ c.args.depth c.in-Some.ty (sym c.field_type.ensures ∙ c.in-Some.is)
    (c.in_ok-behind_it.ensures ∙ ap (λ n. c.args.start + n) (c.count.ensures c.args.scope.now.structs.now c.args.scope.now.known)) c.in_ok-after.ensures c.in_ok-push.ensures.items c.in_ok-push-2.ensures.items
