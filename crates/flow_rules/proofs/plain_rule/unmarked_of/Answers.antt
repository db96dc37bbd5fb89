-- The leaves of the type itself tell which lie under no marked field.
use Rattle.std.proofs.Common.{◌∙◌, map, ap}
use Rattle.sides.specs.Leaves.{leaves_of}
use Rattle.sides.specs.Slots.{slot_of}
use Rattle.typed_tree.specs.TypedView.{view_typed}
use Rattle.flow_rules.specs.Kept.{unmarked_slots}
use Rattle.flow_rules.proofs.UnmarkedLemmas.{unmarked_made}
use Rattle.flow_rules.proofs.plain_rule.unmarked_of.Goals as goal

pub returns : goal.returns
returns c =
    let t = view_typed c.args.flows.now.t.now in
    let slots = c.as_slice-list.ensures.value ∙ c.in_ok-slots.ensures ∙ ap (λ ss. map (slot_of _) (leaves_of ss c.args.ty)) c.as_slice-structs.ensures in
    let count = c.count-count.ensures t.structs c.args.flows.now.laid.table in
    c.in_ok-leaves.ensures ∙ (λ i. unmarked_slots (slots i) 0 (count i)) ∙ unmarked_made t.structs _ c.args.ty
