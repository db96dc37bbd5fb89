-- The slots of a parameter tell which leaves of its argument lie under no marked field.
use Rattle.std.proofs.Common.{◌∙◌, sym}
use Rattle.typed_tree.specs.TypedView.{view_typed}
use Rattle.flow_rules.specs.Kept.{unmarked_slots}
use Rattle.flow_rules.proofs.UnmarkedLemmas.{unmarked_are}
use Rattle.flow_rules.proofs.plain_rule.unmarked_like.Goals as goal

pub returns : goal.returns
returns c =
    let t = view_typed c.args.flows.now.t.now in
    let slots = c.as_slice-slots.ensures ∙ c.args.flows.now.listed in
    let count = c.count-count.ensures t.structs c.args.flows.now.laid.table in
    c.in_ok-leaves.ensures
    ∙ (λ i. unmarked_slots (slots i) c.in-Some.object.start (count i))
    ∙ unmarked_are t c.args.g.0 c.args.k c.in-Some.object c.args.ty (sym c.in-Some.ensures.0) c.in-Some.ensures.1
