-- What was kept is sorted.
use Rattle.std.proofs.Common.{◌∙◌, ap, length}
use Rattle.sides.specs.declared.halves.Sides.{Sides}
use Rattle.typed_tree.specs.TypedView.{view_typed}
use Rattle.flow_check.specs.Kept.{owned_table}
use Rattle.flow_check.proofs.ShownLemmas.{are_shown}
use Rattle.flow_check.proofs.shown.shown_slots.Goals as goal

pub returns : goal.returns
returns c =
    let a = c.args.accepted.now in
    are_shown (view_typed c.args.t.now) a c.requires c.as_slice-4.result.now (length c.as_slice-3.result.now) c.in_ok-list.list.items c.sort_unstable.new.self.items
    (c.as_slice-4.ensures.value ∙ c.in_ok-globals.ensures
    ∙ ap (owned_table (length c.as_slice.result.now)) (c.as_slice-2.ensures ∙ ap (λ (s : Sides). s.owned) c.sides-sides.ensures)
    ∙ ap (λ n. owned_table n a.sides.owned) (ap length c.as_slice.ensures))
    (ap length (c.as_slice-3.ensures ∙ ap (λ (s : Sides). s.slots) c.sides-sides.ensures))
    c.in_ok-list.ensures c.sort_unstable.ensures.permutation c.sort_unstable.ensures.sorted
