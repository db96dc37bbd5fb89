use Rattle.std.proofs.Common.{◌∙◌, ◌++◌, map}
use Rattle.typed_tree.specs.declared.part.Role.TheVariants.{Value}
use Rattle.typed_tree.specs.TypedView.{view_typed}
use Rattle.usages.specs.UsageView.{view_usage}
use Rattle.usages.specs.Usages.{parts_usages, usages_in}
use Rattle.usages.proofs.bodies.usages_in.Goals as goal

pub loop-part-init : goal.loop-part-init
unfolding usages_in
loop-part-init c =
    let none = c.new-all.ensures.items in
    let parts = c.as_slice-list.ensures.value ∙ c.in_ok-parts.ensures.all in
    λ i. map view_usage (none i) ++ parts_usages (view_typed c.args.t.now).exprs Value 0 (parts i)
