-- The usages of all functions of a program, made once.
use Rattle.std.specs.Prelude.{◌≡◌, get_or, map}
use Rattle.pt_base.specs.declared.ids.FnId.{FnId}
use Rattle.typed_tree.specs.TypedTree.{TypedTree}
use Rattle.usages.specs.declared.lent.Usages.{Usages}
use Rattle.usages.specs.UsageView.{view_usage}
use Rattle.usages.specs.Usages.{usages_in}

-- the list of each function is that of all that its body evaluates; past the last function it is empty
pub record AreUsages (t : TypedTree) (u : Usages) : Type 0 where
  pub each : (f : FnId) → map view_usage (get_or u.bodies.items f.0 u.none) ≡ usages_in t f
