use Rattle.std.proofs.Common.{◌≡◌, ◌++◌, drop, map}
use Rattle.typed_tree.specs.TypedView.{view_typed}
use Rattle.usages.specs.UsageView.{view_usage}
use Rattle.usages.specs.Usages as is
use Rattle.usages.proofs.bodies.usages_in.Given as goal

abbrev pub invariant-loop-part : goal.invariant-loop-part
invariant-loop-part l =
    map view_usage l.all.items ++ is.parts_usages (view_typed l.t).exprs l.before l.number (drop l.part-index l.list)
    ≡ is.usages_in (view_typed l.fn.t) l.fn.f
