use Rattle.std.proofs.Common.{◌≡◌, ◌++◌, drop, length, map}
use Rattle.typed_tree.specs.TypedView.{view_typed}
use Rattle.usages.specs.UsageView.{view_usage}
use Rattle.usages.proofs.LentLemmas.{usages_from}
use Rattle.usages.proofs.lent.usages_of.Given as goal

-- the lists so far, and then those of the other functions, are all of them
abbrev pub invariant-loop-function : goal.invariant-loop-function
invariant-loop-function l =
    map (map view_usage) l.bodies.items ++ usages_from (view_typed l.t) l.number (length (drop l._function-index l.t.functions.items))
    ≡ usages_from (view_typed l.fn.t) 0 (length (view_typed l.fn.t).functions)
