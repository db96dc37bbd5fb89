use Rattle.std.proofs.Common.{◌≡◌, ◌++◌, drop}
use Rattle.typed_tree.specs.TypedView.{view_typed}
use Rattle.outlining.specs.OutlineTexts.{guarded_in}
use Rattle.outlining.proofs.starting.guarded_in.Given as goal

abbrev pub invariant-loop-entry : goal.invariant-loop-entry
invariant-loop-entry l = l.list.items ++ guarded_in (view_typed l.t) (drop l.entry-index l.entries) ≡ guarded_in (view_typed l.t) l.fn.entries
