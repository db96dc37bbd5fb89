use Rattle.std.proofs.Common.{◌≡◌, ◌++◌, drop}
use Rattle.typed_tree.specs.TypedView.{view_typed}
use Rattle.outlining.specs.OutlineTexts.{entries_text}
use Rattle.outlining.specs.StructCells.{is_marked_in}
use Rattle.outlining.proofs.entries.push_entries.Given as goal

abbrev pub invariant-loop-entry : goal.invariant-loop-entry
invariant-loop-entry l =
    l.text.items ++ entries_text (is_marked_in l.known) (view_typed l.t) (drop l.entry-index l.entries) ≡ l.fn.text.items ++ entries_text (is_marked_in l.known) (view_typed l.t) l.fn.entries
