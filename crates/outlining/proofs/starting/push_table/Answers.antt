use Rattle.std.proofs.Common.{codes}
use Rattle.typed_tree.specs.TypedView.{view_typed}
use Rattle.outlining.specs.OutlineTexts.{table_lines}
use Rattle.outlining.proofs.AppendLemmas.{two_parts}
use Rattle.outlining.proofs.starting.push_table.Goals as goal

pub returns : goal.returns
returns c = record {
  table = c.in_ok-table.table;
  is = c.in_ok-table.ensures;
  added = two_parts c.args.text.now.items (codes "hosts\n") (table_lines (view_typed c.args.t.now) c.in_ok-table.table) _ _ c.in_ok-extend_from_slice.ensures.items c.in_ok-push_table_lines.ensures;
}
