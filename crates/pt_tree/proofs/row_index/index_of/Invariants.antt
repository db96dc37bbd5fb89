use Rattle.std.proofs.Common.{◌≤◌, length, drop}
use Rattle.pt_tree.specs.RowIndex.{IsIndexOf}
use Rattle.pt_tree.proofs.row_index.index_of.Given as goal

abbrev pub invariant-loop-at : goal.invariant-loop-at
invariant-loop-at l = record {
  within : l.at ≤ length l.rows;
  results : IsIndexOf l.index.entries (drop l.at l.rows);
}

abbrev pub decreases-loop-at : goal.decreases-loop-at
decreases-loop-at l = l.at
