-- The statements that hold a list of parts, as the lists that they are.
use Rattle.pt_tree.proofs.ListsInTrees.{view_block_stmt, view_switch}

pub ruleset rows = (view_block_stmt, view_switch)
