-- What the code knows of `continue`, as the definitions speak of it.
use Rattle.std.specs.Prelude.{ℕ, List, [], ◌∷◌}
use Rattle.pt_core.specs.CodeTree.{StmtTree, choose, stmt_trees}
use Rattle.lowering.specs.Lowered.{temp}
use Rattle.lowering.specs.Statements as is
use Rattle.lowering.specs.Statements.{onwards}
use Rattle.lowering.specs.declared.flow.Onward.{Onward}
use Rattle.lowering.specs.declared.flow.Onward.TheVariants.{Nowhere, ToHead, PastFlag}

abbrev pub view_onward : Onward → is.Onward
view_onward Nowhere = is.nowhere
view_onward ToHead = is.to_head
view_onward (PastFlag k) = is.past_flag k.0

-- a `continue` where this flag is set
abbrev pub set_where : ℕ → is.Onward → List StmtTree
set_where k mode = choose (temp k) (stmt_trees (onwards mode)) (stmt_trees []) ∷ []
