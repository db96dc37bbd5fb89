-- What code has put behind a text.
use Rattle.std.specs.Prelude.{◌≡◌, ◌++◌, ℕ, List}
use Rattle.pt_base.specs.declared.ids.FnId.{FnId}
use Rattle.typed_tree.specs.TypedTree.{TypedTree}
use Rattle.starting_texts.specs.declared.texts.StartingTable.{StartingTable}
use Rattle.starting_texts.specs.declared.texts.StartingPolicy.{StartingPolicy}
use Rattle.starting_texts.specs.Tables.{IsStartingTable}
use Rattle.starting_texts.specs.Policies.{IsStartingPolicy}
use Rattle.outlining.specs.OutlineTexts.{policy_part, table_part}

-- a host table to start from
pub record AddsTable (t : TypedTree) (before after : List ℕ) : Type 0 where
  pub table : StartingTable
  pub is : IsStartingTable t table
  pub added : after ≡ before ++ table_part t table

-- a policy to start from, for these functions and hosts
pub record AddsPolicy (t : TypedTree) (guarded : List FnId) (before after : List ℕ) : Type 0 where
  pub policy : StartingPolicy
  pub is : IsStartingPolicy t guarded policy
  pub added : after ≡ before ++ policy_part policy
