-- Functions that are the same in two programs.
use Rattle.std.specs.Prelude.{◌≡◌, List, Some, Contains, slice_get}
use Rattle.pt_base.specs.declared.ids.FnId.{FnId}
use Rattle.typed_tree.specs.declared.ids.ExprId.{ExprId}
use Rattle.typed_tree.specs.declared.part.Part.{Part}
use Rattle.typed_tree.specs.ExpressionTree.{ExprTree}
use Rattle.typed_tree.specs.Lookup.{function_at}
use Rattle.typed_tree.specs.Parts.{parts_of}
use Rattle.typed_tree.specs.StatementTree.{BodyTree}
use Rattle.typed_tree.specs.TypedTree.{FunctionTree, TypedTree}
use Rattle.lowered_code_law.specs.LocalityRenumbered.{renumbered}

-- A body names its outermost expressions by where they stand among those of its whole program, so what stands before it moves their
-- numbers. Two bodies are the same where the second is the first with other numbers, and the same expressions have these.
pub record IsSameBody (exprs others : List ExprTree) (body other : BodyTree) : Type 0 where
  pub number : ExprId → ExprId
  pub statements : other ≡ renumbered number body
  pub expressions : (p : Part) → Contains (parts_of body) p → slice_get others (number p.expr).0 ≡ slice_get exprs p.expr.0

-- The function of this number has a body in both programs, and what it is called with, its variables and its body are the same, all
-- at the same places of the text.
pub record IsSameFunction (t u : TypedTree) (f : FnId) : Type 0 where
  pub here : FunctionTree
  pub there : FunctionTree
  pub body : BodyTree
  pub other : BodyTree
  pub stands_here : function_at t f ≡ Some here
  pub stands_there : function_at u f ≡ Some there
  pub body_here : here.body ≡ Some body
  pub body_there : there.body ≡ Some other
  pub signature : here.signature ≡ there.signature
  pub vars : here.vars ≡ there.vars
  pub same : IsSameBody t.exprs u.exprs body other
