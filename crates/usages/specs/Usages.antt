-- The expressions of a body in the order of their evaluation, each with what its value is used for.
-- Everything that the flow rules say of a body goes over this list.
use Rattle.std.specs.Prelude.{ℕ, suc, List, [], ◌∷◌, ◌++◌, Option, None, Some, Bool, true, false, nat_eq, if◌then◌else◌, slice_get}
use Rattle.pt_base.specs.declared.ids.FnId.{FnId}
use Rattle.typed_tree.specs.declared.part.Part.{Part}
use Rattle.typed_tree.specs.declared.part.Role.{Role}
use Rattle.typed_tree.specs.declared.part.Role.TheVariants as r
use Rattle.typed_tree.specs.declared.types.VarTy.{VarTy}
use Rattle.typed_tree.specs.declared.types.VarTy.TheVariants.{Int, Pointer}
use Rattle.typed_tree.specs.ExpressionTree.{ExprTree, FormTree, ExprTrees, LinkTrees, OperandTrees, PlaceTree, RootTree, StepTree, StepTrees, typed, constant, null, read, decay, address, unary, convert, discard, chain, logical, choice, assign, compound, step, call, no_exprs, expr_and, link, no_links, link_and, operand, no_operands, operand_and, place, local, global, deref, assigned, field, item, no_steps, step_and}
use Rattle.typed_tree.specs.TypeTests.{same_int}
use Rattle.typed_tree.specs.TypedTree.{TypedTree}
use Rattle.typed_tree.specs.Lookup.{parts_in}
use Rattle.typed_tree.specs.WellFormedExpression.{ty_of}
use Rattle.usages.specs.declared.usage.How.{How}
use Rattle.usages.specs.declared.usage.How.TheVariants.{Kept, Operated, Passed, Begins, Returned}

-- an expression, and what its value is used for
pub record UsageTree : Type 0 where
  pub how : How
  pub value : ExprTree

abbrev pub used : How → ExprTree → UsageTree
used how e = record { how = how; value = e }

-- a conversion gives the value as it was: to the type that it has, or of a pointer
abbrev pub keeps_value : Option VarTy → Option VarTy → Bool
keeps_value (Some (Int a)) (Some (Int b)) = same_int a b
keeps_value a (Some (Pointer elem fixed)) = true
keeps_value a b = false

-- what a conversion does with its operand
abbrev pub converted : Option VarTy → Option VarTy → How
converted from to = if keeps_value from to then Kept else Operated

abbrev mutual
  -- all that is evaluated for an expression, itself last
  pub evaluated : How → ExprTree → List UsageTree
  evaluated how (typed s t f) = form_usages t f ++ (used how (typed s t f) ∷ [])

  pub form_usages : Option VarTy → FormTree → List UsageTree
  form_usages t (constant v) = []
  form_usages t null = []
  form_usages t (read p) = place_usages p
  form_usages t (decay p) = place_usages p
  form_usages t (address p) = place_usages p
  form_usages t (unary op a) = evaluated Operated a
  form_usages t (convert a) = evaluated (converted (ty_of a) t) a
  form_usages t (discard a) = evaluated Kept a
  form_usages t (chain a ls) = evaluated Operated a ++ link_usages ls
  form_usages t (logical op a os) = evaluated Operated a ++ operand_usages os
  form_usages t (choice a b c) = evaluated Operated a ++ (evaluated Kept b ++ evaluated Kept c)
  form_usages t (assign p a) = place_usages p ++ evaluated Kept a
  form_usages t (compound p at op a) = place_usages p ++ evaluated Operated a
  form_usages t (step p at back postfix) = place_usages p
  form_usages t (call g arguments) = argument_usages g 0 arguments

  -- arguments of a call of g, of which the first has the number k
  pub argument_usages : FnId → ℕ → ExprTrees → List UsageTree
  argument_usages g k no_exprs = []
  argument_usages g k (expr_and a rest) = evaluated (Passed g k) a ++ argument_usages g (suc k) rest

  pub link_usages : LinkTrees → List UsageTree
  link_usages no_links = []
  link_usages (link_and (link s ty op a) rest) = evaluated Operated a ++ link_usages rest

  pub operand_usages : OperandTrees → List UsageTree
  operand_usages no_operands = []
  operand_usages (operand_and (operand s a) rest) = evaluated Operated a ++ operand_usages rest

  pub place_usages : PlaceTree → List UsageTree
  place_usages (place r ss) = root_usages r ++ step_usages ss

  -- no number is looked at where a pointer is followed, nor where a part of an assigned struct is meant
  pub root_usages : RootTree → List UsageTree
  root_usages (local v) = []
  root_usages (global g) = []
  root_usages (deref a s) = evaluated Kept a
  root_usages (assigned a) = evaluated Kept a

  pub step_usages : StepTrees → List UsageTree
  step_usages no_steps = []
  step_usages (step_and s rest) = index_usages s ++ step_usages rest

  pub index_usages : StepTree → List UsageTree
  index_usages (field k) = []
  index_usages (item a s) = evaluated Operated a

-- what an outermost expression is used for; the item of a brace list has this number
abbrev pub how_of : Role → ℕ → How
how_of r.Value k = Kept
how_of r.Condition k = Operated
how_of (r.Init v) k = Begins v k
how_of r.Returned k = Returned

-- an outermost expression, if there is one
abbrev pub part_usages : How → Option ExprTree → List UsageTree
part_usages how None = []
part_usages how (Some e) = evaluated how e

-- both initialise the same variable
abbrev pub is_next_item : Role → Role → Bool
is_next_item (r.Init v) (r.Init w) = nat_eq v.0 w.0
is_next_item before now = false

-- the items of a brace list stand behind each other, and are counted from 0
abbrev pub item_number : Role → ℕ → Role → ℕ
item_number before k now = if is_next_item before now then suc k else 0

-- the parts behind one of this role and this number
abbrev pub parts_usages : List ExprTree → Role → ℕ → List Part → List UsageTree
parts_usages exprs before k [] = []
parts_usages exprs before k (p ∷ ps) =
    part_usages (how_of p.role (item_number before k p.role)) (slice_get exprs p.expr.0)
    ++ parts_usages exprs p.role (item_number before k p.role) ps

-- all that the body of a function evaluates; nothing, of a host
unfoldable pub usages_in : TypedTree → FnId → List UsageTree
usages_in t f = parts_usages t.exprs r.Value 0 (parts_in t f)
