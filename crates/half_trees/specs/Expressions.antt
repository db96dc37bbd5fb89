-- The C trees of expressions and places.
use Rattle.std.specs.Prelude.{ℕ, ℤ, pos, negsuc, List, [], ◌∷◌, Bool, true, false, if◌then◌else◌, nat_eq}
use Rattle.pt_base.specs.declared.int_type.IntType.{IntType}
use Rattle.pt_base.specs.declared.int_type.IntType.TheVariants as i
use Rattle.pt_int.specs.declared.operator.BinOp.{BinOp}
use Rattle.pt_int.specs.declared.operator.BinOp.TheVariants as b
use Rattle.pt_int.specs.declared.operator.UnOp.{UnOp}
use Rattle.pt_int.specs.declared.operator.UnOp.TheVariants as u
use Rattle.pt_tree.specs.declared.operator.BinaryOp.{BinaryOp}
use Rattle.pt_tree.specs.declared.operator.BinaryOp.TheVariants as o
use Rattle.pt_tree.specs.declared.operator.PrefixOp.{PrefixOp}
use Rattle.pt_tree.specs.declared.operator.PrefixOp.TheVariants as p
use Rattle.pt_tree.specs.SpecifierTree.{spec_trees}
use Rattle.pt_tree.specs.ExpressionTree as c
use Rattle.pt_tree.specs.ExpressionTree.{PostfixTree, PostfixTrees, LinkTree, LinkTrees}
use Rattle.typed_tree.specs.declared.types.StructInfo.{StructInfo}
use Rattle.typed_tree.specs.declared.types.VarTy.{VarTy}
use Rattle.pt_core.specs.CodeTree.{RootTree, local, global, deref, PlaceTree, place, ExprTree, constant, read, unary, binary, convert, null, address, decay, move, compare, difference, ExprTrees, no_exprs, expr_and}
use Rattle.pt_core.specs.Types.{Context, type_at, global_type, field_type, pointee_type, type_of}
use Rattle.half_trees.specs.Names.{nowhere, word, local_name, global_name, field_name}
use Rattle.half_trees.specs.Declarations.{int_specs}

-- ---- constants

abbrev pub number : IntType → ℕ → c.ExprTree
number t n = c.constant (record { span = nowhere; value = pos n; ty = t })

-- a number of a type with constants of its own; `~n` is -1 - n
abbrev pub wide_constant : IntType → ℤ → c.ExprTree
wide_constant t (pos n) = number t n
wide_constant t (negsuc n) = c.prefix nowhere p.Complement (number t n)

-- to an integer type
abbrev pub cast_to : IntType → c.ExprTree → c.ExprTree
cast_to t a = c.cast nowhere (spec_trees (int_specs t)) false a

-- a type narrower than int has no constants of its own (C99 6.4.4.1p5)
abbrev pub constant_tree : IntType → ℤ → c.ExprTree
constant_tree i.Char v = cast_to i.Char (wide_constant i.Int v)
constant_tree i.SChar v = cast_to i.SChar (wide_constant i.Int v)
constant_tree i.UChar v = cast_to i.UChar (wide_constant i.Int v)
constant_tree i.Short v = cast_to i.Short (wide_constant i.Int v)
constant_tree i.UShort v = cast_to i.UShort (wide_constant i.Int v)
constant_tree i.Int v = wide_constant i.Int v
constant_tree i.UInt v = wide_constant i.UInt v
constant_tree i.Long v = wide_constant i.Long v
constant_tree i.ULong v = wide_constant i.ULong v

abbrev pub zero_tree : c.ExprTree
zero_tree = number i.Int 0

-- ---- operators

abbrev pub prefix_of : UnOp → PrefixOp
prefix_of u.Minus = p.Minus
prefix_of u.Plus = p.Plus
prefix_of u.Flip = p.Complement
prefix_of u.Not = p.Not

abbrev pub operator_of : BinOp → BinaryOp
operator_of b.Mul = o.Multiply
operator_of b.Div = o.Divide
operator_of b.Rem = o.Remainder
operator_of b.Add = o.Add
operator_of b.Sub = o.Subtract
operator_of b.Shl = o.ShiftLeft
operator_of b.Shr = o.ShiftRight
operator_of b.Lt = o.Less
operator_of b.Gt = o.Greater
operator_of b.Le = o.LessEqual
operator_of b.Ge = o.GreaterEqual
operator_of b.Eq = o.Equal
operator_of b.Ne = o.NotEqual
operator_of b.And = o.BitAnd
operator_of b.Xor = o.BitXor
operator_of b.Or = o.BitOr

-- how tightly an operator binds, the loosest ones 0 (C99 6.5.5 to 6.5.14)
abbrev pub level_of : BinaryOp → ℕ
level_of o.LogicalOr = 0
level_of o.LogicalAnd = 1
level_of o.BitOr = 2
level_of o.BitXor = 3
level_of o.BitAnd = 4
level_of o.Equal = 5
level_of o.NotEqual = 5
level_of o.Less = 6
level_of o.Greater = 6
level_of o.LessEqual = 6
level_of o.GreaterEqual = 6
level_of o.ShiftLeft = 7
level_of o.ShiftRight = 7
level_of o.Add = 8
level_of o.Subtract = 8
level_of o.Multiply = 9
level_of o.Divide = 9
level_of o.Remainder = 9

abbrev pub binds_alike : BinaryOp → BinaryOp → Bool
binds_alike a b = nat_eq (level_of a) (level_of b)

abbrev pub one_link : BinaryOp → c.ExprTree → LinkTree
one_link op b = c.link nowhere op b

-- a link more at the end
abbrev pub with_link : LinkTrees → LinkTree → LinkTrees
with_link c.no_links l = c.link_and l c.no_links
with_link (c.link_and k rest) l = c.link_and k (with_link rest l)

-- a chain of its own with one operator
abbrev pub chain_of : BinaryOp → c.ExprTree → c.ExprTree → c.ExprTree
chain_of op a b = c.chain nowhere a (c.link_and (one_link op b) c.no_links)

-- the links belong to a chain of operators that bind as tightly as this one
abbrev pub are_alike : LinkTrees → BinaryOp → Bool
are_alike c.no_links op = false
are_alike (c.link_and (c.link s first a) rest) op = binds_alike first op

-- Two operands and the operator between them. A left operand that is a chain of operators that bind alike is
-- whether an operator makes a chain longer, rather than beginning one
abbrev pub goes_on : BinaryOp → c.ExprTree → Bool
goes_on op (c.chain s a links) = are_alike links op
goes_on op (c.name w) = false
goes_on op (c.constant n) = false
goes_on op (c.prefix s q a) = false
goes_on op (c.cast s specs pointer a) = false
goes_on op (c.postfix s a ps) = false
goes_on op (c.choice s x y z) = false
goes_on op (c.assign s q x y) = false

-- made longer: such operators group to the left.
abbrev pub linked : BinaryOp → c.ExprTree → c.ExprTree → c.ExprTree
linked op (c.chain s a links) b = if are_alike links op then c.chain nowhere a (with_link links (one_link op b)) else chain_of op (c.chain s a links) b
linked op (c.name w) b = chain_of op (c.name w) b
linked op (c.constant n) b = chain_of op (c.constant n) b
linked op (c.prefix s q a) b = chain_of op (c.prefix s q a) b
linked op (c.cast s specs pointer a) b = chain_of op (c.cast s specs pointer a) b
linked op (c.postfix s a ps) b = chain_of op (c.postfix s a ps) b
linked op (c.choice s x y z) b = chain_of op (c.choice s x y z) b
linked op (c.assign s q x y) b = chain_of op (c.assign s q x y) b

-- ---- places

-- more of what stands behind an operand
abbrev pub with_postfixes : PostfixTrees → List PostfixTree → PostfixTrees
with_postfixes c.no_postfixes more = c.postfix_trees more
with_postfixes (c.postfix_and p rest) more = c.postfix_and p (with_postfixes rest more)

-- whether something stands behind an operand already
abbrev pub has_postfixes : c.ExprTree → Bool
has_postfixes (c.postfix s a ps) = true
has_postfixes (c.name w) = false
has_postfixes (c.constant n) = false
has_postfixes (c.prefix s q a) = false
has_postfixes (c.cast s specs pointer a) = false
has_postfixes (c.chain s a links) = false
has_postfixes (c.choice s x y z) = false
has_postfixes (c.assign s q x y) = false

-- An operand with what stands behind it, at least one postfix. An operand that has some already is made longer.
abbrev pub extended : c.ExprTree → List PostfixTree → c.ExprTree
extended (c.postfix s a ps) more = c.postfix nowhere a (with_postfixes ps more)
extended (c.name w) more = c.postfix nowhere (c.name w) (c.postfix_trees more)
extended (c.constant n) more = c.postfix nowhere (c.constant n) (c.postfix_trees more)
extended (c.prefix s q a) more = c.postfix nowhere (c.prefix s q a) (c.postfix_trees more)
extended (c.cast s specs pointer a) more = c.postfix nowhere (c.cast s specs pointer a) (c.postfix_trees more)
extended (c.chain s a links) more = c.postfix nowhere (c.chain s a links) (c.postfix_trees more)
extended (c.choice s x y z) more = c.postfix nowhere (c.choice s x y z) (c.postfix_trees more)
extended (c.assign s q x y) more = c.postfix nowhere (c.assign s q x y) (c.postfix_trees more)

-- the same, or the operand alone where nothing stands behind it
abbrev pub postfixed : c.ExprTree → List PostfixTree → c.ExprTree
postfixed a [] = a
postfixed a (p ∷ ps) = extended a (p ∷ ps)

-- the fields of a path from an object of this type on
abbrev pub dots : List StructInfo → VarTy → List ℕ → List PostfixTree
dots structs ty [] = []
dots structs ty (k ∷ ks) = c.dot nowhere (word (field_name structs ty k)) ∷ dots structs (field_type structs ty k) ks

-- what a pointer points to, an object of this type, and the fields of a path from there on
abbrev pub pointed : List StructInfo → VarTy → c.ExprTree → List ℕ → c.ExprTree
pointed structs ty a [] = c.prefix nowhere p.Dereference a
pointed structs ty a (k ∷ ks) = extended a (c.arrow nowhere (word (field_name structs ty k)) ∷ dots structs (field_type structs ty k) ks)

-- ---- expressions

abbrev mutual
  pub expression_tree : Context → ExprTree → c.ExprTree
  expression_tree k (constant t v) = constant_tree t v
  expression_tree k (read x) = place_tree k x
  expression_tree k (unary op t a s) = c.prefix nowhere (prefix_of op) (expression_tree k a)
  expression_tree k (binary op t a b s) = linked (operator_of op) (expression_tree k a) (expression_tree k b)
  expression_tree k (convert t a) = cast_to t (expression_tree k a)
  expression_tree k (null elem) = zero_tree
  expression_tree k (address x) = c.prefix nowhere p.AddressOf (place_tree k x)
  expression_tree k (decay x) = place_tree k x
  expression_tree k (move a b back s) = linked (if back then o.Subtract else o.Add) (expression_tree k a) (expression_tree k b)
  expression_tree k (compare op a b s) = linked (operator_of op) (expression_tree k a) (expression_tree k b)
  expression_tree k (difference a b s) = linked o.Subtract (expression_tree k a) (expression_tree k b)

  pub place_tree : Context → PlaceTree → c.ExprTree
  place_tree k (place root path) = root_tree k root path

  -- where a place begins, with its path
  pub root_tree : Context → RootTree → List ℕ → c.ExprTree
  root_tree k (local v) path = postfixed (c.name (word (local_name v))) (dots k.structs (type_at k.variables v) path)
  root_tree k (global g) path = postfixed (c.name (word (global_name g))) (dots k.structs (global_type k g) path)
  root_tree k (deref a s) path = pointed k.structs (pointee_type (type_of k a)) (expression_tree k a) path

abbrev pub argument_trees : Context → ExprTrees → c.ExprTrees
argument_trees k no_exprs = c.no_exprs
argument_trees k (expr_and a rest) = c.expr_and (expression_tree k a) (argument_trees k rest)
