-- The links of a chain of operators.
use Rattle.std.specs.Prelude.{◌≡◌, ◌&&◌, Option}
use Rattle.pt_base.specs.declared.int_type.IntType.{IntType}
use Rattle.typed_tree.specs.declared.types.VarTy.{VarTy}
use Rattle.pt_core.specs.CodeTree.{ExprTree}
use Rattle.pt_core.specs.Types.{Context}
use Rattle.code_rules.specs.Parts.{is_number}
use Rattle.code_rules.specs.Typing.{typed}

-- The expression is of what type is wanted where its left operand is of that kind, and the whole would
-- be if the operand were.
pub record IsLink (c : Context) (e : ExprTree) (whole : Option VarTy) (left : ExprTree) (kind : Option IntType) : Type 0 where
  pub same : (wanted : Option IntType) → is_number wanted (typed c e) ≡ (is_number wanted whole && is_number kind (typed c left))
