-- Privileged expressions: those whose value may be a secret.
use Rattle.std.specs.Prelude.{ℕ, ◌+◌, List, [], Option, None, Some, Bool, not, if◌then◌else◌, is_some, map, get_or}
use Rattle.std.specs.List.{filter, flat_map, range_with_len}
use Rattle.pt_base.specs.declared.ids.FnId.{FnId}
use Rattle.sides.specs.Carried.{carried, scope_of}
use Rattle.sides.specs.Leaves.{leaf_count, leaves_of, value_count, whole}
use Rattle.typed_tree.specs.declared.types.StructInfo.{StructInfo}
use Rattle.typed_tree.specs.declared.types.VarTy.{VarTy}
use Rattle.typed_tree.specs.ExpressionTree.{ExprTree}
use Rattle.typed_tree.specs.TypedTree.{TypedTree}
use Rattle.typed_tree.specs.TypeTests.{pointee_of}
use Rattle.typed_tree.specs.WellFormedExpression.{ty_of}

-- What the rules look at: a program, the functions of its halves, and which slots are privileged.
pub record Flows : Type 0 where
  pub tree : TypedTree
  pub slave : List FnId
  pub monitor : List FnId
  pub is_priv : ℕ → Bool

-- the privileged slots among these leaves of what begins at one of these slots
abbrev pub secret_slots : Flows → List ℕ → List ℕ → List ℕ
secret_slots p starts leaves = filter p.is_priv (flat_map (λ s. map (λ j. s + j) leaves) starts)

-- the leaves of a value of this type; a pointer by itself is no secret, whatever it points to
abbrev pub value_leaves : List StructInfo → Option VarTy → List ℕ
value_leaves structs ty = if is_some (pointee_of ty) then [] else range_with_len 0 (value_count (leaf_count structs) ty)

-- the leaves of a value, or of what a pointer of this type points to, that lie under no marked field
abbrev pub unmarked_leaves : List StructInfo → Option VarTy → List ℕ
unmarked_leaves structs None = []
unmarked_leaves structs (Some ty) = filter (λ j. not (get_or (leaves_of structs ty) j whole).marked) (range_with_len 0 (leaf_count structs ty))

-- The privileged slots that the value of an expression in the body of the function f may come from. It is
-- privileged where there are any.
abbrev pub secrets_of : Flows → FnId → ExprTree → List ℕ
secrets_of p f e = secret_slots p (carried (scope_of p.tree f.0) e) (value_leaves p.tree.structs (ty_of e))
