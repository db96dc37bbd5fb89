-- Conversions to the type that a value has.
use Rattle.std.proofs.Common.{◌≡◌, ◌∙◌, ap, true, Some, if◌then◌else◌}
use Rattle.pt_base.specs.declared.int_type.IntType.{IntType}
use Rattle.pt_base.specs.declared.int_type.IntType.TheVariants.{Int}
use Rattle.pt_tree.specs.declared.signature.Elem.TheVariants as elem
use Rattle.typed_tree.specs.declared.types.VarTy.{VarTy}
use Rattle.typed_tree.specs.declared.types.VarTy.TheVariants as v
use Rattle.pt_base.specs.IntTypes.{promoted}
use Rattle.type_rules.proofs.TypeLemmas.{is_same_int-self}
use Rattle.typed_tree.specs.TypeRules.{is_promoted}
use Rattle.typed_tree.proofs.SameTypes.{equal_ints}
use Rattle.typed_tree.specs.ExpressionTree as t
use Rattle.typed_tree.specs.ExpressionTree.{typed}
use Rattle.typed_tree.specs.WellFormedExpression.{ty_of}
use Rattle.check_expressions.specs.Conversions.{to_int, is_of_int, converted}

-- ---- tests of one thing with itself

pub promoted_is : (t : IntType) → is_promoted t ≡ true → promoted t ≡ t
promoted_is t h = equal_ints (promoted t) t h

-- ---- conversions that change nothing

pub to_int_same : (i : IntType) (x : t.ExprTree) → ty_of x ≡ Some (v.Int i) → to_int i x ≡ x
unfolding to_int is_of_int
to_int_same i (typed s u f) h =
    ap (λ z. if is_of_int i z then typed s u f else converted (v.Int i) (typed s u f)) h
    ∙ ap (λ z. if z then typed s u f else converted (v.Int i) (typed s u f)) (is_same_int-self i)
