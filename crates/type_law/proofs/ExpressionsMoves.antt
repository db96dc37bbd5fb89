-- Pointers that are moved by an integer, on either side.
use Rattle.std.proofs.Common.{◌≡◌, ◌∙◌, refl, ap, [], ◌∷◌, Bool, Option, Some}
use Rattle.pt_base.specs.declared.span.Span.{Span}
use Rattle.pt_base.specs.declared.int_type.IntType.{IntType}
use Rattle.pt_base.proofs.Booleans.{both_hold}
use Rattle.pt_tree.specs.declared.signature.Elem.{Elem}
use Rattle.type_rules.specs.declared.types.Type.TheVariants.{Int, Pointer}
use Rattle.typed_tree.specs.declared.link.LinkStep.TheVariants as link_step
use Rattle.typed_tree.specs.declared.types.VarTy.{VarTy}
use Rattle.typed_tree.specs.declared.types.VarTy.TheVariants as v
use Rattle.typed_tree.specs.ExpressionTree.{ExprTree, typed, chain, link, link_trees}
use Rattle.typed_tree.specs.TypeTests as test
use Rattle.typed_tree.specs.TypeRules.{stepped}
use Rattle.typed_tree.specs.WellFormedExpression.{Names, is_typed, ty_of}
use Rattle.check_expressions.specs.Operands.{var_type}
use Rattle.type_law.specs.ExpressionsLaws.{Fitted}
use Rattle.type_law.proofs.ExpressionsSameTypes.{same_types-self, same_types-equal}

pub move_fits : (n : Names) (s sp : Span) (e : Elem) (f back : Bool) (b : IntType) (x y : ExprTree) → Fitted n (Pointer e f) x → Fitted n (Int b) y → Fitted n (Pointer e f) (typed s (Some (v.Pointer e f)) (chain x (link_trees (link sp (v.Pointer e f) (link_step.Move back) y ∷ []))))
unfolding var_type
move_fits n s sp e f back b x y g h =
    let p : Option VarTy = Some (v.Pointer e f) in
    let is : stepped (ty_of x) (link_step.Move back) (ty_of y) ≡ p = ap (λ z. stepped z (link_step.Move back) (ty_of y)) g.has ∙ ap (λ z. stepped p (link_step.Move back) z) h.has in
    record {
      typed = both_hold (is_typed n x) _ g.typed (both_hold (is_typed n y) _ h.typed (both_hold (test.same_types (stepped (ty_of x) (link_step.Move back) (ty_of y)) p) _ (same_types-equal _ p is) (same_types-self p)));
      has = refl;
    }

pub move_by_fits : (n : Names) (s sp : Span) (e : Elem) (f : Bool) (a : IntType) (x y : ExprTree) → Fitted n (Int a) x → Fitted n (Pointer e f) y → Fitted n (Pointer e f) (typed s (Some (v.Pointer e f)) (chain x (link_trees (link sp (v.Pointer e f) link_step.MoveBy y ∷ []))))
unfolding var_type
move_by_fits n s sp e f a x y g h =
    let p : Option VarTy = Some (v.Pointer e f) in
    let is : stepped (ty_of x) link_step.MoveBy (ty_of y) ≡ p = ap (λ z. stepped z link_step.MoveBy (ty_of y)) g.has ∙ ap (λ z. stepped (Some (v.Int a)) link_step.MoveBy z) h.has in
    record {
      typed = both_hold (is_typed n x) _ g.typed (both_hold (is_typed n y) _ h.typed (both_hold (test.same_types (stepped (ty_of x) link_step.MoveBy (ty_of y)) p) _ (same_types-equal _ p is) (same_types-self p)));
      has = refl;
    }
