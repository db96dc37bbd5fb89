-- What the forms of an expression evaluate, one part after the other.
use Rattle.std.proofs.Common.{◌≡◌, ◌∙◌, ap, sym, ◌++◌, Option}
use Rattle.pt_base.specs.declared.ids.FnId.{FnId}
use Rattle.pt_base.specs.declared.span.Span.{Span}
use Rattle.typed_tree.specs.declared.link.LinkStep.{LinkStep}
use Rattle.typed_tree.specs.declared.link.LogicalOp.{LogicalOp}
use Rattle.typed_tree.specs.declared.types.VarTy.{VarTy}
use Rattle.typed_tree.specs.ExpressionTree as t
use Rattle.typed_tree.specs.ExpressionTree.{ExprTree, FormTree, ExprTrees, LinkTrees, OperandTrees, PlaceTree}
use Rattle.usages.specs.declared.usage.How.TheVariants.{Kept, Operated}
use Rattle.usages.specs.Usages.{evaluated, form_usages, argument_usages, link_usages, operand_usages, place_usages}

pub chain_whole : (ty : Option VarTy) (form : FormTree) (a a' : ExprTree) (ls ls' : LinkTrees) → form ≡ t.chain a ls → a' ≡ a → ls' ≡ ls → form_usages ty form ≡ evaluated Operated a' ++ link_usages ls'
chain_whole ty form a a' ls ls' f ea el = ap (form_usages ty) f ∙ ap (λ x. evaluated Operated x ++ link_usages ls) (sym ea) ∙ ap (λ x. evaluated Operated a' ++ link_usages x) (sym el)

pub logical_whole : (ty : Option VarTy) (form : FormTree) (op : LogicalOp) (a a' : ExprTree) (os os' : OperandTrees) → form ≡ t.logical op a os → a' ≡ a → os' ≡ os → form_usages ty form ≡ evaluated Operated a' ++ operand_usages os'
logical_whole ty form op a a' os os' f ea eo = ap (form_usages ty) f ∙ ap (λ x. evaluated Operated x ++ operand_usages os) (sym ea) ∙ ap (λ x. evaluated Operated a' ++ operand_usages x) (sym eo)

pub assign_whole : (ty : Option VarTy) (form : FormTree) (p : PlaceTree) (a a' : ExprTree) → form ≡ t.assign p a → a' ≡ a → form_usages ty form ≡ place_usages p ++ evaluated Kept a'
assign_whole ty form p a a' f ea = ap (form_usages ty) f ∙ ap (λ x. place_usages p ++ evaluated Kept x) (sym ea)

pub compound_whole : (ty : Option VarTy) (form : FormTree) (p : PlaceTree) (at : Span) (op : LinkStep) (a a' : ExprTree) → form ≡ t.compound p at op a → a' ≡ a → form_usages ty form ≡ place_usages p ++ evaluated Operated a'
compound_whole ty form p at op a a' f ea = ap (form_usages ty) f ∙ ap (λ x. place_usages p ++ evaluated Operated x) (sym ea)

pub call_whole : (ty : Option VarTy) (form : FormTree) (g : FnId) (es es' : ExprTrees) → form ≡ t.call g es → es' ≡ es → form_usages ty form ≡ argument_usages g 0 es'
call_whole ty form g es es' f ee = ap (form_usages ty) f ∙ ap (λ x. argument_usages g 0 x) (sym ee)
