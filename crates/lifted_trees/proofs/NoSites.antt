-- An expression of which nothing gives a secret has no sites.
use Rattle.std.proofs.Common.{◌≡◌, refl, Bool, true, false, Option, Some, [], ◌++◌}
use Rattle.pt_base.specs.declared.span.Span.{Span}
use Rattle.pt_base.proofs.Lists.{append_nils}
use Rattle.typed_tree.specs.declared.link.LinkStep.{LinkStep}
use Rattle.typed_tree.specs.declared.link.LinkStep.TheVariants.{Arithmetic, Shift, Move, MoveBy, Difference, Compare}
use Rattle.typed_tree.specs.declared.types.VarTy.{VarTy}
use Rattle.typed_tree.specs.ExpressionTree as t
use Rattle.typed_tree.specs.ExpressionTree.{ExprTree, FormTree, ExprTrees, LinkTrees, OperandTrees, PlaceTree, RootTree, StepTrees, typed, no_exprs, expr_and, link, no_links, link_and, operand, no_operands, operand_and, place, no_steps, step_and}
use Rattle.typed_tree.specs.WellFormedExpression.{ty_of}
use Rattle.lifted_trees.specs.Sites.{Secrets, span_of, step_site, sites_in, form_sites, taken_sites, links_sites, operands_sites, all_sites_in, place_sites, root_sites, steps_sites, secret_behind}

abbrev pub nothing : Secrets
nothing e = false

step_nothing : (s : Span) (op : LinkStep) (ty own : Option VarTy) (to : VarTy) → step_site false s op ty own to ≡ []
step_nothing s (Arithmetic op u) ty own to = refl
step_nothing s (Shift left) ty own to = refl
step_nothing s (Move back) ty own to = refl
step_nothing s MoveBy ty own to = refl
step_nothing s Difference ty own to = refl
step_nothing s (Compare op) ty own to = refl

behind_nothing : (op : LinkStep) → secret_behind false op false ≡ false
behind_nothing (Arithmetic op u) = refl
behind_nothing (Shift left) = refl
behind_nothing (Move back) = refl
behind_nothing MoveBy = refl
behind_nothing Difference = refl
behind_nothing (Compare op) = refl

mutual
  pub none_in : (e : ExprTree) → sites_in nothing e ≡ []
  none_in (typed s ty f) = none_in_form f s ty

  none_in_form : (f : FormTree) (s : Span) (ty : Option VarTy) → form_sites nothing s ty f ≡ []
  none_in_form (t.constant v) s ty = refl
  none_in_form t.null s ty = refl
  none_in_form (t.read x) s ty = none_in_place x
  none_in_form (t.decay x) s ty = none_in_place x
  none_in_form (t.address x) s ty = none_in_place x
  none_in_form (t.unary op a) s ty = append_nils (sites_in nothing a) [] (none_in a) refl
  none_in_form (t.convert a) s ty = append_nils (sites_in nothing a) [] (none_in a) refl
  none_in_form (t.discard a) s ty = none_in a
  none_in_form (t.chain a ls) s ty = append_nils (sites_in nothing a) (links_sites nothing (span_of a) (ty_of a) false ls) (none_in a) (none_in_links ls (span_of a) (ty_of a) false refl)
  none_in_form (t.logical op a os) s ty = append_nils (sites_in nothing a) (operands_sites nothing os) (none_in a) (none_in_operands os)
  none_in_form (t.choice a b d) s ty =
      append_nils (sites_in nothing a) (sites_in nothing b ++ sites_in nothing d) (none_in a) (append_nils (sites_in nothing b) (sites_in nothing d) (none_in b) (none_in d))
  none_in_form (t.assign x a) s ty = append_nils (place_sites nothing x) (sites_in nothing a) (none_in_place x) (none_in a)
  none_in_form (t.compound x at op a) s ty = append_nils (place_sites nothing x) (taken_sites nothing a) (none_in_place x) (none_taken a)
  none_in_form (t.step x at back postfix) s ty = none_in_place x
  none_in_form (t.call g arguments) s ty = none_in_all arguments

  none_taken : (e : ExprTree) → taken_sites nothing e ≡ []
  none_taken (typed s ty (t.convert a)) = append_nils (sites_in nothing a) [] (none_in a) refl
  none_taken (typed s ty f) = none_in_form f s ty

  none_in_links : (ls : LinkTrees) (at : Span) (ty : Option VarTy) (far : Bool) → far ≡ false → links_sites nothing at ty far ls ≡ []
  none_in_links no_links at ty far is = refl
  none_in_links (link_and (link s to op b) rest) at ty true is = cc
  none_in_links (link_and (link s to op b) rest) at ty false is =
      append_nils (sites_in nothing b) (step_site false s op ty (ty_of b) to ++ links_sites nothing s (Some to) (secret_behind false op false) rest) (none_in b)
      (append_nils (step_site false s op ty (ty_of b) to) (links_sites nothing s (Some to) (secret_behind false op false) rest) (step_nothing s op ty (ty_of b) to)
      (none_in_links rest s (Some to) (secret_behind false op false) (behind_nothing op)))

  none_in_operands : (os : OperandTrees) → operands_sites nothing os ≡ []
  none_in_operands no_operands = refl
  none_in_operands (operand_and (operand s a) rest) = append_nils (sites_in nothing a) (operands_sites nothing rest) (none_in a) (none_in_operands rest)

  none_in_all : (es : ExprTrees) → all_sites_in nothing es ≡ []
  none_in_all no_exprs = refl
  none_in_all (expr_and a rest) = append_nils (sites_in nothing a) (all_sites_in nothing rest) (none_in a) (none_in_all rest)

  none_in_place : (x : PlaceTree) → place_sites nothing x ≡ []
  none_in_place (place r ss) = append_nils (root_sites nothing r) (steps_sites nothing ss) (none_in_root r) (none_in_steps ss)

  none_in_root : (r : RootTree) → root_sites nothing r ≡ []
  none_in_root (t.local v) = refl
  none_in_root (t.global g) = refl
  none_in_root (t.deref a s) = none_in a
  none_in_root (t.assigned a) = none_in a

  none_in_steps : (ss : StepTrees) → steps_sites nothing ss ≡ []
  none_in_steps no_steps = refl
  none_in_steps (step_and (t.field k) rest) = none_in_steps rest
  none_in_steps (step_and (t.item a s) rest) = append_nils (sites_in nothing a) (steps_sites nothing rest) (none_in a) (none_in_steps rest)
