-- The usages of each form are those of what it is made of.
use Rattle.std.proofs.Common.{◌≡◌, ℕ, suc, refl, ap, sym, subst, Option, Some, None, List, [], ◌∷◌, ◌++◌, map, append_assoc}
use Rattle.std.specs.Prelude.{slice_get}
use Rattle.std.proofs.lemmas.List.{map-append}
use Rattle.pt_base.specs.declared.ids.FnId.{FnId}
use Rattle.typed_tree.specs.declared.part.Part.{Part}
use Rattle.typed_tree.specs.declared.part.Role.{Role}
use Rattle.typed_tree.specs.declared.part.Role.TheVariants as r
use Rattle.typed_tree.specs.declared.types.VarTy.{VarTy}
use Rattle.typed_tree.specs.ExpressionTree.{ExprTree, FormTree, ExprTrees, LinkTrees, OperandTrees, PlaceTree, RootTree, StepTrees, typed, constant, null, read, decay, address, unary, convert, discard, chain, logical, choice, assign, compound, step, call, no_exprs, expr_and, link, no_links, link_and, operand, no_operands, operand_and, place, local, global, deref, assigned, field, item, no_steps, step_and}
use Rattle.typed_tree.specs.Lookup.{parts_in}
use Rattle.typed_tree.specs.WellFormedExpression.{ty_of}
use Rattle.usages.specs.declared.usage.How.{How}
use Rattle.usages.specs.declared.usage.How.TheVariants.{Kept, Operated, Passed}
use Rattle.usages.specs.Usages as u
use Rattle.usages.specs.Usages.{UsageTree, used, converted, evaluated, form_usages, argument_usages, link_usages, operand_usages, place_usages, root_usages, step_usages, how_of, part_usages, item_number, parts_usages}
use Rattle.usages.specs.LawsExpressions.{arguments_in, links_in, operands_in, root_in, indices_in, place_in, made_of, AreExpressionsOf, AreExpressionsOfAll, whole, nothing, both, named, outermost_of}
use Rattle.usages.specs.Laws.{UsagesAreTheExpressions}

abbrev values : List UsageTree → List ExprTree
values us = map (λ (x : UsageTree). x.value) us

values_both : (us vs : List UsageTree) → values (us ++ vs) ≡ values us ++ values vs
values_both us vs = map-append (λ (x : UsageTree). x.value) us vs

end_whole : (xs : List ExprTree) → xs ++ [] ≡ xs
end_whole [] = refl
end_whole (x ∷ xs) = ap (λ ys. x ∷ ys) (end_whole xs)

-- ---- lists behind each other

joined : (es fs xs ys : List ExprTree) → AreExpressionsOfAll es xs → AreExpressionsOfAll fs ys → AreExpressionsOfAll (es ++ fs) (xs ++ ys)
joined es fs xs ys nothing h = h
joined es fs xs ys (both e rest zs ws one others) h =
    subst (AreExpressionsOfAll (e ∷ (rest ++ fs))) (sym (append_assoc zs ws ys)) (both e (rest ++ fs) zs (ws ++ ys) one (joined rest fs ws ys others h))

alone : (e : ExprTree) (us : List UsageTree) → AreExpressionsOf e (values us) → AreExpressionsOfAll (e ∷ []) (values us)
alone e us h = subst (AreExpressionsOfAll (e ∷ [])) (end_whole (values us)) (both e [] (values us) [] h nothing)

first : (e : ExprTree) (es : List ExprTree) (us vs : List UsageTree) → AreExpressionsOf e (values us) → AreExpressionsOfAll es (values vs) → AreExpressionsOfAll (e ∷ es) (values (us ++ vs))
first e es us vs h k = subst (AreExpressionsOfAll (e ∷ es)) (sym (values_both us vs)) (both e es (values us) (values vs) h k)

behind : (es fs : List ExprTree) (us vs : List UsageTree) → AreExpressionsOfAll es (values us) → AreExpressionsOfAll fs (values vs) → AreExpressionsOfAll (es ++ fs) (values (us ++ vs))
behind es fs us vs h k = subst (AreExpressionsOfAll (es ++ fs)) (sym (values_both us vs)) (joined es fs (values us) (values vs) h k)

-- ---- expressions

mutual
  expression : (how : How) (e : ExprTree) → AreExpressionsOf e (values (evaluated how e))
  expression how (typed s t f) =
      subst (AreExpressionsOf (typed s t f)) (sym (values_both (form_usages t f) (used how (typed s t f) ∷ []))) (whole s t f (values (form_usages t f)) (form t f))

  form : (t : Option VarTy) (f : FormTree) → AreExpressionsOfAll (made_of f) (values (form_usages t f))
  form t (constant v) = nothing
  form t null = nothing
  form t (read p) = in_place p
  form t (decay p) = in_place p
  form t (address p) = in_place p
  form t (unary op a) = alone a (evaluated Operated a) (expression Operated a)
  form t (convert a) = alone a (evaluated (converted (ty_of a) t) a) (expression (converted (ty_of a) t) a)
  form t (discard a) = alone a (evaluated Kept a) (expression Kept a)
  form t (chain a ls) = first a (links_in ls) (evaluated Operated a) (link_usages ls) (expression Operated a) (in_links ls)
  form t (logical op a os) = first a (operands_in os) (evaluated Operated a) (operand_usages os) (expression Operated a) (in_operands os)
  form t (choice a b c) =
      first a (b ∷ (c ∷ [])) (evaluated Operated a) (evaluated Kept b ++ evaluated Kept c) (expression Operated a)
      (first b (c ∷ []) (evaluated Kept b) (evaluated Kept c) (expression Kept b) (alone c (evaluated Kept c) (expression Kept c)))
  form t (assign p a) = behind (place_in p) (a ∷ []) (place_usages p) (evaluated Kept a) (in_place p) (alone a (evaluated Kept a) (expression Kept a))
  form t (compound p at op a) = behind (place_in p) (a ∷ []) (place_usages p) (evaluated Operated a) (in_place p) (alone a (evaluated Operated a) (expression Operated a))
  form t (step p at back postfix) = in_place p
  form t (call g arguments) = in_arguments g 0 arguments

  in_arguments : (g : FnId) (k : ℕ) (as' : ExprTrees) → AreExpressionsOfAll (arguments_in as') (values (argument_usages g k as'))
  in_arguments g k no_exprs = nothing
  in_arguments g k (expr_and a rest) = first a (arguments_in rest) (evaluated (Passed g k) a) (argument_usages g (suc k) rest) (expression (Passed g k) a) (in_arguments g (suc k) rest)

  in_links : (ls : LinkTrees) → AreExpressionsOfAll (links_in ls) (values (link_usages ls))
  in_links no_links = nothing
  in_links (link_and (link s ty op a) rest) = first a (links_in rest) (evaluated Operated a) (link_usages rest) (expression Operated a) (in_links rest)

  in_operands : (os : OperandTrees) → AreExpressionsOfAll (operands_in os) (values (operand_usages os))
  in_operands no_operands = nothing
  in_operands (operand_and (operand s a) rest) = first a (operands_in rest) (evaluated Operated a) (operand_usages rest) (expression Operated a) (in_operands rest)

  in_place : (p : PlaceTree) → AreExpressionsOfAll (place_in p) (values (place_usages p))
  in_place (place root steps) = behind (root_in root) (indices_in steps) (root_usages root) (step_usages steps) (in_root root) (in_steps steps)

  in_root : (root : RootTree) → AreExpressionsOfAll (root_in root) (values (root_usages root))
  in_root (local v) = nothing
  in_root (global g) = nothing
  in_root (deref a s) = alone a (evaluated Kept a) (expression Kept a)
  in_root (assigned a) = alone a (evaluated Kept a) (expression Kept a)

  in_steps : (ss : StepTrees) → AreExpressionsOfAll (indices_in ss) (values (step_usages ss))
  in_steps no_steps = nothing
  in_steps (step_and (field k) rest) = in_steps rest
  in_steps (step_and (item a s) rest) = first a (indices_in rest) (evaluated Operated a) (step_usages rest) (expression Operated a) (in_steps rest)

-- ---- bodies

in_part : (how : How) (o : Option ExprTree) → AreExpressionsOfAll (named o) (values (part_usages how o))
in_part how None = nothing
in_part how (Some e) = alone e (evaluated how e) (expression how e)

in_parts : (exprs : List ExprTree) (before : Role) (k : ℕ) (ps : List Part) → AreExpressionsOfAll (outermost_of exprs ps) (values (parts_usages exprs before k ps))
in_parts exprs before k [] = nothing
in_parts exprs before k (p ∷ ps) =
    let how = how_of p.role (item_number before k p.role) in
    behind (named (slice_get exprs p.expr.0)) (outermost_of exprs ps) (part_usages how (slice_get exprs p.expr.0)) (parts_usages exprs p.role (item_number before k p.role) ps)
    (in_part how (slice_get exprs p.expr.0)) (in_parts exprs p.role (item_number before k p.role) ps)

pub usages_listed : UsagesAreTheExpressions
unfolding u.usages_in
usages_listed t f = in_parts t.exprs r.Value 0 (parts_in t f)
