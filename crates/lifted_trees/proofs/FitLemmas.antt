-- Each site is an operator whose operands and result have types that fit it.
use Rattle.std.proofs.Common.{◌≡◌, refl, subst, Bool, true, false, Option, Some, List, ◌++◌}
use Rattle.std.specs.Prelude.{IsTrue, ◌&&◌, ◌||◌, not}
use Rattle.std.specs.List.{list_all}
use Rattle.pt_base.specs.declared.int_type.IntType.{IntType}
use Rattle.pt_base.specs.declared.span.Span.{Span}
use Rattle.pt_base.proofs.Booleans.{and_true_first, and_true_second, both_hold, both_hold_first, both_hold_second}
use Rattle.pt_base.proofs.Members.{all_hold_append}
use Rattle.pt_int.specs.declared.operator.UnOp.{UnOp}
use Rattle.typed_tree.specs.declared.link.LinkStep.{LinkStep}
use Rattle.typed_tree.specs.declared.types.VarTy.{VarTy}
use Rattle.typed_tree.specs.declared.types.VarTy.TheVariants.{Int}
use Rattle.typed_tree.specs.ExpressionTree as t
use Rattle.typed_tree.specs.ExpressionTree.{ExprTree, FormTree, ExprTrees, LinkTrees, OperandTrees, PlaceTree, RootTree, StepTrees, typed, no_exprs, expr_and, link, no_links, link_and, operand, no_operands, operand_and, place, no_steps, step_and}
use Rattle.typed_tree.specs.TypeRules.{stepped, unary_fits}
use Rattle.typed_tree.specs.TypeTests.{same_types}
use Rattle.typed_tree.specs.WellFormedExpression.{Names, ty_of, is_typed, form_fits, all_typed, links_fit, operands_fit, place_fits, root_fits, steps_fit}
use Rattle.typed_tree.proofs.SameTypes.{equal_options}
use Rattle.lifted_trees.specs.Sites.{Operation, before, conversion, between, SiteTree, Secrets, span_of, same_span, is_number, int_of, changes_int, is_operator, left_type, secret_behind, site_if, unary_site, conversion_site, left_site, step_site, sites_in, form_sites, taken_sites, links_sites, operands_sites, all_sites_in, place_sites, root_sites, steps_sites}
use Rattle.lifted_trees.proofs.OperatorLemmas.{number_is, options_same, step_again, step_numbers, unary_number}

abbrev pub operation_fits : Operation → IntType → Bool
operation_fits (before op a) r = unary_fits op (Some (Int a)) (Some (Int r))
operation_fits (conversion a) r = true
operation_fits (between op a b) r = same_types (stepped (Some (Int a)) op (Some (Int b))) (Some (Int r))

abbrev pub site_fits : SiteTree → Bool
site_fits x = operation_fits x.operation x.result

abbrev AllFit : List SiteTree → Type 0
AllFit xs = IsTrue (list_all site_fits xs)

fit_if : (b : Bool) (o : Operation) (to : Option VarTy) (s : Span) → (b ≡ true → IsTrue (operation_fits o (int_of to))) → AllFit (site_if b o to s)
fit_if true o to s h = both_hold (operation_fits o (int_of to)) true (h refl) refl
fit_if false o to s h = refl

unary_fit : (b : Bool) (s : Span) (op : UnOp) (a to : Option VarTy) → unary_fits op a to ≡ true → AllFit (unary_site b s op a to)
unary_fit b s op a to h = fit_if (b && is_number a) (before op (int_of a)) to s (λ test.
    subst (λ x. unary_fits op (Some (Int (int_of a))) x ≡ true) (number_is to (unary_number op a to h))
    (subst (λ x. unary_fits op x to ≡ true) (number_is a (and_true_second b (is_number a) test)) h))

conversion_fit : (b : Bool) (s : Span) (a to : Option VarTy) → AllFit (conversion_site b s a to)
conversion_fit b s a to = fit_if (b && changes_int a to) (conversion (int_of a)) to s (λ test. refl)

step_fit : (b : Bool) (s : Span) (op : LinkStep) (ty own : Option VarTy) (to : VarTy) → stepped ty op own ≡ Some to → AllFit (step_site b s op ty own to)
step_fit b s op ty own to h = fit_if (is_operator op && b) (between op (left_type ty op) (int_of own)) (Some to) s (λ test.
    let operator = and_true_first (is_operator op) b test in
    options_same (stepped (Some (Int (left_type ty op))) op (Some (Int (int_of own)))) (Some (Int (int_of (Some to))))
    (subst (λ x. stepped (Some (Int (left_type ty op))) op (Some (Int (int_of own))) ≡ x) (number_is (Some to) (step_numbers ty op own to operator h).result) (step_again ty op own to operator h)))

module _ (n : Names) (p : Secrets) where
  mutual
    pub all_fit : (e : ExprTree) → IsTrue (is_typed n e) → AllFit (sites_in p e)
    all_fit (typed s ty f) h = form_fit f s ty h

    form_fit : (f : FormTree) (s : Span) (ty : Option VarTy) → IsTrue (form_fits n f ty) → AllFit (form_sites p s ty f)
    form_fit (t.constant v) s ty h = refl
    form_fit t.null s ty h = refl
    form_fit (t.read x) s ty h = place_fit x (both_hold_first _ _ h)
    form_fit (t.decay x) s ty h = place_fit x (both_hold_first _ _ h)
    form_fit (t.address x) s ty h = place_fit x (both_hold_first _ _ h)
    form_fit (t.unary op a) s ty h =
        all_hold_append site_fits (sites_in p a) (unary_site (p a) s op (ty_of a) ty) (all_fit a (both_hold_first _ _ h)) (unary_fit (p a) s op (ty_of a) ty (both_hold_second (is_typed n a) _ h))
    form_fit (t.convert a) s ty h =
        all_hold_append site_fits (sites_in p a) (conversion_site (p a) s (ty_of a) ty) (all_fit a (both_hold_first _ _ h)) (conversion_fit (p a) s (ty_of a) ty)
    form_fit (t.discard a) s ty h = all_fit a (both_hold_first _ _ h)
    form_fit (t.chain a ls) s ty h =
        all_hold_append site_fits (sites_in p a) (links_sites p (span_of a) (ty_of a) (p a) ls) (all_fit a (both_hold_first _ _ h))
        (links_fits ls (span_of a) (ty_of a) (p a) ty (both_hold_second _ _ (both_hold_second (is_typed n a) _ h)))
    form_fit (t.logical op a os) s ty h =
        all_hold_append site_fits (sites_in p a) (operands_sites p os) (all_fit a (both_hold_first _ _ (both_hold_first _ _ h)))
        (operands_are os (both_hold_second _ _ (both_hold_first _ _ (both_hold_second (is_typed n a && _) _ h))))
    form_fit (t.choice a b d) s ty h =
        let arms = both_hold_second (is_typed n a && _) _ h in
        all_hold_append site_fits (sites_in p a) (sites_in p b ++ sites_in p d) (all_fit a (both_hold_first _ _ (both_hold_first _ _ h)))
        (all_hold_append site_fits (sites_in p b) (sites_in p d) (all_fit b (both_hold_first _ _ (both_hold_first _ _ arms)))
        (all_fit d (both_hold_first _ _ (both_hold_first _ _ (both_hold_second (is_typed n b && _) _ arms)))))
    form_fit (t.assign x a) s ty h =
        all_hold_append site_fits (place_sites p x) (sites_in p a) (place_fit x (both_hold_first _ _ (both_hold_first _ _ h)))
        (all_fit a (both_hold_first _ _ (both_hold_second _ _ (both_hold_second (place_fits n x && _) _ h))))
    form_fit (t.compound x at op a) s ty h =
        all_hold_append site_fits (place_sites p x) (taken_sites p a) (place_fit x (both_hold_first _ _ (both_hold_first _ _ h)))
        (taken_fit a (both_hold_first _ _ (both_hold_second _ _ (both_hold_second (place_fits n x && _) _ h))))
    form_fit (t.step x at back postfix) s ty h = place_fit x (both_hold_first _ _ (both_hold_first _ _ h))
    form_fit (t.call g arguments) s ty h = arguments_are arguments (both_hold_first _ _ h)

    taken_fit : (e : ExprTree) → IsTrue (is_typed n e) → AllFit (taken_sites p e)
    taken_fit (typed s ty (t.convert a)) h =
        all_hold_append site_fits (sites_in p a) (conversion_site (p a && not (same_span s (span_of a))) s (ty_of a) ty) (all_fit a (both_hold_first _ _ h))
        (conversion_fit (p a && not (same_span s (span_of a))) s (ty_of a) ty)
    taken_fit (typed s ty f) h = form_fit f s ty h

    links_fits : (ls : LinkTrees) (at : Span) (ty : Option VarTy) (far : Bool) (to : Option VarTy) → IsTrue (links_fit n ty ls to) → AllFit (links_sites p at ty far ls)
    links_fits no_links at ty far to h = refl
    links_fits (link_and (link s is op b) rest) at ty far to h =
        let types = both_hold_second (is_typed n b) _ h in
        all_hold_append site_fits (left_site far at ty op) (sites_in p b ++ (step_site (far || p b) s op ty (ty_of b) is ++ links_sites p s (Some is) (secret_behind far op (p b)) rest))
        (conversion_fit (far && is_operator op) at ty (Some (Int (left_type ty op))))
        (all_hold_append site_fits (sites_in p b) (step_site (far || p b) s op ty (ty_of b) is ++ links_sites p s (Some is) (secret_behind far op (p b)) rest) (all_fit b (both_hold_first _ _ h))
        (all_hold_append site_fits (step_site (far || p b) s op ty (ty_of b) is) (links_sites p s (Some is) (secret_behind far op (p b)) rest)
        (step_fit (far || p b) s op ty (ty_of b) is (equal_options (stepped ty op (ty_of b)) (Some is) (both_hold_first _ _ types)))
        (links_fits rest s (Some is) (secret_behind far op (p b)) to (both_hold_second (same_types (stepped ty op (ty_of b)) (Some is)) _ types))))

    operands_are : (os : OperandTrees) → IsTrue (operands_fit n os) → AllFit (operands_sites p os)
    operands_are no_operands h = refl
    operands_are (operand_and (operand s a) rest) h =
        all_hold_append site_fits (sites_in p a) (operands_sites p rest) (all_fit a (both_hold_first _ _ (both_hold_first _ _ h))) (operands_are rest (both_hold_second (is_typed n a && _) _ h))

    arguments_are : (es : ExprTrees) → IsTrue (all_typed n es) → AllFit (all_sites_in p es)
    arguments_are no_exprs h = refl
    arguments_are (expr_and a rest) h =
        all_hold_append site_fits (sites_in p a) (all_sites_in p rest) (all_fit a (both_hold_first _ _ h)) (arguments_are rest (both_hold_second (is_typed n a) _ h))

    place_fit : (x : PlaceTree) → IsTrue (place_fits n x) → AllFit (place_sites p x)
    place_fit (place r ss) h =
        all_hold_append site_fits (root_sites p r) (steps_sites p ss) (root_fit r (both_hold_first _ _ h)) (steps_are ss (both_hold_second (root_fits n r) _ h))

    root_fit : (r : RootTree) → IsTrue (root_fits n r) → AllFit (root_sites p r)
    root_fit (t.local v) h = refl
    root_fit (t.global g) h = refl
    root_fit (t.deref a s) h = all_fit a h
    root_fit (t.assigned a) h = all_fit a h

    steps_are : (ss : StepTrees) → IsTrue (steps_fit n ss) → AllFit (steps_sites p ss)
    steps_are no_steps h = refl
    steps_are (step_and (t.field k) rest) h = steps_are rest h
    steps_are (step_and (t.item a s) rest) h =
        all_hold_append site_fits (sites_in p a) (steps_sites p rest) (all_fit a (both_hold_first _ _ h)) (steps_are rest (both_hold_second (is_typed n a) _ h))
