-- How many nodes a raised expression has: at most three more for each of its sites.
use Rattle.std.proofs.Common.{◌≡◌, ◌≤◌, ◌+◌, ◌*◌, ℕ, suc, refl, sym, subst, arith, Bool, true, false, Option, Some, List, [], ◌∷◌, ◌++◌, length, map}
use Rattle.std.specs.Prelude.{◌&&◌, ◌||◌, not, if◌then◌else◌, sum_by}
use Rattle.std.proofs.lemmas.List.Sums.{sum_by-cons}
use Rattle.pt_base.specs.declared.span.Span.{Span}
use Rattle.pt_base.proofs.Lists.{length_append}
use Rattle.typed_tree.specs.declared.link.LinkStep.{LinkStep}
use Rattle.typed_tree.specs.declared.types.VarTy.{VarTy}
use Rattle.typed_tree.specs.declared.types.VarTy.TheVariants.{Int}
use Rattle.typed_tree.specs.ExpressionTree as t
use Rattle.typed_tree.specs.ExpressionTree.{ExprTree, FormTree, ExprTrees, LinkTree, LinkTrees, OperandTrees, PlaceTree, RootTree, StepTrees, typed, no_exprs, expr_and, link, no_links, link_and, operand, no_operands, operand_and, place, no_steps, step_and, link_trees, expr_trees}
use Rattle.typed_tree.specs.Nodes.{expr_nodes, form_nodes, exprs_nodes, link_nodes, operand_nodes, place_nodes, root_nodes, step_nodes, function_nodes}
use Rattle.typed_tree.specs.WellFormedExpression.{ty_of}
use Rattle.lifted_trees.specs.Sites.{Operation, before, conversion, between, SiteTree, Secrets, span_of, same_span, is_number, int_of, changes_int, is_operator, left_type, secret_behind, unary_site, conversion_site, left_site, step_site, sites_in, form_sites, taken_sites, links_sites, operands_sites, all_sites_in, place_sites, root_sites, steps_sites}
use Rattle.lifted_trees.specs.Lifted.{Callees, request, chain_of, left_operand, operand_types, op_expr, op_function, op_functions, operation_form, marked_operand, raised, raised_form, raised_operand, raised_links, raised_operands, raised_all, raised_place, raised_root, raised_steps, raised_from, sites_from}
use Rattle.lifted_trees.proofs.Eaches.{one_site}

-- two parts with sites
both_few : (a b x y : ℕ) (xs ys : List SiteTree) → x ≤ a + 3 * length xs → y ≤ b + 3 * length ys → x + y ≤ (a + b) + 3 * length (xs ++ ys)
both_few a b x y xs ys h k = let long = length_append xs ys in omega (arith, h, k, long)

-- one part, and sites of its own
more_few : (a x : ℕ) (xs ys : List SiteTree) → x ≤ a + 3 * length xs → x ≤ a + 3 * length (xs ++ ys)
more_few a x xs ys h = let long = length_append xs ys in omega (arith, h, long)

chain_nodes : (base : ExprTree) (xs : List LinkTree) → form_nodes (chain_of base xs) ≤ expr_nodes base + link_nodes (link_trees xs)
chain_nodes (typed s ty f) [] = omega arith
chain_nodes base (x ∷ xs) = omega arith

pushed_nodes : (xs : List LinkTree) (s : Span) (is : VarTy) (op : LinkStep) (r : ExprTree) → link_nodes (link_trees (xs ++ link s is op r ∷ [])) ≡ link_nodes (link_trees xs) + expr_nodes r
pushed_nodes [] s is op r = omega arith
pushed_nodes (link z ty o x ∷ xs) s is op r = let rest = pushed_nodes xs s is op r in omega (arith, rest)

module _ (c : Callees) (p : Secrets) where
  request_nodes : (j : ℕ) (a : ExprTree) → form_nodes (request c j (a ∷ [])) ≡ expr_nodes a
  request_nodes j a = let zero_more : expr_nodes a + 0 ≡ expr_nodes a = omega arith in zero_more

  -- with a request in its place or not, an operator has the nodes of its operand
  one_operand : (b : Bool) (j : ℕ) (a : ExprTree) (f : FormTree) → form_nodes f ≡ expr_nodes a → form_nodes (if b then request c j (a ∷ []) else f) ≡ expr_nodes a
  one_operand true j a f h = request_nodes j a
  one_operand false j a f h = h

  left_nodes : (b far : Bool) (i : ℕ) (at : Span) (u : VarTy) (x : ExprTree) →
      expr_nodes (if b then typed at (Some u) (if far then request c i (x ∷ []) else t.convert x) else x) ≤ 1 + expr_nodes x
  left_nodes true far i at u x = let same = one_operand far i x (t.convert x) refl in omega (arith, same)
  left_nodes false far i at u x = omega arith

  -- one step of a chain, where what follows adds few
  link_few : (rest : LinkTrees)
      (follows : (i : ℕ) (at : Span) (ty : Option VarTy) (far : Bool) (base : ExprTree) (xs : List LinkTree) →
      form_nodes (raised_links c p i at ty far base xs rest) ≤ ((expr_nodes base + link_nodes (link_trees xs)) + link_nodes rest) + 3 * length (links_sites p at ty far rest))
      (i : ℕ) (at : Span) (ty : Option VarTy) (far : Bool) (base : ExprTree) (xs : List LinkTree) (s : Span) (is : VarTy) (op : LinkStep) (b : ExprTree) (k : ℕ) (z : Bool) →
      (is_operator op && (far || p b)) ≡ z → (r : ExprTree) → expr_nodes r ≤ expr_nodes b + 3 * length (sites_in p b) →
      form_nodes (if z
      then raised_links c p (k + 1) s (Some is) (secret_behind far op (p b)) (typed s (Some is) (request c k (left_operand c i far at ty op (typed at ty (chain_of base xs)) ∷ r ∷ []))) [] rest
      else raised_links c p k s (Some is) (secret_behind far op (p b)) base (xs ++ link s is op r ∷ []) rest)
      ≤ ((expr_nodes base + link_nodes (link_trees xs)) + (expr_nodes b + link_nodes rest))
      + 3 * length (left_site far at ty op ++ (sites_in p b ++ (step_site (far || p b) s op ty (ty_of b) is ++ links_sites p s (Some is) (secret_behind far op (p b)) rest)))
  link_few rest follows i at ty far base xs s is op b k true test r h =
      let own = step_site (far || p b) s op ty (ty_of b) is in
      let later = links_sites p s (Some is) (secret_behind far op (p b)) rest in
      let left = left_operand c i far at ty op (typed at ty (chain_of base xs)) in
      let one : length own ≡ 1 = one_site (is_operator op && (far || p b)) (between op (left_type ty op) (int_of (ty_of b))) (Some is) s test in
      let last : length (own ++ later) ≡ length own + length later = length_append own later in
      let middle : length (sites_in p b ++ (own ++ later)) ≡ length (sites_in p b) + length (own ++ later) = length_append (sites_in p b) (own ++ later) in
      let whole : length (left_site far at ty op ++ (sites_in p b ++ (own ++ later))) ≡ length (left_site far at ty op) + length (sites_in p b ++ (own ++ later)) = length_append (left_site far at ty op) (sites_in p b ++ (own ++ later)) in
      let chained : form_nodes (chain_of base xs) ≤ expr_nodes base + link_nodes (link_trees xs) = chain_nodes base xs in
      let taken : expr_nodes left ≤ 1 + (1 + form_nodes (chain_of base xs)) = left_nodes (changes_int ty (Some (Int (left_type ty op)))) far i at (Int (left_type ty op)) (typed at ty (chain_of base xs)) in
      let ends : form_nodes (raised_links c p (k + 1) s (Some is) (secret_behind far op (p b)) (typed s (Some is) (request c k (left ∷ r ∷ []))) [] rest)
      ≤ (((1 + (expr_nodes left + (expr_nodes r + 0))) + 0) + link_nodes rest) + 3 * length later = follows (k + 1) s (Some is) (secret_behind far op (p b)) (typed s (Some is) (request c k (left ∷ r ∷ []))) [] in
      omega (arith, one, last, middle, whole, chained, taken, ends, h)
  link_few rest follows i at ty far base xs s is op b k false test r h =
      let own = step_site (far || p b) s op ty (ty_of b) is in
      let later = links_sites p s (Some is) (secret_behind far op (p b)) rest in
      let last : length (own ++ later) ≡ length own + length later = length_append own later in
      let middle : length (sites_in p b ++ (own ++ later)) ≡ length (sites_in p b) + length (own ++ later) = length_append (sites_in p b) (own ++ later) in
      let whole : length (left_site far at ty op ++ (sites_in p b ++ (own ++ later))) ≡ length (left_site far at ty op) + length (sites_in p b ++ (own ++ later)) = length_append (left_site far at ty op) (sites_in p b ++ (own ++ later)) in
      let pushed : link_nodes (link_trees (xs ++ link s is op r ∷ [])) ≡ link_nodes (link_trees xs) + expr_nodes r = pushed_nodes xs s is op r in
      let ends : form_nodes (raised_links c p k s (Some is) (secret_behind far op (p b)) base (xs ++ link s is op r ∷ []) rest)
      ≤ ((expr_nodes base + link_nodes (link_trees (xs ++ link s is op r ∷ []))) + link_nodes rest) + 3 * length later = follows k s (Some is) (secret_behind far op (p b)) base (xs ++ link s is op r ∷ []) in
      omega (arith, last, middle, whole, pushed, ends, h)

  mutual
    pub raised_few : (e : ExprTree) (i : ℕ) → expr_nodes (raised c p i e) ≤ expr_nodes e + 3 * length (sites_in p e)
    raised_few (typed s ty f) i = let few = form_few f s ty i in omega (arith, few)

    form_few : (f : FormTree) (s : Span) (ty : Option VarTy) (i : ℕ) → form_nodes (raised_form c p i ty f) ≤ form_nodes f + 3 * length (form_sites p s ty f)
    form_few (t.constant v) s ty i = omega arith
    form_few t.null s ty i = omega arith
    form_few (t.read x) s ty i = place_few x i
    form_few (t.decay x) s ty i = place_few x i
    form_few (t.address x) s ty i = place_few x i
    form_few (t.unary op a) s ty i =
        let own = unary_site (p a) s op (ty_of a) ty in
        let same : form_nodes (if p a && is_number (ty_of a) then request c (i + length (sites_in p a)) (raised c p i a ∷ []) else t.unary op (raised c p i a)) ≡ expr_nodes (raised c p i a) =
        one_operand (p a && is_number (ty_of a)) (i + length (sites_in p a)) (raised c p i a) (t.unary op (raised c p i a)) refl in
        let few : expr_nodes (raised c p i a) ≤ expr_nodes a + 3 * length (sites_in p a ++ own) = more_few (expr_nodes a) (expr_nodes (raised c p i a)) (sites_in p a) own (raised_few a i) in
        omega (arith, same, few)
    form_few (t.convert a) s ty i =
        let own = conversion_site (p a) s (ty_of a) ty in
        let same : form_nodes (if p a && changes_int (ty_of a) ty then request c (i + length (sites_in p a)) (raised c p i a ∷ []) else t.convert (raised c p i a)) ≡ expr_nodes (raised c p i a) =
        one_operand (p a && changes_int (ty_of a) ty) (i + length (sites_in p a)) (raised c p i a) (t.convert (raised c p i a)) refl in
        let few : expr_nodes (raised c p i a) ≤ expr_nodes a + 3 * length (sites_in p a ++ own) = more_few (expr_nodes a) (expr_nodes (raised c p i a)) (sites_in p a) own (raised_few a i) in
        omega (arith, same, few)
    form_few (t.discard a) s ty i = raised_few a i
    form_few (t.chain a ls) s ty i =
        let later = links_sites p (span_of a) (ty_of a) (p a) ls in
        let first : expr_nodes (raised c p i a) ≤ expr_nodes a + 3 * length (sites_in p a) = raised_few a i in
        let ends : form_nodes (raised_links c p (i + length (sites_in p a)) (span_of a) (ty_of a) (p a) (raised c p i a) [] ls)
        ≤ ((expr_nodes (raised c p i a) + 0) + link_nodes ls) + 3 * length later = links_few ls (i + length (sites_in p a)) (span_of a) (ty_of a) (p a) (raised c p i a) [] in
        let whole : length (sites_in p a ++ later) ≡ length (sites_in p a) + length later = length_append (sites_in p a) later in
        omega (arith, first, ends, whole)
    form_few (t.logical op a os) s ty i =
        both_few (expr_nodes a) (operand_nodes os) (expr_nodes (raised c p i a)) (operand_nodes (raised_operands c p (i + length (sites_in p a)) os)) (sites_in p a) (operands_sites p os) (raised_few a i) (operands_few os (i + length (sites_in p a)))
    form_few (t.choice a b d) s ty i =
        let j = i + length (sites_in p a) in
        both_few (expr_nodes a) (expr_nodes b + expr_nodes d) (expr_nodes (raised c p i a)) (expr_nodes (raised c p j b) + expr_nodes (raised c p (j + length (sites_in p b)) d)) (sites_in p a) (sites_in p b ++ sites_in p d) (raised_few a i)
        (both_few (expr_nodes b) (expr_nodes d) (expr_nodes (raised c p j b)) (expr_nodes (raised c p (j + length (sites_in p b)) d)) (sites_in p b) (sites_in p d) (raised_few b j) (raised_few d (j + length (sites_in p b))))
    form_few (t.assign x a) s ty i =
        both_few (place_nodes x) (expr_nodes a) (place_nodes (raised_place c p i x)) (expr_nodes (raised c p (i + length (place_sites p x)) a)) (place_sites p x) (sites_in p a) (place_few x i) (raised_few a (i + length (place_sites p x)))
    form_few (t.compound x at op a) s ty i =
        both_few (place_nodes x) (expr_nodes a) (place_nodes (raised_place c p i x)) (expr_nodes (raised_operand c p (i + length (place_sites p x)) a)) (place_sites p x) (taken_sites p a) (place_few x i) (operand_few a (i + length (place_sites p x)))
    form_few (t.step x at back postfix) s ty i = place_few x i
    form_few (t.call g arguments) s ty i = all_few arguments i

    operand_few : (a : ExprTree) (i : ℕ) → expr_nodes (raised_operand c p i a) ≤ expr_nodes a + 3 * length (taken_sites p a)
    operand_few (typed s ty (t.convert a)) i =
        let b = p a && not (same_span s (span_of a)) in
        let own = conversion_site b s (ty_of a) ty in
        let same : form_nodes (if b && changes_int (ty_of a) ty then request c (i + length (sites_in p a)) (raised c p i a ∷ []) else t.convert (raised c p i a)) ≡ expr_nodes (raised c p i a) =
        one_operand (b && changes_int (ty_of a) ty) (i + length (sites_in p a)) (raised c p i a) (t.convert (raised c p i a)) refl in
        let few : expr_nodes (raised c p i a) ≤ expr_nodes a + 3 * length (sites_in p a ++ own) = more_few (expr_nodes a) (expr_nodes (raised c p i a)) (sites_in p a) own (raised_few a i) in
        omega (arith, same, few)
    operand_few (typed s ty f) i = let few = form_few f s ty i in omega (arith, few)

    links_few : (ls : LinkTrees) (i : ℕ) (at : Span) (ty : Option VarTy) (far : Bool) (base : ExprTree) (xs : List LinkTree) →
        form_nodes (raised_links c p i at ty far base xs ls) ≤ ((expr_nodes base + link_nodes (link_trees xs)) + link_nodes ls) + 3 * length (links_sites p at ty far ls)
    links_few no_links i at ty far base xs = let few = chain_nodes base xs in omega (arith, few)
    links_few (link_and (link s is op b) rest) i at ty far base xs =
        let j = i + length (left_site far at ty op) in
        link_few rest (links_few rest) i at ty far base xs s is op b (j + length (sites_in p b)) (is_operator op && (far || p b)) refl (raised c p j b) (raised_few b j)

    operands_few : (os : OperandTrees) (i : ℕ) → operand_nodes (raised_operands c p i os) ≤ operand_nodes os + 3 * length (operands_sites p os)
    operands_few no_operands i = omega arith
    operands_few (operand_and (operand s a) rest) i =
        both_few (expr_nodes a) (operand_nodes rest) (expr_nodes (raised c p i a)) (operand_nodes (raised_operands c p (i + length (sites_in p a)) rest)) (sites_in p a) (operands_sites p rest) (raised_few a i) (operands_few rest (i + length (sites_in p a)))

    all_few : (es : ExprTrees) (i : ℕ) → exprs_nodes (raised_all c p i es) ≤ exprs_nodes es + 3 * length (all_sites_in p es)
    all_few no_exprs i = omega arith
    all_few (expr_and a rest) i =
        both_few (expr_nodes a) (exprs_nodes rest) (expr_nodes (raised c p i a)) (exprs_nodes (raised_all c p (i + length (sites_in p a)) rest)) (sites_in p a) (all_sites_in p rest) (raised_few a i) (all_few rest (i + length (sites_in p a)))

    place_few : (x : PlaceTree) (i : ℕ) → place_nodes (raised_place c p i x) ≤ place_nodes x + 3 * length (place_sites p x)
    place_few (place r ss) i =
        both_few (root_nodes r) (step_nodes ss) (root_nodes (raised_root c p i r)) (step_nodes (raised_steps c p (i + length (root_sites p r)) ss)) (root_sites p r) (steps_sites p ss) (root_few r i) (steps_few ss (i + length (root_sites p r)))

    root_few : (r : RootTree) (i : ℕ) → root_nodes (raised_root c p i r) ≤ root_nodes r + 3 * length (root_sites p r)
    root_few (t.local v) i = omega arith
    root_few (t.global g) i = omega arith
    root_few (t.deref a s) i = raised_few a i
    root_few (t.assigned a) i = raised_few a i

    steps_few : (ss : StepTrees) (i : ℕ) → step_nodes (raised_steps c p i ss) ≤ step_nodes ss + 3 * length (steps_sites p ss)
    steps_few no_steps i = omega arith
    steps_few (step_and (t.field n) rest) i = let few = steps_few rest i in omega (arith, few)
    steps_few (step_and (t.item a s) rest) i =
        both_few (expr_nodes a) (step_nodes rest) (expr_nodes (raised c p i a)) (step_nodes (raised_steps c p (i + length (sites_in p a)) rest)) (sites_in p a) (steps_sites p rest) (raised_few a i) (steps_few rest (i + length (sites_in p a)))

-- ---- whole lists

pub exprs_few : (c : Callees) (secret : ℕ → Secrets) (k i : ℕ) (es : List ExprTree) → sum_by expr_nodes (raised_from c secret k i es) ≤ sum_by expr_nodes es + 3 * length (sites_from secret k es)
exprs_few c secret k i [] = omega arith
exprs_few c secret k i (e ∷ es) =
    let one = raised_few c (secret k) e i in
    let rest = exprs_few c secret (suc k) (i + length (sites_in (secret k) e)) es in
    let now = sum_by-cons expr_nodes (raised c (secret k) i e) (raised_from c secret (suc k) (i + length (sites_in (secret k) e)) es) in
    let was = sum_by-cons expr_nodes e es in
    let long = length_append (sites_in (secret k) e) (sites_from secret (suc k) es) in
    omega (arith, one, rest, now, was, long)

op_expr_few : (x : SiteTree) (o : Operation) → form_nodes (operation_form x o) ≤ 2
op_expr_few x (before op a) = omega arith
op_expr_few x (conversion a) = omega arith
op_expr_few x (between op a b) = omega arith

pub op_exprs_few : (xs : List SiteTree) → sum_by expr_nodes (map op_expr xs) ≤ 3 * length xs
op_exprs_few [] = omega arith
op_exprs_few (x ∷ xs) =
    let one = op_expr_few x x.operation in
    let rest = op_exprs_few xs in
    let all = sum_by-cons expr_nodes (op_expr x) (map op_expr xs) in
    omega (arith, one, rest, all)

op_function_few : (n e : ℕ) (x : SiteTree) (o : Operation) → x.operation ≡ o → function_nodes (op_function n e x) ≤ 5
op_function_few n e x (before op a) is = subst (λ o. 1 + (length (map (λ t. marked_operand x.span t) (operand_types o)) + 2) ≤ 5) (sym is) (omega arith)
op_function_few n e x (conversion a) is = subst (λ o. 1 + (length (map (λ t. marked_operand x.span t) (operand_types o)) + 2) ≤ 5) (sym is) (omega arith)
op_function_few n e x (between op a b) is = subst (λ o. 1 + (length (map (λ t. marked_operand x.span t) (operand_types o)) + 2) ≤ 5) (sym is) (omega arith)

pub op_functions_few : (exprs n : ℕ) (xs : List SiteTree) → sum_by function_nodes (op_functions exprs n xs) ≤ 5 * length xs
op_functions_few exprs n [] = omega arith
op_functions_few exprs n (x ∷ xs) =
    let one = op_function_few n (exprs + n) x x.operation refl in
    let rest = op_functions_few exprs (suc n) xs in
    let all = sum_by-cons function_nodes (op_function n (exprs + n) x) (op_functions exprs (suc n) xs) in
    omega (arith, one, rest, all)
