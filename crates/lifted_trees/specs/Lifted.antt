-- The lifted tree: each site has become a call of a function of its own, which does what the operator did.
use Rattle.std.specs.Prelude.{◌≡◌, ℕ, suc, ◌+◌, List, [], ◌∷◌, ◌++◌, Option, Some, None, Bool, true, false, not, ◌&&◌, ◌||◌, if◌then◌else◌, nat_eq, length, map, codes, ◌↔◌, ◌⊎◌, IsTrue, unwrap_or, get_or}
use Rattle.std.specs.List.{Contains, list_any, position_from}
use Rattle.std.specs.List.Sorted.{IsStrictlySortedBy}
use Rattle.std.specs.Ordering.{nat_cmp, ordering_then}
use Rattle.std.specs.declared.cmp.Ordering.{Ordering}
use Rattle.std.specs.Fmt.{decimal}
use Rattle.pt_base.specs.declared.ids.FnId.{FnId}
use Rattle.pt_base.specs.declared.int_type.IntType.{IntType}
use Rattle.pt_base.specs.declared.int_type.IntType.TheVariants as i
use Rattle.pt_base.specs.declared.span.Span.{Span}
use Rattle.pt_tree.specs.declared.signature.Param.{Param}
use Rattle.pt_tree.specs.declared.signature.ParamKind.TheVariants as k
use Rattle.pt_tree.specs.declared.signature.Signature.{Signature}
use Rattle.typed_tree.specs.declared.link.LinkStep.{LinkStep}
use Rattle.typed_tree.specs.declared.types.VarTy.{VarTy}
use Rattle.typed_tree.specs.declared.types.VarTy.TheVariants.{Int}
use Rattle.typed_tree.specs.declared.variable.Var.{Var}
use Rattle.typed_tree.specs.ExpressionTree.{ExprTree, FormTree, ExprTrees, LinkTree, LinkTrees, OperandTrees, PlaceTree, RootTree, StepTrees, typed, constant, null, read, decay, address, unary, convert, discard, chain, logical, choice, assign, compound, step, call, no_exprs, expr_and, link, no_links, link_and, operand, no_operands, operand_and, place, local, global, deref, assigned, field, item, no_steps, step_and, expr_trees, link_trees}
use Rattle.typed_tree.specs.Lookup.{parts_in}
use Rattle.typed_tree.specs.StatementTree.{block, give_back, no_bodies, body_and}
use Rattle.typed_tree.specs.TypedTree.{FunctionTree, TypedTree}
use Rattle.typed_tree.specs.WellFormedExpression.{ty_of}
use Rattle.lifted_trees.specs.declared.placed.Placed.{Placed}
use Rattle.lifted_trees.specs.Sites.{Operation, before, conversion, between, SiteTree, Secrets, span_of, same_span, is_number, changes_int, is_operator, left_type, secret_behind, left_site, sites_in, place_sites, root_sites}

-- ---- numbers of sites

-- A program, which of its expressions may give secrets, in each outermost expression by its number, and its sites in
-- the order of their numbers.
pub record Lifting : Type 0 where
  pub tree : TypedTree
  pub secret : ℕ → Secrets
  pub order : List Placed

-- the sites of the outermost expressions from the number k on
abbrev pub sites_from : (ℕ → Secrets) → ℕ → List ExprTree → List SiteTree
sites_from secret k [] = []
sites_from secret k (e ∷ es) = sites_in (secret k) e ++ sites_from secret (suc k) es

-- all sites, in the order of evaluation
abbrev pub all_sites : Lifting → List SiteTree
all_sites l = sites_from l.secret 0 l.tree.exprs

-- each with its place in that order
abbrev pub placed_from : ℕ → List SiteTree → List Placed
placed_from i [] = []
placed_from i (x ∷ xs) = record { span = x.span; place = i } ∷ placed_from (suc i) xs

-- by where they begin, then by where they end, the inner first
abbrev pub placed_cmp : Placed → Placed → Ordering
placed_cmp a b = ordering_then (ordering_then (nat_cmp a.span.from b.span.from) (nat_cmp a.span.to b.span.to)) (nat_cmp a.place b.place)

-- the sites are in order, each once
pub record IsOrdered (l : Lifting) : Type 0 where
  pub sorted : IsStrictlySortedBy placed_cmp l.order
  pub same : (x : Placed) → Contains l.order x ↔ Contains (placed_from 0 (all_sites l)) x

-- a body names the outermost expression of this number
abbrev pub IsNamed : TypedTree → ℕ → Type 0
IsNamed t k = (f : FnId) × IsTrue (list_any (λ q. nat_eq q.expr.0 k) (parts_in t f))

-- what no body names gives no secrets
abbrev pub HasNamedSecrets : Lifting → Type 0
HasNamedSecrets l = (k : ℕ) → (l.secret k ≡ (λ e. false)) ⊎ IsNamed l.tree k

-- the number of the site at a place
abbrev pub number_in : List Placed → ℕ → ℕ
number_in order i = unwrap_or (position_from (λ x. nat_eq x.place i) 0 order) 0

abbrev pub no_site : SiteTree
no_site = record { operation = conversion i.Int; result = i.Int; span = record { from = 0; to = 0 } }

-- the site at a place
abbrev pub site_at : Lifting → ℕ → SiteTree
site_at l i = get_or (all_sites l) i no_site

-- ---- expressions

-- Which functions are called: the first new one has this number, and so many more has that of the site at a place.
pub record Callees : Type 0 where
  pub first : ℕ
  pub order : List Placed

abbrev pub request : Callees → ℕ → List ExprTree → FormTree
request c i arguments = call (record { 0 = c.first + number_in c.order i }) (expr_trees arguments)

abbrev pub form_of : ExprTree → FormTree
form_of (typed s t f) = f

-- what a chain is so far: its first operand, with the links that were left as they are
abbrev pub chain_of : ExprTree → List LinkTree → FormTree
chain_of first [] = form_of first
chain_of first (x ∷ xs) = chain first (link_trees (x ∷ xs))

-- the value so far, with this span and type, as its step takes it: converted by a request, by a conversion, or as it is
abbrev pub left_operand : Callees → ℕ → Bool → Span → Option VarTy → LinkStep → ExprTree → ExprTree
left_operand c i far at ty op x =
    if changes_int ty (Some (Int (left_type ty op)))
    then typed at (Some (Int (left_type ty op))) (if far then request c i (x ∷ []) else convert x) else x

abbrev mutual
  -- the expression whose first site has the place i
  pub raised : Callees → Secrets → ℕ → ExprTree → ExprTree
  raised c p i (typed s t f) = typed s t (raised_form c p i t f)

  pub raised_form : Callees → Secrets → ℕ → Option VarTy → FormTree → FormTree
  raised_form c p i t (constant v) = constant v
  raised_form c p i t null = null
  raised_form c p i t (read x) = read (raised_place c p i x)
  raised_form c p i t (decay x) = decay (raised_place c p i x)
  raised_form c p i t (address x) = address (raised_place c p i x)
  raised_form c p i t (unary op a) =
      if p a && is_number (ty_of a) then request c (i + length (sites_in p a)) (raised c p i a ∷ []) else unary op (raised c p i a)
  raised_form c p i t (convert a) =
      if p a && changes_int (ty_of a) t then request c (i + length (sites_in p a)) (raised c p i a ∷ []) else convert (raised c p i a)
  raised_form c p i t (discard a) = discard (raised c p i a)
  raised_form c p i t (chain a ls) =
      raised_links c p (i + length (sites_in p a)) (span_of a) (ty_of a) (p a) (raised c p i a) [] ls
  raised_form c p i t (logical op a os) = logical op (raised c p i a) (raised_operands c p (i + length (sites_in p a)) os)
  raised_form c p i t (choice a b d) =
      choice (raised c p i a) (raised c p (i + length (sites_in p a)) b) (raised c p ((i + length (sites_in p a)) + length (sites_in p b)) d)
  raised_form c p i t (assign x a) = assign (raised_place c p i x) (raised c p (i + length (place_sites p x)) a)
  raised_form c p i t (compound x at op a) = compound (raised_place c p i x) at op (raised_operand c p (i + length (place_sites p x)) a)
  raised_form c p i t (step x at back postfix) = step (raised_place c p i x) at back postfix
  raised_form c p i t (call g arguments) = call g (raised_all c p i arguments)

  -- the operand of a compound assignment; a conversion that isn't written stays
  pub raised_operand : Callees → Secrets → ℕ → ExprTree → ExprTree
  raised_operand c p i (typed s t (convert a)) =
      typed s t (if (p a && not (same_span s (span_of a))) && changes_int (ty_of a) t
      then request c (i + length (sites_in p a)) (raised c p i a ∷ []) else convert (raised c p i a))
  raised_operand c p i (typed s t f) = typed s t (raised_form c p i t f)

  -- the chain from an expression, with the links that were left as they are since
  pub raised_links : Callees → Secrets → ℕ → Span → Option VarTy → Bool → ExprTree → List LinkTree → LinkTrees → FormTree
  raised_links c p i at ty far base kept no_links = chain_of base kept
  raised_links c p i at ty far base kept (link_and (link s to op b) rest) =
      let j = i + length (left_site far at ty op) in
      let k = j + length (sites_in p b) in
      if is_operator op && (far || p b)
      then raised_links c p (k + 1) s (Some to) (secret_behind far op (p b))
      (typed s (Some to) (request c k (left_operand c i far at ty op (typed at ty (chain_of base kept)) ∷ raised c p j b ∷ []))) [] rest
      else raised_links c p k s (Some to) (secret_behind far op (p b)) base (kept ++ link s to op (raised c p j b) ∷ []) rest

  pub raised_operands : Callees → Secrets → ℕ → OperandTrees → OperandTrees
  raised_operands c p i no_operands = no_operands
  raised_operands c p i (operand_and (operand s a) rest) =
      operand_and (operand s (raised c p i a)) (raised_operands c p (i + length (sites_in p a)) rest)

  pub raised_all : Callees → Secrets → ℕ → ExprTrees → ExprTrees
  raised_all c p i no_exprs = no_exprs
  raised_all c p i (expr_and a rest) = expr_and (raised c p i a) (raised_all c p (i + length (sites_in p a)) rest)

  pub raised_place : Callees → Secrets → ℕ → PlaceTree → PlaceTree
  raised_place c p i (place r ss) = place (raised_root c p i r) (raised_steps c p (i + length (root_sites p r)) ss)

  pub raised_root : Callees → Secrets → ℕ → RootTree → RootTree
  raised_root c p i (local v) = local v
  raised_root c p i (global g) = global g
  raised_root c p i (deref a s) = deref (raised c p i a) s
  raised_root c p i (assigned a) = assigned (raised c p i a)

  pub raised_steps : Callees → Secrets → ℕ → StepTrees → StepTrees
  raised_steps c p i no_steps = no_steps
  raised_steps c p i (step_and (field n) rest) = step_and (field n) (raised_steps c p i rest)
  raised_steps c p i (step_and (item a s) rest) = step_and (item (raised c p i a) s) (raised_steps c p (i + length (sites_in p a)) rest)

-- the outermost expressions from the number k on, the first site having the place i
abbrev pub raised_from : Callees → (ℕ → Secrets) → ℕ → ℕ → List ExprTree → List ExprTree
raised_from c secret k i [] = []
raised_from c secret k i (e ∷ es) = raised c (secret k) i e ∷ raised_from c secret (suc k) (i + length (sites_in (secret k) e)) es

-- ---- the new functions

abbrev pub op_name : ℕ → List ℕ
op_name n = codes "op." ++ decimal n

abbrev pub operand_types : Operation → List IntType
operand_types (before op a) = a ∷ []
operand_types (conversion a) = a ∷ []
operand_types (between op a b) = a ∷ b ∷ []

abbrev pub operand_at : Span → ℕ → IntType → ExprTree
operand_at s x t = typed s (Some (Int t)) (read (place (local (record { 0 = x })) no_steps))

-- the operator on the parameters
abbrev pub operation_form : SiteTree → Operation → FormTree
operation_form x (before op a) = unary op (operand_at x.span 0 a)
operation_form x (conversion a) = convert (operand_at x.span 0 a)
operation_form x (between op a b) = chain (operand_at x.span 0 a) (link_and (link x.span (Int x.result) op (operand_at x.span 1 b)) no_links)

abbrev pub op_expr : SiteTree → ExprTree
op_expr x = typed x.span (Some (Int x.result)) (operation_form x x.operation)

abbrev pub marked_param : IntType → Param
marked_param t = record { kind = k.Int t; marked = true; declassify = false }

abbrev pub marked_operand : Span → IntType → Var
marked_operand s t = record { name = []; span = s; ty = Int t; marked = true; unpriv = false; holds = None }

-- what the function of the site with the number n is called with
abbrev pub op_signature : ℕ → SiteTree → Signature
op_signature n x = record {
  name = op_name n;
  result = Some x.result;
  params = map marked_param (operand_types x.operation);
  host = false;
  privileged = true;
  declassify = false;
}

-- the function itself: it returns the outermost expression of the number e
abbrev pub op_function : ℕ → ℕ → SiteTree → FunctionTree
op_function n e x = record {
  signature = op_signature n x;
  name = x.span;
  vars = map (marked_operand x.span) (operand_types x.operation);
  body = Some (block x.span (body_and (give_back x.span (Some (record { 0 = e }))) no_bodies));
}

-- the functions of these sites, the first of which has the number n; so many outermost expressions stand before theirs
abbrev pub op_functions : ℕ → ℕ → List SiteTree → List FunctionTree
op_functions exprs n [] = []
op_functions exprs n (x ∷ xs) = op_function n (exprs + n) x ∷ op_functions exprs (suc n) xs

-- ---- the whole tree

-- the sites in the order of their numbers
abbrev pub numbered_sites : Lifting → List SiteTree
numbered_sites l = map (λ x. site_at l x.place) l.order

abbrev pub callees : Lifting → Callees
callees l = record { first = length l.tree.functions; order = l.order }

-- The new functions stand behind all others, and what they return behind all outermost expressions. Statements,
-- variables, globals and structs are as they were.
abbrev pub lifted : Lifting → TypedTree
lifted l = record {
  structs = l.tree.structs;
  globals = l.tree.globals;
  functions = l.tree.functions ++ op_functions (length l.tree.exprs) 0 (numbered_sites l);
  exprs = raised_from (callees l) l.secret 0 0 l.tree.exprs ++ map op_expr (numbered_sites l);
}
