-- Where operators work on secrets: the sites of a program.
use Rattle.std.specs.Prelude.{List, [], ◌∷◌, ◌++◌, Option, Some, Bool, true, false, not, ◌&&◌, ◌||◌, if◌then◌else◌, is_some, nat_eq, unwrap_or}
use Rattle.pt_base.specs.declared.int_type.IntType.{IntType}
use Rattle.pt_base.specs.declared.int_type.IntType.TheVariants as i
use Rattle.pt_base.specs.declared.span.Span.{Span}
use Rattle.pt_int.specs.declared.operator.UnOp.{UnOp}
use Rattle.typed_tree.specs.declared.link.LinkStep.{LinkStep}
use Rattle.typed_tree.specs.declared.link.LinkStep.TheVariants.{Arithmetic, Shift, Move, MoveBy, Difference, Compare}
use Rattle.typed_tree.specs.declared.types.VarTy.{VarTy}
use Rattle.typed_tree.specs.declared.types.VarTy.TheVariants.{Int}
use Rattle.typed_tree.specs.ExpressionTree.{ExprTree, FormTree, ExprTrees, LinkTrees, OperandTrees, PlaceTree, RootTree, StepTrees, typed, constant, null, read, decay, address, unary, convert, discard, chain, logical, choice, assign, compound, step, call, no_exprs, expr_and, link, no_links, link_and, operand, no_operands, operand_and, place, local, global, deref, assigned, field, item, no_steps, step_and}
use Rattle.typed_tree.specs.TypeTests.{integer_of, both_int}
use Rattle.typed_tree.specs.WellFormedExpression.{ty_of}

-- ---- what a site is

-- an operator on integers of these types
pub data Operation : Type 0 where
  before : UnOp → IntType → Operation
  conversion : IntType → Operation
  between : LinkStep → IntType → IntType → Operation

-- an operator with the type of what it gives, and where it stands
pub record SiteTree : Type 0 where
  pub operation : Operation
  pub result : IntType
  pub span : Span

-- which expressions may give a secret
abbrev pub Secrets : Type 0
Secrets = ExprTree → Bool

abbrev pub span_of : ExprTree → Span
span_of (typed s t f) = s

abbrev pub same_span : Span → Span → Bool
same_span a b = nat_eq a.from b.from && nat_eq a.to b.to

abbrev pub is_number : Option VarTy → Bool
is_number t = is_some (integer_of t)

-- the integer type; int where it is none
abbrev pub int_of : Option VarTy → IntType
int_of t = unwrap_or (integer_of t) i.Int

-- a conversion of an integer to another integer type
abbrev pub changes_int : Option VarTy → Option VarTy → Bool
changes_int a b = (is_number a && is_number b) && not (both_int (integer_of a) (integer_of b))

-- ---- steps of a chain

-- an operator on integers
abbrev pub is_operator : LinkStep → Bool
is_operator (Arithmetic op t) = true
is_operator (Shift left) = true
is_operator (Move back) = false
is_operator MoveBy = false
is_operator Difference = false
is_operator (Compare op) = false

-- the type in which an operator takes the value so far, which has this one (C99 6.3.1.8)
abbrev pub left_type : Option VarTy → LinkStep → IntType
left_type ty (Arithmetic op t) = t
left_type ty _ = int_of ty

-- Whether a secret comes into what a step gives: of an operator by either side. A moved pointer has what the pointer
-- has, and a difference or comparison of pointers looks at none of what they point to.
abbrev pub secret_behind : Bool → LinkStep → Bool → Bool
secret_behind far (Arithmetic op t) own = far || own
secret_behind far (Shift left) own = far || own
secret_behind far (Move back) own = far
secret_behind far MoveBy own = own
secret_behind far Difference own = false
secret_behind far (Compare op) own = false

-- ---- the sites of an expression

-- the site alone, where there is one
abbrev pub site_if : Bool → Operation → Option VarTy → Span → List SiteTree
site_if holds operation to s = if holds then record { operation = operation; result = int_of to; span = s } ∷ [] else []

-- that of an operator before its operand
abbrev pub unary_site : Bool → Span → UnOp → Option VarTy → Option VarTy → List SiteTree
unary_site secret s op from to = site_if (secret && is_number from) (before op (int_of from)) to s

-- that of a conversion
abbrev pub conversion_site : Bool → Span → Option VarTy → Option VarTy → List SiteTree
conversion_site secret s from to = site_if (secret && changes_int from to) (conversion (int_of from)) to s

-- that of the conversion of the value so far to the type in which its step takes it: it has no node of its own
abbrev pub left_site : Bool → Span → Option VarTy → LinkStep → List SiteTree
left_site far at ty op = conversion_site (far && is_operator op) at ty (Some (Int (left_type ty op)))

-- that of a step, from a value of the first type with an operand of the second
abbrev pub step_site : Bool → Span → LinkStep → Option VarTy → Option VarTy → VarTy → List SiteTree
step_site secret s op ty own to = site_if (is_operator op && secret) (between op (left_type ty op) (int_of own)) (Some to) s

abbrev mutual
  -- in the order of evaluation, an operand's before its operator's
  pub sites_in : Secrets → ExprTree → List SiteTree
  sites_in p (typed s t f) = form_sites p s t f

  pub form_sites : Secrets → Span → Option VarTy → FormTree → List SiteTree
  form_sites p s t (constant v) = []
  form_sites p s t null = []
  form_sites p s t (read x) = place_sites p x
  form_sites p s t (decay x) = place_sites p x
  form_sites p s t (address x) = place_sites p x
  form_sites p s t (unary op a) = sites_in p a ++ unary_site (p a) s op (ty_of a) t
  form_sites p s t (convert a) = sites_in p a ++ conversion_site (p a) s (ty_of a) t
  form_sites p s t (discard a) = sites_in p a
  form_sites p s t (chain a ls) = sites_in p a ++ links_sites p (span_of a) (ty_of a) (p a) ls
  form_sites p s t (logical op a os) = sites_in p a ++ operands_sites p os
  form_sites p s t (choice a b d) = sites_in p a ++ (sites_in p b ++ sites_in p d)
  form_sites p s t (assign x a) = place_sites p x ++ sites_in p a
  form_sites p s t (compound x at op a) = place_sites p x ++ taken_sites p a
  form_sites p s t (step x at back postfix) = place_sites p x
  form_sites p s t (call g arguments) = all_sites_in p arguments

  -- of the operand of a compound assignment: a conversion that isn't written, which has its operand's span, is a step of
  -- the assignment and no site; one that is written begins before its operand
  pub taken_sites : Secrets → ExprTree → List SiteTree
  taken_sites p (typed s t (convert a)) = sites_in p a ++ conversion_site (p a && not (same_span s (span_of a))) s (ty_of a) t
  taken_sites p (typed s t f) = form_sites p s t f

  -- of the links behind a value with this span and type, which may be a secret
  pub links_sites : Secrets → Span → Option VarTy → Bool → LinkTrees → List SiteTree
  links_sites p at ty far no_links = []
  links_sites p at ty far (link_and (link s to op b) rest) =
      left_site far at ty op
      ++ (sites_in p b ++ (step_site (far || p b) s op ty (ty_of b) to ++ links_sites p s (Some to) (secret_behind far op (p b)) rest))

  pub operands_sites : Secrets → OperandTrees → List SiteTree
  operands_sites p no_operands = []
  operands_sites p (operand_and (operand s a) rest) = sites_in p a ++ operands_sites p rest

  pub all_sites_in : Secrets → ExprTrees → List SiteTree
  all_sites_in p no_exprs = []
  all_sites_in p (expr_and a rest) = sites_in p a ++ all_sites_in p rest

  pub place_sites : Secrets → PlaceTree → List SiteTree
  place_sites p (place r ss) = root_sites p r ++ steps_sites p ss

  pub root_sites : Secrets → RootTree → List SiteTree
  root_sites p (local v) = []
  root_sites p (global g) = []
  root_sites p (deref a s) = sites_in p a
  root_sites p (assigned a) = sites_in p a

  pub steps_sites : Secrets → StepTrees → List SiteTree
  steps_sites p no_steps = []
  steps_sites p (step_and (field k) rest) = steps_sites p rest
  steps_sites p (step_and (item a s) rest) = sites_in p a ++ steps_sites p rest
