-- Small programs, on which the definitions are tried by computing. Sites and trees were found by hand first.
use Rattle.std.proofs.Common.{◌≡◌, ℕ, pos, refl, true, false, Some, None, List, [], ◌∷◌, codes, map}
use Rattle.std.specs.Fmt.{digits}
use Rattle.std.specs.List.{list_any}
use Rattle.pt_base.specs.declared.int_type.IntType.TheVariants as i
use Rattle.pt_base.specs.declared.span.Span.{Span}
use Rattle.pt_int.specs.declared.operator.BinOp.TheVariants.{Add, Mul}
use Rattle.pt_int.specs.declared.operator.UnOp.TheVariants.{Minus}
use Rattle.pt_tree.specs.declared.signature.Elem.TheVariants as el
use Rattle.typed_tree.specs.declared.link.LinkStep.TheVariants.{Arithmetic, MoveBy, Difference}
use Rattle.typed_tree.specs.declared.types.VarTy.{VarTy}
use Rattle.typed_tree.specs.declared.types.VarTy.TheVariants as ty
use Rattle.typed_tree.specs.declared.variable.Var.{Var}
use Rattle.typed_tree.specs.Cells.{leaves_of}
use Rattle.typed_tree.specs.ExpressionTree as t
use Rattle.typed_tree.specs.ExpressionTree.{ExprTree, LinkTree, PlaceTree, typed, place, no_steps, link, link_trees, expr_trees}
use Rattle.typed_tree.specs.StatementTree.{block, evaluate, give_back, body_trees}
use Rattle.typed_tree.specs.TypedTree.{FunctionTree, TypedTree}
use Rattle.typed_tree.specs.WellFormed.{is_well_formed}
use Rattle.lifted_trees.specs.Sites.{before, conversion, between, SiteTree, Secrets, span_of, same_span, sites_in}
use Rattle.lifted_trees.specs.Lifted.{Lifting, all_sites, lifted}

-- ---- short ways to write trees

abbrev span : ℕ → ℕ → Span
span from to = record { from = from; to = to }

abbrev int : VarTy
int = ty.Int i.Int

abbrev long : VarTy
long = ty.Int i.Long

abbrev local : ℕ → PlaceTree
local x = place (t.local (record { 0 = x })) no_steps

abbrev value : VarTy → ℕ → ℕ → ℕ → ExprTree
value of from to x = typed (span from to) (Some of) (t.read (local x))

abbrev number : VarTy → ℕ → ℕ → ℕ → ExprTree
number of from to n = typed (span from to) (Some of) (t.constant (pos n))

abbrev chain : VarTy → ℕ → ℕ → ExprTree → List LinkTree → ExprTree
chain of from to a ls = typed (span from to) (Some of) (t.chain a (link_trees ls))

abbrev plus : ℕ → ℕ → ExprTree → LinkTree
plus from to b = link (span from to) int (Arithmetic Add i.Int) b

abbrev call : VarTy → ℕ → ℕ → ℕ → List ExprTree → ExprTree
call of from to g es = typed (span from to) (Some of) (t.call (record { 0 = g }) (expr_trees es))

abbrev assign : ℕ → ExprTree → ExprTree
assign x a = typed (span 0 0) (Some int) (t.assign (local x) a)

abbrev marked : VarTy → Var
marked of = record { name = []; span = span 0 0; ty = of; marked = true; unpriv = false; holds = None }

abbrev main : List Var → ℕ → FunctionTree
main vars last = record {
  signature = record { name = codes "main"; result = Some i.Int; params = []; host = false; privileged = false; declassify = false };
  name = span 0 0;
  vars = vars;
  body = Some (block (span 0 0) (body_trees (evaluate (span 0 0) (record { 0 = 0 }) ∷ give_back (span 0 0) (Some (record { 0 = last })) ∷ [])));
}

abbrev program : List Var → ExprTree → TypedTree
program vars e = record { structs = []; globals = []; functions = main vars 1 ∷ []; exprs = e ∷ number int 0 0 0 ∷ [] }

-- the expressions with these spans give secrets
abbrev at_spans : List Span → Secrets
at_spans spans e = list_any (same_span (span_of e)) spans

abbrev lifting : TypedTree → List Span → List (ℕ × (ℕ × ℕ)) → Lifting
lifting tree spans order = record { tree = tree; secret = λ k. at_spans spans; order = map (λ x. record { span = span x.0 x.1.0; place = x.1.1 }) order }

-- ---- int main(void) { priv int x; x = 1 + x * 2; return 0; }
-- the product is evaluated first, and stands behind the sum: op.0 is the sum, op.1 the product

abbrev numbers : TypedTree
numbers = program (marked int ∷ []) (assign 0 (chain int 186 195 (number int 186 187 1)
    (plus 186 195 (chain int 190 195 (value int 190 191 0) (link (span 190 195) int (Arithmetic Mul i.Int) (number int 194 195 2) ∷ [])) ∷ [])))

abbrev numbers_lifting : Lifting
numbers_lifting = lifting numbers (span 190 191 ∷ span 190 195 ∷ span 186 195 ∷ []) ((186, (195, 1)) ∷ (190, (195, 0)) ∷ [])

abbrev product : SiteTree
product = record { operation = between (Arithmetic Mul i.Int) i.Int i.Int; result = i.Int; span = span 190 195 }

abbrev sum : SiteTree
sum = record { operation = between (Arithmetic Add i.Int) i.Int i.Int; result = i.Int; span = span 186 195 }

numbers_sites : all_sites numbers_lifting ≡ product ∷ sum ∷ []
numbers_sites = refl

numbers_lifted : (lifted numbers_lifting).exprs
    ≡ assign 0 (call int 186 195 1 (number int 186 187 1 ∷ call int 190 195 2 (value int 190 191 0 ∷ number int 194 195 2 ∷ []) ∷ []))
    ∷ number int 0 0 0
    ∷ chain int 186 195 (value int 186 195 0) (plus 186 195 (value int 186 195 1) ∷ [])
    ∷ chain int 190 195 (value int 190 195 0) (link (span 190 195) int (Arithmetic Mul i.Int) (value int 190 195 1) ∷ []) ∷ []
numbers_lifted = refl

numbers_names : map (λ f. f.signature.name) (lifted numbers_lifting).functions ≡ codes "main" ∷ codes "op.0" ∷ codes "op.1" ∷ []
unfolding digits
numbers_names = refl

-- ---- int main(void) { priv int x; priv long w; w = x + 1 + 2L; return 0; }
-- the sum so far is converted to long without a node of its own: three sites, of which the inner two have one span

abbrev widened : TypedTree
widened = program (marked int ∷ marked long ∷ []) (typed (span 0 0) (Some long) (t.assign (local 1) (chain long 216 226 (value int 216 217 0)
    (plus 216 221 (number int 220 221 1) ∷ link (span 216 226) long (Arithmetic Add i.Long) (number long 224 226 2) ∷ []))))

abbrev widened_lifting : Lifting
widened_lifting = lifting widened (span 216 217 ∷ span 216 226 ∷ []) ((216, (221, 0)) ∷ (216, (221, 1)) ∷ (216, (226, 2)) ∷ [])

widened_sites : all_sites widened_lifting
    ≡ record { operation = between (Arithmetic Add i.Int) i.Int i.Int; result = i.Int; span = span 216 221 }
    ∷ record { operation = conversion i.Int; result = i.Long; span = span 216 221 }
    ∷ record { operation = between (Arithmetic Add i.Long) i.Long i.Long; result = i.Long; span = span 216 226 } ∷ []
widened_sites = refl

widened_lifted : (lifted widened_lifting).exprs
    ≡ typed (span 0 0) (Some long) (t.assign (local 1) (call long 216 226 3 (call long 216 221 2 (call int 216 221 1 (value int 216 217 0 ∷ number int 220 221 1 ∷ []) ∷ []) ∷ number long 224 226 2 ∷ [])))
    ∷ number int 0 0 0
    ∷ chain int 216 221 (value int 216 221 0) (plus 216 221 (value int 216 221 1) ∷ [])
    ∷ typed (span 216 221) (Some long) (t.convert (value int 216 221 0))
    ∷ chain long 216 226 (value long 216 226 0) (link (span 216 226) long (Arithmetic Add i.Long) (value long 216 226 1) ∷ []) ∷ []
widened_lifted = refl

widened_well : is_well_formed (lifted widened_lifting) ≡ true
unfolding is_well_formed leaves_of digits
widened_well = refl

-- ---- 1 + x + p, where p points to an int: the pointer is moved by what a request gives, and is no site

abbrev pointer : VarTy
pointer = ty.Pointer (el.Int i.Int) false

abbrev moves : ExprTree
moves = chain pointer 10 19 (number int 10 11 1) (plus 10 15 (value int 14 15 0) ∷ link (span 10 19) pointer MoveBy (value pointer 18 19 1) ∷ [])

moves_sites : sites_in (at_spans (span 14 15 ∷ [])) moves ≡ record { operation = between (Arithmetic Add i.Int) i.Int i.Int; result = i.Int; span = span 10 15 } ∷ []
moves_sites = refl

moves_lifted : (lifted (lifting (program (marked int ∷ marked pointer ∷ []) moves) (span 14 15 ∷ []) ((10, (15, 0)) ∷ []))).exprs
    ≡ chain pointer 10 19 (call int 10 15 1 (number int 10 11 1 ∷ value int 14 15 0 ∷ [])) (link (span 10 19) pointer MoveBy (value pointer 18 19 1) ∷ [])
    ∷ number int 0 0 0 ∷ chain int 10 15 (value int 10 15 0) (plus 10 15 (value int 10 15 1) ∷ []) ∷ []
moves_lifted = refl

-- ---- p - q + k: a difference of pointers looks at no secret, and the long that it gives is an operand

abbrev apart : ExprTree
apart = chain long 10 19 (value pointer 10 11 1) (link (span 10 15) long Difference (value pointer 14 15 2) ∷ link (span 10 19) long (Arithmetic Add i.Long) (value long 18 19 0) ∷ [])

apart_lifted : (lifted (lifting (program (marked long ∷ marked pointer ∷ marked pointer ∷ []) apart) (span 18 19 ∷ span 10 11 ∷ []) ((10, (19, 0)) ∷ []))).exprs
    ≡ call long 10 19 1 (chain long 10 15 (value pointer 10 11 1) (link (span 10 15) long Difference (value pointer 14 15 2) ∷ []) ∷ value long 18 19 0 ∷ [])
    ∷ number int 0 0 0 ∷ chain long 10 19 (value long 10 19 0) (link (span 10 19) long (Arithmetic Add i.Long) (value long 10 19 1) ∷ []) ∷ []
apart_lifted = refl

-- ---- c += x, where the conversion of x to the type of c isn't written, and c += (long)x

abbrev steps : ℕ → ExprTree
steps from = typed (span 10 24) (Some long) (t.compound (local 1) (span 10 11) (Arithmetic Add i.Long) (typed (span from 24) (Some long) (t.convert (typed (span 20 24) (Some int) (t.unary Minus (value int 21 22 0))))))

steps_sites : sites_in (at_spans (span 21 22 ∷ span 20 24 ∷ [])) (steps 20) ≡ record { operation = before Minus i.Int; result = i.Int; span = span 20 24 } ∷ []
steps_sites = refl

cast_sites : sites_in (at_spans (span 21 22 ∷ span 20 24 ∷ [])) (steps 14)
    ≡ record { operation = before Minus i.Int; result = i.Int; span = span 20 24 } ∷ record { operation = conversion i.Int; result = i.Long; span = span 14 24 } ∷ []
cast_sites = refl

-- nothing is lifted where nothing is secret
same_tree : lifted (lifting widened [] []) ≡ widened
same_tree = refl
