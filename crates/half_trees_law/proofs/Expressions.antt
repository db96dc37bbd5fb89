-- The trees of expressions and places are plain.
use Rattle.std.proofs.Common.{◌≡◌, ◌∙◌, ℕ, ◌+◌, Some, ℤ, pos, negsuc, true, List, [], ◌∷◌, refl, ap, sym, arith, if◌then◌else◌}
use Rattle.std.specs.Prelude.{◌&&◌, int_le, is_some}
use Rattle.std.specs.List.{list_all}
use Rattle.std.proofs.lemmas.Bool.{and_parts, cond_both, eqb-true, eq-eqb}
use Rattle.pt_base.specs.IntTypes.{high_of}
use Rattle.pt_base.specs.declared.int_type.IntType.{IntType}
use Rattle.pt_base.specs.declared.int_type.IntType.TheVariants as i
use Rattle.pt_int.specs.Conversion.{is_in_range}
use Rattle.pt_tree.specs.declared.operator.BinaryOp.{BinaryOp}
use Rattle.pt_tree.specs.declared.operator.BinaryOp.TheVariants as o
use Rattle.pt_tree.specs.ExpressionTree as c
use Rattle.pt_tree.specs.ExpressionTree.{PostfixTree, PostfixTrees, LinkTree, LinkTrees}
use Rattle.typed_tree.specs.declared.types.StructInfo.{StructInfo}
use Rattle.typed_tree.specs.declared.types.VarTy.{VarTy}
use Rattle.typed_tree.specs.declared.link.LinkStep.TheVariants as step
use Rattle.typed_tree.specs.TypeTests.{integer_of, is_scalar, pointee_of, element_of, item_of}
use Rattle.typed_tree.specs.TypeRules.{stepped}
use Rattle.pt_core.specs.CodeTree.{RootTree, local, global, deref, PlaceTree, place, ExprTree, constant, read, unary, binary, convert, null, address, decay, move, compare, difference}
use Rattle.pt_core.specs.Types.{Context, type_at, global_type, field_type, pointee_type, type_of, place_type, root_type}
use Rattle.pt_core.specs.WellFormedExpression.{is_path, takes_one, takes_two, is_addressed, expr_fits, place_fits, root_fits}
use Rattle.c_printer.specs.Kinds.{binding, chain_binding}
use Rattle.c_printer.specs.Plain.{is_constant_type, expr_plain, links_plain, link_plain, postfix_plain, postfixes_plain, has_links, has_postfixes}
use Rattle.half_trees.specs.Names.{nowhere, word, local_name, global_name, field_name}
use Rattle.half_trees.specs.Expressions.{number, wide_constant, cast_to, constant_tree, level_of, binds_alike, operator_of, one_link, with_link, chain_of, are_alike, linked, with_postfixes, extended, postfixed, dots, pointed, expression_tree, place_tree, root_tree}
use Rattle.half_trees_law.proofs.Tests.{both}
use Rattle.half_trees_law.proofs.Names.{local_is_name, global_is_name, field_is_name}
use Rattle.half_trees_law.proofs.Specifiers.{int_specs_plain}

-- ---- constants

not_below_zero : (n : ℕ) → int_le (pos 0) (pos n) ≡ true
not_below_zero n = grind arith

pub number_plain : (t : IntType) (n : ℕ) → is_constant_type t ≡ true → int_le (pos n) (high_of t) ≡ true → expr_plain (number t n) ≡ true
number_plain t n is high = both is (both (not_below_zero n) high)

-- an int, by what is known of it
int_plain : (v : ℤ) → is_in_range i.Int v ≡ true → expr_plain (wide_constant i.Int v) ≡ true
int_plain (pos n) h = number_plain i.Int n refl (grind (arith, h))
int_plain (negsuc n) h = number_plain i.Int n refl (grind (arith, h))

long_plain : (v : ℤ) → is_in_range i.Long v ≡ true → expr_plain (wide_constant i.Long v) ≡ true
long_plain (pos n) h = number_plain i.Long n refl (grind (arith, h))
long_plain (negsuc n) h = number_plain i.Long n refl (grind (arith, h))

unsigned_plain : (v : ℤ) → is_in_range i.UInt v ≡ true → expr_plain (wide_constant i.UInt v) ≡ true
unsigned_plain (pos n) h = number_plain i.UInt n refl (grind (arith, h))
unsigned_plain (negsuc n) h = grind (arith, h)

unsigned_long_plain : (v : ℤ) → is_in_range i.ULong v ≡ true → expr_plain (wide_constant i.ULong v) ≡ true
unsigned_long_plain (pos n) h = number_plain i.ULong n refl (grind (arith, h))
unsigned_long_plain (negsuc n) h = grind (arith, h)

cast_plain : (t : IntType) (a : c.ExprTree) → expr_plain a ≡ true → expr_plain (cast_to t a) ≡ true
cast_plain t a h = both (int_specs_plain t) h

-- a type narrower than int has no numbers that int hasn't
char_is_int : (v : ℤ) → is_in_range i.Char v ≡ true → is_in_range i.Int v ≡ true
char_is_int (pos n) h = grind (arith, h)
char_is_int (negsuc n) h = grind (arith, h)

byte_is_int : (v : ℤ) → is_in_range i.UChar v ≡ true → is_in_range i.Int v ≡ true
byte_is_int (pos n) h = grind (arith, h)
byte_is_int (negsuc n) h = grind (arith, h)

short_is_int : (v : ℤ) → is_in_range i.Short v ≡ true → is_in_range i.Int v ≡ true
short_is_int (pos n) h = grind (arith, h)
short_is_int (negsuc n) h = grind (arith, h)

unsigned_short_is_int : (v : ℤ) → is_in_range i.UShort v ≡ true → is_in_range i.Int v ≡ true
unsigned_short_is_int (pos n) h = grind (arith, h)
unsigned_short_is_int (negsuc n) h = grind (arith, h)

constant_plain : (t : IntType) (v : ℤ) → is_in_range t v ≡ true → expr_plain (constant_tree t v) ≡ true
constant_plain i.Char v h = cast_plain i.Char (wide_constant i.Int v) (int_plain v (char_is_int v h))
constant_plain i.SChar v h = cast_plain i.SChar (wide_constant i.Int v) (int_plain v (char_is_int v h))
constant_plain i.UChar v h = cast_plain i.UChar (wide_constant i.Int v) (int_plain v (byte_is_int v h))
constant_plain i.Short v h = cast_plain i.Short (wide_constant i.Int v) (int_plain v (short_is_int v h))
constant_plain i.UShort v h = cast_plain i.UShort (wide_constant i.Int v) (int_plain v (unsigned_short_is_int v h))
constant_plain i.Int v h = int_plain v h
constant_plain i.UInt v h = unsigned_plain v h
constant_plain i.Long v h = long_plain v h
constant_plain i.ULong v h = unsigned_long_plain v h

-- ---- chains

-- both definitions order the operators alike
binding_is : (op : BinaryOp) → binding op ≡ level_of op + 2
binding_is o.LogicalOr = refl
binding_is o.LogicalAnd = refl
binding_is o.BitOr = refl
binding_is o.BitXor = refl
binding_is o.BitAnd = refl
binding_is o.Equal = refl
binding_is o.NotEqual = refl
binding_is o.Less = refl
binding_is o.Greater = refl
binding_is o.LessEqual = refl
binding_is o.GreaterEqual = refl
binding_is o.ShiftLeft = refl
binding_is o.ShiftRight = refl
binding_is o.Add = refl
binding_is o.Subtract = refl
binding_is o.Multiply = refl
binding_is o.Divide = refl
binding_is o.Remainder = refl

same_binding : (a b : BinaryOp) → binds_alike a b ≡ true → binding b ≡ binding a
same_binding a b h = binding_is b ∙ ap (λ n. n + 2) (sym (eqb-true (level_of a) (level_of b) h)) ∙ sym (binding_is a)

link_is_plain : (tight : ℕ) (op : BinaryOp) (b : c.ExprTree) → binding op ≡ tight → expr_plain b ≡ true → link_plain tight (one_link op b) ≡ true
link_is_plain tight op b is h = both (eq-eqb (binding op) tight is) h

longer_plain : (tight : ℕ) (links : LinkTrees) (l : LinkTree) → links_plain tight links ≡ true → link_plain tight l ≡ true → links_plain tight (with_link links l) ≡ true
longer_plain tight c.no_links l h k = both k refl
longer_plain tight (c.link_and m rest) l h k = let parts = and_parts (link_plain tight m) (links_plain tight rest) h in both parts.0 (longer_plain tight rest l parts.1 k)

chain_plain : (op : BinaryOp) (a b : c.ExprTree) → expr_plain a ≡ true → expr_plain b ≡ true → expr_plain (chain_of op a b) ≡ true
chain_plain op a b h k = both h (both (link_is_plain (binding op) op b refl k) refl)

extended_chain : (a : c.ExprTree) (links : LinkTrees) (op : BinaryOp) (b : c.ExprTree) → expr_plain a ≡ true → links_plain (chain_binding links) links ≡ true → are_alike links op ≡ true → expr_plain b ≡ true → expr_plain (c.chain nowhere a (with_link links (one_link op b))) ≡ true
extended_chain a c.no_links op b h k is i = both h (both (link_is_plain (binding op) op b refl i) refl)
extended_chain a (c.link_and (c.link s first d) rest) op b h k is i =
    both h (longer_plain (binding first) (c.link_and (c.link s first d) rest) (one_link op b) k (link_is_plain (binding first) op b (same_binding first op is) i))

linked_plain : (op : BinaryOp) (a b : c.ExprTree) → expr_plain a ≡ true → expr_plain b ≡ true → expr_plain (linked op a b) ≡ true
linked_plain op (c.chain s a links) b h k =
    let parts = and_parts (expr_plain a) (has_links links && links_plain (chain_binding links) links) h in
    let both_links = and_parts (has_links links) (links_plain (chain_binding links) links) parts.1 in
    cond_both (are_alike links op) (c.chain nowhere a (with_link links (one_link op b))) (chain_of op (c.chain s a links) b) (λ x. expr_plain x ≡ true)
    (λ is. extended_chain a links op b parts.0 both_links.1 is k) (λ is. chain_plain op (c.chain s a links) b h k)
linked_plain op (c.name w) b h k = chain_plain op (c.name w) b h k
linked_plain op (c.constant n) b h k = chain_plain op (c.constant n) b h k
linked_plain op (c.prefix s q a) b h k = chain_plain op (c.prefix s q a) b h k
linked_plain op (c.cast s specs pointer a) b h k = chain_plain op (c.cast s specs pointer a) b h k
linked_plain op (c.postfix s a ps) b h k = chain_plain op (c.postfix s a ps) b h k
linked_plain op (c.choice s x y z) b h k = chain_plain op (c.choice s x y z) b h k
linked_plain op (c.assign s q x y) b h k = chain_plain op (c.assign s q x y) b h k

-- ---- places

postfix_trees_plain : (ps : List PostfixTree) → list_all postfix_plain ps ≡ true → postfixes_plain (c.postfix_trees ps) ≡ true
postfix_trees_plain [] h = refl
postfix_trees_plain (p ∷ ps) h = let parts = and_parts (postfix_plain p) (list_all postfix_plain ps) h in both parts.0 (postfix_trees_plain ps parts.1)

more_plain : (ps : PostfixTrees) (more : List PostfixTree) → postfixes_plain ps ≡ true → list_all postfix_plain more ≡ true → postfixes_plain (with_postfixes ps more) ≡ true
more_plain c.no_postfixes more h k = postfix_trees_plain more k
more_plain (c.postfix_and p rest) more h k = let parts = and_parts (postfix_plain p) (postfixes_plain rest) h in both parts.0 (more_plain rest more parts.1 k)

some_postfixes : (ps : PostfixTrees) (p : PostfixTree) (more : List PostfixTree) → has_postfixes (with_postfixes ps (p ∷ more)) ≡ true
some_postfixes c.no_postfixes p more = refl
some_postfixes (c.postfix_and q rest) p more = refl

-- an operand with postfixes of its own
operand_plain : (a : c.ExprTree) (p : PostfixTree) (ps : List PostfixTree) → expr_plain a ≡ true → list_all postfix_plain (p ∷ ps) ≡ true → expr_plain (c.postfix nowhere a (c.postfix_trees (p ∷ ps))) ≡ true
operand_plain a p ps h k = both h (postfix_trees_plain (p ∷ ps) k)

pub extended_plain : (a : c.ExprTree) (p : PostfixTree) (ps : List PostfixTree) → expr_plain a ≡ true → list_all postfix_plain (p ∷ ps) ≡ true → expr_plain (extended a (p ∷ ps)) ≡ true
extended_plain (c.postfix s a own) p ps h k =
    let parts = and_parts (expr_plain a) (has_postfixes own && postfixes_plain own) h in
    let both_own = and_parts (has_postfixes own) (postfixes_plain own) parts.1 in
    both parts.0 (both (some_postfixes own p ps) (more_plain own (p ∷ ps) both_own.1 k))
extended_plain (c.name w) p ps h k = operand_plain (c.name w) p ps h k
extended_plain (c.constant n) p ps h k = operand_plain (c.constant n) p ps h k
extended_plain (c.prefix s q a) p ps h k = operand_plain (c.prefix s q a) p ps h k
extended_plain (c.cast s specs pointer a) p ps h k = operand_plain (c.cast s specs pointer a) p ps h k
extended_plain (c.chain s a links) p ps h k = operand_plain (c.chain s a links) p ps h k
extended_plain (c.choice s x y z) p ps h k = operand_plain (c.choice s x y z) p ps h k
extended_plain (c.assign s q x y) p ps h k = operand_plain (c.assign s q x y) p ps h k

pub postfixed_plain : (a : c.ExprTree) (ps : List PostfixTree) → expr_plain a ≡ true → list_all postfix_plain ps ≡ true → expr_plain (postfixed a ps) ≡ true
postfixed_plain a [] h k = h
postfixed_plain a (p ∷ ps) h k = extended_plain a p ps h k

dots_plain : (structs : List StructInfo) (ty : VarTy) (path : List ℕ) → list_all postfix_plain (dots structs ty path) ≡ true
dots_plain structs ty [] = refl
dots_plain structs ty (k ∷ ks) = both (field_is_name structs ty k) (dots_plain structs (field_type structs ty k) ks)

pointed_plain : (structs : List StructInfo) (ty : VarTy) (a : c.ExprTree) (path : List ℕ) → expr_plain a ≡ true → expr_plain (pointed structs ty a path) ≡ true
pointed_plain structs ty a [] h = h
pointed_plain structs ty a (k ∷ ks) h =
    extended_plain a (c.arrow nowhere (word (field_name structs ty k))) (dots structs (field_type structs ty k) ks) h (both (field_is_name structs ty k) (dots_plain structs (field_type structs ty k) ks))

-- ---- expressions

mutual
  pub expression_plain : (a : ExprTree) (k : Context) → expr_fits k a ≡ true → expr_plain (expression_tree k a) ≡ true
  expression_plain (constant t v) k h = constant_plain t v h
  expression_plain (read p) k h = place_plain p k (and_parts (place_fits k p) (is_scalar (Some (place_type k p))) h).0
  expression_plain (unary op t a s) k h = expression_plain a k (and_parts (expr_fits k a) (takes_one op t (type_of k a)) h).0
  expression_plain (binary op t a b s) k h =
      let fit = and_parts (expr_fits k a) (expr_fits k b) (and_parts (expr_fits k a && expr_fits k b) (takes_two op t (type_of k a) (type_of k b)) h).0 in
      linked_plain (operator_of op) (expression_tree k a) (expression_tree k b) (expression_plain a k fit.0) (expression_plain b k fit.1)
  expression_plain (convert t a) k h = cast_plain t (expression_tree k a) (expression_plain a k (and_parts (expr_fits k a) (is_some (integer_of (Some (type_of k a)))) h).0)
  expression_plain (null elem) k h = refl
  expression_plain (address p) k h = place_plain p k (and_parts (place_fits k p) (is_addressed p && is_some (element_of (Some (place_type k p)))) h).0
  expression_plain (decay p) k h = place_plain p k (and_parts (place_fits k p) (is_some (item_of (Some (place_type k p)))) h).0
  expression_plain (move a b back s) k h =
      let fit = and_parts (expr_fits k a) (expr_fits k b) (and_parts (expr_fits k a && expr_fits k b) (is_some (stepped (Some (type_of k a)) (step.Move back) (Some (type_of k b)))) h).0 in
      linked_plain (if back then o.Subtract else o.Add) (expression_tree k a) (expression_tree k b) (expression_plain a k fit.0) (expression_plain b k fit.1)
  expression_plain (compare op a b s) k h =
      let fit = and_parts (expr_fits k a) (expr_fits k b) (and_parts (expr_fits k a && expr_fits k b) (is_some (stepped (Some (type_of k a)) (step.Compare op) (Some (type_of k b)))) h).0 in
      linked_plain (operator_of op) (expression_tree k a) (expression_tree k b) (expression_plain a k fit.0) (expression_plain b k fit.1)
  expression_plain (difference a b s) k h =
      let fit = and_parts (expr_fits k a) (expr_fits k b) (and_parts (expr_fits k a && expr_fits k b) (is_some (stepped (Some (type_of k a)) step.Difference (Some (type_of k b)))) h).0 in
      linked_plain o.Subtract (expression_tree k a) (expression_tree k b) (expression_plain a k fit.0) (expression_plain b k fit.1)

  pub place_plain : (p : PlaceTree) (k : Context) → place_fits k p ≡ true → expr_plain (place_tree k p) ≡ true
  place_plain (place root path) k h = root_plain root path k (and_parts (root_fits k root) (is_path k.structs (root_type k root) path) h).0

  root_plain : (root : RootTree) (path : List ℕ) (k : Context) → root_fits k root ≡ true → expr_plain (root_tree k root path) ≡ true
  root_plain (local v) path k h = postfixed_plain (c.name (word (local_name v))) (dots k.structs (type_at k.variables v) path) (local_is_name v) (dots_plain k.structs (type_at k.variables v) path)
  root_plain (global g) path k h = postfixed_plain (c.name (word (global_name g))) (dots k.structs (global_type k g) path) (global_is_name g) (dots_plain k.structs (global_type k g) path)
  root_plain (deref a s) path k h =
      pointed_plain k.structs (pointee_type (type_of k a)) (expression_tree k a) path (expression_plain a k (and_parts (expr_fits k a) (is_some (pointee_of (Some (type_of k a)))) h).0)
