-- The types of expressions and of places, by those of their parts.
use Rattle.std.proofs.Common.{◌≡◌, ◌∙◌, ℕ, ℤ, List, Bool, true, false, ◌&&◌, if◌then◌else◌, Option, Some, None, is_some, option_map, refl, sym, ap, subst, nat_eq, length}
use Rattle.std.specs.Prelude.{unwrap_or}
use Rattle.std.specs.Bool.{then_some}
use Rattle.std.specs.Map.{lookup}
use Rattle.pt_base.specs.declared.int_type.IntType.{IntType}
use Rattle.pt_base.specs.declared.int_type.IntType.TheVariants as i
use Rattle.pt_base.specs.declared.span.Span.{Span}
use Rattle.pt_int.specs.declared.operator.BinOp.{BinOp}
use Rattle.pt_int.specs.declared.operator.UnOp.{UnOp}
use Rattle.pt_int.specs.Conversion.{is_in_range}
use Rattle.pt_int.specs.Operator.{binary_type, unary_type}
use Rattle.pt_tree.specs.declared.signature.Elem.{Elem}
use Rattle.typed_tree.specs.declared.types.VarTy.{VarTy}
use Rattle.typed_tree.specs.declared.types.VarTy.TheVariants.{Int, Struct, Array, Pointer}
use Rattle.typed_tree.specs.declared.types.StructInfo.{StructInfo}
use Rattle.typed_tree.specs.TypeTests as tests
use Rattle.typed_tree.specs.TypeTests.{same_type, both_elem, integer_of, item_of, pointee_of, type_of_elem}
use Rattle.typed_tree.specs.TypeRules.{int_where, is_comparison, moved_type, unary_fits}
use Rattle.typed_tree.specs.WellFormedExpression.{is_elem}
use Rattle.pt_core.specs.declared.expression.Expr.{Expr}
use Rattle.pt_core.specs.CodeTree.{view_expr, ExprTree, PlaceTree, RootTree, global, deref, place, constant, read, unary, binary, convert, null, address, decay, move, compare, difference}
use Rattle.pt_core.specs.Types.{Context, element_of, path_type, pointee_type, type_of, place_type, root_type}
use Rattle.pt_core.specs.WellFormedExpression.{expr_fits, place_fits, root_fits, is_addressed, is_path}
use Rattle.code_rules.specs.Links.{IsLink}
use Rattle.code_rules.specs.Parts.{is_number, prefixed, takes_right, joined, scalar, pointer_to, addressed, along}
use Rattle.code_rules.specs.Typing.{typed, placed, rooted}

-- ---- over tests and types

false_behind : (b : Bool) → false ≡ (b && false)
false_behind true = refl
false_behind false = refl

none_behind : (b : Bool) (x : VarTy) → None ≡ then_some (b && false) x
none_behind true x = refl
none_behind false x = refl

unary_by : (a r : Bool) (x w : VarTy) (t : IntType) → then_some (a && (same_type x (Int t) && r)) w ≡ then_some (is_number (Some t) (then_some a x) && r) w
unary_by true r x w t = refl
unary_by false r x w t = refl

binary_by : (a b : Bool) (x y w : VarTy) (op : BinOp) (t : IntType) →
    then_some ((a && b) && (same_type x (Int t) && takes_right op t (Some y))) w ≡ then_some (is_number (Some t) (then_some a x) && takes_right op t (then_some b y)) w
binary_by true true x y w op t = refl
binary_by true false x y w op t = none_behind (same_type x (Int t)) w
binary_by false b x y w op t = refl

convert_by : (a : Bool) (x w : VarTy) → then_some (a && is_some (integer_of (Some x))) w ≡ then_some (is_number None (then_some a x)) w
convert_by true x w = refl
convert_by false x w = refl

read_by : (a : Bool) (x : VarTy) → then_some (a && tests.is_scalar (Some x)) x ≡ scalar (then_some a x)
read_by true (Int t) = refl
read_by true (Struct n) = refl
read_by true (Array elem count) = refl
read_by true (Pointer elem fixed) = refl
read_by false x = refl

address_by : (a may : Bool) (x : VarTy) → then_some (a && (may && is_some (tests.element_of (Some x)))) (Pointer (element_of x) false) ≡ addressed may (then_some a x)
address_by true true (Int t) = refl
address_by true true (Struct n) = refl
address_by true true (Array elem count) = refl
address_by true true (Pointer elem fixed) = refl
address_by true false x = refl
address_by false true x = refl
address_by false false x = refl

decay_by : (a : Bool) (x : VarTy) → then_some (a && is_some (item_of (Some x))) (Pointer (element_of x) false) ≡ pointer_to (item_of (then_some a x))
decay_by true (Int t) = refl
decay_by true (Struct n) = refl
decay_by true (Array elem count) = refl
decay_by true (Pointer elem fixed) = refl
decay_by false x = refl

kept_where : (b : Bool) (x : VarTy) → then_some (is_some (if b then Some x else None)) x ≡ (if b then Some x else None)
kept_where true x = refl
kept_where false x = refl

none_where : (b : Bool) (x : VarTy) → None ≡ (if b && false then Some x else None)
none_where true x = refl
none_where false x = refl

move_by : (a b : Bool) (x y : VarTy) → then_some ((a && b) && is_some (moved_type (Some x) (Some y))) x ≡ moved_type (then_some a x) (then_some b y)
move_by true true x y = kept_where (is_some (pointee_of (Some x)) && is_some (integer_of (Some y))) x
move_by true false x y = none_where (is_some (pointee_of (Some x))) x
move_by false b x y = refl

both_none : (o : Option Elem) → both_elem o None ≡ false
both_none None = refl
both_none (Some e) = refl

none_both : (o : Option Elem) → both_elem None o ≡ false
none_both None = refl
none_both (Some e) = refl

compare_by : (a b k : Bool) (x y : VarTy) →
    then_some ((a && b) && is_some (int_where (k && both_elem (pointee_of (Some x)) (pointee_of (Some y))))) (Int i.Int) ≡ int_where (k && both_elem (pointee_of (then_some a x)) (pointee_of (then_some b y)))
compare_by true true k x y = kept_where (k && both_elem (pointee_of (Some x)) (pointee_of (Some y))) (Int i.Int)
compare_by true false k x y = none_where k (Int i.Int) ∙ ap (λ h. int_where (k && h)) (sym (both_none (pointee_of (Some x))))
compare_by false b k x y = none_where k (Int i.Int) ∙ ap (λ h. int_where (k && h)) (sym (none_both (pointee_of (then_some b y))))

abbrev long_where : Bool → Option VarTy
long_where holds = if holds then Some (Int i.Long) else None

difference_by : (a b : Bool) (x y : VarTy) →
    then_some ((a && b) && is_some (long_where (both_elem (pointee_of (Some x)) (pointee_of (Some y))))) (Int i.Long) ≡ long_where (both_elem (pointee_of (then_some a x)) (pointee_of (then_some b y)))
difference_by true true x y = kept_where (both_elem (pointee_of (Some x)) (pointee_of (Some y))) (Int i.Long)
difference_by true false x y = ap long_where (sym (both_none (pointee_of (Some x))))
difference_by false b x y = ap long_where (sym (none_both (pointee_of (then_some b y))))

place_by : (a : Bool) (x : VarTy) (structs : List StructInfo) (path : List ℕ) → then_some (a && is_path structs x path) (path_type structs x path) ≡ along structs (then_some a x) path
place_by true x structs path = refl
place_by false x structs path = refl

global_by : (o : Option VarTy) (d : VarTy) → then_some (is_some o) (unwrap_or o d) ≡ o
global_by None d = refl
global_by (Some x) d = refl

deref_by : (a : Bool) (x : VarTy) → then_some (a && is_some (pointee_of (Some x))) (pointee_type x) ≡ option_map type_of_elem (pointee_of (then_some a x))
deref_by true (Int t) = refl
deref_by true (Struct n) = refl
deref_by true (Array elem count) = refl
deref_by true (Pointer elem fixed) = refl
deref_by false x = refl

-- ---- expressions

pub of_equal : (c : Context) (a b : ExprTree) (o : Option VarTy) → a ≡ b → o ≡ typed c b → o ≡ typed c a
of_equal c a b o e h = h ∙ ap (typed c) (sym e)

pub typed_constant : (c : Context) (t : IntType) (v : ℤ) → typed c (constant t v) ≡ then_some (is_in_range t v) (Int t)
unfolding typed
typed_constant c t v = refl

pub typed_read : (c : Context) (p : PlaceTree) → typed c (read p) ≡ scalar (placed c p)
unfolding typed placed
typed_read c p = read_by (place_fits c p) (place_type c p)

pub typed_unary : (c : Context) (op : UnOp) (t : IntType) (a : ExprTree) (s : Span) → typed c (unary op t a s) ≡ prefixed op t (is_number (Some t) (typed c a))
unfolding typed
typed_unary c op t a s = unary_by (expr_fits c a) (unary_fits op (Some (Int t)) (Some (Int (unary_type op t)))) (type_of c a) (Int (unary_type op t)) t

pub typed_binary : (c : Context) (op : BinOp) (t : IntType) (a b : ExprTree) (s : Span) → typed c (binary op t a b s) ≡ joined op t (is_number (Some t) (typed c a)) (typed c b)
unfolding typed
typed_binary c op t a b s = binary_by (expr_fits c a) (expr_fits c b) (type_of c a) (type_of c b) (Int (binary_type op t)) op t

pub typed_convert : (c : Context) (to : IntType) (a : ExprTree) → typed c (convert to a) ≡ then_some (is_number None (typed c a)) (Int to)
unfolding typed
typed_convert c to a = convert_by (expr_fits c a) (type_of c a) (Int to)

pub typed_null : (c : Context) (elem : Elem) → typed c (null elem) ≡ then_some (is_elem (length c.structs) (Some elem)) (Pointer elem false)
unfolding typed
typed_null c elem = refl

pub typed_address : (c : Context) (p : PlaceTree) → typed c (address p) ≡ addressed (is_addressed p) (placed c p)
unfolding typed placed
typed_address c p = address_by (place_fits c p) (is_addressed p) (place_type c p)

pub typed_decay : (c : Context) (p : PlaceTree) → typed c (decay p) ≡ pointer_to (item_of (placed c p))
unfolding typed placed
typed_decay c p = decay_by (place_fits c p) (place_type c p)

pub typed_move : (c : Context) (a b : ExprTree) (back : Bool) (s : Span) → typed c (move a b back s) ≡ moved_type (typed c a) (typed c b)
unfolding typed
typed_move c a b back s = move_by (expr_fits c a) (expr_fits c b) (type_of c a) (type_of c b)

pub typed_compare : (c : Context) (op : BinOp) (a b : ExprTree) (s : Span) → typed c (compare op a b s) ≡ int_where (is_comparison op && both_elem (pointee_of (typed c a)) (pointee_of (typed c b)))
unfolding typed
typed_compare c op a b s = compare_by (expr_fits c a) (expr_fits c b) (is_comparison op) (type_of c a) (type_of c b)

pub typed_difference : (c : Context) (a b : ExprTree) (s : Span) → typed c (difference a b s) ≡ (if both_elem (pointee_of (typed c a)) (pointee_of (typed c b)) then Some (Int i.Long) else None)
unfolding typed
typed_difference c a b s = difference_by (expr_fits c a) (expr_fits c b) (type_of c a) (type_of c b)

-- ---- places

pub placed_place : (c : Context) (r : RootTree) (path : List ℕ) → placed c (place r path) ≡ along c.structs (rooted c r) path
unfolding placed rooted
placed_place c r path = place_by (root_fits c r) (root_type c r) c.structs path

pub rooted_global : (c : Context) (g : ℕ) → rooted c (global g) ≡ lookup (nat_eq g) c.globals
unfolding rooted
rooted_global c g = global_by (lookup (nat_eq g) c.globals) (Int i.Int)

pub rooted_deref : (c : Context) (a : ExprTree) (s : Span) → rooted c (deref a s) ≡ option_map type_of_elem (pointee_of (typed c a))
unfolding rooted typed
rooted_deref c a s = deref_by (expr_fits c a) (type_of c a)

-- ---- by what their parts give

pub seen : (c : Context) (a b : Expr) (o : Option VarTy) → a ≡ b → o ≡ typed c (view_expr a) → o ≡ typed c (view_expr b)
seen c a b o e h = h ∙ ap (λ x. typed c (view_expr x)) e

pub number_seen : (c : Context) (wanted : Option IntType) (a b : Expr) (n : Bool) → a ≡ b → n ≡ is_number wanted (typed c (view_expr a)) → n ≡ is_number wanted (typed c (view_expr b))
number_seen c wanted a b n e h = h ∙ ap (λ x. is_number wanted (typed c (view_expr x))) e

pub unary_typed : (c : Context) (op : UnOp) (t : IntType) (a : ExprTree) (s : Span) (n : Bool) (o : Option VarTy) → n ≡ is_number (Some t) (typed c a) → o ≡ prefixed op t n → o ≡ typed c (unary op t a s)
unary_typed c op t a s n o h e = e ∙ ap (λ m. prefixed op t m) h ∙ sym (typed_unary c op t a s)

pub binary_typed : (c : Context) (op : BinOp) (t : IntType) (a b : ExprTree) (s : Span) (n : Bool) (y o : Option VarTy) → n ≡ is_number (Some t) (typed c a) → y ≡ typed c b → o ≡ joined op t n y → o ≡ typed c (binary op t a b s)
binary_typed c op t a b s n y o h k e = e ∙ ap (λ m. joined op t m y) h ∙ ap (λ z. joined op t (is_number (Some t) (typed c a)) z) k ∙ sym (typed_binary c op t a b s)

pub convert_typed : (c : Context) (to : IntType) (a : ExprTree) (n : Bool) (o : Option VarTy) → n ≡ is_number None (typed c a) → o ≡ then_some n (Int to) → o ≡ typed c (convert to a)
convert_typed c to a n o h e = e ∙ ap (λ m. then_some m (Int to)) h ∙ sym (typed_convert c to a)

pub move_typed : (c : Context) (a b : ExprTree) (back : Bool) (s : Span) (x y o : Option VarTy) → x ≡ typed c a → y ≡ typed c b → o ≡ moved_type x y → o ≡ typed c (move a b back s)
move_typed c a b back s x y o h k e = e ∙ ap (λ z. moved_type z y) h ∙ ap (λ z. moved_type (typed c a) z) k ∙ sym (typed_move c a b back s)

abbrev compared_type : BinOp → Option VarTy → Option VarTy → Option VarTy
compared_type op x y = int_where (is_comparison op && both_elem (pointee_of x) (pointee_of y))

pub compare_typed : (c : Context) (op : BinOp) (a b : ExprTree) (s : Span) (x y o : Option VarTy) → x ≡ typed c a → y ≡ typed c b →
    o ≡ int_where (is_comparison op && both_elem (pointee_of x) (pointee_of y)) → o ≡ typed c (compare op a b s)
compare_typed c op a b s x y o h k e = e ∙ ap (λ z. compared_type op z y) h ∙ ap (λ z. compared_type op (typed c a) z) k ∙ sym (typed_compare c op a b s)

pub difference_typed : (c : Context) (a b : ExprTree) (s : Span) (x y o : Option VarTy) → x ≡ typed c a → y ≡ typed c b →
    o ≡ (if both_elem (pointee_of x) (pointee_of y) then Some (Int i.Long) else None) → o ≡ typed c (difference a b s)
difference_typed c a b s x y o h k e =
    e ∙ ap (λ z. long_where (both_elem (pointee_of z) (pointee_of y))) h ∙ ap (λ z. long_where (both_elem (pointee_of (typed c a)) (pointee_of z))) k ∙ sym (typed_difference c a b s)

pub address_typed : (c : Context) (p : PlaceTree) (may : Bool) (x o : Option VarTy) → may ≡ is_addressed p → x ≡ placed c p → o ≡ addressed may x → o ≡ typed c (address p)
address_typed c p may x o h k e = e ∙ ap (λ b. addressed b x) h ∙ ap (λ z. addressed (is_addressed p) z) k ∙ sym (typed_address c p)

pub place_placed : (c : Context) (r : RootTree) (path path' : List ℕ) (x o : Option VarTy) → x ≡ rooted c r → path ≡ path' → o ≡ along c.structs x path → o ≡ placed c (place r path')
place_placed c r path path' x o h k e = e ∙ ap (λ z. along c.structs z path) h ∙ ap (λ ks. along c.structs (rooted c r) ks) k ∙ sym (placed_place c r path')

pub deref_rooted : (c : Context) (a : ExprTree) (s : Span) (x o : Option VarTy) → x ≡ typed c a → o ≡ option_map type_of_elem (pointee_of x) → o ≡ rooted c (deref a s)
deref_rooted c a s x o h e = e ∙ ap (λ z. option_map type_of_elem (pointee_of z)) h ∙ sym (rooted_deref c a s)

-- ---- chains

and_true : (b : Bool) → b ≡ (b && true)
and_true true = refl
and_true false = refl

-- a type on two conditions is a number's where it is on one of them, and the other holds
number_by : (wanted : Option IntType) (a r : Bool) (w : VarTy) → is_number wanted (then_some (a && r) w) ≡ (is_number wanted (then_some r w) && a)
number_by None true r w = and_true (is_number None (then_some r w))
number_by (Some t) true r w = and_true (is_number (Some t) (then_some r w))
number_by None false r w = false_behind (is_number None (then_some r w))
number_by (Some t) false r w = false_behind (is_number (Some t) (then_some r w))

pub unary_link : (c : Context) (op : UnOp) (t : IntType) (a : ExprTree) (s : Span) → IsLink c (unary op t a s) (prefixed op t true) a (Some t)
unary_link c op t a s = record {
  same = λ wanted. ap (is_number wanted) (typed_unary c op t a s)
      ∙ number_by wanted (is_number (Some t) (typed c a)) (unary_fits op (Some (Int t)) (Some (Int (unary_type op t)))) (Int (unary_type op t));
}

pub binary_link : (c : Context) (op : BinOp) (t : IntType) (a b : ExprTree) (s : Span) → IsLink c (binary op t a b s) (joined op t true (typed c b)) a (Some t)
binary_link c op t a b s = record {
  same = λ wanted. ap (is_number wanted) (typed_binary c op t a b s)
      ∙ number_by wanted (is_number (Some t) (typed c a)) (takes_right op t (typed c b)) (Int (binary_type op t));
}

pub convert_link : (c : Context) (to : IntType) (a : ExprTree) → IsLink c (convert to a) (Some (Int to)) a None
convert_link c to a = record { same = λ wanted. ap (is_number wanted) (typed_convert c to a) ∙ on_left wanted (is_number None (typed c a)) (Int to) }
  where
    on_left : (wanted : Option IntType) (h : Bool) (w : VarTy) → is_number wanted (then_some h w) ≡ (is_number wanted (Some w) && h)
    on_left None true w = and_true (is_number None (Some w))
    on_left (Some t) true w = and_true (is_number (Some t) (Some w))
    on_left None false w = false_behind (is_number None (Some w))
    on_left (Some t) false w = false_behind (is_number (Some t) (Some w))

pub link_seen : (c : Context) (e e' : ExprTree) (whole whole' : Option VarTy) (a b : Expr) (kind : Option IntType) → e ≡ e' → whole ≡ whole' → a ≡ b → IsLink c e' whole' (view_expr b) kind → IsLink c e whole (view_expr a) kind
link_seen c e e' whole whole' a b kind h k l link =
    subst (λ x. IsLink c x whole (view_expr a) kind) (sym h) (subst (λ o. IsLink c e' o (view_expr a) kind) (sym k) (subst (λ x. IsLink c e' whole' (view_expr x) kind) (sym l) link))

-- a link whose whole isn't what is wanted
pub link_fails : (c : Context) (e left : ExprTree) (whole : Option VarTy) (kind wanted : Option IntType) (n all : Bool) → IsLink c e whole left kind → n ≡ is_number wanted whole → n ≡ false → is_number wanted (typed c e) ≡ all → false ≡ all
link_fails c e left whole kind wanted n all link h f same = ap (λ b. b && is_number kind (typed c left)) (sym f ∙ h) ∙ sym (link.same wanted) ∙ same

-- or is: its operand decides
pub link_holds : (c : Context) (e left : ExprTree) (whole : Option VarTy) (kind wanted : Option IntType) (n all : Bool) → IsLink c e whole left kind → n ≡ is_number wanted whole → n ≡ true → is_number wanted (typed c e) ≡ all → is_number kind (typed c left) ≡ all
link_holds c e left whole kind wanted n all link h f same = ap (λ b. b && is_number kind (typed c left)) (sym f ∙ h) ∙ sym (link.same wanted) ∙ same
