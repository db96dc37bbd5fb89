-- Operators give what their types say.
use Rattle.std.proofs.Common.{◌≡◌, ℕ, ℤ, refl, sym, subst, Bool, true, Option, Some, None, Result, Ok, Err}
use Rattle.pt_base.specs.declared.int_type.IntType.{IntType}
use Rattle.pt_base.specs.declared.trap.Trap.{Trap}
use Rattle.pt_base.proofs.Booleans.{both_hold_second, false_not_true}
use Rattle.pt_int.specs.declared.operator.UnOp.{UnOp}
use Rattle.pt_int.specs.declared.operator.UnOp.TheVariants as u
use Rattle.pt_int.specs.Conversion.{conv}
use Rattle.pt_int.specs.Operator.{unary_of}
use Rattle.pt_tree.specs.declared.signature.Elem.{Elem}
use Rattle.runs.specs.Pointers.{if_ok, moved_index, at_index}
use Rattle.typed_tree.specs.declared.types.VarTy.{VarTy}
use Rattle.typed_tree.specs.declared.types.VarTy.TheVariants.{Int, Struct, Array, Pointer}
use Rattle.typed_tree.specs.TypeTests.{same_types, is_scalar}
use Rattle.typed_tree.specs.TypeRules as r
use Rattle.typed_tree.specs.TypeRules.{unary_fits, converts, promoted_value, is_compound, moved_type, arithmetic_type, shift_type}
use Rattle.source_meaning.specs.Memory.{Cell, number, null, pointer}
use Rattle.source_meaning.specs.Values.{Value, holds, whole, nothing, cell_of, number_in, converted_cell, converted, pointer_to, moved_cell, unary_cell}
use Rattle.source_meaning.specs.Expressions.{type_or_int}
use Rattle.source_soundness.specs.Worlds.{World, IsNumber, IsScoped, ValueFits}
use Rattle.typed_tree.proofs.SameTypes.{equal_options}

-- where there is a result, it is so
abbrev pub Gives : {A : Type 0} → (A → Type 0) → Result A Trap → Type 0
Gives Q (Ok a) = Q a
Gives Q (Err trap) = Unit {0}

pub gives_number : {A : Type 0} (r : Result A Trap) (f : A → Cell) → ((a : A) → IsNumber (f a)) → Gives IsNumber (if_ok r f)
gives_number (Ok a) f h = h a
gives_number (Err trap) f h = tt

-- a moved pointer points into the same block
pub moves : (w : World) (d : ℕ) (amount : ℤ) (c : Cell) → IsScoped w d c → Gives (IsScoped w d) (moved_cell amount c)
moves w d amount (number v) h = absurd h
moves w d amount null h = tt
moves w d amount (pointer block base count index) h = go (moved_index count index amount)
  where
    go : (o : Option ℕ) → Gives (IsScoped w d) (if_ok (at_index (record { block = block; base = base; count = count; index = index }) o) pointer_to)
    go None = tt
    go (Some i) = h

-- ---- values that fit

pub number_of_int : (w : World) (t : IntType) (v : Value) → ValueFits w (Some (Int t)) v → IsNumber (cell_of v)
number_of_int w t (holds c) h = h
number_of_int w t (whole cells) h = absurd h
number_of_int w t nothing h = absurd h

pub scoped_of_pointer : (w : World) (e : Elem) (f : Bool) (v : Value) → ValueFits w (Some (Pointer e f)) v → IsScoped w w.depth (cell_of v)
scoped_of_pointer w e f v h = subst (λ x. IsScoped w w.depth (cell_of x)) (sym h.1) h.2

pub int_fits : (w : World) (t : IntType) (c : Cell) → IsNumber c → ValueFits w (Some (Int t)) (holds c)
int_fits w t c h = h

pub pointer_fits : (w : World) (e : Elem) (f : Bool) (c : Cell) → IsScoped w w.depth c → ValueFits w (Some (Pointer e f)) (holds c)
pointer_fits w e f c h = (c, refl, h)

-- ---- operators

unary_number : (op : UnOp) (t : IntType) (c : Cell) → Gives IsNumber (unary_cell op (Int t) c)
unary_number u.Not t c = tt
unary_number u.Minus t c = gives_number (unary_of u.Minus t (conv t (number_in c))) number (λ v. tt)
unary_number u.Plus t c = gives_number (unary_of u.Plus t (conv t (number_in c))) number (λ v. tt)
unary_number u.Flip t c = gives_number (unary_of u.Flip t (conv t (number_in c))) number (λ v. tt)

-- what fits each value of a type
abbrev pub FitsAs : World → Option VarTy → Cell → Type 0
FitsAs w t c = ValueFits w t (holds c)

as_ints : (w : World) (t : IntType) (r : Result Cell Trap) → Gives IsNumber r → Gives (FitsAs w (Some (Int t))) r
as_ints w t (Ok c) h = h
as_ints w t (Err trap) h = tt

as_pointers : (w : World) (e : Elem) (f : Bool) (r : Result Cell Trap) → Gives (IsScoped w w.depth) r → Gives (FitsAs w (Some (Pointer e f))) r
as_pointers w e f (Ok c) h = (c, refl, h)
as_pointers w e f (Err trap) h = tt

at_type : (w : World) (a t : Option VarTy) (r : Result Cell Trap) → a ≡ t → Gives (FitsAs w a) r → Gives (FitsAs w t) r
at_type w a t r e h = subst (λ x. Gives (FitsAs w x) r) e h

-- both are of one type
pub same_promoted_is : (a t : Option VarTy) → r.is_same_promoted a t ≡ true → (x : IntType) × (y : IntType) × (a ≡ Some (Int x)) × (t ≡ Some (Int y))
same_promoted_is (Some (Int a)) (Some (Int b)) h = (a, b, refl, refl)
same_promoted_is None t h = false_not_true h
same_promoted_is (Some (Struct n)) t h = false_not_true h
same_promoted_is (Some (Array e n)) t h = false_not_true h
same_promoted_is (Some (Pointer e f)) t h = false_not_true h
same_promoted_is (Some (Int a)) None h = false_not_true h
same_promoted_is (Some (Int a)) (Some (Struct n)) h = false_not_true h
same_promoted_is (Some (Int a)) (Some (Array e n)) h = false_not_true h
same_promoted_is (Some (Int a)) (Some (Pointer e f)) h = false_not_true h

promoted_unary : (w : World) (op : UnOp) (a t : Option VarTy) (c : Cell) → r.is_same_promoted a t ≡ true → Gives (FitsAs w t) (unary_cell op (type_or_int a) c)
promoted_unary w op a t c h =
    let p = same_promoted_is a t h in
    subst (λ x. Gives (FitsAs w t) (unary_cell op (type_or_int x) c)) (sym p.2)
    (at_type w (Some (Int p.1)) t (unary_cell op (Int p.0) c) (sym p.3) (as_ints w p.1 (unary_cell op (Int p.0) c) (unary_number op p.0 c)))

pub unary_gives : (w : World) (op : UnOp) (a t : Option VarTy) (c : Cell) → unary_fits op a t ≡ true → Gives (FitsAs w t) (unary_cell op (type_or_int a) c)
unary_gives w u.Minus a t c h = promoted_unary w u.Minus a t c h
unary_gives w u.Plus a t c h = promoted_unary w u.Plus a t c h
unary_gives w u.Flip a t c h = promoted_unary w u.Flip a t c h
unary_gives w u.Not a t c h =
    at_type w r.int t (unary_cell u.Not (type_or_int a) c) (sym (equal_options t r.int (both_hold_second (is_scalar a) (same_types t r.int) h))) tt

pub converted_fits : (w : World) (a t : Option VarTy) (v : Value) → converts a t ≡ true → ValueFits w a v → ValueFits w t (converted (type_or_int t) v)
converted_fits w (Some (Int a)) (Some (Int b)) v h fit = number_conv v (number_of_int w a v fit)
  where
    number_conv : (v : Value) → IsNumber (cell_of v) → ValueFits w (Some (Int b)) (converted (Int b) v)
    number_conv v n = go (cell_of v) n
      where
        go : (c : Cell) → IsNumber c → ValueFits w (Some (Int b)) (holds (converted_cell (Int b) c))
        go (number x) n = tt
        go null n = absurd n
        go (pointer block base count index) n = absurd n
converted_fits w (Some (Pointer a f)) (Some (Pointer b g)) v h fit = (cell_of v, refl, scoped_of_pointer w a f v fit)
converted_fits w None t v h fit = false_not_true h
converted_fits w (Some (Struct n)) t v h fit = false_not_true h
converted_fits w (Some (Array e n)) t v h fit = false_not_true h
converted_fits w (Some (Int a)) None v h fit = false_not_true h
converted_fits w (Some (Int a)) (Some (Struct n)) v h fit = false_not_true h
converted_fits w (Some (Int a)) (Some (Array e n)) v h fit = false_not_true h
converted_fits w (Some (Int a)) (Some (Pointer e f)) v h fit = false_not_true h
converted_fits w (Some (Pointer a f)) None v h fit = false_not_true h
converted_fits w (Some (Pointer a f)) (Some (Int b)) v h fit = false_not_true h
converted_fits w (Some (Pointer a f)) (Some (Struct n)) v h fit = false_not_true h
converted_fits w (Some (Pointer a f)) (Some (Array e n)) v h fit = false_not_true h
