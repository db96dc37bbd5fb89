-- Numbers of expressions are in the ranges of their types.
use Rattle.std.proofs.Common.{◌≡◌, ◌<◌, ◌^◌, ℕ, ℤ, pos, ◌-ℤ◌, refl, sym, subst, arith, Bool, true, false, Option, Some, None, Result, Ok, Err, IfOk, if◌then◌else◌, List}
use Rattle.std.specs.Prelude.{IsTrue, ◌&&◌, nat_eq}
use Rattle.std.proofs.lemmas.Int.{ints}
use Rattle.pt_base.specs.declared.int_type.IntType.{IntType}
use Rattle.pt_base.specs.declared.int_type.IntType.TheVariants as i
use Rattle.pt_base.specs.declared.span.Span.{Span}
use Rattle.pt_base.specs.declared.trap.Trap.{Trap}
use Rattle.pt_base.specs.IntTypes.{InRange}
use Rattle.pt_int.specs.declared.operator.BinOp.{BinOp}
use Rattle.pt_int.specs.declared.operator.UnOp.{UnOp}
use Rattle.pt_int.specs.declared.operator.UnOp.TheVariants.{Minus, Plus, Flip, Not}
use Rattle.pt_int.specs.Conversion.{conv, is_in_range}
use Rattle.pt_int.specs.Operator.{binary_of, unary_of, binary_type, unary_type}
use Rattle.pt_int.proofs.Conversions.{conv-in_range}
use Rattle.pt_int.proofs.Ranges.{around_zero, binary_of-range, unary_of-range}
use Rattle.typed_tree.specs.declared.types.VarTy.{VarTy}
use Rattle.typed_tree.specs.declared.types.VarTy.TheVariants.{Int, Struct, Array, Pointer}
use Rattle.typed_tree.specs.declared.types.StructInfo.{StructInfo}
use Rattle.typed_tree.specs.TypeTests.{same_int}
use Rattle.typed_tree.proofs.SameTypes.{equal_ints}
use Rattle.runs.specs.Pointers.{Target, difference, both_indices, if_ok}
use Rattle.block_memory.specs.declared.cell.Cell.{Cell}
use Rattle.block_memory.specs.declared.cell.Cell.TheVariants as cell
use Rattle.block_memory.specs.declared.cell.Pointer.TheVariants as pointer
use Rattle.block_memory.specs.declared.cell.BlockName.{BlockName}
use Rattle.block_memory.specs.Blocks.{Blocks, is_same_name}
use Rattle.pt_core.specs.Values.{at_span, number_in, target_of, converted, is_type, unary_operand, right_operand, numbered, told}
use Rattle.core_soundness_law.specs.Kept.{Kept}
use Rattle.core_soundness_law.specs.Fits.{IntegerFits, ValueFits}

pub in_range : (t : IntType) (v : ℤ) → InRange t v → IsTrue (is_in_range t v)
in_range t v h = grind (arith, ints, h.0, h.1)

pub range_of : (t : IntType) (v : ℤ) → IsTrue (is_in_range t v) → InRange t v
range_of t v h = (grind (arith, ints), grind (arith, ints))

-- the number of a cell that fits; a handle's is 0
number_range : (kept : Kept) (t : IntType) (v : Cell) → IntegerFits kept t v → InRange t (number_in v)
number_range kept t (cell.Int v) h = range_of t v h
number_range kept t (cell.Ptr p) h = elim h [ ]
number_range kept t (cell.Sealed n) h = around_zero t

numbered_fits : (kept : Kept) (t : IntType) (s : Span) (r : Result ℤ Trap) → IfOk r (InRange t) → IfOk (numbered (at_span s r)) (IntegerFits kept t)
numbered_fits kept t s (Ok v) h = in_range t v h
numbered_fits kept t s (Err trap) h = tt {0}

operand_range : (kept : Kept) (op : UnOp) (t : IntType) (v : Cell) → IntegerFits kept t v → InRange t (unary_operand op t v)
operand_range kept Minus t v h = conv-in_range t (number_in v)
operand_range kept Plus t v h = conv-in_range t (number_in v)
operand_range kept Flip t v h = conv-in_range t (number_in v)
operand_range kept Not t v h = number_range kept t v h

pub unary_fits : (kept : Kept) (op : UnOp) (t : IntType) (s : Span) (v : Cell) → IntegerFits kept t v → IfOk (numbered (at_span s (unary_of op t (unary_operand op t v)))) (IntegerFits kept (unary_type op t))
unary_fits kept op t s v h = numbered_fits kept (unary_type op t) s (unary_of op t (unary_operand op t v)) (unary_of-range op t (unary_operand op t v) (operand_range kept op t v h))

pub binary_fits : (kept : Kept) (op : BinOp) (t : IntType) (s : Span) (v w : Cell) → IfOk (numbered (at_span s (binary_of op t (conv t (number_in v)) (right_operand op t w)))) (IntegerFits kept (binary_type op t))
binary_fits kept op t s v w =
    numbered_fits kept (binary_type op t) s (binary_of op t (conv t (number_in v)) (right_operand op t w))
    (binary_of-range op t (conv t (number_in v)) (right_operand op t w) (conv-in_range t (number_in v))
    (λ h. subst (λ b. InRange t (if b then number_in w else conv t (number_in w))) (sym h) (conv-in_range t (number_in w))))

-- a handle passes a conversion to the type of the number that it stands for
pub converted_fits : (kept : Kept) (structs : List StructInfo) (blocks : Blocks) (depth : ℕ) (ty : VarTy) (to : IntType) (v : Cell) → ValueFits kept structs blocks depth ty v → IntegerFits kept to (converted (is_type ty to) to v)
converted_fits kept structs blocks depth ty to (cell.Int v) f = in_range to (conv to v) (conv-in_range to v)
converted_fits kept structs blocks depth ty to (cell.Ptr p) f = in_range to (pos 0) (around_zero to)
converted_fits kept structs blocks depth (Int t) to (cell.Sealed h) f = go (same_int t to) refl
  where
    go : (same : Bool) → same_int t to ≡ same → IntegerFits kept to (if same then cell.Sealed h else cell.Int (pos 0))
    go true e = subst (λ u. IsTrue (kept u h)) (equal_ints t to e) f
    go false e = in_range to (pos 0) (around_zero to)
converted_fits kept structs blocks depth (Struct n) to (cell.Sealed h) f = elim f [ ]
converted_fits kept structs blocks depth (Array elem count) to (cell.Sealed h) f = elim f [ ]
converted_fits kept structs blocks depth (Pointer elem fixed) to (cell.Sealed h) f = elim f [ ]

pub zero_fits : (kept : Kept) (t : IntType) → IntegerFits kept t (cell.Int (pos 0))
zero_fits kept t = in_range t (pos 0) (around_zero t)

pub told_fits : (kept : Kept) (s : Span) (r : Result Bool Trap) → IfOk (told (at_span s r)) (IntegerFits kept i.Int)
told_fits kept s (Ok true) = refl
told_fits kept s (Ok false) = refl
told_fits kept s (Err trap) = tt {0}

-- ---- differences

-- an index that 32 bits hold
abbrev IsNear : Option (Target BlockName) → Type 0
IsNear None = Unit {0}
IsNear (Some p) = p.index < 2 ^ 32

near : (kept : Kept) (structs : List StructInfo) (blocks : Blocks) (depth : ℕ) (ty : VarTy) (v : Cell) → ValueFits kept structs blocks depth ty v → IsNear (target_of v)
near kept structs blocks depth (Int t) (cell.Int v) f = tt {0}
near kept structs blocks depth (Int t) (cell.Ptr p) f = elim f [ ]
near kept structs blocks depth (Int t) (cell.Sealed h) f = tt {0}
near kept structs blocks depth (Struct n) v f = elim f [ ]
near kept structs blocks depth (Array elem count) v f = elim f [ ]
near kept structs blocks depth (Pointer elem fixed) (cell.Int v) f = elim f [ ]
near kept structs blocks depth (Pointer elem fixed) (cell.Sealed h) f = elim f [ ]
near kept structs blocks depth (Pointer elem fixed) (cell.Ptr pointer.Null) f = tt {0}
near kept structs blocks depth (Pointer elem fixed) (cell.Ptr (pointer.At block base count index)) f = let few = f.few in let within = f.within in omega (arith, few, within)

apart : (m n : ℕ) → m < 2 ^ 32 → n < 2 ^ 32 → InRange i.Long (pos m -ℤ pos n)
apart m n h k = (omega (arith, ints, h, k), omega (arith, ints, h, k))

between : (kept : Kept) (s : Span) (p q : Option (Target BlockName)) → IsNear p → IsNear q → IfOk (numbered (at_span s (difference is_same_name p q))) (IntegerFits kept i.Long)
between kept s None q h k = tt {0}
between kept s (Some p) None h k = tt {0}
between kept s (Some p) (Some q) h k = go (is_same_name p.block q.block && (nat_eq p.base q.base && nat_eq p.count q.count))
  where
    go : (b : Bool) → IfOk (numbered (at_span s (if_ok (both_indices b p.index q.index) (λ ij. ij.0 -ℤ ij.1)))) (IntegerFits kept i.Long)
    go true = in_range i.Long (pos p.index -ℤ pos q.index) (apart p.index q.index h k)
    go false = tt {0}

pub difference_fits : (kept : Kept) (structs : List StructInfo) (blocks : Blocks) (depth : ℕ) (s : Span) (a b : VarTy) (v w : Cell) → ValueFits kept structs blocks depth a v → ValueFits kept structs blocks depth b w →
    IfOk (numbered (at_span s (difference is_same_name (target_of v) (target_of w)))) (IntegerFits kept i.Long)
difference_fits kept structs blocks depth s a b v w f g = between kept s (target_of v) (target_of w) (near kept structs blocks depth a v f) (near kept structs blocks depth b w g)
