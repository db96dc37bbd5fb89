-- What the operators give, over whole numbers (C99 6.5.3.3 and 6.5.5 to 6.5.12).
use Rattle.std.specs.Prelude.{◌≢◌, ◌^◌, ◌-◌, ℤ, pos, neg_ℤ, ◌+ℤ◌, ◌-ℤ◌, ◌*ℤ◌, Bool, true, false, not, ◌&&◌, if◌then◌else◌, Result, Ok, Err, int_lt, int_le, int_div, int_rem, unsigned_abs, bit_and, bit_or, bit_xor}
use Rattle.std.specs.Int.{int_div_euclid}
use Rattle.std.specs.Ordering.{int_eq}
use Rattle.pt_base.specs.declared.int_type.IntType.{IntType}
use Rattle.pt_base.specs.declared.int_type.IntType.TheVariants.{Int}
use Rattle.pt_base.specs.declared.trap.Trap.{Trap}
use Rattle.pt_base.specs.declared.trap.Trap.TheVariants.{Overflow, DivZero, Shift}
use Rattle.pt_base.specs.IntTypes.{width_of, is_signed, InRange}
use Rattle.pt_int.specs.declared.operator.BinOp.{BinOp}
use Rattle.pt_int.specs.declared.operator.BinOp.TheVariants.{Mul, Div, Rem, Add, Sub, Shl, Shr, Lt, Gt, Le, Ge, Eq, Ne, And, Xor, Or}
use Rattle.pt_int.specs.declared.operator.UnOp.{UnOp}
use Rattle.pt_int.specs.declared.operator.UnOp.TheVariants.{Minus, Plus, Flip, Not}
use Rattle.pt_int.specs.Conversion.{bits_of, of_bits, conv, is_in_range}

-- a result in its type: modulo 2 to the width where that is unsigned (C99 6.2.5p9), and a trap where it is signed and
-- lacks the number (C99 6.5p5)
abbrev pub fitted : IntType → ℤ → Result ℤ Trap
fitted t v = if is_signed t then (if is_in_range t v then Ok v else Err Overflow) else Ok (conv t v)

-- a / b, rounded towards zero (C99 6.5.5p6)
abbrev pub quotient_of : IntType → ℤ → ℤ → Result ℤ Trap
quotient_of t a b = if int_eq b (pos 0) then Err DivZero else fitted t (int_div a b)

-- a / b is a number of t
abbrev pub HasQuotient : IntType → ℤ → ℤ → Type 0
HasQuotient t a b = (b ≢ pos 0) × InRange t (int_div a b)

-- v, or the trap in its place
abbrev pub unless_trap : Result ℤ Trap → ℤ → Result ℤ Trap
unless_trap (Ok _) v = Ok v
unless_trap (Err trap) v = Err trap

-- a % b, which with a / b gives a back, and so traps where a / b does (C99 6.5.5p6)
abbrev pub remainder_of : IntType → ℤ → ℤ → Result ℤ Trap
remainder_of t a b = unless_trap (quotient_of t a b) (int_rem a b)

-- by how many bits a number of t can be shifted (C99 6.5.7p3)
abbrev pub is_amount : IntType → ℤ → Bool
is_amount t b = int_le (pos 0) b && int_lt b (pos (width_of t))

-- a times 2 to the b (C99 6.5.7p4)
abbrev pub left_shift_of : IntType → ℤ → ℤ → Result ℤ Trap
left_shift_of t a b = if is_amount t b then fitted t (a *ℤ pos (2 ^ unsigned_abs b)) else Err Shift

-- a divided by 2 to the b and rounded down (C99 6.5.7p5)
abbrev pub right_shift_of : IntType → ℤ → ℤ → Result ℤ Trap
right_shift_of t a b = if is_amount t b then Ok (int_div_euclid a (pos (2 ^ unsigned_abs b))) else Err Shift

-- 1 for what holds and 0 for what doesn't
abbrev pub truth : Bool → ℤ
truth holds = if holds then pos 1 else pos 0

-- a op b, where a and b are numbers of t, and b of any type at a shift
unfoldable pub binary_of : BinOp → IntType → ℤ → ℤ → Result ℤ Trap
binary_of Mul t a b = fitted t (a *ℤ b)
binary_of Div t a b = quotient_of t a b
binary_of Rem t a b = remainder_of t a b
binary_of Add t a b = fitted t (a +ℤ b)
binary_of Sub t a b = fitted t (a -ℤ b)
binary_of Shl t a b = left_shift_of t a b
binary_of Shr t a b = right_shift_of t a b
binary_of Lt t a b = Ok (truth (int_lt a b))
binary_of Gt t a b = Ok (truth (int_lt b a))
binary_of Le t a b = Ok (truth (int_le a b))
binary_of Ge t a b = Ok (truth (int_le b a))
binary_of Eq t a b = Ok (truth (int_eq a b))
binary_of Ne t a b = Ok (truth (not (int_eq a b)))
binary_of And t a b = Ok (of_bits t (bit_and (bits_of t a) (bits_of t b)))
binary_of Xor t a b = Ok (of_bits t (bit_xor (bits_of t a) (bits_of t b)))
binary_of Or t a b = Ok (of_bits t (bit_or (bits_of t a) (bits_of t b)))

-- op a, where a is a number of t
unfoldable pub unary_of : UnOp → IntType → ℤ → Result ℤ Trap
unary_of Minus t a = fitted t (neg_ℤ a)
unary_of Plus t a = Ok a
unary_of Flip t a = Ok (of_bits t (bit_xor (bits_of t a) (2 ^ width_of t - 1)))
unary_of Not t a = Ok (truth (int_eq a (pos 0)))

-- the operators whose right operand has a type of its own
abbrev pub is_shift : BinOp → Bool
is_shift Shl = true
is_shift Shr = true
is_shift _ = false

-- the type of a op b: int where it tells a truth (C99 6.5.8p6, 6.5.9p3)
abbrev pub binary_type : BinOp → IntType → IntType
binary_type Lt t = Int
binary_type Gt t = Int
binary_type Le t = Int
binary_type Ge t = Int
binary_type Eq t = Int
binary_type Ne t = Int
binary_type _ t = t

-- the type of op a: int where it tells a truth (C99 6.5.3.3p5)
abbrev pub unary_type : UnOp → IntType → IntType
unary_type Not t = Int
unary_type _ t = t
