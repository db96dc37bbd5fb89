-- Words of 64 bits, the numbers that they stand for, and what an operator on words gives.
use Rattle.std.specs.Prelude.{◌≡◌, ◌↔◌, ◌^◌, ℤ, pos, ◌+ℤ◌, Bool, true, false, Option, Some, None, Result, Ok, if◌then◌else◌, int_lt, FitsSigned}
use Rattle.std.specs.Int.{w64}
use Rattle.pt_base.specs.declared.int_type.IntType.{IntType}
use Rattle.pt_base.specs.declared.int_type.IntType.TheVariants.{Long, ULong}
use Rattle.pt_base.specs.declared.trap.Trap.{Trap}
use Rattle.pt_int.specs.declared.operator.BinOp.{BinOp}
use Rattle.pt_int.specs.declared.operator.UnOp.{UnOp}
use Rattle.pt_int.specs.declared.operator.UnOp.TheVariants.{Not}
use Rattle.pt_int.specs.Conversion.{conv}
use Rattle.pt_int.specs.Operator.{binary_of, unary_of, binary_type, unary_type, is_shift}

-- the number that a word stands for: that of its bits without sign where it is wide, of type unsigned long
abbrev pub number_of : Bool → ℤ → ℤ
number_of false w = w
number_of true w = if int_lt w (pos 0) then w +ℤ pos (2 ^ 64) else w

-- unsigned long alone has words that don't stand for themselves
abbrev pub is_wide : IntType → Bool
is_wide ULong = true
is_wide _ = false

-- whose numbers words stand for
abbrev pub word_type : Bool → IntType
word_type false = Long
word_type true = ULong

-- whether an operator at a type gives a wide word
abbrev pub gives_wide : BinOp → IntType → Bool
gives_wide op t = is_wide (binary_type op t)

-- the right operand of an operator at a type; a shift's amount is taken as it is (C99 6.5.7p3)
abbrev pub operand : BinOp → IntType → ℤ → ℤ
operand op t b = if is_shift op then b else conv t b

-- whether an operator before its operand gives a wide word
abbrev pub prefix_wide : UnOp → IntType → Bool
prefix_wide op t = is_wide (unary_type op t)

-- the operand of an operator before it; `!` asks of any number whether it is 0 (C99 6.5.3.3p5)
abbrev pub prefix_operand : UnOp → IntType → ℤ → ℤ
prefix_operand Not t a = a
prefix_operand _ t a = conv t a

-- a word that was given stands for the result; where none is, nothing is said
abbrev pub IsWord : Bool → Option ℤ → Result ℤ Trap → Type 0
IsWord wide (Some w) r = r ≡ Ok (number_of wide w)
IsWord wide None r = Unit {0}

-- a word is 0 exactly where its number is
abbrev pub IsZeroAsWord : Type 0
IsZeroAsWord = (wide : Bool) (w : ℤ) → FitsSigned w64 w → (number_of wide w ≡ pos 0) ↔ (w ≡ pos 0)

-- a conversion asks for a word's bits alone
abbrev pub ConvertsByBits : Type 0
ConvertsByBits = (wide : Bool) (t : IntType) (w : ℤ) → FitsSigned w64 w → conv t (number_of wide w) ≡ conv t w

-- what `a op b` at a type gives for two words, whichever numbers they stand for
abbrev pub GivesWord : BinOp → IntType → ℤ → ℤ → Option ℤ → Type 0
GivesWord op t a b r = (wide_a : Bool) → (wide_b : Bool) → IsWord (gives_wide op t) r (binary_of op t (conv t (number_of wide_a a)) (operand op t (number_of wide_b b)))

-- what `op a` at a type gives for a word
abbrev pub PrefixGivesWord : UnOp → IntType → ℤ → Option ℤ → Type 0
PrefixGivesWord op t a r = (wide : Bool) → IsWord (prefix_wide op t) r (unary_of op t (prefix_operand op t (number_of wide a)))
