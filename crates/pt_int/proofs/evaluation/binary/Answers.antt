-- Each arm's result is a number of its type, since it is the operator's; the words' bits are those of the numbers.
use Rattle.std.proofs.Common.{◌≡◌, ◌∙◌, Ok, ℤ, false, ap, sym, refl, arith}
use Rattle.std.proofs.lemmas.Int.{to_z-of_z}
use Rattle.pt_base.specs.declared.int_type.IntType.{IntType}
use Rattle.pt_base.specs.IntTypes.{InRange}
use Rattle.pt_int.specs.declared.operator.BinOp.{BinOp}
use Rattle.pt_int.specs.declared.operator.BinOp.TheVariants.{And, Xor, Or}
use Rattle.pt_int.specs.Operator.{binary_of, is_shift}
use Rattle.pt_int.proofs.Ranges.{binary-range}
use Rattle.pt_int.proofs.WordBits.{and-is, or-is, xor-is}
use Rattle.pt_int.proofs.evaluation.binary.Goals as goal

-- at an operator that is no shift the right operand is in range
right : (op same : BinOp) (t : IntType) (b : ℤ) → op ≡ same → is_shift same ≡ false → (is_shift op ≡ false → InRange t b) → InRange t b
right op same t b e s h = h (ap is_shift e ∙ s)

pub returns-in-Mul-clause-range : goal.returns-in-Mul-clause-range
unfolding binary_of
returns-in-Mul-clause-range c =
    let e : c.product.result ≡ binary_of c.args.op c.args.t c.args.a c.args.b = grind (arith, to_z-of_z) in
    binary-range c.args.op c.args.t c.args.a c.args.b c.product.result c.requires.left c.requires.right e

pub returns-in-Div-clause-range : goal.returns-in-Div-clause-range
unfolding binary_of
returns-in-Div-clause-range c =
    let e : c.quotient.result ≡ binary_of c.args.op c.args.t c.args.a c.args.b = grind (arith, to_z-of_z) in
    binary-range c.args.op c.args.t c.args.a c.args.b c.quotient.result c.requires.left c.requires.right e

pub returns-in-Rem-clause-range : goal.returns-in-Rem-clause-range
unfolding binary_of
returns-in-Rem-clause-range c =
    let e : c.remainder.result ≡ binary_of c.args.op c.args.t c.args.a c.args.b = grind (arith, to_z-of_z) in
    binary-range c.args.op c.args.t c.args.a c.args.b c.remainder.result c.requires.left c.requires.right e

pub returns-in-Add-clause-range : goal.returns-in-Add-clause-range
unfolding binary_of
returns-in-Add-clause-range c =
    let e : c.sum.result ≡ binary_of c.args.op c.args.t c.args.a c.args.b = grind (arith, to_z-of_z) in
    binary-range c.args.op c.args.t c.args.a c.args.b c.sum.result c.requires.left c.requires.right e

pub returns-in-Sub-clause-range : goal.returns-in-Sub-clause-range
unfolding binary_of
returns-in-Sub-clause-range c =
    let e : c.difference.result ≡ binary_of c.args.op c.args.t c.args.a c.args.b = grind (arith, to_z-of_z) in
    binary-range c.args.op c.args.t c.args.a c.args.b c.difference.result c.requires.left c.requires.right e

pub returns-in-Shl-clause-range : goal.returns-in-Shl-clause-range
unfolding binary_of
returns-in-Shl-clause-range c =
    let e : c.left_shift.result ≡ binary_of c.args.op c.args.t c.args.a c.args.b = grind (arith, to_z-of_z) in
    binary-range c.args.op c.args.t c.args.a c.args.b c.left_shift.result c.requires.left c.requires.right e

pub returns-in-And-clause-value : goal.returns-in-And-clause-value
unfolding binary_of
returns-in-And-clause-value c =
    ap Ok (and-is c.args.t c.args.a c.args.b c.ranges.a c.ranges.b c.requires.left (right c.args.op And c.args.t c.args.b c.in-And.is refl c.requires.right))
    ∙ ap (λ (op : BinOp). binary_of op c.args.t c.args.a c.args.b) (sym c.in-And.is)

pub returns-in-And-clause-range : goal.returns-in-And-clause-range
returns-in-And-clause-range c =
    binary-range c.args.op c.args.t c.args.a c.args.b _ c.requires.left c.requires.right (returns-in-And-clause-value c)

pub returns-in-Xor-clause-value : goal.returns-in-Xor-clause-value
unfolding binary_of
returns-in-Xor-clause-value c =
    ap Ok (xor-is c.args.t c.args.a c.args.b c.ranges.a c.ranges.b c.requires.left (right c.args.op Xor c.args.t c.args.b c.in-Xor.is refl c.requires.right))
    ∙ ap (λ (op : BinOp). binary_of op c.args.t c.args.a c.args.b) (sym c.in-Xor.is)

pub returns-in-Xor-clause-range : goal.returns-in-Xor-clause-range
returns-in-Xor-clause-range c =
    binary-range c.args.op c.args.t c.args.a c.args.b _ c.requires.left c.requires.right (returns-in-Xor-clause-value c)

pub returns-in-Or-clause-value : goal.returns-in-Or-clause-value
unfolding binary_of
returns-in-Or-clause-value c =
    ap Ok (or-is c.args.t c.args.a c.args.b c.ranges.a c.ranges.b c.requires.left (right c.args.op Or c.args.t c.args.b c.in-Or.is refl c.requires.right))
    ∙ ap (λ (op : BinOp). binary_of op c.args.t c.args.a c.args.b) (sym c.in-Or.is)

pub returns-in-Or-clause-range : goal.returns-in-Or-clause-range
returns-in-Or-clause-range c =
    binary-range c.args.op c.args.t c.args.a c.args.b _ c.requires.left c.requires.right (returns-in-Or-clause-value c)
