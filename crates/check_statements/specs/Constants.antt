-- The expressions that may be the values of cases and of globals: constants and negated constants.
use Rattle.std.specs.Prelude.{neg_ℤ, Option, Some, None}
use Rattle.pt_base.specs.IntTypes.{promoted}
use Rattle.pt_int.specs.Conversion.{conv}
use Rattle.pt_tree.specs.declared.operator.PrefixOp.{PrefixOp}
use Rattle.pt_tree.specs.declared.operator.PrefixOp.TheVariants as op
use Rattle.pt_tree.specs.declared.word.Constant.{Constant}
use Rattle.pt_tree.specs.ExpressionTree as e
use Rattle.check_statements.specs.declared.constants.Number.{Number}

-- the constant that an expression is
abbrev pub constant_of : e.ExprTree → Option Constant
constant_of (e.constant c) = Some c
constant_of (e.name w) = None
constant_of (e.prefix s op a) = None
constant_of (e.cast s specs pointer a) = None
constant_of (e.postfix s a ps) = None
constant_of (e.chain s a ls) = None
constant_of (e.choice s a b c) = None
constant_of (e.assign s op a b) = None

abbrev pub plain_number : Constant → Number
plain_number c = record { ty = c.ty; value = c.value }

-- `-` computes in the promoted type (C99 6.5.3.3p3)
abbrev pub minus : Constant → Number
minus c = record { ty = promoted c.ty; value = conv (promoted c.ty) (neg_ℤ (conv (promoted c.ty) c.value)) }

abbrev pub minus_of : Option Constant → Option Number
minus_of None = None
minus_of (Some c) = Some (minus c)

-- what stands behind a prefix operator, where that is `-`
abbrev pub signed_number : PrefixOp → Option Constant → Option Number
signed_number op.AddressOf c = None
signed_number op.Dereference c = None
signed_number op.Plus c = None
signed_number op.Minus c = minus_of c
signed_number op.Complement c = None
signed_number op.Not c = None
signed_number op.Increment c = None
signed_number op.Decrement c = None

-- the number that the expression is, if it is one
abbrev pub number_of : e.ExprTree → Option Number
number_of (e.constant c) = Some (plain_number c)
number_of (e.prefix s op a) = signed_number op (constant_of a)
number_of (e.name w) = None
number_of (e.cast s specs pointer a) = None
number_of (e.postfix s a ps) = None
number_of (e.chain s a ls) = None
number_of (e.choice s a b c) = None
number_of (e.assign s op a b) = None
