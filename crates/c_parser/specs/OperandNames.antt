-- The numbers of the rules of operands that have names.
use Rattle.std.specs.Prelude.{ℕ}
use Rattle.c_parser.specs.declared.operand_rule.UnaryRule.{UnaryRule}
use Rattle.c_parser.specs.declared.operand_rule.UnaryRule.TheVariants as unary
use Rattle.c_parser.specs.declared.operand_rule.PostfixRule.{PostfixRule}
use Rattle.c_parser.specs.declared.operand_rule.PostfixRule.TheVariants as postfixes
use Rattle.c_parser.specs.declared.operand_rule.PrimaryRule.{PrimaryRule}
use Rattle.c_parser.specs.declared.operand_rule.PrimaryRule.TheVariants as primary

abbrev pub unary_number : UnaryRule → ℕ
unary_number unary.Parenthesised = 93
unary_number unary.Prefixed = 94
unary_number unary.Increment = 95
unary_number unary.Decrement = 96
unary_number unary.Postfixed = 97

abbrev pub postfix_number : PostfixRule → ℕ
postfix_number postfixes.Index = 100
postfix_number postfixes.Call = 101
postfix_number postfixes.Dot = 102
postfix_number postfixes.Arrow = 103
postfix_number postfixes.Increment = 104
postfix_number postfixes.Decrement = 105
postfix_number postfixes.End = 106

abbrev pub primary_number : PrimaryRule → ℕ
primary_number primary.Name = 111
primary_number primary.Number = 112
primary_number primary.Character = 113
