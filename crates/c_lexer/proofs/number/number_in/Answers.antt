use Rattle.std.proofs.Common.{◌+◌, arith}
use Rattle.std.proofs.lemmas.List.{take_all}
use Rattle.std.proofs.lemmas.Grind.{common_steps}
use Rattle.c_lexer.proofs.NumberLemmas.{number_in_le, number_in_more}
use Rattle.c_lexer.proofs.number.number_in.Goals as goal

pub returns-in_err-checked_mul : goal.returns-in_err-checked_mul
returns-in_err-checked_mul c =
    let more = number_in_more c.args.base c.args.digits.now c.loop-digit.digit-index c.loop-digit-test.true in
    let all = number_in_le c.args.base c.args.digits.now (c.loop-digit.digit-index + 1) c.requires in
    grind (arith, common_steps, more, all, c.in_err-checked_mul.ensures)

pub returns-in_err-number : goal.returns-in_err-number
returns-in_err-number c =
    let more = number_in_more c.args.base c.args.digits.now c.loop-digit.digit-index c.loop-digit-test.true in
    let all = number_in_le c.args.base c.args.digits.now (c.loop-digit.digit-index + 1) c.requires in
    grind (arith, common_steps, more, all, c.in_err-number.ensures)

pub returns : goal.returns
returns c = let all = take_all c.loop-digit.digit-index c.args.digits.now c.loop-digit-test.false in grind (arith, common_steps, all)
