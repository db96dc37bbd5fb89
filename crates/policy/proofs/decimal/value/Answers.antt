use Rattle.std.proofs.Common.{◌+◌, arith}
use Rattle.std.proofs.lemmas.List.{take_all}
use Rattle.std.proofs.lemmas.Grind.{common_steps}
use Rattle.policy.proofs.NumberLemmas.{value_le, value_more}
use Rattle.policy.proofs.decimal.value.Goals as goal

pub returns-in_err-checked_mul : goal.returns-in_err-checked_mul
returns-in_err-checked_mul c =
    let more = value_more c.args.digits.now c.loop-digit.digit-index c.loop-digit-test.true in
    let all = value_le c.args.digits.now (c.loop-digit.digit-index + 1) in
    grind (arith, common_steps, more, all, c.in_err-checked_mul.ensures)

pub returns-in_err-number : goal.returns-in_err-number
returns-in_err-number c =
    let more = value_more c.args.digits.now c.loop-digit.digit-index c.loop-digit-test.true in
    let all = value_le c.args.digits.now (c.loop-digit.digit-index + 1) in
    grind (arith, common_steps, more, all, c.in_err-number.ensures)

pub returns : goal.returns
returns c = let all = take_all c.loop-digit.digit-index c.args.digits.now c.loop-digit-test.false in grind (arith, common_steps, all)
