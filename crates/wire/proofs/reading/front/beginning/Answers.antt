use Rattle.std.proofs.Common.{arith, inl}
use Rattle.wire.proofs.Front.{number_none_short, found_too_long, found_cut, found_frame, found_fault, found_message}
use Rattle.wire.proofs.reading.front.beginning.Goals as goal

pub returns-in_default-clause-ok : goal.returns-in_default-clause-ok
returns-in_default-clause-ok c = inl (number_none_short c.args.bytes.now c.in_default.ensures)

pub returns-then-size-gt-LONGEST_PAYLOAD-clause-ok : goal.returns-then-size-gt-LONGEST_PAYLOAD-clause-ok
returns-then-size-gt-LONGEST_PAYLOAD-clause-ok c =
    found_too_long c.args.bytes.now c.in-Some.size c.in-Some.tail.now (λ i. omega (arith, c.type_inv.bytes i)) c.in-Some.ensures c.if-size-gt-LONGEST_PAYLOAD.true

pub returns-then-tail-size-clause-ok : goal.returns-then-tail-size-clause-ok
returns-then-tail-size-clause-ok c =
    found_cut c.args.bytes.now c.in-Some.size c.in-Some.tail.now (λ i. omega (arith, c.type_inv.bytes i)) c.in-Some.ensures c.if-size-gt-LONGEST_PAYLOAD.false c.if-tail-size.true

pub returns-in-Ok-clause-ok : goal.returns-in-Ok-clause-ok
returns-in-Ok-clause-ok c =
    found_message c.args.bytes.now c.in-Some.size c.in-Some.tail.now c.in-Ok.message (λ i. omega (arith, c.type_inv.bytes i)) c.in-Some.ensures c.if-size-gt-LONGEST_PAYLOAD.false c.if-tail-size.false c.in-Ok.ensures

pub returns-in-Err-Bad-clause-ok : goal.returns-in-Err-Bad-clause-ok
returns-in-Err-Bad-clause-ok c =
    found_fault c.args.bytes.now c.in-Some.size c.in-Some.tail.now c.in-Err-Bad.field-0 (λ i. omega (arith, c.type_inv.bytes i)) c.in-Some.ensures c.if-size-gt-LONGEST_PAYLOAD.false c.if-tail-size.false c.in-Err-Bad.field-0-is c.in-Err-Bad.ensures

pub returns-in-Err-Memory-clause-err : goal.returns-in-Err-Memory-clause-err
returns-in-Err-Memory-clause-err c =
    found_frame c.args.bytes.now c.in-Some.size c.in-Some.tail.now (λ i. omega (arith, c.type_inv.bytes i)) c.in-Some.ensures c.if-size-gt-LONGEST_PAYLOAD.false c.if-tail-size.false
