use Rattle.std.proofs.Common.{◌∙◌, ap, subst, ℕ, Option}
use Rattle.std.specs.Prelude.{Result, Ok, Err}
use Rattle.wire.specs.declared.fault.WireError.{WireError}
use Rattle.wire.specs.declared.message.Message.{Message}
use Rattle.wire.specs.Steps.{Answers}
use Rattle.memory_link.proofs.Readings.{refuses_bad, refuses_long, takes_none, takes_one}
use Rattle.memory_link.proofs.hearing.next_message.Goals as goal

pub returns-in-Ok-Some-clause-reads : goal.returns-in-Ok-Some-clause-reads
returns-in-Ok-Some-clause-reads c = λ r.
    takes_one _ _ (c.in-Ok-Some.message, c.in-Ok-Some.field-0-0-1)
    (subst (λ (a : Result (Option (Message × ℕ)) WireError). Answers c.args.reader.now a c.next.new.self) (c.in-Ok-Some.is ∙ ap (λ o. Ok o) c.in-Ok-Some.field-0-is) c.next.ensures) r

pub returns-in-Ok-None-clause-reads : goal.returns-in-Ok-None-clause-reads
returns-in-Ok-None-clause-reads c = λ r.
    takes_none _ _
    (subst (λ (a : Result (Option (Message × ℕ)) WireError). Answers c.args.reader.now a c.next.new.self) (c.in-Ok-None.is ∙ ap (λ o. Ok o) c.in-Ok-None.field-0-is) c.next.ensures) r

pub returns-in-Err-BadFrame-clause-reads : goal.returns-in-Err-BadFrame-clause-reads
returns-in-Err-BadFrame-clause-reads c = λ r.
    refuses_bad _ _ c.in-Err-BadFrame.field-0-0
    (subst (λ (a : Result (Option (Message × ℕ)) WireError). Answers c.args.reader.now a c.next.new.self) (c.in-Err-BadFrame.is ∙ ap (λ e. Err e) c.in-Err-BadFrame.field-0-is) c.next.ensures) r

pub returns-in-Err-TooLong-clause-reads : goal.returns-in-Err-TooLong-clause-reads
returns-in-Err-TooLong-clause-reads c = λ r.
    refuses_long _ _ c.in-Err-TooLong.field-0-0
    (subst (λ (a : Result (Option (Message × ℕ)) WireError). Answers c.args.reader.now a c.next.new.self) (c.in-Err-TooLong.is ∙ ap (λ e. Err e) c.in-Err-TooLong.field-0-is) c.next.ensures) r
