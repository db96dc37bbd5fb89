use Rattle.std.proofs.Common.{◌∙◌, ap, subst, ℕ, Option}
use Rattle.std.specs.Prelude.{Result, Err}
use Rattle.wire.specs.declared.fault.WireError.{WireError}
use Rattle.wire.specs.declared.message.Message.{Message}
use Rattle.wire.specs.Steps.{Answers}
use Rattle.slave_runner.proofs.FrontLemmas.{bad_is}
use Rattle.slave_runner.proofs.hearing.next_frame.Goals as goal

pub returns-in-Err-BadFrame-clause-front : goal.returns-in-Err-BadFrame-clause-front
returns-in-Err-BadFrame-clause-front c = λ sound.
    bad_is c.args.reader.now c.next.new.self c.in-Err-BadFrame.place sound
    (subst (λ (a : Result (Option (Message × ℕ)) WireError). Answers c.args.reader.now a c.next.new.self) (c.in-Err-BadFrame.is ∙ ap (λ e. Err e) c.in-Err-BadFrame.field-0-is) c.next.ensures)
