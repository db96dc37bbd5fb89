use Rattle.std.proofs.Common.{◌<◌, IfSome, length, Option, subst}
use Rattle.wire.specs.declared.message.Message.{Message}
use Rattle.memory_link.specs.Reading.{Reads}
use Rattle.memory_link.proofs.Cuts.{begins, hears_all, hears_one}
use Rattle.memory_link.proofs.hearing.hear_all.Goals as goal

pub loop-message-init : goal.loop-message-init
loop-message-init c = λ r. begins _ _ r

pub returns-in_default : goal.returns-in_default
returns-in_default c = λ r.
    hears_all _ _ _ _ _ (c.loop-message.invariant r)
    (subst (λ (o : Option Message). Reads c.loop-message.reader o c.next_message.new.reader) c.in_default.is (c.in_ok-message.ensures.reads (c.loop-message.invariant r).reading))

pub loop-message-preserved : goal.loop-message-preserved
loop-message-preserved c = λ r.
    hears_one _ _ _ _ _ _ _ (c.loop-message.invariant r)
    (subst (λ (o : Option Message). Reads c.loop-message.reader o c.next_message.new.reader) c.in-Some.is (c.in_ok-message.ensures.reads (c.loop-message.invariant r).reading))
    c.in_ok-hear.ensures

pub loop-message-smaller : goal.loop-message-smaller
loop-message-smaller c = subst (λ (o : Option Message). IfSome o (λ m. length c.next_message.new.reader.unread < length c.loop-message.reader.unread)) c.in-Some.is c.in_ok-message.ensures.less
