use Rattle.std.proofs.Common.{Option, subst}
use Rattle.wire.specs.declared.message.Message.{Message}
use Rattle.memory_link.specs.Onward.{HandsOver}
use Rattle.memory_link.proofs.Ends.{gives_first, gives_none}
use Rattle.memory_link.proofs.slave_end.SlaveEnd.give_next.Goals as goal

pub returns-in_default-clause-given : goal.returns-in_default-clause-given
returns-in_default-clause-given g c =
    gives_none _ _ _ _ _ _ c.requires.none
    (subst (λ (o : Option Message). HandsOver c.args.window c.args.self.now.half o c.hand_over.new.half (g.C.Chooser.answers c.args.chooser.now) (g.C.Chooser.answers c.hand_over.new.chooser)) c.in_default.is c.in_ok-message.ensures)
    c.new.ensures.items

pub returns-clause-given : goal.returns-clause-given
returns-clause-given g c =
    gives_first _ _ _ _ _ c.in-Some.message _ _ c.requires.none
    (subst (λ (o : Option Message). HandsOver c.args.window c.args.self.now.half o c.hand_over.new.half (g.C.Chooser.answers c.args.chooser.now) (g.C.Chooser.answers c.hand_over.new.chooser)) c.in-Some.is c.in_ok-message.ensures)
    c.in_ok-piece.ensures.all c.in_ok-piece.ensures.spelled c.in_ok-piece.ensures.some
