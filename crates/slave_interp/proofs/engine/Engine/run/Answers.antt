use Rattle.std.proofs.Common.{ap, refl}
use Rattle.std.specs.Prelude.{is_some}
use Rattle.core_machine.specs.States.{answer_of}
use Rattle.slave_interp.specs.Hearing.{Hearing}
use Rattle.slave_interp.proofs.ReachedLemmas.{gone, goes_from, may_ask, no_more, reached}
use Rattle.slave_interp.proofs.engine.Engine.run.Goals as goal

pub run-requires : goal.run-requires
run-requires c = ap (λ (h : Hearing). is_some h.wrote) c.clear.ensures

pub after-requires : goal.after-requires
after-requires c = may_ask c.args.self.now c.run.new.self c.clear.new.self c.run.new.gate c.in_ok-stepped.field-0.stepped c.in_ok-stepped.field-0.left c.args.most c.requires c.clear.ensures c.in_ok-stepped.ensures

pub overflow_sub-result : goal.overflow_sub-result
overflow_sub-result c = no_more c.args.self.now c.run.new.self c.clear.new.self c.run.new.gate c.in_ok-stepped.field-0.stepped c.in_ok-stepped.field-0.left c.args.most c.requires c.clear.ensures c.in_ok-stepped.ensures

pub returns : goal.returns
returns c from is =
    gone (record c.args.self.now { machine = c.run.new.self; gate = c.run.new.gate }) c.after.new.self (answer_of c.in_ok-stepped.field-0.stepped) c.in_ok-stepped.field-0.left c.args.most _ from c.in_ok-next.next refl (goes_from c.args.self.now from is)
    (reached c.args.self.now c.run.new.self c.clear.new.self c.run.new.gate c.in_ok-stepped.field-0.stepped c.in_ok-stepped.field-0.left c.args.most c.clear.ensures from is c.in_ok-stepped.ensures)
    c.in_ok-next.ensures
