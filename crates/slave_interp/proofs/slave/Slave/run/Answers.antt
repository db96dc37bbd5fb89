use Rattle.slave_interp.proofs.SlaveLemmas.{is_going, is_moved}
use Rattle.slave_interp.proofs.slave.Slave.run.Goals as goal

pub run-requires : goal.run-requires
run-requires c = is_going c.args.self.now.engine c.args.self.now.doing c.in-Goes.is c.args.self.now.stands

pub invariant_of-self-2 : goal.invariant_of-self-2
invariant_of-self-2 c = record {
  stands = is_moved c.args.self.now.engine c.run.new.self c.in_ok-next.field-0.next.doing (is_going c.args.self.now.engine c.args.self.now.doing c.in-Goes.is c.args.self.now.stands)
      (λ from is. let g = c.in_ok-next.ensures from is in (g.to, g.there));
}
