use Rattle.slave_interp.proofs.SlaveLemmas.{once}
use Rattle.slave_interp.proofs.slave.Slave.step.Goals as goal

pub returns : goal.returns
returns c from is = once c.in_ok-said.field-0.made from c.in_ok-said.field-0.said c.run.new.self.engine c.run.new.self.doing (c.in_ok-said.ensures from is)
