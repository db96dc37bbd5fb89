use Rattle.pt_core.specs.CodeTree.{view_boot}
use Rattle.pair_meaning.specs.SlaveRun.{slave_of}
use Rattle.slave_interp.specs.declared.doing.Doing.TheVariants.{Goes}
use Rattle.slave_interp.proofs.SlaveLemmas.{is_there}
use Rattle.slave_interp.proofs.slave.Slave.new.Goals as goal

pub invariant_of-result : goal.invariant_of-result
invariant_of-result c = record { stands = is_there c.in_ok-engine.engine Goes (slave_of (view_boot c.args.boot)) c.in_ok-engine.ensures }
