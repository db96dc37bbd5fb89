use Rattle.std.proofs.Common.{ap}
use Rattle.core_machine.specs.States.{answer_of}
use Rattle.slave_interp.proofs.engine.Engine.after.Goals as goal

pub ask-requires : goal.ask-requires
ask-requires c = c.requires c.in-Asked.callee.0 c.in-Asked.args.items c.in-Asked.depth (ap answer_of c.in-Asked.is)
