use Rattle.marshalling.proofs.UnpackingLemmas.{faults_end}
use Rattle.marshalling.proofs.unpacking.faulty_argument.Goals as goal

pub returns-then-i-args : goal.returns-then-i-args
returns-then-i-args c = faults_end c.args.store.now _ c.args.args.now c.loop-i.i _ c.if-i-args.true c.loop-i.invariant
