use Rattle.std.proofs.Common.{take}
use Rattle.flow_rules.specs.Told.{AreTold}
use Rattle.flow_rules.proofs.paths.faults_of.Given as goal

abbrev pub invariant-loop-found : goal.invariant-loop-found
invariant-loop-found l = AreTold l.flows.sides.now.seeds l.edges (take l.found-index l.list) l.faults.items
