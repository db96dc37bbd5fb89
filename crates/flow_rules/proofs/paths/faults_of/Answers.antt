-- One fault after the other.
use Rattle.std.proofs.Common.{[], List, arith, subst, sym}
use Rattle.flow_rules.specs.declared.fault.FlowFault.{FlowFault}
use Rattle.flow_rules.specs.declared.found.Found.{Found}
use Rattle.flow_rules.specs.Told.{AreTold}
use Rattle.flow_rules.proofs.ToldLemmas.{all_taken, next_told}
use Rattle.std.proofs.lemmas.List.Elements.{Contains-get_or}
use Rattle.flow_rules.proofs.paths.faults_of.Goals as goal

pub fault_of-requires-clause-secret : goal.fault_of-requires-clause-secret
fault_of-requires-clause-secret c = c.requires.secret _ (Contains-get_or c.args.list.now c.loop-found.found-index _ c.loop-found-test.true)

pub loop-found-init : goal.loop-found-init
loop-found-init c = subst (λ (fs : List FlowFault). AreTold c.args.flows.now.sides.now.seeds c.args.edges.now [] fs) (sym c.new-faults.ensures.items) tt

pub loop-found-preserved : goal.loop-found-preserved
loop-found-preserved c =
    next_told c.args.flows.now.sides.now.seeds c.args.edges.now c.args.list.now c.loop-found.found-index _ c.loop-found.faults.items _ _
    c.loop-found-test.true c.in_ok-fault.ensures.told c.in_ok-push.ensures.items c.loop-found.invariant

pub returns : goal.returns
returns c =
    subst (λ (xs : List Found). AreTold c.args.flows.now.sides.now.seeds c.args.edges.now xs c.loop-found.faults.items)
    (all_taken c.args.list.now c.loop-found.found-index (grind arith)) c.loop-found.invariant
