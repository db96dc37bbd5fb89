use Rattle.typed_tree.specs.TypedView.{view_typed}
use Rattle.stages.proofs.RungLemmas.{flow_faults, flow_stops}
use Rattle.stages.proofs.rungs.judged.Goals as goal

pub returns-in-Err-Faults-clause-stop : goal.returns-in-Err-Faults-clause-stop
returns-in-Err-Faults-clause-stop g c = λ ss t.
    let tree = view_typed c.args.program in
    flow_stops ss t tree c.in-Err-Faults.faults (flow_faults tree c.judge.result _ c.in-Err-Faults.faults c.judge.ensures c.in-Err-Faults.is c.in-Err-Faults.field-0-is)
