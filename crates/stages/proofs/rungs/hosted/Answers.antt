use Rattle.typed_tree.specs.TypedTree.{signatures_of}
use Rattle.typed_tree.specs.TypedView.{view_typed}
use Rattle.stages.proofs.RungLemmas.{host_stops, table_faults}
use Rattle.stages.proofs.rungs.hosted.Goals as goal

pub returns-in-Err-Faults-clause-stop : goal.returns-in-Err-Faults-clause-stop
returns-in-Err-Faults-clause-stop c = λ ss t same.
    let tree = view_typed c.args.program in
    host_stops ss t tree c.args.table.now c.in-Err-Faults.faults
    (table_faults c.args.table.now (signatures_of tree) c.read_host.result _ c.in-Err-Faults.faults c.read_host.ensures.reading c.in-Err-Faults.is c.in-Err-Faults.field-0-is) same
