use Rattle.std.proofs.Common.{◌∙◌, ap}
use Rattle.pt_core.specs.CodeTree.{view_monitor}
use Rattle.monitor_labels.specs.Counting.{slot}
use Rattle.monitor_labels.specs.Nodes.{results_start}
use Rattle.monitor_labels.proofs.PlaceLemmas.{result_is}
use Rattle.monitor_labels.proofs.scope.result_of.Goals as goal

pub returns : goal.returns
returns c =
    ap slot (result_is c.as_slice.result.now c.args.p.now.signatures c.deref.result.now (results_start (view_monitor c.args.p.now)) c.args.f.0 c.in-Some.place c.in_ok-number.number
    c.as_slice.ensures c.requires.ordered.signatures c.in-Some.ensures (c.deref.ensures.value ∙ c.requires.nodes.places.results.starts) c.in_ok-number.ensures)
