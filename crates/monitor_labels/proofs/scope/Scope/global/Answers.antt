use Rattle.std.proofs.Common.{ap}
use Rattle.monitor_labels.specs.Counting.{slot}
use Rattle.monitor_labels.specs.Nodes.{globals_start}
use Rattle.monitor_labels.specs.Scopes.{program_of}
use Rattle.monitor_labels.proofs.PlaceLemmas.{global_is}
use Rattle.monitor_labels.proofs.scope.Scope.global.Goals as goal

pub returns : goal.returns
returns c =
    ap slot (global_is c.as_slice.result.now c.args.self.now.program.now.globals c.args.g.0 c.in-Some.place c.args.self.now.nodes.now.places.globals (globals_start (program_of c.args.self.now)) c.in_ok-slot.slot.0
    c.as_slice.ensures c.requires.ordered.globals c.in-Some.ensures c.requires.nodes.places.globals c.in_ok-slot.ensures)
