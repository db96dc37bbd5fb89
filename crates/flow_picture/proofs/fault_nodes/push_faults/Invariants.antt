use Rattle.std.proofs.Common.{◌≡◌, ◌++◌, suc, drop}
use Rattle.source_places.specs.LinesSeen.{text_of}
use Rattle.flow_picture.specs.Kept.{node_in}
use Rattle.flow_picture.specs.PictureText.{faults_text}
use Rattle.flow_picture.proofs.fault_nodes.push_faults.Given as goal

abbrev pub invariant-loop-fault : goal.invariant-loop-fault
invariant-loop-fault l =
    (l.text.items ++ faults_text (text_of l.lines) (node_in l.nodes) l.shown (suc l.before) (drop l.fault-index l.faults)
    ≡ l.fn.text.items ++ faults_text (text_of l.fn.lines) (node_in l.fn.nodes) l.fn.shown 1 l.fn.faults)
    × (l.before ≡ l.fault-index)
