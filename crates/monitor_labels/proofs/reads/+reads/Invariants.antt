use Rattle.std.proofs.Common.{◌≡◌, ◌≤◌, ◌+◌, ◌*◌, ◌++◌}
use Rattle.monitor_labels.specs.Parts.{parts_size, reads_in}
use Rattle.monitor_labels.specs.Scopes.{edges_to, function_of, program_of}
use Rattle.monitor_labels.proofs.reads.+reads.Given as goal

abbrev pub decreases-add_right : goal.decreases-add_right
decreases-add_right l = 2 * parts_size l.parts

abbrev pub decreases-add_parts : goal.decreases-add_parts
decreases-add_parts l = 2 * parts_size l.first + 1

-- the edges so far, and then those of what is left
abbrev pub invariant-add_parts-loop-left : goal.invariant-add_parts-loop-left
invariant-add_parts-loop-left l = record {
  edges : l.edges.items ++ edges_to (program_of l.scope) (reads_in (function_of l.scope).id l.at) l.to ≡ l.fn.edges.items ++ edges_to (program_of l.scope) (reads_in (function_of l.scope).id l.fn.first) l.to;
  small : parts_size l.at ≤ parts_size l.fn.first;
}

abbrev pub decreases-add_parts-loop-left : goal.decreases-add_parts-loop-left
decreases-add_parts-loop-left l = parts_size l.at
