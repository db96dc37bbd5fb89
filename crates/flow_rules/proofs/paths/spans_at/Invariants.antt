use Rattle.std.proofs.Common.{◌≡◌, ◌++◌, drop}
use Rattle.flow_rules.specs.Faults.{spans_of}
use Rattle.flow_rules.proofs.paths.spans_at.Given as goal

abbrev pub invariant-loop-number : goal.invariant-loop-number
invariant-loop-number l = l.spans.items ++ spans_of l.edges (drop l.number-index l.path) ≡ spans_of l.edges l.fn.path
