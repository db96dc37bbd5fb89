use Rattle.std.proofs.Common.{◌≡◌, ◌++◌, drop}
use Rattle.refusal_lines.specs.FlowLines.{places_text}
use Rattle.refusal_lines.proofs.flow_faults.push_places.Given as goal

abbrev pub invariant-loop-span : goal.invariant-loop-span
invariant-loop-span l = l.line.items ++ places_text (drop l.span-index l.spans) ≡ l.fn.line.items ++ places_text l.fn.spans
