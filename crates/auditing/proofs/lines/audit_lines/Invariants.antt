use Rattle.std.proofs.Common.{◌≡◌, ◌++◌, drop, map}
use Rattle.std.specs.List.{flat_map}
use Rattle.typed_tree.specs.TypedView.{view_typed}
use Rattle.monitor_labels.specs.Verdicts.{view_verdict}
use Rattle.auditing.specs.Audits.{verdict_line}
use Rattle.auditing.proofs.lines.audit_lines.Given as goal

abbrev pub invariant-loop-verdict : goal.invariant-loop-verdict
invariant-loop-verdict l =
    l.text.items ++ flat_map (verdict_line (view_typed l.t)) (map view_verdict (drop l.verdict-index l.verdicts)) ≡ flat_map (verdict_line (view_typed l.t)) (map view_verdict l.fn.verdicts)
