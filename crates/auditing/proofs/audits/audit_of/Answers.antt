use Rattle.std.proofs.Common.{◌∙◌, List, ap, map}
use Rattle.std.specs.List.{flat_map}
use Rattle.pt_core.specs.CodeTree.{view_monitor}
use Rattle.typed_tree.specs.TypedView.{view_typed}
use Rattle.monitor_labels.specs.declared.verdicts.Verdict.{Verdict}
use Rattle.monitor_labels.specs.Verdicts.{view_verdict}
use Rattle.auditing.specs.Audits.{verdict_line}
use Rattle.auditing.proofs.AuditLemmas.{is_audit_of}
use Rattle.auditing.proofs.audits.audit_of.Goals as goal

pub returns : goal.returns
returns g c =
    is_audit_of (view_typed c.args.t.now) (view_monitor c.args.monitor.now) c.in_ok-found.found.items c.in_ok-text.text.items c.in_ok-found.ensures.functions c.in_ok-found.ensures.exact
    (c.in_ok-text.ensures ∙ ap (λ (vs : List Verdict). flat_map (verdict_line (view_typed c.args.t.now)) (map view_verdict vs)) c.as_slice.ensures.value)
