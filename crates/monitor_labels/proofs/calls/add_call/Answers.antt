use Rattle.std.proofs.Common.{◌∙◌, ap, map, sym}
use Rattle.std.specs.Prelude.{option_map}
use Rattle.pt_base.specs.declared.ids.VarId.{VarId}
use Rattle.pt_base.proofs.Results.{on_ok_implies}
use Rattle.pt_tree.specs.declared.signature.Signature.{Signature}
use Rattle.pt_core.specs.CodeTree.{expr_trees, view_expr}
use Rattle.pt_core.specs.Calls.{signature_in}
use Rattle.pt_core.specs.WellFormed.{monitor_program}
use Rattle.monitor_labels.specs.Nodes.{of_variable}
use Rattle.monitor_labels.specs.Scopes.{function_of, program_of}
use Rattle.monitor_labels.proofs.EdgeLemmas.{mixed_called}
use Rattle.monitor_labels.proofs.calls.add_call.Goals as goal

pub returns-else-signature : goal.returns-else-signature
returns-else-signature c =
    on_ok_implies c.add_answer.result _ _
    (λ h. mixed_called (program_of c.args.scope.now) (function_of c.args.scope.now) c.args.callee.0 (signature_in (monitor_program (program_of c.args.scope.now)) c.args.callee.0).host
    (signature_in (monitor_program (program_of c.args.scope.now)) c.args.callee.0).privileged (expr_trees (map view_expr c.args.arguments.now))
    (option_map (of_variable (function_of c.args.scope.now).id) (option_map (λ (v : VarId). v.0) c.args.receiver)) c.in_ok-to.to c.args.edges.now.items c.add_answer.new.edges.items
    (ap (λ (x : Signature). x.host) (sym c.in_ok-signature.ensures) ∙ c.if-not-signature.false) (ap (λ (x : Signature). x.privileged) (sym c.in_ok-signature.ensures) ∙ c.if-signature.false) c.in_ok-to.ensures h)
    c.add_answer.ensures
