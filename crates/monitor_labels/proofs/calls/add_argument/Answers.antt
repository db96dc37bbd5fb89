use Rattle.std.proofs.Common.{◌∙◌, ◌++◌, Some, ap, sym}
use Rattle.pt_base.proofs.Results.{on_ok_implies}
use Rattle.pt_core.specs.CodeTree.{view_expr}
use Rattle.monitor_labels.specs.Nodes.{of_variable, slot_of}
use Rattle.monitor_labels.specs.Arrows.{is_pointer_variable, reads, start_of}
use Rattle.monitor_labels.specs.Scopes.{edges_back, function_of, program_of}
use Rattle.monitor_labels.proofs.EdgeLemmas.{assigned_added}
use Rattle.monitor_labels.proofs.calls.add_argument.Goals as goal

pub returns : goal.returns
returns c =
    on_ok_implies c.add_back.result _ _
    (λ h. assigned_added (program_of c.args.scope.now) (Some (of_variable (function_of c.args.callee.now).id c.args.parameter.0)) (reads (function_of c.args.scope.now).id (view_expr c.args.argument.now))
    (is_pointer_variable (function_of c.args.callee.now) c.args.parameter.0) (start_of (function_of c.args.scope.now).id (view_expr c.args.argument.now))
    c.in_ok-to.to c.args.edges.now.items c.add_reads.new.edges.items c.add_back.new.edges.items
    (ap Some (sym (c.in_ok-to.ensures ∙ ap (λ q. slot_of q (of_variable (function_of c.args.callee.now).id c.args.parameter.0)) c.requires.program))) c.in_ok-add_reads.ensures
    (h ∙ ap (λ b. c.add_reads.new.edges.items ++ edges_back (program_of c.args.scope.now) b c.in_ok-to.to (start_of (function_of c.args.scope.now).id (view_expr c.args.argument.now))) c.is_pointer_variable-pointer.ensures))
    c.add_back.ensures
