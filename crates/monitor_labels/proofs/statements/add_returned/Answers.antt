use Rattle.std.proofs.Common.{◌∙◌, ◌++◌, ap, sym}
use Rattle.std.specs.Prelude.{option_map}
use Rattle.pt_base.proofs.Results.{on_ok_implies}
use Rattle.pt_core.specs.CodeTree.{view_expr}
use Rattle.monitor_labels.specs.Nodes.{of_control, of_result}
use Rattle.monitor_labels.specs.Arrows.{reads, returned_arrows}
use Rattle.monitor_labels.specs.Labels.{edges_along}
use Rattle.monitor_labels.specs.Scopes.{function_of, program_of}
use Rattle.monitor_labels.proofs.EdgeLemmas.{returned_added}
use Rattle.monitor_labels.proofs.statements.add_returned.Goals as goal

pub returns : goal.returns
returns c =
    on_ok_implies c.add_edge.result _ _
    (λ h. returned_added (program_of c.args.scope.now) (of_result (function_of c.args.scope.now).id) (of_control (function_of c.args.scope.now).id) (reads (function_of c.args.scope.now).id (view_expr c.in-Some.value))
    c.args.scope.now.result c.args.scope.now.control c.args.edges.now.items c.add_reads.new.edges.items c.add_edge.new.edges.items c.requires.result c.requires.control c.in_ok-add_reads.ensures h
    ∙ ap (λ o. c.args.edges.now.items ++ edges_along (program_of c.args.scope.now) (returned_arrows (function_of c.args.scope.now) (option_map view_expr o))) (sym c.in-Some.is))
    c.add_edge.ensures
