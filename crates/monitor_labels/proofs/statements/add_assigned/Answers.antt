use Rattle.std.proofs.Common.{◌∙◌, ◌++◌, ◌∷◌, [], ap, sym}
use Rattle.pt_base.proofs.Results.{on_ok_implies}
use Rattle.pt_core.specs.CodeTree.{view_expr, view_place}
use Rattle.monitor_labels.specs.Nodes.{of_control}
use Rattle.monitor_labels.specs.Arrows.{is_pointer_place, place_reads, place_start, reads, start_of}
use Rattle.monitor_labels.specs.Scopes.{edges_back, function_of, program_of}
use Rattle.monitor_labels.proofs.EdgeLemmas.{assigned_added, two_and_one}
use Rattle.monitor_labels.proofs.statements.add_assigned.Goals as goal

pub returns : goal.returns
returns c =
    on_ok_implies c.add_back.result _ _
    (λ h. assigned_added (program_of c.args.scope.now) (place_start (function_of c.args.scope.now).id (view_place c.args.place.now))
    (reads (function_of c.args.scope.now).id (view_expr c.args.value.now) ++ (place_reads (function_of c.args.scope.now).id (view_place c.args.place.now) ++ of_control (function_of c.args.scope.now).id ∷ []))
    (is_pointer_place (function_of c.args.scope.now) (view_place c.args.place.now)) (start_of (function_of c.args.scope.now).id (view_expr c.args.value.now))
    c.in-Some.to c.args.edges.now.items c.add_edge.new.edges.items c.add_back.new.edges.items (sym c.in_ok-to.ensures ∙ c.in-Some.is)
    (two_and_one (program_of c.args.scope.now) (reads (function_of c.args.scope.now).id (view_expr c.args.value.now)) (place_reads (function_of c.args.scope.now).id (view_place c.args.place.now)) (of_control (function_of c.args.scope.now).id)
    c.in-Some.to c.args.scope.now.control c.args.edges.now.items c.add_reads.new.edges.items c.add_place_reads.new.edges.items c.add_edge.new.edges.items
    c.requires.control c.in_ok-add_reads.ensures c.in_ok-add_place_reads.ensures c.in_ok-add_edge.ensures)
    (h ∙ ap (λ b. c.add_edge.new.edges.items ++ edges_back (program_of c.args.scope.now) b c.in-Some.to (start_of (function_of c.args.scope.now).id (view_expr c.args.value.now))) c.is_pointer_place-pointer.ensures))
    c.add_back.ensures
