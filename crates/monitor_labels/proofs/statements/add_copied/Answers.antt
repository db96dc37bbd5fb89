use Rattle.std.proofs.Common.{◌∙◌, ◌++◌, ◌∷◌, [], sym}
use Rattle.pt_base.proofs.Results.{on_ok_implies}
use Rattle.pt_core.specs.CodeTree.{view_place}
use Rattle.monitor_labels.specs.Nodes.{of_control}
use Rattle.monitor_labels.specs.Arrows.{place_reads, place_start}
use Rattle.monitor_labels.specs.Scopes.{function_of, program_of}
use Rattle.monitor_labels.proofs.EdgeLemmas.{added_if, two_and_one}
use Rattle.monitor_labels.proofs.statements.add_copied.Goals as goal

pub returns : goal.returns
returns c =
    on_ok_implies c.add_edge.result _ _
    (λ h. added_if (program_of c.args.scope.now) (place_start (function_of c.args.scope.now).id (view_place c.args.to.now))
    (place_reads (function_of c.args.scope.now).id (view_place c.args.of.now) ++ (place_reads (function_of c.args.scope.now).id (view_place c.args.to.now) ++ of_control (function_of c.args.scope.now).id ∷ []))
    c.in-Some.start c.args.edges.now.items c.add_edge.new.edges.items (sym c.in_ok-start.ensures ∙ c.in-Some.is)
    (two_and_one (program_of c.args.scope.now) (place_reads (function_of c.args.scope.now).id (view_place c.args.of.now)) (place_reads (function_of c.args.scope.now).id (view_place c.args.to.now)) (of_control (function_of c.args.scope.now).id)
    c.in-Some.start c.args.scope.now.control c.args.edges.now.items c.add_place_reads.new.edges.items c.add_place_reads-2.new.edges.items c.add_edge.new.edges.items
    c.requires.control c.in_ok-add_place_reads.ensures c.in_ok-add_place_reads-2.ensures h))
    c.add_edge.ensures
