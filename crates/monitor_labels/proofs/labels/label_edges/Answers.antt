use Rattle.std.proofs.Common.{◌∙◌, ◌++◌, ap, map}
use Rattle.pt_core.specs.CodeTree.{stmt_trees, view_monitor, view_stmt}
use Rattle.monitor_labels.specs.Arrows.{all_arrows}
use Rattle.monitor_labels.specs.Labels.{edges_along}
use Rattle.monitor_labels.specs.Scopes.{function_of, program_of}
use Rattle.monitor_labels.proofs.EdgeLemmas.{labels_are}
use Rattle.monitor_labels.proofs.PlaceLemmas.{ordered}
use Rattle.monitor_labels.proofs.labels.label_edges.Goals as goal

pub scope_of-requires-clause-ordered : goal.scope_of-requires-clause-ordered
scope_of-requires-clause-ordered c = ordered (view_monitor c.args.p.now) c.requires.well_formed

pub returns : goal.returns
returns c =
    labels_are (view_monitor c.args.p.now) (program_of c.in_ok-scope.scope) c.args.f.0 (function_of c.in_ok-scope.scope) c.new-edges.result.items c.add_aliases.new.edges.items c.add_statements.new.edges.items
    c.in_ok-scope.ensures.program c.in_ok-scope.ensures.function c.new-edges.ensures.items c.in_ok-add_aliases.ensures
    (c.in_ok-add_statements.ensures ∙ ap (λ xs. c.add_aliases.new.edges.items ++ edges_along (program_of c.in_ok-scope.scope) (all_arrows (program_of c.in_ok-scope.scope) (function_of c.in_ok-scope.scope) (stmt_trees (map view_stmt xs)))) c.deref.ensures.value)
