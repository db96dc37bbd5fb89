use Rattle.std.proofs.Common.{ap, ◌++◌}
use Rattle.std.specs.List.{flat_map}
use Rattle.std.proofs.lemmas.List.{drop_all}
use Rattle.typed_tree.specs.TypedView.{view_typed}
use Rattle.flow_edges.specs.MoveView.{moved_edges}
use Rattle.flow_threads.specs.OwnEdges.{own_edges}
use Rattle.function_runs.proofs.JoinLemmas.{none_left}
use Rattle.flow_threads.proofs.edges.moves_of_run.Goals as goal

pub loop-f-init : goal.loop-f-init
loop-f-init g c = ap (λ ms. moved_edges ms ++ flat_map (own_edges (view_typed c.args.t.now) c.args.sides.now) c.args.functions.now) c.new-moves.ensures.items

pub returns : goal.returns
returns g c = none_left (own_edges (view_typed c.args.t.now) c.args.sides.now) _ _ _ (drop_all c.loop-f.f-index _ c.loop-f-test.false) c.loop-f.invariant
