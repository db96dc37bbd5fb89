use Rattle.pt_base.proofs.Results.{on_ok_implies}
use Rattle.typed_tree.specs.TypedView.{view_typed}
use Rattle.function_runs.proofs.DefinedLemmas.{defined_below}
use Rattle.flow_threads.proofs.EdgeLemmas.{moves_added}
use Rattle.flow_threads.proofs.edges.add_moves.Goals as goal

pub moves_of-requires-clause-function : goal.moves_of-requires-clause-function
moves_of-requires-clause-function c = defined_below (view_typed c.args.t.now) c.args.f c.requires.function

pub returns : goal.returns
returns c = on_ok_implies c.append.result _ _ (λ h. moves_added (view_typed c.args.t.now) c.args.sides.now c.args.f c.in_ok-own.own.items c.args.moves.now.items c.append.new.list.items c.requires.sides c.in_ok-own.ensures h) c.append.ensures
