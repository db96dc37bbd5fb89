use Rattle.std.proofs.Common.{map}
use Rattle.typed_tree.specs.TypedView.{view_typed}
use Rattle.pt_core.specs.CodeTree.{view_function}
use Rattle.program_halves.proofs.Made.{halves_are}
use Rattle.program_halves.proofs.making.halves.Goals as goal

pub returns : goal.returns
returns g c =
    halves_are (view_typed c.args.program.now) c.args.accepted.now (map view_function c.in_ok-code.code.items) c.split.result c.in_ok-code.ensures c.split.ensures.slave c.split.ensures.monitor
