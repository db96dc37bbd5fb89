use Rattle.std.proofs.Common.{◌≡◌, [], drop}
use Rattle.boot_rules.specs.Shapes.{shapes_from}
use Rattle.boot_rules.proofs.shapes.shapes_of.Given as goal

abbrev pub invariant-loop-info : goal.invariant-loop-info
invariant-loop-info l = shapes_from l.shapes.items (drop l.info-index l.structs) ≡ shapes_from [] l.fn.structs
