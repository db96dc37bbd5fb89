use Rattle.std.proofs.Common.{◌≡◌, ◌-◌}
use Rattle.typed_tree.specs.Cells.{repeated}
use Rattle.marshalling.specs.Shape.{fits_range}
use Rattle.marshalling.proofs.shape.range_fits.Given as goal

abbrev pub invariant-loop : goal.invariant-loop
invariant-loop l = fits_range l.marked (repeated (l.count - l.counter) l.leaves) l.rest ≡ fits_range l.marked (repeated l.count l.leaves) l.cells
