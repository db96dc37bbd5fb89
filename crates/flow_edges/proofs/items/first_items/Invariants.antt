use Rattle.std.proofs.Common.{◌≡◌, take}
use Rattle.flow_edges.specs.ItemParts.{finished}
use Rattle.flow_edges.specs.Items.{items_of}
use Rattle.flow_edges.proofs.items.first_items.Given as goal

abbrev pub invariant-loop-step : goal.invariant-loop-step
invariant-loop-step l = take l.wanted (finished l.scope.structs.now l.parts.items l.slots.items) ≡ take l.wanted (items_of l.scope.structs.now l.fn.x)
