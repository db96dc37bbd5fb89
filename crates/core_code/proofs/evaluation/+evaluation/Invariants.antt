use Rattle.std.proofs.Common.{◌+◌, ◌*◌}
use Rattle.core_code.proofs.evaluation.+evaluation.Given as goal

abbrev pub decreases-value : goal.decreases-value
decreases-value l = 4 * goal.size-value l + 1

abbrev pub decreases-location : goal.decreases-location
decreases-location l = 4 * goal.size-location l + 1

abbrev pub decreases-location_behind : goal.decreases-location_behind
decreases-location_behind l = 4 * goal.size-location_behind l

abbrev pub decreases-value_behind : goal.decreases-value_behind
decreases-value_behind l = 4 * goal.size-value_behind l + 1

abbrev pub decreases-pointer_to : goal.decreases-pointer_to
decreases-pointer_to l = 4 * goal.size-pointer_to l + 2

abbrev pub decreases-value_of_unary : goal.decreases-value_of_unary
decreases-value_of_unary l = 4 * goal.size-value_of_unary l

abbrev pub decreases-value_of_binary : goal.decreases-value_of_binary
decreases-value_of_binary l = 4 * goal.size-value_of_binary l

abbrev pub decreases-value_converted : goal.decreases-value_converted
decreases-value_converted l = 4 * goal.size-value_converted l

abbrev pub decreases-pointer_moved : goal.decreases-pointer_moved
decreases-pointer_moved l = 4 * goal.size-pointer_moved l

abbrev pub decreases-pointers_compared : goal.decreases-pointers_compared
decreases-pointers_compared l = 4 * goal.size-pointers_compared l

abbrev pub decreases-pointers_apart : goal.decreases-pointers_apart
decreases-pointers_apart l = 4 * goal.size-pointers_apart l
