-- Declarators without a fault make good types of good bases.
use Rattle.std.proofs.Common.{rules}
use Rattle.type_law.specs.DeclarationsLaws.{ObjectsAreSound, ResultsAreSound}

pub objects_are_sound : ObjectsAreSound
objects_are_sound kind structs given pointer suffix at base none = search rules

pub results_are_sound : ResultsAreSound
results_are_sound structs given pointer suffix at base none = search rules
