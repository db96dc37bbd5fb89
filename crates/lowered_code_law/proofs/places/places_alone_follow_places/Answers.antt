use Rattle.lowered_code_law.proofs.PlacesBodies.{places_alone}
use Rattle.lowered_code_law.proofs.places.places_alone_follow_places.Goals as goal

pub returns : goal.returns
returns c = places_alone
