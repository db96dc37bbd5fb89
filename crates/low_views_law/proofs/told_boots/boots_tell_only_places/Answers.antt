use Rattle.low_views_law.proofs.ToldBootsBoots.{boots_placed}
use Rattle.low_views_law.proofs.told_boots.boots_tell_only_places.Goals as goal

pub returns : goal.returns
returns c = boots_placed c.lowering_sees_one_body.ensures c.lowered_code_names_what_the_body_names.ensures c.accepted_programs_share_nothing.ensures c.places_alone_follow_places.ensures
