use Rattle.low_views_law.proofs.ToldBootsBoots.{boots_same}
use Rattle.low_views_law.proofs.told_boots.boots_tell_nothing_privileged.Goals as goal

pub returns : goal.returns
returns c = boots_same c.lowering_sees_one_body.ensures c.lowered_code_names_what_the_body_names.ensures c.accepted_programs_share_nothing.ensures
