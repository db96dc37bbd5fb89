use Rattle.low_views_law.proofs.ToldBootsBoots.{boots_hosted}
use Rattle.low_views_law.proofs.told_boots.boots_tell_own_hosts_alone.Goals as goal

pub returns : goal.returns
returns c = boots_hosted c.lowered_code_names_what_the_body_names.ensures c.accepted_programs_share_nothing.ensures
