use Rattle.hidden_laws.proofs.BegunBootsBegun.{boots_hosted}
use Rattle.hidden_laws.proofs.begun_boots.begun_boots_tell_own_hosts_alone.Goals as goal

pub returns : goal.returns
returns c = boots_hosted c.boots_tell_nothing_privileged.ensures c.programs_are_the_same_as_themselves.ensures c.a_text_has_one_reading.ensures
