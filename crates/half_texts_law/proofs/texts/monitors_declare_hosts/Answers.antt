use Rattle.half_texts_law.proofs.TextsHosts.{declare_hosts}
use Rattle.half_texts_law.proofs.texts.monitors_declare_hosts.Goals as goal

pub returns : goal.returns
returns c = declare_hosts c.monitors_are_well_formed.ensures
