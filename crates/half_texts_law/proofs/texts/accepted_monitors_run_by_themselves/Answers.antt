use Rattle.half_texts_law.proofs.TextLemmas.{monitors_run}
use Rattle.half_texts_law.proofs.texts.accepted_monitors_run_by_themselves.Goals as goal

pub returns : goal.returns
returns c =
    monitors_run c.programs_are_well_formed.ensures c.accepted_programs_share_nothing.ensures c.accepted_halves_are_writable.ensures c.accepted_halves_keep_their_meaning.ensures
    c.half_hosts_agree.ensures c.half_host_starts_agree.ensures c.monitors_declare_hosts.ensures
