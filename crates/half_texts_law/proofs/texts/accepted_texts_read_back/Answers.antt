use Rattle.half_texts_law.proofs.TextLemmas.{texts_read}
use Rattle.half_texts_law.proofs.texts.accepted_texts_read_back.Goals as goal

pub returns : goal.returns
returns c =
    texts_read c.programs_are_well_formed.ensures c.slaves_are_well_formed.ensures c.monitors_are_well_formed.ensures c.accepted_programs_share_nothing.ensures c.accepted_halves_are_writable.ensures
    c.slave_trees_are_plain.ensures c.monitor_trees_are_plain.ensures c.what_is_printed_reads_back.ensures c.halves_have_no_fault.ensures c.slaves_have_no_type_fault.ensures c.monitors_declare_hosts.ensures
