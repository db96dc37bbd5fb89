-- A boot is the slave's program with models for its hosts.
use Rattle.pt_base.proofs.Booleans.{both_hold, both_hold_first, both_hold_second}
use Rattle.pt_core.specs.WellFormed.{is_well_formed_slave, is_well_formed_boot}
use Rattle.pt_core.specs.BootLaw.{BootsAddHosts}

pub boots_add_hosts : BootsAddHosts
unfolding is_well_formed_boot is_well_formed_slave
boots_add_hosts fits s hosts input turns = (λ h. (both_hold_first _ _ h, both_hold_second _ _ h), λ h. both_hold _ _ h.0 h.1)
