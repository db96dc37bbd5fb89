use Rattle.std.proofs.Common.{◌∙◌, ap}
use Rattle.pt_core.specs.WellFormed.{is_main_by}
use Rattle.boot_rules.proofs.start.is_main_number.Goals as goal

pub returns-in-Some : goal.returns-in-Some
returns-in-Some c = c.is_main.ensures ∙ ap is_main_by c.in-Some.ensures

pub returns-in-None : goal.returns-in-None
returns-in-None c = ap is_main_by c.in-None.ensures
