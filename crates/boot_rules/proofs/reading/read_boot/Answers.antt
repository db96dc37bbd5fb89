use Rattle.std.proofs.Common.{◌∙◌, sym}
use Rattle.boot_rules.proofs.ReadLemmas.{not_good, still_bad}
use Rattle.boot_rules.proofs.reading.read_boot.Goals as goal

pub returns-in-Err : goal.returns-in-Err
returns-in-Err c = still_bad c.args.bytes.now c.in-Err.error c.in-Err.ensures

pub returns-then-not-good : goal.returns-then-not-good
returns-then-not-good c = not_good c.args.bytes.now c.in-Ok.boot c.in-Ok.ensures (sym c.in-Ok-is_well_formed.ensures ∙ c.if-not-good.true)
