use Rattle.pt_int.proofs.OneConversion.{one-conversion}
use Rattle.pt_int.proofs.conversion.conversion_is_one.Goals as goal

pub returns : goal.returns
returns c = one-conversion
