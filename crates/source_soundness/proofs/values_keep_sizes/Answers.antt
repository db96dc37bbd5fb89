use Rattle.source_soundness.proofs.SizeSoundness.{value_sized}
use Rattle.source_soundness.proofs.values_keep_sizes.Goals as goal

pub returns : goal.returns
returns c = λ w n d a st k sound calls h m z. value_sized a w n d st (record { fits = k; sound = sound; calls = calls }) h m z
