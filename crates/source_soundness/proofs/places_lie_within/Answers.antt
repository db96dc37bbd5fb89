use Rattle.source_soundness.proofs.SizeSoundness.{place_sized}
use Rattle.source_soundness.proofs.places_lie_within.Goals as goal

pub returns : goal.returns
returns c = λ w n d p st ty k sound calls h is m z. place_sized p w n d st ty (record { fits = k; sound = sound; calls = calls }) h is m z
