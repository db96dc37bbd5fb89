use Rattle.source_soundness.proofs.Soundness.{place_keeps}
use Rattle.source_soundness.proofs.places_are_live.Goals as goal

pub returns : goal.returns
returns c = λ w n d p st ty k h is m. place_keeps p w n d st ty k h is m
