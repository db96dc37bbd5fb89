-- What contracts see of an answer.
use Rattle.std.specs.Prelude.{◌≡◌, ℕ, List, [], Option, Result, Ok, Err, ⊤}
use Rattle.pt_base.specs.declared.chooser.Who as base
use Rattle.pair_meaning.specs.LinkChoosing.{AreTaken}
use Rattle.stages.specs.declared.refusal.Stop.{Stop}
use Rattle.stages.specs.declared.refusal.Stop.TheVariants.{Refused, Memory}
use Rattle.pair_running.specs.declared.local_pair.ran.Ran.{Ran}
use Rattle.pair_running.specs.LocalPairWhole.{HasWhole}
use Rattle.pair_running.specs.GeneratedPairGenerated.{texts_of, told, turns, window}

-- it tells of bytes of a whole run of the pair, where it ran; no answer was taken where the texts are refused
abbrev pub IsWholeRun : ℕ → ℕ → Option (ℕ → base.Who) → Option (ℕ → base.Who) → Result Ran Stop → Type 0
IsWholeRun seed count before after (Ok ran) =
    (bytes : List ℕ) × HasWhole (texts_of seed count) turns window before after bytes × (ran.written.items ≡ told seed count bytes ran.end)
IsWholeRun seed count before after (Err (Refused refusal)) = AreTaken [] before after
IsWholeRun seed count before after (Err Memory) = ⊤
