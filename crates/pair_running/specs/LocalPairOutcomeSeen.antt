-- What contracts see of an answer.
use Rattle.std.specs.Prelude.{ℕ, [], Option, Result, Ok, Err, ⊤}
use Rattle.pt_base.specs.declared.chooser.Who as base
use Rattle.pair_meaning.specs.LinkChoosing.{AreTaken}
use Rattle.stages.specs.declared.refusal.Stop.{Stop}
use Rattle.stages.specs.declared.refusal.Stop.TheVariants.{Refused, Memory}
use Rattle.pair_texts.specs.Start.{Texts}
use Rattle.pair_running.specs.declared.local_pair.ran.Ran.{Ran}
use Rattle.pair_running.specs.LocalPairLocal as local
use Rattle.pair_running.specs.LocalPairWhole.{HasWhole}

abbrev pub view_ran : Ran → local.Ran
view_ran r = record { bytes = r.written.items; names = r.names; end = r.end }

-- what was written is that of a whole run of the pair, where it ran; no answer was taken where the texts are refused
abbrev pub IsWholeRun : Texts → ℕ → ℕ → Option (ℕ → base.Who) → Option (ℕ → base.Who) → Result Ran Stop → Type 0
IsWholeRun t turns window told told' (Ok ran) = HasWhole t turns window told told' ran.written.items
IsWholeRun t turns window told told' (Err (Refused refusal)) = AreTaken [] told told'
IsWholeRun t turns window told told' (Err Memory) = ⊤
