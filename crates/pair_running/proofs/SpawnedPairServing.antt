-- What a run comes to, over every spawner.
use Rattle.std.proofs.Common.{◌≡◌, ◌∙◌, ℕ, List, Result, Ok, Err, refl, inr}
use Rattle.boot_fields.specs.Limits.{Spells}
use Rattle.pt_base.specs.declared.end.End.{End}
use Rattle.pt_base.specs.Talk.{Event}
use Rattle.pt_core.specs.CodeTree.{view_boot}
use Rattle.pair_runner.specs.declared.fault.RunFault.{RunFault}
use Rattle.pair_runner.specs.declared.fault.RunFault.TheVariants.{LinkFailed, SinkFailed, BadPeer, PeerEnded, Memory}
use Rattle.pair_runner.specs.Outcomes.{IsOutcome, behind_boot, broken_behind_boot}
use Rattle.pair_texts.specs.declared.pair.Pair.{Pair}
use Rattle.pair_texts.specs.Seen.{monitor_in}
use Rattle.pair_texts.specs.Start.{Texts}
use Rattle.pair_running.specs.LocalPairRunning.{AreTextsOf}
use Rattle.pair_running.specs.LocalPairWhole.{alone}
use Rattle.pair_running.specs.declared.spawned_pair.outcome.Outcome.TheVariants.{Ran}
use Rattle.pair_running.specs.SpawnedPairOutcomeSeen.{IsServed}
use Rattle.pair_running.specs.SpawnedPairSupervised.{AreUntouched, IsSupervised}

-- nothing was done
pub stays_untouched : {S K : Type 0} (spawner : S) (sink : K) → AreUntouched spawner spawner sink sink
stays_untouched spawner sink = record { spawner_is = refl; sink_is = refl }

-- what supervising the pair of these texts comes to
abbrev supervised : (moves : List Event → List ℕ → Type 0) (breaks : List ℕ → List ℕ → List ℕ → Type 0) (pair : Pair) (turns : ℕ) (t : Texts) (bytes : List ℕ) (result : Result End RunFault) → AreTextsOf pair turns t →
    Spells (view_boot pair.boot) bytes → IsOutcome (behind_boot moves bytes) (broken_behind_boot breaks bytes) (alone (monitor_in pair turns)) result → IsSupervised moves breaks t turns result
supervised moves breaks pair turns t bytes result texts spelled outcome = record {
  boot = view_boot pair.boot;
  monitor = monitor_in pair turns;
  started = texts.begins.0.started;
  bytes = bytes;
  spelled = spelled;
  outcome = outcome;
}

-- it broke off
broken : (untouched : Type 0) (moves : List Event → List ℕ → Type 0) (breaks : List ℕ → List ℕ → List ℕ → Type 0) (t : Texts) (turns : ℕ) (fault : RunFault) → IsSupervised moves breaks t turns (Err fault) → IsServed untouched moves breaks t turns (Err fault)
broken untouched moves breaks t turns LinkFailed s = s
broken untouched moves breaks t turns SinkFailed s = s
broken untouched moves breaks t turns (BadPeer rule offset) s = s
broken untouched moves breaks t turns PeerEnded s = s
broken untouched moves breaks t turns Memory s = inr s

pub served_fault : (untouched : Type 0) (moves : List Event → List ℕ → Type 0) (breaks : List ℕ → List ℕ → List ℕ → Type 0) (pair : Pair) (turns : ℕ) (t : Texts) (bytes : List ℕ) (fault : RunFault) → AreTextsOf pair turns t →
    Spells (view_boot pair.boot) bytes → IsOutcome (behind_boot moves bytes) (broken_behind_boot breaks bytes) (alone (monitor_in pair turns)) (Err fault) → IsServed untouched moves breaks t turns (Err fault)
served_fault untouched moves breaks pair turns t bytes fault texts spelled outcome = broken untouched moves breaks t turns fault (supervised moves breaks pair turns t bytes (Err fault) texts spelled outcome)

-- it came to an end
pub served_end : (untouched : Type 0) (moves : List Event → List ℕ → Type 0) (breaks : List ℕ → List ℕ → List ℕ → Type 0) (pair : Pair) (turns : ℕ) (t : Texts) (bytes : List ℕ) (end : End) (names : List (List ℕ)) →
    AreTextsOf pair turns t → Spells (view_boot pair.boot) bytes → IsOutcome (behind_boot moves bytes) (broken_behind_boot breaks bytes) (alone (monitor_in pair turns)) (Ok end) → names ≡ pair.names →
    IsServed untouched moves breaks t turns (Ok (Ran end names))
served_end untouched moves breaks pair turns t bytes end names texts spelled outcome named =
    (supervised moves breaks pair turns t bytes (Ok end) texts spelled outcome, named ∙ texts.begins.1)
