-- What contracts see of an answer.
use Rattle.std.specs.Prelude.{◌≡◌, ◌⊎◌, ⊤, ℕ, Bool, List, [], Option, Some, Result, Ok, Err}
use Rattle.boot_fields.specs.Limits.{Spells}
use Rattle.pt_base.specs.Talk.{Event}
use Rattle.pt_core.specs.CodeTree.{BootTree}
use Rattle.pair_meaning.specs.Monitors.{Monitor}
use Rattle.pair_meaning.specs.Peer.{is_form, says}
use Rattle.pair_runner.specs.declared.fault.RunFault.{RunFault}
use Rattle.pair_runner.specs.declared.fault.RunFault.TheVariants.{LinkFailed, SinkFailed, BadPeer, PeerEnded, Memory}
use Rattle.stages.specs.Climb.{IsRefused, of_pair}
use Rattle.stages.specs.Seen.{view_refusal}
use Rattle.pair_texts.specs.Start.{AreStarted, Texts, names_of}
use Rattle.pair_running.specs.LocalPairLocal.{IsPairRun}
use Rattle.pair_running.specs.declared.spawned_pair.outcome.Outcome.{Outcome}
use Rattle.pair_running.specs.declared.spawned_pair.outcome.Outcome.TheVariants.{Refused, Ran}
use Rattle.pair_running.specs.SpawnedPairSupervised.{IsSupervised}

-- ---- over every spawner

-- Texts with faults are refused, and all stays untouched. Else the peer is served up to an end, with the names of the program's functions,
-- or to why that broke off. Memory may be wanting before that too.
abbrev pub IsServed : Type 0 → (List Event → List ℕ → Type 0) → (List ℕ → List ℕ → List ℕ → Type 0) → Texts → ℕ → Result Outcome RunFault → Type 0
IsServed untouched moves breaks t turns (Ok (Refused refusal)) = IsRefused of_pair t (view_refusal refusal) × untouched
IsServed untouched moves breaks t turns (Ok (Ran end names)) = (run : IsSupervised moves breaks t turns (Ok end)) × (names ≡ names_of run.started.tree)
IsServed untouched moves breaks t turns (Err LinkFailed) = IsSupervised moves breaks t turns (Err LinkFailed)
IsServed untouched moves breaks t turns (Err SinkFailed) = IsSupervised moves breaks t turns (Err SinkFailed)
IsServed untouched moves breaks t turns (Err (BadPeer rule offset)) = IsSupervised moves breaks t turns (Err (BadPeer rule offset))
IsServed untouched moves breaks t turns (Err PeerEnded) = IsSupervised moves breaks t turns (Err PeerEnded)
IsServed untouched moves breaks t turns (Err Memory) = untouched ⊎ IsSupervised moves breaks t turns (Err Memory)

-- ---- over an honest spawner

-- It tells that it was sent nothing and gave nothing so far, and is honest for the pair that these texts start: what it gives begins what
-- the boot's slave says with the replies that it was sent, as long as it was sent a part of the boot, or the boot and then replies that
-- the slave waits for.
pub record IsHonestFor {S : Type 0} (honest : S → (List ℕ → List ℕ) → (List ℕ → Bool) → Type 0) (sent given : S → Option (List ℕ)) (t : Texts) (turns : ℕ) (spawner : S) : Type 0 where
  pub none_sent : sent spawner ≡ Some []
  pub none_given : given spawner ≡ Some []
  pub is_honest : (boot : BootTree) (monitor : Monitor) (bytes : List ℕ) → AreStarted t turns boot monitor → Spells boot bytes → honest spawner (says boot) (is_form bytes boot)

-- Then what the texts come to is written, and it ends so; no rule is broken, and the peer doesn't end before.
abbrev pub IsExpectedOver : (List ℕ → Type 0) → Texts → ℕ → Result Outcome RunFault → Type 0
IsExpectedOver writes t turns (Ok (Refused refusal)) = IsRefused of_pair t (view_refusal refusal)
IsExpectedOver writes t turns (Ok (Ran end names)) = (bytes : List ℕ) × IsPairRun turns t (record { bytes = bytes; names = names; end = end }) × writes bytes
IsExpectedOver writes t turns (Err LinkFailed) = ⊤
IsExpectedOver writes t turns (Err SinkFailed) = ⊤
IsExpectedOver writes t turns (Err (BadPeer rule offset)) = ⊥
IsExpectedOver writes t turns (Err PeerEnded) = ⊥
IsExpectedOver writes t turns (Err Memory) = ⊤
