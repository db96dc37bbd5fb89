-- What a started peer and its monitor come to.
use Rattle.std.specs.Prelude.{◌≡◌, ℕ, List, Result}
use Rattle.boot_fields.specs.Limits.{Spells}
use Rattle.pt_base.specs.declared.end.End.{End}
use Rattle.pt_base.specs.Talk.{Event}
use Rattle.pt_core.specs.CodeTree.{BootTree}
use Rattle.pair_meaning.specs.Monitors.{Monitor}
use Rattle.pair_runner.specs.declared.fault.RunFault.{RunFault}
use Rattle.pair_runner.specs.Outcomes.{IsOutcome, behind_boot, broken_behind_boot}
use Rattle.pair_texts.specs.Start.{AreStarted, Texts}
use Rattle.pair_running.specs.LocalPairWhole.{alone}

-- a spawner and a sink are as they were
pub record AreUntouched {S K : Type 0} (spawner spawner' : S) (sink sink' : K) : Type 0 where
  pub spawner_is : spawner' ≡ spawner
  pub sink_is : sink' ≡ sink

-- The pair that these texts start, within so many turns: its peer was sent the boot's bytes, and supervising it with its monitor came to
-- this.
pub record IsSupervised (moves : List Event → List ℕ → Type 0) (breaks : List ℕ → List ℕ → List ℕ → Type 0) (t : Texts) (turns : ℕ) (result : Result End RunFault) : Type 0 where
  pub boot : BootTree
  pub monitor : Monitor
  pub started : AreStarted t turns boot monitor
  pub bytes : List ℕ
  pub spelled : Spells boot bytes
  pub outcome : IsOutcome (behind_boot moves bytes) (broken_behind_boot breaks bytes) (alone monitor) result
