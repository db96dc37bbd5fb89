-- What frames come to: the boot, and then what its slave says with the replies behind it.
use Rattle.std.specs.Prelude.{◌≡◌, ◌≢◌, ◌⊎◌, ℕ, List, [], ◌∷◌, ◌++◌, IsTrue, false}
use Rattle.std.specs.List.{flat_map}
use Rattle.pt_base.specs.Talk.{Event, gave, took}
use Rattle.wire.specs.declared.message.Message.{Message}
use Rattle.wire.specs.Frames.{Ending, IsStream}
use Rattle.wire.specs.Spelling.{spelling}
use Rattle.host_models.specs.Fitting.{fits}
use Rattle.pt_core.specs.CodeTree.{BootTree}
use Rattle.pt_core.specs.WellFormed.{is_well_formed_boot}
use Rattle.boot_fields.specs.Limits.{Spells}
use Rattle.pair_meaning.specs.Pair.{said}
use Rattle.slave_runner.specs.Rules.{Stopped, still_open, at_rule, bad_boot}
use Rattle.slave_runner.specs.Reading.{Pieces, whole, stops, read_pieces}
use Rattle.slave_runner.specs.Replies.{hear_replies}

-- these bytes spell this boot, which is well formed
pub record IsBoot (bytes : List ℕ) (b : BootTree) : Type 0 where
  pub spelled : Spells b bytes
  pub well_formed : IsTrue (is_well_formed_boot fits b)

-- they spell none that is
abbrev pub IsNoBoot : List ℕ → Type 0
IsNoBoot bytes = (b : BootTree) → Spells b bytes → is_well_formed_boot fits b ≡ false

abbrev pub spellings : List Message → List ℕ
spellings xs = flat_map spelling xs

-- the slave of a boot over the frames behind it: it says so much, and stops so
pub record RunsOver (b : BootTree) (behind : List (Message × ℕ)) (ending : Ending) (sent : List ℕ) (stopped : Stopped) : Type 0 where
  pub says : sent ≡ spellings (said b (hear_replies b [] behind ending).replies)
  pub stop : stopped ≡ (hear_replies b [] behind ending).stopped

abbrev pub ComesBy : Ending → Pieces → List ℕ → Stopped → Type 0
ComesBy ending (stops why) sent stopped = (sent ≡ []) × (stopped ≡ why)
ComesBy ending (whole bytes behind) sent stopped =
    (IsNoBoot bytes × (sent ≡ []) × (stopped ≡ at_rule bad_boot 0)) ⊎ ((b : BootTree) × IsBoot bytes b × RunsOver b behind ending sent stopped)

-- these bytes are sent, and it stops so
abbrev pub Comes : List (Message × ℕ) → Ending → List ℕ → Stopped → Type 0
Comes frames ending sent stopped = ComesBy ending (read_pieces [] frames ending) sent stopped

-- ---- in turn

-- the bytes given leave it open, and all was sent that is said with them
pub record IsOpen (given sent : List ℕ) : Type 0 where
  pub frames : List (Message × ℕ)
  pub ending : Ending
  pub stream : IsStream 0 given frames ending
  pub comes : Comes frames ending sent still_open

-- Behind these bytes, more are asked for only where those given leave it open and all was sent that is said with them.
abbrev pub InTurn : List ℕ → List ℕ → List Event → Type 0
InTurn given sent [] = Unit {0}
InTurn given sent (gave piece ∷ talk) = IsOpen given sent × (piece ≢ []) × InTurn (given ++ piece) sent talk
InTurn given sent (took bytes ∷ talk) = InTurn given (sent ++ bytes) talk
