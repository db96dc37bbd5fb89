-- All that a slave says has a spelling.
use Rattle.std.specs.Prelude.{◌≡◌, ℕ, List, IfSome, IsTrue}
use Rattle.std.specs.List.{AllByRecursion}
use Rattle.host_models.specs.Fitting.{fits}
use Rattle.wire.specs.declared.message.Message.{Message}
use Rattle.wire.specs.declared.message.ReplyBody.{ReplyBody}
use Rattle.boot_fields.specs.Limits.{Spells}
use Rattle.pt_core.specs.CodeTree.{BootTree}
use Rattle.pt_core.specs.WellFormed.{is_well_formed_boot}
use Rattle.marshalling_law.specs.CallsSpelled.{HasSpelling}
use Rattle.pair_protocol.specs.Sides.{Moved}
use Rattle.pair_meaning.specs.Pair.{said, slave_at}
use Rattle.pair_meaning.specs.SlaveRun.{Slave, goes, slave_of, slave_step, take}
use Rattle.slave_soundness_law.specs.MessagesFormat.{IsInFormat}

-- ---- step by step

-- Whoever made it, a boot that is well formed and has a spelling gives such a slave.
abbrev pub SlavesBeginInFormat : Type 0
SlavesBeginInFormat = (b : BootTree) (bytes : List ℕ) → Spells b bytes → IsTrue (is_well_formed_boot fits b) → IsInFormat (slave_of b)

-- it goes on as such a slave, and what it says has a spelling
pub record SaysSpelled (m : Moved Slave Message) : Type 0 where
  pub stays : IsInFormat m.slave
  pub spelled : IfSome m.said HasSpelling

abbrev pub StepsAreSpelled : Type 0
StepsAreSpelled = (x : Slave) → IsInFormat x → x.doing ≡ goes → SaysSpelled (slave_step x)

-- whatever reply it is given
abbrev pub TakersStayInFormat : Type 0
TakersStayInFormat = (x : Slave) (reply : ReplyBody) → IsInFormat x → IsInFormat (take reply x)

-- ---- a slave that is given replies

-- wherever it comes
abbrev pub ReachedSlavesAreInFormat : Type 0
ReachedSlavesAreInFormat = (b : BootTree) (bytes : List ℕ) → Spells b bytes → IsTrue (is_well_formed_boot fits b) → (replies : List ReplyBody) (k : ℕ) → IsInFormat (slave_at b replies k).slave

-- all these messages have a spelling
abbrev pub AllAreSpelled : List Message → Type 0
AllAreSpelled messages = AllByRecursion HasSpelling messages

-- Whatever replies come, also such as no call can have.
abbrev pub SpokenMessagesAreSpelled : Type 0
SpokenMessagesAreSpelled = (b : BootTree) (bytes : List ℕ) → Spells b bytes → IsTrue (is_well_formed_boot fits b) → (replies : List ReplyBody) → AllAreSpelled (said b replies)
