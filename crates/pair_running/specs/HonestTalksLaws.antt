-- What a talk over a link with an honest peer comes to.
use Rattle.std.specs.Prelude.{◌≡◌, ◌<◌, ◌^◌, ℕ, true, List, [], ◌++◌, All, ⊤}
use Rattle.pt_base.specs.Talk.{Event}
use Rattle.runs.specs.Run.{Expected}
use Rattle.runs.specs.State.{Hosts}
use Rattle.policy.specs.Verdicts.{start}
use Rattle.wire.specs.declared.message.Message.{Message}
use Rattle.wire.specs.declared.message.ReplyBody.{ReplyBody}
use Rattle.pt_core.specs.CodeTree.{BootTree}
use Rattle.boot_fields.specs.Limits.{Spells}
use Rattle.pair_meaning.specs.Monitors.{Monitor}
use Rattle.pair_meaning.specs.Pair.{said, serve_all}
use Rattle.pair_meaning.specs.Peer.{are_awaited, is_form, says}
use Rattle.pair_meaning.specs.Streams.{at_end, Talk}
use Rattle.pair_runner.specs.Sending.{boot_talk}
use Rattle.pair_runner.specs.Serves.{Serves}
use Rattle.honest_link.specs.Talks.{Along}
use Rattle.slave_soundness_law.specs.MessagesLaws.{AllAreSpelled}
use Rattle.pair_texts.specs.Start.{HaveBegun, Texts}
pub use Rattle.pair_laws.specs.BegunPairsLaws.{BegunMonitorsAreWellFormed, BegunMonitorsHostsServe, DoesWhatIsExpected, HostsAre, HostsServe, expected_of, with_hosts}

-- The slave of a boot and a monitor do what is expected, and can do so over a link: all that the slave says has a spelling, and the
-- monitor's replies to a first part of what the slave says are each awaited.
pub record IsFairPair (e : Expected) (b : BootTree) (m : Monitor) : Type 0 where
  pub expected : DoesWhatIsExpected e b m
  pub awaited : (given rest : List Message) → said b (serve_all m given).replies ≡ given ++ rest → are_awaited b [] (serve_all m given).replies ≡ true
  pub spelled : (replies : List ReplyBody) → AllAreSpelled (said b replies)

-- This is what goes over a link that is honest for the boot, and was sent nothing and gave nothing before.
abbrev pub IsHonestTalk : BootTree → List ℕ → List Event → Type 0
IsHonestTalk b bytes talk = Along (says b) (is_form bytes b) (λ sent given. ⊤) [] [] talk

-- Over such a link, serving the peer that was sent these bytes for its boot comes to the expected end, and the expected bytes are
-- written.
abbrev pub HonestTalksAreExpected : Type 0
HonestTalksAreExpected =
    (e : Expected) (b : BootTree) (m : Monitor) → IsFairPair e b m → (bytes : List ℕ) (talk : List Event) (served : Talk) → IsHonestTalk b bytes (boot_talk bytes ++ talk) → Serves m 0 [] talk served
    → (served.stopped ≡ at_end e.end) × (served.bytes ≡ e.bytes)

-- The pair that begins is such a pair, whatever its monitor has beside its own hosts, where its boot has a spelling.
abbrev pub BegunPairsAreFair : Type 0
BegunPairsAreFair = (t : Texts) (turns : ℕ) (boot : BootTree) (monitor : Monitor) (b : HaveBegun t turns boot monitor) (own : Hosts) (bytes : List ℕ) →
    All (λ b. b < 256) t.input → turns < 2 ^ 32 → HostsAre monitor.program own monitor.hosts → Spells boot bytes →
    IsFairPair (expected_of b.started.tree (start b.started.rules) b.started.hosts t.input turns) boot (with_hosts own monitor)
