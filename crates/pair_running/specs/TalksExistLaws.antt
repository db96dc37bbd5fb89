-- Talks over an honest link, and what they are served to.
use Rattle.std.specs.Prelude.{◌≡◌, ◌<◌, ◌^◌, ℕ, true, List, [], ◌++◌, All, IsTrue}
use Rattle.std.specs.List.{AllByRecursion}
use Rattle.pt_base.specs.Talk.{Event}
use Rattle.runs.specs.Run.{Expected}
use Rattle.runs.specs.State.{Hosts}
use Rattle.host_models.specs.Fitting.{fits}
use Rattle.policy.specs.Verdicts.{start}
use Rattle.wire.specs.declared.message.ReplyBody.{ReplyBody}
use Rattle.pt_core.specs.CodeTree.{BootTree}
use Rattle.pt_core.specs.WellFormed.{is_well_formed_boot}
use Rattle.boot_fields.specs.Limits.{Spells}
use Rattle.pair_meaning.specs.Monitors.{Monitor}
use Rattle.pair_meaning.specs.Peer.{are_awaited}
use Rattle.pair_meaning.specs.Streams.{at_end, Talk}
use Rattle.pair_runner.specs.Sending.{IsSpelled, boot_talk}
use Rattle.pair_runner.specs.Serves.{Serves}
use Rattle.pair_texts.specs.Start.{HaveBegun, Texts}
use Rattle.pair_running.specs.HonestTalksLaws.{HostsAre, IsFairPair, IsHonestTalk, expected_of, with_hosts}
use Rattle.pair_running.specs.TalksExistPeers.{GivesWhatIsSaid}

-- Whoever made them, replies that a slave waits for one by one, each of which its call can have, can be sent.
abbrev pub AwaitedRepliesAreSpelled : Type 0
AwaitedRepliesAreSpelled = (b : BootTree) (bytes : List ℕ) → Spells b bytes → IsTrue (is_well_formed_boot fits b) → (replies : List ReplyBody) → are_awaited b [] replies ≡ true →
    AllByRecursion IsSpelled replies

-- However it cuts what its slave says, and whatever it is sent, a peer that gives that is honest.
abbrev pub SayingIsHonest : Type 0
SayingIsHonest = (sizes : ℕ → ℕ) (b : BootTree) (bytes : List ℕ) (talk : List Event) → GivesWhatIsSaid sizes b [] [] talk → IsHonestTalk b bytes talk

-- A talk with a peer that is sent the boot, and gives in pieces of these sizes what its slave says. It is honest, and the monitor
-- serves it up to the expected end and writes the expected bytes.
pub record HasTalk (sizes : ℕ → ℕ) (e : Expected) (b : BootTree) (m : Monitor) (bytes : List ℕ) : Type 0 where
  pub talk : List Event
  pub served : Talk
  pub gives : GivesWhatIsSaid sizes b [] [] (boot_talk bytes ++ talk)
  pub honest : IsHonestTalk b bytes (boot_talk bytes ++ talk)
  pub serves : Serves m 0 [] talk served
  pub stops : served.stopped ≡ at_end e.end
  pub writes : served.bytes ≡ e.bytes

-- Each fair pair has one, whatever the sizes are, where its boot is well formed and has a spelling.
abbrev pub FairPairsHaveTalks : Type 0
FairPairsHaveTalks = (e : Expected) (b : BootTree) (m : Monitor) → IsFairPair e b m → (bytes : List ℕ) → Spells b bytes → IsTrue (is_well_formed_boot fits b) → (sizes : ℕ → ℕ) → HasTalk sizes e b m bytes

-- So has each pair that begins, whatever its monitor has beside its own hosts.
abbrev pub BegunPairsHaveTalks : Type 0
BegunPairsHaveTalks = (t : Texts) (turns : ℕ) (boot : BootTree) (monitor : Monitor) (b : HaveBegun t turns boot monitor) (own : Hosts) (bytes : List ℕ) →
    All (λ b. b < 256) t.input → turns < 2 ^ 32 → HostsAre monitor.program own monitor.hosts → Spells boot bytes → (sizes : ℕ → ℕ) →
    HasTalk sizes (expected_of b.started.tree (start b.started.rules) b.started.hosts t.input turns) boot (with_hosts own monitor) bytes
