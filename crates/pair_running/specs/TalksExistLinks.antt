-- Links whose talk is written down, and pairs that are served over them.
use Rattle.std.specs.Prelude.{◌≡◌, ◌<◌, ◌^◌, ℕ, List, [], ◌++◌, All}
use Rattle.pt_base.specs.Talk.{Event}
use Rattle.runs.specs.Run.{Expected}
use Rattle.runs.specs.State.{Hosts}
use Rattle.policy.specs.Verdicts.{start}
use Rattle.boot_fields.specs.Limits.{Spells}
use Rattle.pt_core.specs.CodeTree.{BootTree}
use Rattle.honest_link.specs.Came.{Came}
use Rattle.pair_meaning.specs.Monitors.{Monitor}
use Rattle.pair_meaning.specs.Streams.{at_end, Talk}
use Rattle.pair_runner.specs.Sending.{boot_talk}
use Rattle.pair_runner.specs.Serves.{Serves}
use Rattle.pair_texts.specs.Start.{HaveBegun, Texts}
use Rattle.pair_running.specs.HonestTalksLaws.{HostsAre, expected_of, with_hosts}
use Rattle.pair_running.specs.SpawnedPairOutcomeSeen.{IsHonestFor}
use Rattle.pair_running.specs.TalksExistPlanned.{CameBy, Planned, given_by, is_honest, planned, sent_to}

-- Such a link tells, of where it came by a talk, what a spawner of `run` has to tell.
abbrev pub PlannedLinksTell : Type 0
PlannedLinksTell = (a b : Planned) (talk : List Event) → CameBy a talk b → Came is_honest sent_to given_by a talk b

-- One that is honest for the pair that these texts start. Over it the boot is sent, and then the monitor serves the peer up to the
-- expected end and writes the expected bytes.
pub record HasHonestLink (t : Texts) (turns : ℕ) (e : Expected) (m : Monitor) (boot : List ℕ) : Type 0 where
  pub talk : List Event
  pub served : Talk
  pub after : Planned
  pub honest : IsHonestFor is_honest sent_to given_by t turns (planned (boot_talk boot ++ talk))
  pub came : CameBy (planned (boot_talk boot ++ talk)) (boot_talk boot ++ talk) after
  pub serves : Serves m 0 [] talk served
  pub stops : served.stopped ≡ at_end e.end
  pub writes : served.bytes ≡ e.bytes

-- Each pair that begins has one, whatever its monitor has beside its own hosts.
abbrev pub BegunPairsHaveHonestLinks : Type 0
BegunPairsHaveHonestLinks = (t : Texts) (turns : ℕ) (boot : BootTree) (monitor : Monitor) (b : HaveBegun t turns boot monitor) (own : Hosts) (bytes : List ℕ) →
    All (λ b. b < 256) t.input → turns < 2 ^ 32 → HostsAre monitor.program own monitor.hosts → Spells boot bytes →
    HasHonestLink t turns (expected_of b.started.tree (start b.started.rules) b.started.hosts t.input turns) (with_hosts own monitor) bytes
