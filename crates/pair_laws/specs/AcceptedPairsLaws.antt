-- What the pair of an accepted program comes to.
use Rattle.std.specs.Prelude.{◌≡◌, ◌+◌, ◌<◌, ◌^◌, ℕ, Bool, List, [], ◌++◌, All, IsTrue, length}
use Rattle.pt_base.specs.declared.end.End.{End}
use Rattle.pt_tree.specs.Facts.{items_sound}
use Rattle.pt_tree.specs.Nodes.{nodes_of}
use Rattle.pt_tree.specs.ProgramTree.{ItemTree}
use Rattle.runs.specs.Run.{Expected, expected}
use Rattle.runs.specs.State.{Hosts}
use Rattle.host_table.specs.Hosts as table
use Rattle.host_table.specs.RunHosts.{models_of}
use Rattle.host_table.specs.Whole.{HasHosts}
use Rattle.policy.specs.Answers.{answers_of}
use Rattle.policy.specs.Verdicts.{Standing}
use Rattle.typed_tree.specs.TypedTree.{TypedTree, signatures_of}
use Rattle.source_meaning.specs.WholeRun.{whole_run}
use Rattle.check_programs.specs.Programs.{checked_program, type_faults}
use Rattle.flow_rules.specs.declared.accepted.Accepted.{Accepted}
use Rattle.flow_rules.specs.Faults.{IsAccepted}
use Rattle.wire.specs.declared.message.Message.{Message}
use Rattle.pt_core.specs.CodeTree.{BootTree}
use Rattle.pair_protocol.specs.Links.{Half, Leads, half, talk_of}
use Rattle.pair_protocol.specs.Pair.{Who, done}
use Rattle.pair_protocol.specs.Serving.{IsExpected, IsHonest, ended}
use Rattle.pair_meaning.specs.Monitors.{Monitor}
use Rattle.pair_meaning.specs.Pair.{IsWhole, both, serve_all, the_sides}
use Rattle.pair_meaning.specs.SlaveRun.{Slave, longest, slave_of}
pub use Rattle.pair_laws.specs.KeptSlavesLaws.{AcceptedSlavesStay}
pub use Rattle.pair_laws.specs.PairStartLaws.{AcceptedMonitorsAreWellFormed, AcceptedPairsBegin, BootsAreWellFormed, HostsServe, IsAcceptedWith, MonitorsHostsServe, monitor_half}
pub use Rattle.pair_laws.specs.PairStartOwn.{HostsAre, with_hosts}
pub use Rattle.pair_laws.specs.PairStartStart.{boot_at, monitor_at, setting_of}

-- ---- what is asked

-- A program that was checked and breaks no flow rule, with the hosts of a table without a fault, an input of bytes, and a budget of
-- 32 bits. A parsed program's nodes are few, its constants in range and its words short.
pub record MayRun (items : List ItemTree) (a : Accepted) (hosts : table.Hosts) (input : List ℕ) (turns : ℕ) : Type 0 where
  pub few : nodes_of items < 2 ^ 22
  pub sound : IsTrue (items_sound items)
  pub checked : type_faults items ≡ []
  pub accepted : IsAccepted (checked_program items).tree a
  pub table : HasHosts hosts (signatures_of (checked_program items).tree)
  pub bytes : All (λ b. b < 256) input
  pub small : turns < 2 ^ 32

-- ---- what is expected

-- what is expected of the program itself under the policy: what it writes and how it ends, up to the first guarded call that the
-- policy denies
abbrev pub expected_of : TypedTree → Standing → table.Hosts → List ℕ → ℕ → Expected
expected_of t policy hosts input turns = expected (answers_of policy) (whole_run t (models_of hosts.models) input turns)

-- the slave of a boot and a monitor do what is expected
pub record DoesWhatIsExpected (e : Expected) (b : BootTree) (m : Monitor) : Type 0 where
  -- where each message is served at once, the pair comes to it
  pub ends : (k : ℕ) × (both b m k ≡ done e.bytes e.end)
  -- whatever the window is and whoever takes which turn, a whole run of the pair is as expected
  pub runs : (window : ℕ) (answers : List Who) (bytes : List ℕ) (end : End) → IsWhole b m window answers bytes end → e ≡ record { bytes = bytes; end = end }
  -- and more turns than twice the slave's steps begin with a whole run
  pub comes : (window : ℕ) (answers : List Who) → 0 < window → longest b + longest b < length answers →
      (front : List Who) × (back : List Who) × (answers ≡ front ++ back) × IsWhole b m window front e.bytes e.end
  -- so is what the monitor comes to over a link in memory
  pub links : (window : ℕ) (answers : List Who) (given : List Message) (end : End) (left : Half Slave Message) → (serve_all m given).stop ≡ ended end →
      Leads the_sides window answers (half (slave_of b) []) (talk_of the_sides m given) left → e ≡ record { bytes = (serve_all m given).bytes; end = end }
  -- over an honest peer, which says what the slave says with the replies that it is sent, the monitor comes to it, or has written a
  -- first part of the bytes while the peer gives no end
  pub honest : (given : List Message) (at_end : Bool) → IsHonest the_sides (longest b) (slave_of b) given at_end (serve_all m given).replies →
      IsExpected e.bytes e.end at_end (serve_all m given)

-- ---- the law

-- whatever the monitor has beside its own hosts
abbrev pub AcceptedPairsAreExpected : Type 0
AcceptedPairsAreExpected = (items : List ItemTree) (a : Accepted) (policy : Standing) (hosts : table.Hosts) (input : List ℕ) (turns : ℕ) (own : Hosts) → MayRun items a hosts input turns →
    HostsAre (monitor_half (checked_program items).tree a) own (models_of hosts.models) →
    DoesWhatIsExpected (expected_of (checked_program items).tree policy hosts input turns)
    (boot_at (checked_program items).tree a hosts input turns) (with_hosts own (monitor_at (checked_program items).tree a policy hosts input turns))
