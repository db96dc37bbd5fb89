-- What the pair comes to: what is expected of the whole program.
use Rattle.std.specs.Prelude.{◌≡◌, ◌+◌, ◌<◌, ℕ, Bool, List, [], ◌++◌, length}
use Rattle.pt_base.specs.declared.end.End.{End}
use Rattle.wire.specs.declared.message.Message.{Message}
use Rattle.pt_core.specs.CodeTree.{BootTree}
use Rattle.pair_protocol.specs.Links.{Half, Leads, half, talk_of}
use Rattle.pair_protocol.specs.Pair.{Who, done}
use Rattle.pair_protocol.specs.Serving.{IsExpected, IsHonest, ended}
use Rattle.pair_meaning.specs.Monitors.{Monitor}
use Rattle.pair_meaning.specs.Pair.{IsWhole, both, serve_all, the_sides}
use Rattle.pair_meaning.specs.SlaveRun.{Slave, longest, slave_of}
use Rattle.pair_invariant_law.specs.Laws.{CallsKeep}
use Rattle.pair_invariant_law.specs.Live.{IsLive, IsSetting, Setting, expected_of}

-- a slave of this boot and a monitor that begin as the halves of the setting's whole
abbrev pub Begins : (Slave → Type 0) → Setting → BootTree → Monitor → Type 0
Begins Own w b m = IsSetting w Own × IsLive w Own (slave_of b) m []

-- The pair in which each message is served at once comes to what is expected.
abbrev pub ThePairEnds : (Slave → Type 0) → Type 0
ThePairEnds Own = CallsKeep Own → (w : Setting) (b : BootTree) (m : Monitor) → Begins Own w b m → (k : ℕ) × (both b m k ≡ done (expected_of w).bytes (expected_of w).end)

-- the bytes and the end are what is expected of the whole
abbrev pub IsExpectedOf : Setting → List ℕ → End → Type 0
IsExpectedOf w bytes end = expected_of w ≡ record { bytes = bytes; end = end }

pub record IsExpectedPair (w : Setting) (b : BootTree) (m : Monitor) : Type 0 where
  -- whatever the window is and whoever takes which turn, a whole run of the pair is as expected
  pub runs : (window : ℕ) (answers : List Who) (bytes : List ℕ) (end : End) → IsWhole b m window answers bytes end → IsExpectedOf w bytes end
  -- and more turns than twice the slave's steps begin with a whole run
  pub comes : (window : ℕ) (answers : List Who) → 0 < window → longest b + longest b < length answers →
      (front : List Who) × (back : List Who) × (answers ≡ front ++ back) × IsWhole b m window front (expected_of w).bytes (expected_of w).end
  -- so is what a monitor comes to over a link in memory
  pub links : (window : ℕ) (answers : List Who) (given : List Message) (end : End) (left : Half Slave Message) → (serve_all m given).stop ≡ ended end →
      Leads the_sides window answers (half (slave_of b) []) (talk_of the_sides m given) left → IsExpectedOf w (serve_all m given).bytes end

-- The pair of the two halves writes and ends as the whole program does under its policy, in whatever order its turns are taken.
abbrev pub ThePairIsExpected : (Slave → Type 0) → Type 0
ThePairIsExpected Own = CallsKeep Own → (w : Setting) (b : BootTree) (m : Monitor) → Begins Own w b m → IsExpectedPair w b m

-- A monitor whose peer is an honest one, which says what the slave says with the replies that it is sent, comes to the whole's end and
-- bytes, or has written a first part of them while the peer gives no end.
abbrev pub HonestPeersAreExpected : (Slave → Type 0) → Type 0
HonestPeersAreExpected Own = CallsKeep Own → (w : Setting) (b : BootTree) (m : Monitor) → Begins Own w b m →
    (given : List Message) (at_end : Bool) → IsHonest the_sides (longest b) (slave_of b) given at_end (serve_all m given).replies → IsExpected (expected_of w).bytes (expected_of w).end at_end (serve_all m given)
