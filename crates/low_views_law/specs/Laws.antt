-- What a hostile slave learns. It may know the low view of a monitor: which functions and hosts may be asked for, the types of what
-- is stored, the policy and where it stands, and the counts that its own messages bring. Beside that it learns the numbers in
-- replies, each at a place where a signature lets a number come back; what may be reckoned from them is the program's own matter.
-- It learns whether a call returns, traps or is spent: no law here keeps that secret. Nothing is said of time, nor of how many
-- turns or how much memory a message takes. Monitors are sound, as those of well formed programs begin and stay, and messages
-- have the counts of the format, as those of frames have.
use Rattle.std.specs.Prelude.{◌≡◌, ℕ, false, List, [], IsTrue}
use Rattle.host_models.specs.Fitting.{fits}
use Rattle.wire.specs.Frames.{Ending, IsStream}
use Rattle.wire.specs.Limits.{KeepsCounts}
use Rattle.wire.specs.declared.message.Message.{Message}
use Rattle.boot_fields.specs.Limits.{Spells}
use Rattle.pt_core.specs.CodeTree.{BootTree}
use Rattle.pt_core.specs.WellFormed.{is_well_formed_boot}
use Rattle.pair_protocol.specs.Pair.{run, start, Who}
use Rattle.pair_meaning.specs.LowView.{declassified}
use Rattle.pair_meaning.specs.Monitors.{Monitor, low}
use Rattle.pair_meaning.specs.Pair.{both, pair_steps}
use Rattle.pair_meaning.specs.Serving.{is_spent, serve, verdict_on}
use Rattle.pair_meaning.specs.SlaveRun.{slave_of}
use Rattle.pair_meaning.specs.Streams.{serve_frames}
use Rattle.monitor_soundness_law.specs.ServingSound.{IsSound}
use Rattle.low_views_law.specs.Unserved.{IsUnservedAt, IsVerdict}
use Rattle.low_views_law.specs.Alike.{AreAlike, GoAlike, IsLow, KeepCounts, TellTheSame}
use Rattle.low_views_law.specs.Pairs.{ArePairsSeenAlike, AreSeenAlike, StepsTellAlike, TurnsTellAlike}

-- ---- what is refused

-- Whatever the message, where it breaks a rule or is refused nothing is done for it. In a stream, all that is written and replied up
-- to such a message is that of the messages before it, the monitor is as these left it, and nothing behind it is looked at.
pub record RefusedMessagesChangeNothing : Type 0 where
  pub alone : (m : Monitor) (x : Message) → IsVerdict (verdict_on m x) (serve m x)
  pub in_a_stream : (m : Monitor) (frames : List (Message × ℕ)) (ending : Ending) → IsUnservedAt m frames ending (serve_frames m frames ending) (serve_frames m frames ending).stopped

-- ---- what is learned from a message

-- Of two monitors of which the same may be known, and a message for which neither is spent: which rule it breaks, whether it is
-- refused, what it writes and which call is made, is the same, whatever both have stored and whatever their functions do.
abbrev pub VerdictsAreLow : Type 0
VerdictsAreLow = (m m' : Monitor) (x : Message) → low m ≡ low m' → is_spent m x ≡ false → is_spent m' x ≡ false → AreAlike m m' x

-- Where a monitor goes on, its reply and what may be known of it then are made of what may be known of it now, the message, and the
-- numbers that it tells.
abbrev pub RepliesAreLow : Type 0
RepliesAreLow = (m : Monitor) (x : Message) → IsSound m → KeepsCounts x → IsLow (low m) x (declassified m x) (serve m x)

-- ---- what is learned from a stream

-- Two monitors of which the same may be known are given the same frames, and tell the same numbers as far as both go on. Then their
-- replies are the same, and they stop alike; unless one of them comes to a trap or is spent, and then its replies are the first of
-- the other's. What both have stored, their globals, what their functions do and what their hosts answer may be different.
abbrev pub StreamsAreLow : Type 0
StreamsAreLow = (m m' : Monitor) (frames : List (Message × ℕ)) (ending : Ending) → IsSound m → IsSound m' → low m ≡ low m' → KeepCounts frames → TellTheSame m m' frames →
    GoAlike (serve_frames m frames ending) (serve_frames m' frames ending)

-- The messages of the frames of any bytes have the counts that this asks for.
abbrev pub FramesKeepCounts : Type 0
FramesKeepCounts = (at : ℕ) (bytes : List ℕ) (frames : List (Message × ℕ)) (ending : Ending) → IsStream at bytes frames ending → KeepCounts frames

-- ---- what a slave comes to

-- A slave is a function of its boot and of the replies. So two slaves of one boot, whose monitors may be known the same of and tell
-- the same numbers, are the same at each step as far as both go on, with their memory and with what they ask for. It is so where
-- each message is served at once, and with a queue under the same window and the same answers of a chooser.
pub record PairsSeeAlike : Type 0 where
  pub at_once : (b : BootTree) (bytes : List ℕ) → Spells b bytes → IsTrue (is_well_formed_boot fits b) → (m m' : Monitor) → IsSound m → IsSound m' → low m ≡ low m' →
      (k : ℕ) → StepsTellAlike k (run (slave_of b) m []) (run (slave_of b) m' []) → AreSeenAlike (both b m k) (both b m' k)
  pub in_turns : (b : BootTree) (bytes : List ℕ) → Spells b bytes → IsTrue (is_well_formed_boot fits b) → (m m' : Monitor) → IsSound m → IsSound m' → low m ≡ low m' →
      (window : ℕ) (answers : List Who) → TurnsTellAlike window answers (start (slave_of b) m) (start (slave_of b) m') → ArePairsSeenAlike (pair_steps b m window answers) (pair_steps b m' window answers)
