-- What supervising a peer comes to.
use Rattle.std.specs.Prelude.{◌≡◌, ◌≤◌, ℕ, List, [], ◌++◌, length, Result, Ok, Err}
use Rattle.pt_base.specs.declared.end.End.{End}
use Rattle.pt_base.specs.Talk.{Event}
use Rattle.wire.specs.declared.message.Message.{Message}
use Rattle.wire.specs.Frames.{Ending, IsStream}
use Rattle.pair_meaning.specs.Monitors.{Monitor}
use Rattle.pair_meaning.specs.Rules.{PeerRule, number_of_rule}
use Rattle.pair_meaning.specs.Peer.{boot_frames}
use Rattle.pair_meaning.specs.Streams.{Stopped, still_open, at_end, at_rule, Talk, serve_frames}
use Rattle.pair_runner.specs.declared.fault.RunFault.{RunFault}
use Rattle.pair_runner.specs.declared.fault.RunFault.TheVariants.{LinkFailed, SinkFailed, BadPeer, PeerEnded, Memory}
use Rattle.pair_runner.specs.Bounds.{most_received}
use Rattle.pair_runner.specs.Sending.{given_in, sent_in, boot_talk, reply_frames}
use Rattle.pair_runner.specs.Serves.{Serves}

-- The peer was served up to where it stopped. What was written and replied is what serving the frames of the given bytes
-- comes to, and each reply was sent before more bytes were asked for. No more bytes were received than the budget lets.
pub record Stops (moves : List Event → List ℕ → Type 0) (m : Monitor) (stopped : Stopped) : Type 0 where
  pub talk : List Event
  pub served : Talk
  pub moved : moves talk served.bytes
  pub serves : Serves m 0 [] talk served
  pub replied : sent_in talk ≡ reply_frames served.replies
  pub few : length (given_in talk) ≤ most_received m.budget
  pub frames : List (Message × ℕ)
  pub ending : Ending
  pub stream : IsStream 0 (given_in talk) frames ending
  pub whole : serve_frames m frames ending ≡ served
  pub stop : served.stopped ≡ stopped

-- It broke off: what was sent and written is a first part of what serving the frames of the given bytes comes to, and these are no
-- more than the budget lets.
pub record BreaksOff (breaks : List ℕ → List ℕ → List ℕ → Type 0) (m : Monitor) : Type 0 where
  pub given : List ℕ
  pub few : length given ≤ most_received m.budget
  pub frames : List (Message × ℕ)
  pub ending : Ending
  pub stream : IsStream 0 given frames ending
  pub broke : breaks given (reply_frames (serve_frames m frames ending).replies) (serve_frames m frames ending).bytes

-- an end is that of the frames, a bad peer breaks the rule at the place where they stop, and a peer that ended leaves them open
abbrev pub IsOutcome : (List Event → List ℕ → Type 0) → (List ℕ → List ℕ → List ℕ → Type 0) → Monitor → Result End RunFault → Type 0
IsOutcome moves breaks m (Ok end) = Stops moves m (at_end end)
IsOutcome moves breaks m (Err (BadPeer rule offset)) = (r : PeerRule) × (rule ≡ number_of_rule r) × Stops moves m (at_rule r offset)
IsOutcome moves breaks m (Err PeerEnded) = Stops moves m still_open
IsOutcome moves breaks m (Err LinkFailed) = BreaksOff breaks m
IsOutcome moves breaks m (Err SinkFailed) = BreaksOff breaks m
IsOutcome moves breaks m (Err Memory) = BreaksOff breaks m

-- the boot was sent before
abbrev pub behind_boot : (List Event → List ℕ → Type 0) → List ℕ → List Event → List ℕ → Type 0
behind_boot moves boot talk bytes = moves (boot_talk boot ++ talk) bytes

abbrev pub broken_behind_boot : (List ℕ → List ℕ → List ℕ → Type 0) → List ℕ → List ℕ → List ℕ → List ℕ → Type 0
broken_behind_boot breaks boot given sent bytes = breaks given (boot_frames boot ++ sent) bytes
