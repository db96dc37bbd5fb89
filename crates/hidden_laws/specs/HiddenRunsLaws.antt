-- What a peer sees of whole runs.
use Rattle.std.specs.Prelude.{◌≡◌, ◌<◌, ◌^◌, ℕ, true, false, List, ◌++◌, All, Some, slice_get}
use Rattle.pt_base.specs.Told.{IsFrontOf}
use Rattle.pt_tree.specs.declared.signature.Signature.{Signature}
use Rattle.runs.specs.State.{Hosts}
use Rattle.host_table.specs.Hosts as table
use Rattle.typed_tree.specs.TypedTree.{TypedTree, signatures_of}
use Rattle.wire.specs.declared.message.Message.{Message}
use Rattle.wire.specs.Frames.{Ending, IsStream, open_end}
use Rattle.pt_core.specs.CodeTree.{BootTree}
use Rattle.pair_meaning.specs.Monitors.{Monitor, low}
use Rattle.pair_meaning.specs.Streams.{serve_frames}
use Rattle.monitor_soundness_law.specs.ServingSound.{IsSound}
use Rattle.low_views_law.specs.Alike.{GoAlike, TellTheSame}
use Rattle.pair_texts.specs.Start.{HaveBegun, Texts}
pub use Rattle.pair_laws.specs.BegunPairsLaws.{HostsAre, with_hosts}
use Rattle.hidden_laws.specs.HiddenRunsRuns.{AreSeenAlike, IsRun, frames_of, sent_by}

-- ---- a run

-- it comes to what these frames come to, and its peer is sent the boot and the replies
pub record ServesFrames {b : BootTree} {m : Monitor} {stream : List ℕ} (run : IsRun b m stream) (frames : List (Message × ℕ)) (ending : Ending) : Type 0 where
  pub comes_to : serve_frames m frames ending ≡ run.served
  pub sends : sent_by run ≡ frames_of run.boot run.served

-- So it is of the frames of the peer's whole stream, however that is cut and wherever the run stops.
abbrev pub RunsServeStreams : Type 0
RunsServeStreams = (b : BootTree) (m : Monitor) (stream : List ℕ) (run : IsRun b m stream) (frames : List (Message × ℕ)) (ending : Ending) → IsStream 0 stream frames ending → ServesFrames run frames ending

-- ---- two runs

-- Where their peers give the same bytes, and both tell the same numbers in answer to these, as far as both go on, the peers see the
-- same.
abbrev pub RunsGoAlike : BootTree → BootTree → Monitor → Monitor → Type 0
RunsGoAlike b b' m m' = (stream : List ℕ) (frames : List (Message × ℕ)) (ending : Ending) → IsStream 0 stream frames ending → TellTheSame m m' frames →
    (run : IsRun b m stream) (run' : IsRun b' m' stream) → AreSeenAlike (sent_by run) (sent_by run') run.served.stopped run'.served.stopped

-- So it is with one boot and monitors of which the same may be known, whatever is stored, whatever functions do and whatever hosts
-- answer.
abbrev pub RunsAreLow : Type 0
RunsAreLow = (b : BootTree) (m m' : Monitor) → IsSound m → IsSound m' → low m ≡ low m' → RunsGoAlike b b m m'

-- The replies to some frames go alike, and what each peer is sent begins with the boot and these.
pub record BeginAlike {b : BootTree} {m m' : Monitor} {stream : List ℕ} (run : IsRun b m stream) (run' : IsRun b m' stream) (front : List (Message × ℕ)) : Type 0 where
  pub boot : run.boot ≡ run'.boot
  pub replies : GoAlike (serve_frames m front open_end) (serve_frames m' front open_end)
  pub first : IsFrontOf (frames_of run.boot (serve_frames m front open_end)) (sent_by run)
  pub second : IsFrontOf (frames_of run'.boot (serve_frames m' front open_end)) (sent_by run')

-- So it is of the first frames for which both tell the same, whatever they tell behind them.
abbrev pub FirstPartsAreLow : Type 0
FirstPartsAreLow = (b : BootTree) (m m' : Monitor) → IsSound m → IsSound m' → low m ≡ low m' → (stream : List ℕ) (front back : List (Message × ℕ)) (ending : Ending) → IsStream 0 stream (front ++ back) ending →
    TellTheSame m m' front → (run : IsRun b m stream) (run' : IsRun b m' stream) → BeginAlike run run' front

-- ---- runs that begin from texts

-- Pairs that begin from two lists of texts, with an input of bytes and a budget of 32 bits, whatever their monitors have beside their
-- own hosts.
pub record BothBegin (t t' : Texts) (turns : ℕ) (b b' : BootTree) (m m' : Monitor) (own own' : Hosts) : Type 0 where
  pub one : HaveBegun t turns b m
  pub other : HaveBegun t' turns b' m'
  pub bytes : All (λ b. b < 256) t.input
  pub other_bytes : All (λ b. b < 256) t'.input
  pub small : turns < 2 ^ 32
  pub own_are : HostsAre m.program own m.hosts
  pub other_own : HostsAre m'.program own' m'.hosts

-- They go alike where the boots are the same, and the same may be known of the monitors.
abbrev pub BegunRunsAreLow : Type 0
BegunRunsAreLow = (t t' : Texts) (turns : ℕ) (b b' : BootTree) (m m' : Monitor) (own own' : Hosts) → BothBegin t t' turns b b' m m' own own' → b ≡ b' → low m ≡ low m' →
    RunsGoAlike b b' (with_hosts own m) (with_hosts own' m')

-- So they do where the boots are the same and the policies have the same rules: what may be known of a monitor at its start is told by
-- these. So privileged functions, the monitor's globals and privileged hosts may be different, as far as the boot is the same.
abbrev pub BootsAndRulesTellAll : Type 0
BootsAndRulesTellAll = (t t' : Texts) (turns : ℕ) (b b' : BootTree) (m m' : Monitor) (own own' : Hosts) (begin : BothBegin t t' turns b b' m m' own own') → b ≡ b' → begin.one.started.rules ≡ begin.other.started.rules →
    RunsGoAlike b b' (with_hosts own m) (with_hosts own' m')

-- the same stands for each host that isn't privileged
abbrev pub AreSameOfPlain : TypedTree → table.Hosts → table.Hosts → Type 0
AreSameOfPlain t hosts others = (f : ℕ) (s : Signature) → slice_get (signatures_of t) f ≡ Some s → s.host ≡ true → s.privileged ≡ false → hosts.models f ≡ others.models f

-- So it is of one program, one policy and one input with two tables that differ in what stands for privileged hosts alone.
abbrev pub PrivilegedRowsAreHidden : Type 0
PrivilegedRowsAreHidden = (t t' : Texts) (turns : ℕ) (b b' : BootTree) (m m' : Monitor) (own own' : Hosts) (begin : BothBegin t t' turns b b' m m' own own') →
    t.program ≡ t'.program → t.policy ≡ t'.policy → t.input ≡ t'.input → AreSameOfPlain begin.one.started.tree begin.one.started.hosts begin.other.started.hosts →
    RunsGoAlike b b' (with_hosts own m) (with_hosts own' m')
