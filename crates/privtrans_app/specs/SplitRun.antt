-- What a split leaves in its files.
use Rattle.std.specs.Prelude.{◌≡◌, ◌≢◌, ◌⊎◌, ℕ, List, ⊤, Option, Some, None, codes}
use Rattle.pt_base.specs.Faults.{Rose}
use Rattle.pt_base.specs.Files.{Files, SameFiles, SameOthers, HoldsAt}
use Rattle.front_end.specs.FaultLinesSeen.{Seen}
use Rattle.stages.specs.Climb.{alone}
use Rattle.program_split.specs.Split.{IsSplit}
use Rattle.privtrans_app.specs.Ending.{Ending, told, usage, missing, read_fault, write_fault, link_fault, bad_peer, peer_ended, memory}
use Rattle.privtrans_app.specs.Gives.{text_at}
use Rattle.privtrans_app.specs.Held.{AreHeld}
use Rattle.privtrans_app.specs.Words.{Command, help, version, check, explain, outline, picture, explain_pair, orig, local, run, split, slave, gen, serve, audit, files_of}
use Rattle.privtrans_app.specs.declared.words.SplitWords.{SplitWords}

-- told files but these two stay as they are
abbrev pub SameBut : Option Files → Option Files → List ℕ → List ℕ → Type 0
SameBut None new to_slave to_monitor = ⊤
SameBut (Some old) None to_slave to_monitor = ⊥
SameBut (Some old) (Some new) to_slave to_monitor = (other : List ℕ) → other ≢ to_slave → other ≢ to_monitor → new other ≡ old other

-- the file holds these bytes then, where the folder told its files before
abbrev pub LeavesAt : Option Files → Option Files → List ℕ → List ℕ → Type 0
LeavesAt None files' name bytes = ⊤
LeavesAt (Some files) files' name bytes = HoldsAt files' name bytes

-- both files hold the halves of this text
pub record AreLeft (text to_slave to_monitor : List ℕ) (files files' : Option Files) : Type 0 where
  pub slave_text : List ℕ
  pub monitor_text : List ℕ
  pub halves : IsSplit (alone text) (record { slave = slave_text; monitor = monitor_text })
  pub slave_left : LeavesAt files files' to_slave slave_text
  pub monitor_left : LeavesAt files files' to_monitor monitor_text

-- what is seen of a split of this text leaves the files so: where a stage has faults as they were, and else both hold the halves
abbrev pub LeavesHalves : List ℕ → List ℕ → List ℕ → Option Files → Option Files → Seen → Type 0
LeavesHalves text to_slave to_monitor files files' s =
    ((s.status ≡ 5) × SameFiles files files') ⊎ ((s.status ≡ 0) × AreLeft text to_slave to_monitor files files')

-- what is seen of a command whose files hold these texts leaves the files so; a command that is no split leaves them as they were
abbrev pub Leaves : Command → List (List ℕ) → Option Files → Option Files → Seen → Type 0
Leaves help texts files files' s = SameFiles files files'
Leaves version texts files files' s = SameFiles files files'
Leaves (check program) texts files files' s = SameFiles files files'
Leaves (explain program) texts files files' s = SameFiles files files'
Leaves (outline program) texts files files' s = SameFiles files files'
Leaves (picture program) texts files files' s = SameFiles files files'
Leaves (explain_pair program host policy) texts files files' s = SameFiles files files'
Leaves (orig program host input turns) texts files files' s = SameFiles files files'
Leaves (local program host policy input turns window) texts files files' s = SameFiles files files'
Leaves (run program host policy input turns) texts files files' s = SameFiles files files'
Leaves (split program to_slave to_monitor) texts files files' s = LeavesHalves (text_at texts 0) to_slave to_monitor files files' s
Leaves slave texts files files' s = SameFiles files files'
Leaves (gen seed count) texts files files' s = SameFiles files files'
Leaves (serve program host policy turns inputs) texts files files' s = SameFiles files files'
Leaves (audit program) texts files files' s = SameFiles files files'

-- Writing the halves broke off: at the slave's file, and nothing else was touched, or at the monitor's, and the slave's is written.
pub record StopsWriting (c : Command) (files files' : Option Files) : Type 0 where
  pub program : List ℕ
  pub to_slave : List ℕ
  pub to_monitor : List ℕ
  pub is : c ≡ split program to_slave to_monitor
  pub texts : List (List ℕ)
  pub held : AreHeld files (files_of c) texts
  pub slave_text : List ℕ
  pub monitor_text : List ℕ
  pub halves : IsSplit (alone (text_at texts 0)) (record { slave = slave_text; monitor = monitor_text })
  pub touched : SameOthers files files' to_slave ⊎ LeavesAt files files' to_slave slave_text

-- why a half wasn't written
abbrev pub IsUnwritten : ℕ → ℕ → Ending → Type 0
IsUnwritten writes writes' (told report status) = ⊥
IsUnwritten writes writes' usage = ⊥
IsUnwritten writes writes' (missing name) = ⊥
IsUnwritten writes writes' (read_fault name) = ⊥
IsUnwritten writes writes' write_fault = Rose writes writes'
IsUnwritten writes writes' link_fault = ⊥
IsUnwritten writes writes' (bad_peer rule offset) = ⊥
IsUnwritten writes writes' peer_ended = ⊥
IsUnwritten writes writes' memory = ⊤

-- both halves were written, or writing one of them was refused
abbrev pub AreWritten : SplitWords → Option Files → Option Files → ℕ → ℕ → List ℕ → List ℕ → Ending → Type 0
AreWritten words files files' writes writes' slave_text monitor_text (told report status) =
    (report ≡ codes "split\n") × (status ≡ 0) × LeavesAt files files' words.slave.now slave_text × LeavesAt files files' words.monitor.now monitor_text
AreWritten words files files' writes writes' slave_text monitor_text usage = ⊥
AreWritten words files files' writes writes' slave_text monitor_text (missing name) = ⊥
AreWritten words files files' writes writes' slave_text monitor_text (read_fault name) = ⊥
AreWritten words files files' writes writes' slave_text monitor_text write_fault =
    Rose writes writes' × (SameOthers files files' words.slave.now ⊎ LeavesAt files files' words.slave.now slave_text)
AreWritten words files files' writes writes' slave_text monitor_text link_fault = ⊥
AreWritten words files files' writes writes' slave_text monitor_text (bad_peer rule offset) = ⊥
AreWritten words files files' writes writes' slave_text monitor_text peer_ended = ⊥
AreWritten words files files' writes writes' slave_text monitor_text memory = SameOthers files files' words.slave.now ⊎ LeavesAt files files' words.slave.now slave_text
