-- What a call comes to, and when.
use Rattle.std.specs.Prelude.{◌≡◌, ◌⊎◌, ◌&&◌, ◌||◌, ℕ, Bool, true, false, not, nat_eq, List, length}
use Rattle.std.specs.Io.KnownBytes.{Appends, Keeps}
use Rattle.pt_base.specs.Faults.{Rose}
use Rattle.pt_base.specs.Files.{SameFiles, Lacks}
use Rattle.pt_base.specs.Told.{AppendsPart}
use Rattle.front_end.specs.FaultLinesSeen.{Seen}
use Rattle.stages.specs.Climb.{Texts}
use Rattle.privtrans_app.specs.Ending.{Ending, told, usage, missing, read_fault, write_fault, link_fault, bad_peer, peer_ended, memory}
use Rattle.privtrans_app.specs.Gives.{Gives}
use Rattle.privtrans_app.specs.Held.{AreHeld, IsReached}
use Rattle.privtrans_app.specs.Outside.{Outside}
use Rattle.privtrans_app.specs.ProcessRun.{Answer, Serves}
use Rattle.privtrans_app.specs.SplitRun.{Leaves, StopsWriting}
use Rattle.privtrans_app.specs.Words.{Command, slave, IsUsage, Says, files_of, uses_of}

-- nothing is written of it: the command doesn't write to out, or a stage has faults and there is no picture of them
abbrev pub is_quiet : Command → Seen → Bool
is_quiet c s = not (uses_of c).out || (nat_eq s.status 5 && nat_eq (length s.out) 0)

-- What the files' texts give was written and is reported, of a command that talks with no other process. `same` says that out is as it was.
pub record HasShown (same : Type 0) (c : Command) (b a : Outside) (report : List ℕ) (status : ℕ) : Type 0 where
  pub own : (uses_of c).link ≡ false
  pub texts : List (List ℕ)
  pub held : AreHeld b.folder.files (files_of c) texts
  pub seen : Seen
  pub gives : Gives c texts seen
  pub out : Appends b.out.taken a.out.taken seen.out
  pub quiet : is_quiet c seen ≡ true → same
  pub report_is : report ≡ seen.report
  pub status_is : status ≡ seen.status
  pub leaves : Leaves c texts b.folder.files a.folder.files seen

-- A first part of what they give was written; no file was touched.
pub record ShowsPart (c : Command) (b a : Outside) : Type 0 where
  pub own : (uses_of c).link ≡ false
  pub texts : List (List ℕ)
  pub held : AreHeld b.folder.files (files_of c) texts
  pub seen : Seen
  pub gives : Gives c texts seen
  pub out : AppendsPart b.out.taken a.out.taken seen.out
  pub stay : SameFiles b.folder.files a.folder.files

-- Nothing was done yet. Where a slave wants memory, what was said before is told.
pub record Rests (c : Command) (b a : Outside) : Type 0 where
  pub no_slave : c ≡ slave → ⊥
  pub keeps : Keeps b.out.taken a.out.taken
  pub stay : SameFiles b.folder.files a.folder.files

-- it is a run in two processes that came to this, or a slave whose work did
abbrev pub Does : (Texts → ℕ → Answer → Type 0) → (Ending → Type 0) → Command → Outside → Ending → Type 0
Does served worked c b e = Serves served c b e ⊎ ((c ≡ slave) × worked e)

-- When a command comes to each ending. `does` says what one comes to that talks with another process, and `same` that out is as it was.
abbrev pub ComesTo : (Command → Outside → Ending → Type 0) → Type 0 → Command → Outside → Outside → Ending → Type 0
ComesTo does same c b a (told report status) = HasShown same c b a report status ⊎ does c b (told report status)
ComesTo does same c b a usage = ⊥
ComesTo does same c b a (missing name) =
    IsReached c b.folder.files name × (Lacks b.folder.files name ⊎ Rose b.folder.reads a.folder.reads) × same × SameFiles b.folder.files a.folder.files
ComesTo does same c b a (read_fault name) = IsReached c b.folder.files name × Rose b.folder.reads a.folder.reads × same × SameFiles b.folder.files a.folder.files
ComesTo does same c b a write_fault =
    (((uses_of c).out ≡ true) × Rose b.out.failed a.out.failed × (ShowsPart c b a ⊎ does c b write_fault))
    ⊎ (Rose b.folder.writes a.folder.writes × StopsWriting c b.folder.files a.folder.files)
ComesTo does same c b a link_fault = Rose b.links a.links × does c b link_fault
ComesTo does same c b a (bad_peer rule offset) = does c b (bad_peer rule offset)
ComesTo does same c b a peer_ended = does c b peer_ended
ComesTo does same c b a memory = Rests c b a ⊎ ShowsPart c b a ⊎ StopsWriting c b.folder.files a.folder.files ⊎ does c b memory

-- a call comes to this: the words ask for nothing, or for a command that comes to it
abbrev pub Comes : (Command → Outside → Ending → Type 0) → Type 0 → List (List ℕ) → Outside → Outside → Ending → Type 0
Comes does same words b a e = (IsUsage words × (e ≡ usage) × same) ⊎ ((c : Command) × Says words c × ComesTo does same c b a e)

-- what a command comes to that talks with no other process
abbrev pub ComesAlone : Type 0 → Command → Outside → Outside → Ending → Type 0
ComesAlone = ComesTo (λ c b e. ⊥)
