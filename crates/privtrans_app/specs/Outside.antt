-- What the outside tells at one moment.
use Rattle.std.specs.Prelude.{◌≡◌, ◌≢◌, ◌+◌, ◌≤◌, ℕ, true, List, [], Option}
use Rattle.std.specs.Io.KnownBytes.{Appends}
use Rattle.pt_base.specs.declared.chooser.Who.{Who}
use Rattle.pt_base.specs.Files.{Files}
use Rattle.front_end.specs.FaultLinesSeen.{Seen}
use Rattle.privtrans_app.specs.Ending.{StaysDown}
use Rattle.privtrans_app.specs.Words.{Command, files_of, uses_of}

-- What a folder tells.
pub record FolderTold : Type 0 where
  pub files : Option Files
  -- how many reads failed, or missed a file that may be held
  pub reads : ℕ
  -- how many reads failed
  pub failed : ℕ
  -- how many writes failed
  pub writes : ℕ

abbrev pub folder_told : {F : Type 0} → (F → Option Files) → (F → ℕ) → (F → ℕ) → (F → ℕ) → F → FolderTold
folder_told files reads failed writes folder = record { files = files folder; reads = reads folder; failed = failed folder; writes = writes folder }

-- What a sink tells.
pub record SinkTold : Type 0 where
  pub taken : Option (List ℕ)
  -- how many writes failed
  pub failed : ℕ

abbrev pub sink_told : {K : Type 0} → (K → Option (List ℕ)) → (K → ℕ) → K → SinkTold
sink_told taken failed sink = record { taken = taken sink; failed = failed sink }

-- What all of it tells.
pub record Outside : Type 0 where
  pub folder : FolderTold
  pub out : SinkTold
  pub report : SinkTold
  -- how many calls of the link failed
  pub links : ℕ
  -- the chooser's answers to come
  pub answers : Option (ℕ → Who)

abbrev pub outside : FolderTold → SinkTold → SinkTold → ℕ → Option (ℕ → Who) → Outside
outside folder out report links answers = record { folder = folder; out = out; report = report; links = links; answers = answers }

-- how many calls of folder, out and link failed
abbrev pub failures : Outside → ℕ
failures o = o.folder.reads + o.folder.writes + o.out.failed + o.links

-- out and report grew by what is seen, and the status is its
pub record AreSeen (s : Seen) (b a : Outside) (status : ℕ) : Type 0 where
  pub writes : Appends b.out.taken a.out.taken s.out
  pub reports : Appends b.report.taken a.report.taken s.report
  pub ends : status ≡ s.status

-- nothing that the command uses failed, the link aside
pub record GoesWell (c : Command) (b a : Outside) : Type 0 where
  pub reads : files_of c ≢ [] → StaysDown b.folder.reads a.folder.reads
  pub writes : (uses_of c).writes_files ≡ true → StaysDown b.folder.writes a.folder.writes
  pub out : (uses_of c).out ≡ true → StaysDown b.out.failed a.out.failed
  pub report : StaysDown b.report.failed a.report.failed

-- no count of faults falls
pub record NeverFall (b a : Outside) : Type 0 where
  pub reads : b.folder.reads ≤ a.folder.reads
  pub failed : b.folder.failed ≤ a.folder.failed
  pub writes : b.folder.writes ≤ a.folder.writes
  pub out : b.out.failed ≤ a.out.failed
  pub report : b.report.failed ≤ a.report.failed
  pub links : b.links ≤ a.links
