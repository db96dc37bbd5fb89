-- What a call comes to, its status and how it is reported.
use Rattle.std.specs.Prelude.{◌≡◌, ◌≢◌, ◌⊎◌, ℕ, List, ◌++◌, codes, Option}
use Rattle.std.specs.Fmt.{decimal}
use Rattle.std.specs.Io.KnownBytes.{Appends}
use Rattle.pt_base.specs.Faults.{Rose}
use Rattle.pt_base.specs.Told.{AppendsPart}

-- What a call comes to.
pub data Ending : Type 0 where
  -- what was asked for was done, and this is reported, with this status
  told : List ℕ → ℕ → Ending
  -- the words ask for nothing
  usage : Ending
  -- no file of this name is held
  missing : List ℕ → Ending
  -- the file of this name can't be read
  read_fault : List ℕ → Ending
  -- out or a half can't be written
  write_fault : Ending
  -- the link to the other process failed
  link_fault : Ending
  -- the other process broke this rule, with the frame at this place of what it gave
  bad_peer : ℕ → ℕ → Ending
  -- the other process ended before the run did
  peer_ended : Ending
  -- want of memory
  memory : Ending

-- the status that a call ends with
abbrev pub status_of : Ending → ℕ
status_of (told report status) = status
status_of usage = 1
status_of (missing name) = 2
status_of (read_fault name) = 3
status_of write_fault = 4
status_of link_fault = 9
status_of (bad_peer rule offset) = 10
status_of peer_ended = 11
status_of memory = 12

-- what is reported
abbrev pub report_of : Ending → List ℕ
report_of (told report status) = report
report_of usage = codes "usage\n"
report_of (missing name) = codes "missing " ++ name ++ codes "\n"
report_of (read_fault name) = codes "read fault " ++ name ++ codes "\n"
report_of write_fault = codes "write fault\n"
report_of link_fault = codes "link fault\n"
report_of (bad_peer rule offset) = codes "bad peer " ++ decimal rule ++ codes " " ++ decimal offset ++ codes "\n"
report_of peer_ended = codes "peer ended\n"
report_of memory = codes "memory\n"

-- How an ending is reported, and the status: as it is where the report was written, else 4, with the
-- count of failed writes to report risen, or 12.
abbrev pub Reports : Ending → Option (List ℕ) → Option (List ℕ) → ℕ → ℕ → ℕ → Type 0
Reports e report report' failed failed' status =
    ((status ≡ status_of e) × Appends report report' (report_of e))
    ⊎ ((status ≡ 4) × (status_of e ≢ 12) × Rose failed failed' × AppendsPart report report' (report_of e))
    ⊎ ((status ≡ 12) × AppendsPart report report' (report_of e))

-- What writing a text to out comes to: the ending where it was written, else a fault of writing or
-- want of memory, where a first part of it was written.
abbrev pub Puts : Option (List ℕ) → Option (List ℕ) → ℕ → ℕ → List ℕ → Ending → Ending → Type 0
Puts out out' writes writes' text done came =
    ((came ≡ done) × Appends out out' text)
    ⊎ ((came ≡ write_fault) × Rose writes writes' × AppendsPart out out' text)
    ⊎ ((came ≡ memory) × AppendsPart out out' text)

-- a count of faults didn't rise
abbrev pub StaysDown : ℕ → ℕ → Type 0
StaysDown before now = Rose before now → ⊥

-- the status is this one, or 12
abbrev pub EndsWith : ℕ → ℕ → Type 0
EndsWith status n = (status ≡ n) ⊎ (status ≡ 12)
