-- What a run of both halves in two processes comes to.
use Rattle.std.specs.Prelude.{◌≡◌, ◌⊎◌, ℕ, List, Result, Ok, Err}
use Rattle.pt_base.specs.Talk.{Event}
use Rattle.pair_runner.specs.declared.fault.RunFault.{RunFault}
use Rattle.pair_runner.specs.declared.fault.RunFault.TheVariants as fault
use Rattle.stages.specs.Climb.{Texts}
use Rattle.refusal_lines.specs.Ends.{end_line, end_status}
use Rattle.refusal_lines.specs.Lines.{lines_of}
use Rattle.stages.specs.Seen.{view_refusal}
use Rattle.pair_running.specs.declared.spawned_pair.outcome.Outcome.{Outcome}
use Rattle.pair_running.specs.declared.spawned_pair.outcome.Outcome.TheVariants.{Refused, Ran}
use Rattle.pair_running.specs.SpawnedPairOutcomeSeen.{IsExpectedOver, IsServed}
use Rattle.privtrans_app.specs.Ending.{Ending, told, write_fault, link_fault, bad_peer, peer_ended, memory}
use Rattle.privtrans_app.specs.Gives.{pair_of}
use Rattle.privtrans_app.specs.Held.{AreHeld}
use Rattle.privtrans_app.specs.Outside.{Outside}
use Rattle.privtrans_app.specs.Words.{Command, run, files_of}

-- what texts come to: why they are refused, how the run ends, or why it broke off
abbrev pub Answer : Type 0
Answer = Result Outcome RunFault

-- it ends the call so
abbrev pub ending_of : Answer → Ending
ending_of (Ok (Refused refusal)) = told (lines_of (view_refusal refusal)) 5
ending_of (Ok (Ran end names)) = told (end_line names end) (end_status end)
ending_of (Err fault.LinkFailed) = link_fault
ending_of (Err fault.SinkFailed) = write_fault
ending_of (Err (fault.BadPeer rule offset)) = bad_peer rule offset
ending_of (Err fault.PeerEnded) = peer_ended
ending_of (Err fault.Memory) = memory

-- The answer ends the call so; memory may be wanting for the lines of a refusal.
abbrev pub EndsSo : Answer → Ending → Type 0
EndsSo (Ok (Refused refusal)) e = (e ≡ told (lines_of (view_refusal refusal)) 5) ⊎ (e ≡ memory)
EndsSo (Ok (Ran end names)) e = e ≡ ending_of (Ok (Ran end names))
EndsSo (Err fault) e = e ≡ ending_of (Err fault)

-- What texts come to within so many turns, where `untouched` says that neither the link nor out were used, `moves` what went over the link
-- and to out, and `breaks` what did where that broke off. Over a link that is honest for them, as `fair` says, it is what is expected, and
-- that is written.
pub record IsRun (untouched : Type 0) (moves : List Event → List ℕ → Type 0) (breaks : List ℕ → List ℕ → List ℕ → Type 0) (writes : List ℕ → Type 0) (fair : Texts → ℕ → Type 0) (t : Texts) (turns : ℕ) (answer : Answer) : Type 0 where
  pub served : IsServed untouched moves breaks t turns answer
  pub expected : fair t turns → IsExpectedOver writes t turns answer

-- The command is a run in two processes of files whose texts came to this, and it ends the call so. `served` says what texts come to.
pub record Serves (served : Texts → ℕ → Answer → Type 0) (c : Command) (b : Outside) (e : Ending) : Type 0 where
  pub program : List ℕ
  pub host : List ℕ
  pub policy : List ℕ
  pub input : List ℕ
  pub turns : ℕ
  pub is : c ≡ run program host policy input turns
  pub texts : List (List ℕ)
  pub held : AreHeld b.folder.files (files_of c) texts
  pub answer : Answer
  pub came : served (pair_of texts) turns answer
  pub ends : e ≡ ending_of answer
