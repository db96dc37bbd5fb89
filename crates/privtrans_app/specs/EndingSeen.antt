-- What a call comes to, as the definitions name it.
use Rattle.std.specs.Prelude.{◌≡◌, ◌⊎◌, ℕ, List, [], codes}
use Rattle.front_end.specs.FaultLinesSeen.{Seen as Whole}
use Rattle.refusal_lines.specs.Ends.{end_line, end_status}
use Rattle.refusal_lines.specs.Lines.{lines_of}
use Rattle.stages.specs.declared.refusal.Stop.{Stop}
use Rattle.stages.specs.declared.refusal.Stop.TheVariants as stop
use Rattle.stages.specs.declared.refusal.Stop.TheVariants.{Refused}
use Rattle.stages.specs.Seen.{view_refusal}
use Rattle.privtrans_app.specs.Ending.{Ending as Seen, told, usage, missing, read_fault, write_fault, link_fault, bad_peer, peer_ended, memory}
use Rattle.privtrans_app.specs.declared.ending.Ending.{Ending}
use Rattle.privtrans_app.specs.declared.ending.Ending.TheVariants.{Told, Usage, Missing, ReadFault, WriteFault, LinkFault, BadPeer, PeerEnded, Memory}
use Rattle.privtrans_app.specs.declared.ending.Report.{Report}
use Rattle.privtrans_app.specs.declared.ending.Report.TheVariants.{Nothing, Accepted, Split, Faults, Ended, Served, Audited}
use Rattle.privtrans_app.specs.declared.showing.Shown.{Shown}

-- the lines of a report
abbrev pub report_bytes : Report → List ℕ
report_bytes Nothing = []
report_bytes Accepted = codes "accepted\n"
report_bytes Split = codes "split\n"
report_bytes (Faults lines) = lines.items
report_bytes (Ended end names) = end_line names end
report_bytes (Served lines) = lines.items
report_bytes Audited = codes "audited\n"

-- the status that goes with it
abbrev pub report_status : Report → ℕ
report_status Nothing = 0
report_status Accepted = 0
report_status Split = 0
report_status (Faults lines) = 5
report_status (Ended end names) = end_status end
report_status (Served lines) = 0
report_status Audited = 0

abbrev pub ending_seen : Ending → Seen
ending_seen (Told report) = told (report_bytes report) (report_status report)
ending_seen Usage = usage
ending_seen (Missing name) = missing name.now
ending_seen (ReadFault name) = read_fault name.now
ending_seen WriteFault = write_fault
ending_seen LinkFault = link_fault
ending_seen (BadPeer rule offset) = bad_peer rule offset
ending_seen PeerEnded = peer_ended
ending_seen Memory = memory

-- what a command shows, whole
abbrev pub shown_seen : Shown → Whole
shown_seen shown = record { out = shown.out.items; report = report_bytes shown.report; status = report_status shown.report }

-- stages that stop so end the call: with the lines of the refusal, for which memory may be wanting
abbrev pub IsStopped : Stop → Seen → Type 0
IsStopped (Refused refusal) e = (e ≡ told (lines_of (view_refusal refusal)) 5) ⊎ (e ≡ memory)
IsStopped stop.Memory e = e ≡ memory
