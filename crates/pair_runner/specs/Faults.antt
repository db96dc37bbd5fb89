-- Why a run broke off, of what a link, a sink and a reader answer.
use Rattle.std.specs.Prelude.{◌≡◌, ◌≤◌, ℕ, suc, Result, Ok, Err}
use Rattle.pt_base.specs.declared.link.LinkFault.{LinkFault}
use Rattle.pt_base.specs.declared.link.LinkFault.TheVariants as link
use Rattle.pt_base.specs.declared.sink.SinkFault.{SinkFault}
use Rattle.pt_base.specs.declared.sink.SinkFault.TheVariants as sink
use Rattle.wire.specs.declared.fault.WireError.{WireError}
use Rattle.wire.specs.declared.fault.WireError.TheVariants as error
use Rattle.pair_runner.specs.declared.fault.RunFault.{RunFault}
use Rattle.pair_runner.specs.declared.fault.RunFault.TheVariants.{LinkFailed, SinkFailed, BadPeer, PeerEnded, Memory}

abbrev pub of_link : LinkFault → RunFault
of_link link.Failed = LinkFailed
of_link link.Memory = Memory

abbrev pub of_sink : SinkFault → RunFault
of_sink sink.Failed = SinkFailed
of_sink sink.Memory = Memory

-- the first rule is on frames that spell no message, the second on long ones
abbrev pub of_frame : WireError → RunFault
of_frame (error.BadFrame offset) = BadPeer 1 offset
of_frame (error.TooLong offset) = BadPeer 2 offset
of_frame error.Memory = Memory

-- How often the link and the sink have failed behind a run that comes to this, where they had failed so often before: the first fault
-- ends it and says whose it is. Want of memory and the peer's faults are none of theirs.
abbrev pub FirstFault : {T : Type 0} → ℕ → ℕ → ℕ → ℕ → Result T RunFault → Type 0
FirstFault links links' sinks sinks' (Ok end) = (links' ≡ links) × (sinks' ≡ sinks)
FirstFault links links' sinks sinks' (Err LinkFailed) = (links' ≤ suc links) × (sinks' ≡ sinks)
FirstFault links links' sinks sinks' (Err SinkFailed) = (links' ≡ links) × (sinks' ≤ suc sinks)
FirstFault links links' sinks sinks' (Err (BadPeer rule offset)) = (links' ≡ links) × (sinks' ≡ sinks)
FirstFault links links' sinks sinks' (Err PeerEnded) = (links' ≡ links) × (sinks' ≡ sinks)
FirstFault links links' sinks sinks' (Err Memory) = (links' ≡ links) × (sinks' ≡ sinks)
