-- What a slave's process comes to.
use Rattle.std.specs.Prelude.{◌≡◌, ℕ, List, [], Option, ⊤, Result, Ok, Err}
use Rattle.std.specs.Io.KnownBytes.{Keeps}
use Rattle.pt_base.specs.Talk.{Event}
use Rattle.pair_runner.specs.Sending.{Parts, Talks}
use Rattle.slave_runner.specs.declared.fault.WorkFault.{WorkFault}
use Rattle.slave_runner.specs.declared.fault.WorkFault.TheVariants.{LinkFailed, BadPeer, PeerEnded, Memory}
use Rattle.slave_runner.specs.Outcomes.{Stops, IsRefused}
use Rattle.slave_runner.specs.Rules.{has_ended}
use Rattle.privtrans_app.specs.Ending.{Ending, told, usage, missing, read_fault, write_fault, link_fault, bad_peer, peer_ended, memory}

-- the spawner was taken over from the parent and so became this link to it, and then this was the talk over it
pub record Inherits {S : Type 0} (inherits : S → S → Type 0) (came : S → List Event → S → Type 0) (sent given : S → Option (List ℕ)) (spawner spawner' : S) (talk : List Event) : Type 0 where
  pub link : S
  pub became : inherits spawner link
  pub sent_so : Keeps (sent spawner) (sent link)
  pub given_so : Keeps (given spawner) (given link)
  pub talked : Talks came sent given link spawner' talk

-- how the work ends the call
abbrev pub ending_of : Result ⊤ WorkFault → Ending
ending_of (Ok done) = told [] 0
ending_of (Err LinkFailed) = link_fault
ending_of (Err (BadPeer rule offset)) = bad_peer rule offset
ending_of (Err PeerEnded) = peer_ended
ending_of (Err Memory) = memory

-- it ended so, by a talk that is one of `talks`, or broke off, with bytes given and sent in part as `parts` says
abbrev pub Works : (List Event → Type 0) → (List ℕ → List ℕ → Type 0) → Ending → Type 0
Works talks parts (told report status) = (report ≡ []) × (status ≡ 0) × Stops talks has_ended
Works talks parts usage = ⊥
Works talks parts (missing name) = ⊥
Works talks parts (read_fault name) = ⊥
Works talks parts write_fault = ⊥
Works talks parts link_fault = IsRefused talks parts LinkFailed
Works talks parts (bad_peer rule offset) = IsRefused talks parts (BadPeer rule offset)
Works talks parts peer_ended = IsRefused talks parts PeerEnded
Works talks parts memory = IsRefused talks parts Memory

-- the same of a spawner, before and after
abbrev pub IsWorkOver : {S : Type 0} → (S → S → Type 0) → (S → List Event → S → Type 0) → (S → Option (List ℕ)) → (S → Option (List ℕ)) → S → S → Ending → Type 0
IsWorkOver inherits came sent given spawner spawner' = Works (Inherits inherits came sent given spawner spawner') (Parts sent given spawner spawner')
