-- Why a slave's side broke off, of what a link answers.
use Rattle.std.specs.Prelude.{◌≡◌, ◌≤◌, ℕ, suc, Result, Ok, Err}
use Rattle.pt_base.specs.declared.link.LinkFault.{LinkFault}
use Rattle.pt_base.specs.declared.link.LinkFault.TheVariants as link
use Rattle.boots.specs.declared.fault.BootError.{BootError}
use Rattle.boots.specs.declared.fault.BootError.TheVariants as boot
use Rattle.slave_runner.specs.declared.fault.WorkFault.{WorkFault}
use Rattle.slave_runner.specs.declared.fault.WorkFault.TheVariants.{LinkFailed, BadPeer, PeerEnded, Memory}

abbrev pub of_link : LinkFault → WorkFault
of_link link.Failed = LinkFailed
of_link link.Memory = Memory

-- bytes that are no boot break the rule at the first byte
abbrev pub of_boot : BootError → WorkFault
of_boot boot.BadBoot = BadPeer 11 0
of_boot boot.Memory = Memory

-- it broke off for a reason that isn't the peer's fault
abbrev pub Stuck : WorkFault → Type 0 → Type 0
Stuck LinkFailed so = so
Stuck (BadPeer number place) so = ⊥
Stuck PeerEnded so = ⊥
Stuck Memory so = so

-- How often the link has failed behind work that comes to this, where it had failed so often before: its first fault ends the work and
-- is told. Want of memory and the peer's faults are none of its own.
abbrev pub FirstFault : {T : Type 0} → ℕ → ℕ → Result T WorkFault → Type 0
FirstFault links links' (Ok done) = links' ≡ links
FirstFault links links' (Err LinkFailed) = links' ≤ suc links
FirstFault links links' (Err (BadPeer number place)) = links' ≡ links
FirstFault links links' (Err PeerEnded) = links' ≡ links
FirstFault links links' (Err Memory) = links' ≡ links
