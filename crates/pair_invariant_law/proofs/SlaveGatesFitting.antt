-- The slave's gate fits what the slave has signatures for.
use Rattle.std.proofs.Common.{◌≡◌, ◌<◌, ℕ, refl, sym, subst, List, [], Bool, true, false, map}
use Rattle.std.specs.Prelude.{IsTrue, All, ◌&&◌, not}
use Rattle.slave_soundness_law.proofs.Hosts.{enters_way, here_way, number_fits}
use Rattle.pt_tree.specs.HostStep.{host_step}
use Rattle.pt_tree.specs.declared.host_model.HostModel.{HostModel}
use Rattle.pt_tree.specs.declared.signature.Signature.{Signature}
use Rattle.runs.specs.State.{Hosts}
use Rattle.host_models.specs.Fitting.{fits}
use Rattle.host_models.proofs.AnswerLemmas.{fits_in_range}
use Rattle.block_memory.specs.declared.cell.Cell.{Cell}
use Rattle.pt_core.specs.CodeTree.{MonitorTree, ProgramTree}
use Rattle.pt_core.specs.Values.{number_in}
use Rattle.pt_core.specs.Calls.{signature_in}
use Rattle.pt_core.specs.Steps.{enters, here}
use Rattle.pt_core.specs.WellFormed.{monitor_program}
use Rattle.part_views_law.specs.StepsParts.{CallsFit}
use Rattle.pair_meaning.specs.SlaveRun.{goes_with_handles, way_by}
use Rattle.pair_invariant_law.specs.Halves.{AreHalvesOf, is_own_host}
use Rattle.pair_invariant_law.specs.Hosts.{AllHostsFit, HostsAgree}
use Rattle.pair_invariant_law.specs.SlaveGatesGathering.{Gathered, gathering_gate}
use Rattle.pair_invariant_law.specs.SlaveGatesLaws.{SlaveGatesFit}

-- ---- which way a call goes

pub record IsOfWay (s : Signature) (host privileged : Bool) : Type 0 where
  pub host_is : s.host ≡ host
  pub privileged_is : s.privileged ≡ privileged

pub enters_by : (s : Signature) (args : List Cell) → way_by s args ≡ enters → IsOfWay s false false
enters_by s args e = let h = enters_way s.privileged s.host (goes_with_handles s args) e in record { host_is = h.1; privileged_is = h.0 }

pub here_by : (s : Signature) (args : List Cell) → way_by s args ≡ here → IsOfWay s true false
here_by s args e = let h = here_way s.privileged s.host (goes_with_handles s args) e in record { host_is = h.0; privileged_is = h.1 }

own_by : (h p : Bool) → h ≡ true → p ≡ false → (h && not p) ≡ true
own_by true true e i = cc
own_by true false e i = refl
own_by false p e i = cc

pub own_host : (s : Signature) → IsOfWay s true false → is_own_host s ≡ true
own_host s is = own_by s.host s.privileged is.host_is is.privileged_is

-- ---- what hosts answer

-- whatever was gathered
pub gathering_fits : (whole slave : ProgramTree) (monitor : MonitorTree) (hosts : Hosts) (input : List ℕ) (monitor_hosts : Hosts) (g : Gathered) →
    AreHalvesOf whole slave monitor → HostsAgree slave (monitor_program monitor) hosts input g.heard.hosts g.heard.input monitor_hosts → AllHostsFit slave hosts → All (λ b. b < 256) g.heard.input →
    CallsFit slave (gathering_gate slave) g
gathering_fits whole slave monitor hosts input monitor_hosts g halves agree fit bytes = record {
  entered = λ f args signed e. (let is = enters_by (signature_in slave f) args e in halves.slave_own f signed is.host_is is.privileged_is);
  made = λ f args signed e. (here_by (signature_in slave f) args e).host_is;
  answered = λ privileged f args signed e.
      let s : Signature = signature_in slave f in
      let is : IsOfWay s true false = here_by s args e in
      let of_whole : IsTrue (fits (hosts f) s) = fit f signed is.host_is in
      let own : IsTrue (fits (g.heard.hosts f) s) = subst (λ (m : HostModel). IsTrue (fits m s)) (sym (agree.slave_has f signed (own_host s is))) of_whole in
      number_fits s.result (host_step g.heard.input (g.heard.hosts f) (map number_in args)).result (fits_in_range g.heard.input (g.heard.hosts f) (map number_in args) s bytes own).result;
}

pub slave_gates_fit : SlaveGatesFit
slave_gates_fit whole slave monitor hosts input monitor_hosts g halves agree fit bytes =
    let c : CallsFit slave (gathering_gate slave) (record { heard = g; bytes = [] }) = gathering_fits whole slave monitor hosts input monitor_hosts (record { heard = g; bytes = [] }) halves agree fit bytes in
    record { entered = c.entered; made = c.made; answered = c.answered }
