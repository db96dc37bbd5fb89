-- What a slave's hosts write in a step has a spelling, and their names stay bytes.
use Rattle.std.proofs.Common.{◌≡◌, ◌<◌, ◌^◌, ℕ, ℤ, nat_eq, refl, List, Option, Some, None, Bool, true, false, map, if◌then◌else◌}
use Rattle.std.specs.Prelude.{IsTrue, ◌&&◌, not}
use Rattle.pt_base.proofs.Booleans.{both_hold_second}
use Rattle.pt_tree.specs.HostStep.{host_step}
use Rattle.pt_tree.specs.declared.host_model.HostModel.{HostModel}
use Rattle.pt_tree.specs.declared.host_model.HostModel.TheVariants as model
use Rattle.pt_tree.specs.declared.signature.Signature.{Signature}
use Rattle.runs.specs.State.{Hosts, put_host}
use Rattle.host_models.specs.Fitting.{has_numbers_in_range, has_right_params, has_short_name}
use Rattle.block_memory.specs.declared.cell.Cell.{Cell}
use Rattle.wire.specs.declared.message.Message.TheVariants as message
use Rattle.pt_core.specs.Calls.{signature_in}
use Rattle.pt_core.specs.Steps.{enters, here, away}
use Rattle.pt_core.specs.Values.{number_in}
use Rattle.core_soundness_law.specs.Fits.{Fits}
use Rattle.core_soundness_law.specs.Outside.{ArgumentsFit}
use Rattle.core_soundness_law.specs.StepLaws.{called_params}
use Rattle.core_soundness_law.proofs.Programs.{facts_of}
use Rattle.core_soundness_law.specs.Called.{is_called}
use Rattle.marshalling_law.specs.CallsSpelled.{HasBytes, HasSpelling}
use Rattle.marshalling_law.proofs.CallsPackable.{called_few}
use Rattle.marshalling_law.proofs.CallsWritten.{writes_are_spelled}
use Rattle.pair_meaning.specs.SlaveRun.{Slave, Heard, goes_with_handles, heard_by, machine_step, slave_gate, way_by}
use Rattle.slave_soundness_law.specs.Sound.{IsRunning}
use Rattle.slave_soundness_law.specs.MessagesFormat.{IsInFormat, numbered}
use Rattle.slave_soundness_law.proofs.MessagesGates.{given_gate_keeps}

-- it has a spelling, whichever turn it is
abbrev pub WroteFits : Option (List ℕ) → Type 0
WroteFits None = Unit {0}
WroteFits (Some bytes) = (turns : ℕ) → turns < 2 ^ 64 → HasSpelling (message.Emit turns bytes)

pub record HeardFits (heard : Heard) : Type 0 where
  pub hosts : (f : ℕ) → HasBytes (heard.hosts f)
  pub wrote : WroteFits heard.wrote

-- a host that is called here isn't privileged
plain_here : (p h w : Bool) → (if p then away else (if h then (if w then away else here) else enters)) ≡ here → IsTrue (h && not p)
plain_here true h w e = cc
plain_here false true true e = cc
plain_here false true false e = refl
plain_here false false w e = cc

next_bytes : (input : List ℕ) (host : HostModel) (numbers : List ℤ) → HasBytes host → HasBytes (host_step input host numbers).next
next_bytes input (model.Table rows other) numbers h = h
next_bytes input (model.Feed values other next) numbers h = h
next_bytes input (model.Input next) numbers h = h
next_bytes input model.Bytes numbers h = h
next_bytes input (model.Line name) numbers h = h

put_bytes : (hosts : Hosts) (f : ℕ) (next : HostModel) → ((g : ℕ) → HasBytes (hosts g)) → HasBytes next → (g : ℕ) → HasBytes (put_host hosts f next g)
put_bytes hosts f next old new g = go (nat_eq g f)
  where
    go : (b : Bool) → HasBytes (if b then next else hosts g)
    go true = new
    go false = old g

pub heard_fits : (x : Slave) → IsInFormat x → IsRunning x → Fits numbered false x.program x.machine → HeardFits (machine_step x).gate
heard_fits x h running fits =
    given_gate_keeps numbered false x.program (slave_gate x.program) x.machine (heard_by x) h.sound.program HeardFits
    (record { hosts = h.hosts; wrote = tt {0} })
    (λ active f args. record { hosts = h.hosts; wrote = tt {0} })
    (λ active depth f args own e given. record {
      hosts = put_bytes x.hosts f (host_step x.input (x.hosts f) (map number_in args)).next h.hosts (next_bytes x.input (x.hosts f) (map number_in args) (h.hosts f));
      wrote = written depth f args own e given (host_step x.input (x.hosts f) (map number_in args)).written refl;
    })
    fits running.own
  where
    short : (f : ℕ) (args : List Cell) → IsTrue (is_called x.program f) → way_by (signature_in x.program f) args ≡ here → IsTrue (has_short_name (x.hosts f))
    short f args own e =
        let s : Signature = signature_in x.program f in
        both_hold_second (has_right_params s (x.hosts f) && has_numbers_in_range s (x.hosts f)) (has_short_name (x.hosts f)) (running.hosts f own (plain_here s.privileged s.host (goes_with_handles s args) e))

    written : (depth f : ℕ) (args : List Cell) → IsTrue (is_called x.program f) → way_by (signature_in x.program f) args ≡ here → ArgumentsFit numbered x.program.structs x.machine.blocks depth (called_params false x.program f) args →
        (o : Option (List ℕ)) → (host_step x.input (x.hosts f) (map number_in args)).written ≡ o → WroteFits o
    written depth f args own e given None is = tt {0}
    written depth f args own e given (Some bytes) is = λ turns less.
        writes_are_spelled numbered x.program.structs x.machine.blocks depth (called_params false x.program f) args x.input (x.hosts f) bytes turns given
        (called_few false x.program (facts_of false x.program h.sound.program) f).few (short f args own e) (h.hosts f) is less
