use Rattle.std.proofs.Common.{◌∙◌, Option, ap, sym}
use Rattle.std.specs.Prelude.{unwrap_or}
use Rattle.pt_tree.specs.declared.signature.Signature.{Signature}
use Rattle.pt_core.specs.Calls.{no_signature}
use Rattle.pair_meaning.specs.SlaveRun.{way_by}
use Rattle.slave_interp.proofs.gate.SlaveGateGate.enters.Goals as goal

pub returns-in-Some : goal.returns-in-Some
returns-in-Some c = λ own args. ap (λ (o : Option Signature). way_by (unwrap_or o no_signature) args) (sym c.in-Some.ensures) ∙ c.is_own.ensures own args
