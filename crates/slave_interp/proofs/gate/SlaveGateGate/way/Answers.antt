use Rattle.std.proofs.Common.{◌∙◌, Option, ap}
use Rattle.std.specs.Prelude.{unwrap_or}
use Rattle.pt_tree.specs.declared.signature.Signature.{Signature}
use Rattle.pt_core.specs.Calls.{no_signature}
use Rattle.pair_meaning.specs.SlaveRun.{way_by}
use Rattle.slave_interp.proofs.gate.SlaveGateGate.way.Goals as goal

pub returns-in-Some : goal.returns-in-Some
returns-in-Some c = c.way_by.ensures ∙ ap (λ (o : Option Signature). way_by (unwrap_or o no_signature) c.args.args.now) c.in-Some.ensures

pub returns-in-None : goal.returns-in-None
returns-in-None c = ap (λ (o : Option Signature). way_by (unwrap_or o no_signature) c.args.args.now) c.in-None.ensures
