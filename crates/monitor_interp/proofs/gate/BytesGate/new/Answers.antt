use Rattle.std.proofs.Common.{List, map, subst, sym}
use Rattle.std.specs.Prelude.{IsTrue}
use Rattle.typed_tree.specs.WellFormed.{are_rising}
use Rattle.pt_core.specs.CodeTree.{numbered}
use Rattle.monitor_interp.specs.declared.marks.Mark.{Mark}
use Rattle.monitor_interp.proofs.GateLemmas.{marks_rise}
use Rattle.monitor_interp.proofs.gate.BytesGate.new.Goals as goal

pub invariant_of-result : goal.invariant_of-result
invariant_of-result c = subst (λ (ms : List Mark). IsTrue (are_rising 0 (map (λ m. m.number) ms))) (sym c.in_ok-marks.ensures) (marks_rise (numbered c.args.signatures.now) c.requires)
