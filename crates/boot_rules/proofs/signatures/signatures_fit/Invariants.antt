use Rattle.std.proofs.Common.{◌≡◌, drop}
use Rattle.std.specs.List.{list_all}
use Rattle.pt_core.specs.CodeTree.{numbered}
use Rattle.pt_core.specs.WellFormed.{signature_fits}
use Rattle.boot_rules.proofs.signatures.signatures_fit.Given as goal

abbrev pub invariant-loop-entry : goal.invariant-loop-entry
invariant-loop-entry l = list_all (λ s. signature_fits l.structs s.1) (numbered (drop l.entry-index l.signatures)) ≡ list_all (λ s. signature_fits l.structs s.1) (numbered l.fn.signatures)
