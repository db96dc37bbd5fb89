use Rattle.std.proofs.Common.{◌∙◌, ap, sym}
use Rattle.pt_base.specs.declared.ids.FnId.{FnId}
use Rattle.pt_tree.specs.declared.signature.Signature.{Signature}
use Rattle.monitor_labels.proofs.PlaceLemmas.{signature_is}
use Rattle.monitor_labels.proofs.scope.signature_of.Goals as goal

pub returns-in-Some : goal.returns-in-Some
returns-in-Some c =
    ap (λ (z : FnId × Signature). z.1) (sym c.index-signatures-place.is)
    ∙ signature_is c.as_slice-signatures.result.now c.args.p.now.signatures c.args.f.0 c.in-Some.place c.index-signatures-place.result c.as_slice-signatures.ensures c.requires.signatures c.in-Some.ensures c.index-signatures-place.is
