use Rattle.std.proofs.Common.{◌∙◌, ap}
use Rattle.pt_base.specs.declared.ids.FnId.{FnId}
use Rattle.pt_tree.specs.declared.signature.Signature.{Signature}
use Rattle.slave_interp.proofs.SignedLemmas.{found_there}
use Rattle.slave_interp.proofs.signed.Signed.signature.Goals as goal

pub returns-then-signatures-place : goal.returns-then-signatures-place
returns-then-signatures-place c =
    found_there c.as_slice-signatures.result.now c.args.self.now.signatures c.args.f.0 c.in-Some.place.now c.index-signatures-place.result c.index-signatures-place-then-signatures-place.result
    c.as_slice-signatures.ensures c.args.self.now.rising c.if-place-signatures.true c.index-signatures-place.is (ap (λ (z : FnId × Signature). z.0.0) c.index-signatures-place.is ∙ c.if-signatures-place.true)
