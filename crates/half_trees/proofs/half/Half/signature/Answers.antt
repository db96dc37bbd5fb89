use Rattle.std.proofs.Common.{◌∙◌, ℕ, ap, option_map, refl, sym}
use Rattle.pt_base.specs.declared.ids.FnId.{FnId}
use Rattle.pt_tree.specs.declared.signature.Signature.{Signature}
use Rattle.half_trees.proofs.PlaceLemmas.{found, missing}
use Rattle.half_trees.proofs.half.Half.signature.Goals as goal

abbrev number : FnId × Signature → ℕ
number s = s.0.0

abbrev value : FnId × Signature → Signature
value s = s.1

pub returns-in_err-place : goal.returns-in_err-place
returns-in_err-place c = ap (option_map (λ x. x.now)) c.from_residual.ensures ∙ sym (missing number value c.args.f _ (sym (c.args.self.now.by_signature c.args.f) ∙ sym c.place_of.ensures ∙ c.in_err-place.was))

pub returns : goal.returns
returns c = c.signature_in.ensures ∙ sym (found number value c.args.f c.in_ok-place.place _ _ (sym (c.args.self.now.by_signature c.args.f) ∙ sym c.place_of.ensures ∙ c.in_ok-place.was) refl)
