use Rattle.std.proofs.Common.{◌∙◌, ℕ, ap, option_map, refl, sym}
use Rattle.pt_core.specs.declared.global.GlobalVar.{GlobalVar}
use Rattle.typed_tree.specs.declared.types.VarTy.{VarTy}
use Rattle.half_trees.proofs.PlaceLemmas.{found, missing}
use Rattle.half_trees.proofs.half.Half.global.Goals as goal

abbrev number : GlobalVar → ℕ
number g = g.id.0

abbrev value : GlobalVar → VarTy
value g = g.var.ty

pub returns-in_err-place : goal.returns-in_err-place
returns-in_err-place c = ap (option_map (λ x. x.now.var.ty)) c.from_residual.ensures ∙ sym (missing number value c.args.g _ (sym (c.args.self.now.by_global c.args.g) ∙ sym c.place_of.ensures ∙ c.in_err-place.was))

pub returns : goal.returns
returns c = c.global_in.ensures ∙ sym (found number value c.args.g c.in_ok-place.place _ _ (sym (c.args.self.now.by_global c.args.g) ∙ sym c.place_of.ensures ∙ c.in_ok-place.was) refl)
