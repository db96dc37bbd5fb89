use Rattle.std.proofs.Common.{◌∙◌, ℕ, ap, option_map, refl, sym}
use Rattle.pt_core.specs.declared.function.CoreFn.{CoreFn}
use Rattle.pt_core.specs.CodeTree.{FunctionTree, view_function}
use Rattle.half_trees.proofs.PlaceLemmas.{found, found_first, missing}
use Rattle.half_trees.proofs.half.Half.function.Goals as goal

abbrev number : CoreFn → ℕ
number f = f.id.0

abbrev id : FunctionTree → ℕ
id f = f.id

pub returns-in_err-place : goal.returns-in_err-place
returns-in_err-place c =
    ap (option_map (λ g. view_function g.now)) c.from_residual.ensures ∙ sym (found_first number view_function id (λ f. refl) c.args.f _
    ∙ missing number view_function c.args.f _ (sym (c.args.self.now.by_function c.args.f) ∙ sym c.place_of.ensures ∙ c.in_err-place.was))

pub returns : goal.returns
returns c =
    c.function_in.ensures
    ∙ sym (found_first number view_function id (λ f. refl) c.args.f _
    ∙ found number view_function c.args.f c.in_ok-place.place _ _ (sym (c.args.self.now.by_function c.args.f) ∙ sym c.place_of.ensures ∙ c.in_ok-place.was) refl)
