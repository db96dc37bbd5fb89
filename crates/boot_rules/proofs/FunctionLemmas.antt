-- A function's count of parameters.
use Rattle.std.proofs.Common.{◌≡◌, ◌≢◌, ◌∙◌, sym, ap, ℕ, true, false, List, length, take, arith, nat_eq}
use Rattle.std.specs.Prelude.{◌&&◌}
use Rattle.std.proofs.lemmas.Bool.Decides.{nat_tests}
use Rattle.std.proofs.lemmas.List.{take_all}
use Rattle.pt_tree.specs.declared.signature.Param.{Param}
use Rattle.typed_tree.specs.declared.variable.Var.{Var}
use Rattle.typed_tree.specs.WellFormed.{params_lead}

-- all parameters
pub all_params : (params : List Param) (vars : List Var) (count : ℕ) → count ≡ length params → params_lead params vars ≡ (nat_eq count (length params) && params_lead (take count params) vars)
all_params params vars count is =
    let same : nat_eq count (length params) ≡ true = grind (arith, nat_tests) in
    ap (λ xs. params_lead xs vars) (sym (take_all count params (omega arith)))
    ∙ ap (λ b. b && params_lead (take count params) vars) (sym same)

-- another count
pub other_count : (params : List Param) (vars : List Var) (count : ℕ) → count ≢ length params → false ≡ (nat_eq count (length params) && params_lead (take count params) vars)
other_count params vars count is =
    let other : nat_eq count (length params) ≡ false = grind (arith, nat_tests) in
    ap (λ b. b && params_lead (take count params) vars) (sym other)
