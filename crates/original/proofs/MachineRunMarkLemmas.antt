-- What the lowered program knows of hosts and of main.
use Rattle.std.proofs.Common.{◌≡◌, ◌∙◌, ℕ, zero, suc, ◌+◌, nat_eq, refl, ap, arith, true, cond, Some, List, [], ◌∷◌, map, get_or}
use Rattle.std.specs.Prelude.{unwrap_or}
use Rattle.std.specs.Map.{lookup}
use Rattle.pt_base.proofs.Numbers.{nat_eq_above, nat_eq_true}
use Rattle.typed_tree.specs.TypedTree.{FunctionTree, TypedTree}
use Rattle.pt_core.specs.Calls.{no_signature, signature_in}
use Rattle.lowering.specs.Functions.{core_program, signatures_from}
use Rattle.original.specs.MachineRunHostGates.{marks_of}

-- of the function with the number f, the k-th of these, whether it is a host
mark_from : (fs : List FunctionTree) (n f k : ℕ) → f ≡ n + k → (unwrap_or (lookup (nat_eq f) (signatures_from n (map (λ g. g.signature) fs))) no_signature).host ≡ get_or (map (λ g. g.signature.host) fs) k true
mark_from [] n f k e = refl
mark_from (g ∷ fs) n f zero e = ap (λ b. (unwrap_or (cond b (Some g.signature) (lookup (nat_eq f) (signatures_from (suc n) (map (λ g. g.signature) fs)))) no_signature).host) (nat_eq_true f n (omega (arith, e)))
mark_from (g ∷ fs) n f (suc k) e =
    ap (λ b. (unwrap_or (cond b (Some g.signature) (lookup (nat_eq f) (signatures_from (suc n) (map (λ g. g.signature) fs)))) no_signature).host) (nat_eq_above f n (omega (arith, e)))
    ∙ mark_from fs (suc n) f k (omega (arith, e))

pub mark_is : (t : TypedTree) (f : ℕ) → (signature_in (core_program t) f).host ≡ get_or (marks_of t) f true
mark_is t f = mark_from t.functions 0 f f (from_zero f)
  where
    from_zero : (f : ℕ) → f ≡ 0 + f
    from_zero f = omega arith
