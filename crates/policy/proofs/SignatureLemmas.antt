-- The signatures of a typed program, one after the other.
use Rattle.std.proofs.Common.{◌≡◌, ◌∙◌, ◌≤◌, ℕ, List, [], ◌∷◌, ◌++◌, length, drop, map, refl, ap, sym, append-nil, drop_of_length-le, Bor}
use Rattle.pt_tree.specs.declared.signature.Signature.{Signature}
use Rattle.typed_tree.specs.declared.function.TypedFn.{TypedFn}
use Rattle.typed_tree.specs.TypedTree.{FunctionTree, view_function}

signatures_seen : (fs : List TypedFn) → map (λ (f : FunctionTree). f.signature) (map view_function fs) ≡ map (λ (f : TypedFn). f.signature) fs
signatures_seen [] = refl
signatures_seen (f ∷ fs) = ap (λ ss. f.signature ∷ ss) (signatures_seen fs)

pub all_collected : (fs : List TypedFn) (all : List (Bor Signature)) (i : ℕ) → length fs ≤ i
    → map (λ (f : TypedFn). f.signature) fs ≡ map (λ (s : Bor Signature). s.now) all ++ map (λ (f : TypedFn). f.signature) (drop i fs)
    → map (λ (s : Bor Signature). s.now) all ≡ map (λ (f : FunctionTree). f.signature) (map view_function fs)
all_collected fs all i end e =
    sym (signatures_seen fs ∙ e ∙ ap (λ xs. map (λ (s : Bor Signature). s.now) all ++ map (λ (f : TypedFn). f.signature) xs) (drop_of_length-le fs end) ∙ append-nil (map (λ (s : Bor Signature). s.now) all))
