-- The functions of a program are few, their names short, and their signatures those of the list in memory.
use Rattle.std.proofs.Common.{◌≡◌, ℕ, zero, suc, List, [], ◌∷◌, map, slice_get, true, Some, IsTrue, refl, ap, subst}
use Rattle.std.proofs.lemmas.Option.{none-some, same_Some}
use Rattle.std.specs.List.{list_all}
use Rattle.pt_base.specs.Names.{is_short}
use Rattle.pt_base.proofs.Booleans.{both_hold_first, both_hold_second}
use Rattle.pt_tree.specs.declared.signature.Signature.{Signature}
use Rattle.typed_tree.specs.TypedTree.{FunctionTree, view_function}
use Rattle.typed_tree.specs.WellFormed.{name_of}
use Rattle.typed_tree.specs.declared.function.TypedFn.{TypedFn}

pub same_signatures : (fns : List TypedFn) → map (λ f. f.signature) (map view_function fns) ≡ map (λ f. f.signature) fns
same_signatures [] = refl
same_signatures (f ∷ fns) = ap (λ rest. f.signature ∷ rest) (same_signatures fns)

-- where all names are short, so is that of each signature
pub short_at : (fns : List FunctionTree) (k : ℕ) (s : Signature) → IsTrue (list_all is_short (map name_of fns)) → slice_get (map (λ f. f.signature) fns) k ≡ Some s → is_short s.name ≡ true
short_at [] zero s short at = absurd (none-some s at)
short_at [] (suc k) s short at = absurd (none-some s at)
short_at (f ∷ fns) zero s short at = subst (λ (x : Signature). is_short x.name ≡ true) (same_Some f.signature s at) (both_hold_first (is_short (name_of f)) (list_all is_short (map name_of fns)) short)
short_at (f ∷ fns) (suc k) s short at = short_at fns k s (both_hold_second (is_short (name_of f)) (list_all is_short (map name_of fns)) short) at
