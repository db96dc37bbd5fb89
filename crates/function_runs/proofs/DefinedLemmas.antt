-- Functions by number, and those that have bodies.
use Rattle.std.proofs.Common.{◌≡◌, ◌+◌, ◌<◌, ℕ, suc, refl, ap, arith, List, [], ◌∷◌, ◌++◌, All, Option, Some, None, length, slice_get}
use Rattle.std.specs.Prelude.{is_some}
use Rattle.std.proofs.lemmas.List.Elements.{All-nil, All-cons}
use Rattle.pt_base.specs.declared.ids.FnId.{FnId}
use Rattle.pt_base.proofs.Places.{get_below_length}
use Rattle.typed_tree.specs.Lookup.{function_at}
use Rattle.typed_tree.specs.StatementTree.{BodyTree}
use Rattle.typed_tree.specs.TypedTree.{FunctionTree, TypedTree}
use Rattle.function_runs.specs.Defined.{HasBody, defined, defined_from, if_defined}

-- these are the functions of the program from the number n on
abbrev pub StandFrom : TypedTree → ℕ → List FunctionTree → Type 0
StandFrom t n fs = (k j : ℕ) → j ≡ n + k → slice_get t.functions j ≡ slice_get fs k

pub stand_first : (t : TypedTree) (n : ℕ) (f : FunctionTree) (fs : List FunctionTree) → StandFrom t n (f ∷ fs) → function_at t (record { 0 = n }) ≡ Some f
stand_first t n f fs at = at 0 n (omega arith)

pub stand_rest : (t : TypedTree) (n : ℕ) (f : FunctionTree) (fs : List FunctionTree) → StandFrom t n (f ∷ fs) → StandFrom t (suc n) fs
stand_rest t n f fs at k j e = at (suc k) j (omega arith)

pub all_stand : (t : TypedTree) → StandFrom t 0 t.functions
all_stand t k j e = let same : j ≡ k = omega arith in ap (slice_get t.functions) same

-- ---- each of them has a body

defined_more : (t : TypedTree) (n : ℕ) (f : FunctionTree) (b : Option BodyTree) (rest : List FnId) → function_at t (record { 0 = n }) ≡ Some f → f.body ≡ b → All (HasBody t) rest → All (HasBody t) (if_defined (is_some b) (record { 0 = n }) ++ rest)
defined_more t n f None rest at is all = all
defined_more t n f (Some body) rest at is all = All-cons (HasBody t) (record { 0 = n }) rest (f, body, at, is) all

all_defined_from : (t : TypedTree) (n : ℕ) (fs : List FunctionTree) → StandFrom t n fs → All (HasBody t) (defined_from n fs)
all_defined_from t n [] at = All-nil (HasBody t)
all_defined_from t n (f ∷ fs) at = defined_more t n f f.body (defined_from (suc n) fs) (stand_first t n f fs at) refl (all_defined_from t (suc n) fs (stand_rest t n f fs at))

pub all_defined : (t : TypedTree) → All (HasBody t) (defined t)
all_defined t = all_defined_from t 0 t.functions (all_stand t)

-- ---- its number is that of a function

pub defined_below : (t : TypedTree) (f : FnId) → HasBody t f → f.0 < length t.functions
defined_below t f (g, b, at, is) = get_below_length t.functions f.0 g at
