-- What each function evaluates, one function after the other.
use Rattle.std.proofs.Common.{◌≡◌, ◌∙◌, ◌+◌, ◌≤◌, ℕ, zero, suc, sym, ap, arith, List, [], ◌∷◌, length, map, get_or}
use Rattle.std.specs.Prelude.{option_and_then}
use Rattle.std.proofs.lemmas.List.{get_or_past}
use Rattle.std.proofs.lemmas.Option.{slice_get_past}
use Rattle.pt_base.specs.declared.ids.FnId.{FnId}
use Rattle.typed_tree.specs.declared.part.Role.TheVariants.{Value}
use Rattle.typed_tree.specs.Parts.{function_parts}
use Rattle.typed_tree.specs.TypedTree.{FunctionTree, TypedTree}
use Rattle.usages.specs.declared.usage.Usage.{Usage}
use Rattle.usages.specs.UsageView.{view_usage}
use Rattle.usages.specs.Usages.{UsageTree, parts_usages, usages_in}

-- what so many functions evaluate, of which the first has the number n
abbrev pub usages_from : TypedTree → ℕ → ℕ → List (List UsageTree)
usages_from t n zero = []
usages_from t n (suc more) = usages_in t (record { 0 = n }) ∷ usages_from t (suc n) more

-- past the last function there is nothing
past_last : (t : TypedTree) (f : FnId) → length t.functions ≤ f.0 → usages_in t f ≡ []
unfolding usages_in
past_last t f past =
    ap (λ o. parts_usages t.exprs Value 0 (function_parts (option_and_then (λ (g : FunctionTree). g.body) o))) (slice_get_past t.functions f.0 past)

listed_from : (t : TypedTree) (n more : ℕ) (bodies : List (List Usage)) (k : ℕ) (f : FnId) → f.0 ≡ n + k → length t.functions ≤ n + more → map (map view_usage) bodies ≡ usages_from t n more →
    map view_usage (get_or bodies k []) ≡ usages_in t f
listed_from t n zero [] k f at all are = ap (map view_usage) (get_or_past [] k [] (omega arith)) ∙ sym (past_last t f (omega arith))
listed_from t n zero (b ∷ bs) k f at all are = cc
listed_from t n (suc more) [] k f at all are = cc
listed_from t n (suc more) (b ∷ bs) zero f at all are =
    let first : map view_usage b ≡ usages_in t (record { 0 = n }) = cc in
    let same : n ≡ f.0 = omega arith in
    first ∙ ap (λ i. usages_in t (record { 0 = i })) same
listed_from t n (suc more) (b ∷ bs) (suc k) f at all are =
    let rest : map (map view_usage) bs ≡ usages_from t (suc n) more = cc in listed_from t (suc n) more bs k f (omega arith) (omega arith) rest

-- the lists of all functions are the program's
pub listed_at : (t : TypedTree) (bodies : List (List Usage)) → map (map view_usage) bodies ≡ usages_from t 0 (length t.functions) → (f : FnId) → map view_usage (get_or bodies f.0 []) ≡ usages_in t f
listed_at t bodies are f = listed_from t 0 (length t.functions) bodies f.0 f (omega arith) (omega arith) are
