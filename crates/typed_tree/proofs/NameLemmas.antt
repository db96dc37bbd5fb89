-- The function with a name is the one function that has it.
use Rattle.std.proofs.Common.{◌≡◌, ◌+◌, ◌∙◌, sym, ap, ℕ, zero, suc, refl, Bool, true, false, List, [], ◌∷◌, arith, map, Option, Some, None, if◌then◌else◌}
use Rattle.std.specs.Prelude.{◌↔◌, IsTrue, not, slice_get, option_map}
use Rattle.std.specs.List.{list_any}
use Rattle.std.specs.Str.{bytes_eq}
use Rattle.std.proofs.lemmas.Slice.Eq.{bytes_eq-Decides}
use Rattle.pt_base.specs.declared.ids.FnId.{FnId}
use Rattle.pt_base.proofs.Booleans.{both_hold_first, both_hold_second}
use Rattle.typed_tree.specs.TypedTree.{FunctionTree, TypedTree}
use Rattle.typed_tree.specs.Lookup.{named_from, function_named, HasName}
use Rattle.typed_tree.specs.WellFormed.{is_well_formed, name_of, are_distinct}
use Rattle.typed_tree.proofs.WellFormedLemmas.{facts_of}

-- the name of the function of this number
abbrev name_at : List FunctionTree → ℕ → Option (List ℕ)
name_at fs k = option_map name_of (slice_get fs k)

-- the function of this number that is sought, if the test holds, else what is found behind it
abbrev chosen : Bool → ℕ → Option FnId → Option FnId
chosen b k rest = if b then Some (record { 0 = k }) else rest

-- what a search from one number on finds has the name, and stands there
found_has : (fs : List FunctionTree) (k : ℕ) (name : List ℕ) (f : FnId) → named_from k fs name ≡ Some f → (i : ℕ) × (f.0 ≡ k + i) × (name_at fs i ≡ Some name)
found_has [] k name f e = grind (arith, e)
found_has (g ∷ fs) k name f e = go (bytes_eq (name_of g) name) refl e (λ h. found_has fs (suc k) name f h)
  where
    go : (b : Bool) → bytes_eq (name_of g) name ≡ b → chosen b k (named_from (suc k) fs name) ≡ Some f
        → (named_from (suc k) fs name ≡ Some f → (i : ℕ) × (f.0 ≡ suc k + i) × (name_at fs i ≡ Some name))
        → (i : ℕ) × (f.0 ≡ k + i) × (name_at (g ∷ fs) i ≡ Some name)
    go true same h rest = (0, grind (arith, h), ap Some ((bytes_eq-Decides (name_of g) name).0 same))
    go false other h rest = let r = rest h in let at : f.0 ≡ suc k + r.0 = r.1 in (suc (r.0), omega (arith, at), r.2)

-- a name that stands among these is found by the test
has_name : (fs : List FunctionTree) (i : ℕ) (g : List ℕ) (name : List ℕ) → name_at fs i ≡ Some name → bytes_eq g name ≡ true → list_any (bytes_eq g) (map name_of fs) ≡ true
has_name [] i g name e same = grind (arith, e)
has_name (h ∷ fs) zero g name e same = grind (arith, e, same)
has_name (h ∷ fs) (suc i) g name e same = grind (arith, has_name fs i g name e same)

-- where names are distinct, the search finds the function that has the name
has_found : (fs : List FunctionTree) (k : ℕ) (name : List ℕ) (i : ℕ) → IsTrue (are_distinct (map name_of fs)) → name_at fs i ≡ Some name → named_from k fs name ≡ Some (record { 0 = k + i })
has_found [] k name i d e = grind (arith, e)
has_found (g ∷ fs) k name zero d e = go (bytes_eq (name_of g) name) ((bytes_eq-Decides (name_of g) name).1 (some_same e))
  where
    some_same : Some (name_of g) ≡ Some name → name_of g ≡ name
    some_same e = grind (arith, e)

    go : (b : Bool) → b ≡ true → chosen b k (named_from (suc k) fs name) ≡ Some (record { 0 = k + 0 })
    go true is = ap (λ n. Some (record { 0 = n })) (omega arith)
    go false is = grind (arith, is)
has_found (g ∷ fs) k name (suc i) d e = go (bytes_eq (name_of g) name) refl (has_found fs (suc k) name i (both_hold_second (not (list_any (bytes_eq (name_of g)) (map name_of fs))) (are_distinct (map name_of fs)) d) e)
  where
    go : (b : Bool) → bytes_eq (name_of g) name ≡ b → named_from (suc k) fs name ≡ Some (record { 0 = suc k + i }) → chosen b k (named_from (suc k) fs name) ≡ Some (record { 0 = k + suc i })
    go true same h =
        let again = has_name fs i (name_of g) name e same in
        let lone = both_hold_first (not (list_any (bytes_eq (name_of g)) (map name_of fs))) (are_distinct (map name_of fs)) d in
        grind (arith, again, lone)
    go false other h = h ∙ ap (λ n. Some (record { 0 = n })) (omega arith)

-- a function is the one that is found exactly where it has the name
pub named_is : (t : TypedTree) (name : List ℕ) (f : FnId) → IsTrue (is_well_formed t) → (function_named t name ≡ Some f) ↔ HasName t f name
named_is t name f h = (to, from)
  where
    at : name_at t.functions f.0 ≡ option_map (λ s. s.name) (option_map (λ g. g.signature) (slice_get t.functions f.0))
    at = go (slice_get t.functions f.0)
      where
        go : (o : Option FunctionTree) → option_map name_of o ≡ option_map (λ s. s.name) (option_map (λ g. g.signature) o)
        go None = refl
        go (Some g) = refl

    to : function_named t name ≡ Some f → HasName t f name
    to e =
        let r = found_has t.functions 0 name f e in
        let same : f.0 ≡ 0 + r.0 = r.1 in
        let number : f.0 ≡ r.0 = omega (arith, same) in
        sym at ∙ ap (name_at t.functions) number ∙ r.2

    from : HasName t f name → function_named t name ≡ Some f
    from e = has_found t.functions 0 name f.0 (facts_of t h).names (at ∙ e) ∙ ap (λ n. Some (record { 0 = n })) (omega arith)
