-- Each site has a number, and the function of that number is its own.
use Rattle.std.proofs.Common.{◌≡◌, ◌∙◌, ◌+◌, ℕ, zero, suc, refl, ap, sym, subst, arith, inl, inr, Bool, true, false, Some, List, [], ◌∷◌, ◌++◌, length, map, cond}
use Rattle.std.specs.Prelude.{◌⊎◌, slice_get, slice_index_or, get_or, nat_eq, unwrap_or}
use Rattle.std.specs.List.{Contains, position_from}
use Rattle.pt_base.proofs.Lists.{length_map}
use Rattle.pt_base.proofs.Members.{contains_cases, contains_nothing}
use Rattle.pt_base.proofs.Numbers.{nat_eq_same, nat_eq_self}
use Rattle.pt_base.proofs.Options.{some_same}
use Rattle.pt_base.proofs.Places.{get_after, get_below_length, get_mapped}
use Rattle.pt_tree.specs.declared.signature.Signature.{Signature}
use Rattle.typed_tree.specs.TypedTree.{FunctionTree, signatures_of}
use Rattle.lifted_trees.specs.declared.placed.Placed.{Placed}
use Rattle.lifted_trees.specs.Sites.{SiteTree}
use Rattle.lifted_trees.specs.Lifted.{Lifting, IsOrdered, all_sites, no_site, number_in, numbered_sites, op_function, op_functions, op_signature, placed_from, site_at}
use Rattle.lifted_trees.proofs.Eaches.{Each}

-- ---- lists

pub get_or_from_get : {A : Type 0} (xs : List A) (k : ℕ) (x d : A) → slice_get xs k ≡ Some x → get_or xs k d ≡ x
get_or_from_get [] k x d h = cc
get_or_from_get (y ∷ ys) zero x d h = some_same y x h
get_or_from_get (y ∷ ys) (suc k) x d h = get_or_from_get ys k x d h

index_from_get : {A : Type 0} (xs : List A) (k : ℕ) (x d : A) → slice_get xs k ≡ Some x → slice_index_or xs k d ≡ x
index_from_get [] k x d h = cc
index_from_get (y ∷ ys) zero x d h = some_same y x h
index_from_get (y ∷ ys) (suc k) x d h = index_from_get ys k x d h

contains_from_get : {A : Type 0} (xs : List A) (k : ℕ) (x : A) → slice_get xs k ≡ Some x → Contains xs x
contains_from_get xs k x h = (k, get_below_length xs k x h, index_from_get xs k x x h)

-- ---- places

placed_at : (i : ℕ) (xs : List SiteTree) (j : ℕ) (x : SiteTree) → slice_get xs j ≡ Some x → slice_get (placed_from i xs) j ≡ Some (record { span = x.span; place = i + j })
placed_at i [] j x h = cc
placed_at i (y ∷ ys) zero x h =
    let same : i ≡ i + 0 = omega arith in
    ap (λ (z : SiteTree). Some (record { span = z.span; place = i })) (some_same y x h) ∙ ap (λ n. Some (record { span = x.span; place = n })) same
placed_at i (y ∷ ys) (suc j) x h =
    let same : suc i + j ≡ i + suc j = omega arith in
    placed_at (suc i) ys j x h ∙ ap (λ n. Some (record { span = x.span; place = n })) same

-- a place with this number stands in the order
record IsFound (order : List Placed) (k i : ℕ) : Type 0 where
  pub number : ℕ
  pub at : Placed
  pub position : position_from (λ x. nat_eq x.place i) k order ≡ Some (k + number)
  pub there : slice_get order number ≡ Some at
  pub place : at.place ≡ i

found_here : (x : Placed) (xs : List Placed) (k i : ℕ) → nat_eq x.place i ≡ true → IsFound (x ∷ xs) k i
found_here x xs k i e =
    let same : k ≡ k + 0 = omega arith in
    record { number = 0; at = x; position = ap (λ b. cond b (Some k) (position_from (λ z. nat_eq z.place i) (k + 1) xs)) e ∙ ap (λ n. Some n) same; there = refl; place = nat_eq_same x.place i e }

found_later : (x : Placed) (xs : List Placed) (k i : ℕ) → nat_eq x.place i ≡ false → IsFound xs (k + 1) i → IsFound (x ∷ xs) k i
found_later x xs k i e f =
    let same : (k + 1) + f.number ≡ k + suc f.number = omega arith in
    record { number = suc f.number; at = f.at; position = ap (λ b. cond b (Some k) (position_from (λ z. nat_eq z.place i) (k + 1) xs)) e ∙ f.position ∙ ap (λ n. Some n) same; there = f.there; place = f.place }

found_by : (x : Placed) (xs : List Placed) (k i : ℕ) (y : Placed) (b : Bool) → nat_eq x.place i ≡ b → (x ≡ y) ⊎ Contains xs y → y.place ≡ i → (Contains xs y → IsFound xs (k + 1) i) → IsFound (x ∷ xs) k i
found_by x xs k i y true e c is later = found_here x xs k i e
found_by x xs k i y false e (inl same) is later = let no : true ≡ false = sym (nat_eq_self i) ∙ ap (λ n. nat_eq n i) (sym is ∙ ap (λ (z : Placed). z.place) (sym same)) ∙ e in cc
found_by x xs k i y false e (inr c) is later = found_later x xs k i e (later c)

number_found : (order : List Placed) (k i : ℕ) (y : Placed) → Contains order y → y.place ≡ i → IsFound order k i
number_found [] k i y c is = absurd (contains_nothing y c)
number_found (x ∷ xs) k i y c is = found_by x xs k i y (nat_eq x.place i) refl (contains_cases x xs y c) is (λ d. number_found xs (k + 1) i y d is)

-- ---- functions

pub op_function_at : (exprs n : ℕ) (xs : List SiteTree) (m : ℕ) (x : SiteTree) → slice_get xs m ≡ Some x → slice_get (op_functions exprs n xs) m ≡ Some (op_function (n + m) (exprs + (n + m)) x)
op_function_at exprs n [] m x h = cc
op_function_at exprs n (y ∷ ys) zero x h =
    let same : n ≡ n + 0 = omega arith in
    ap (λ z. Some (op_function n (exprs + n) z)) (some_same y x h) ∙ ap (λ k. Some (op_function k (exprs + k) x)) same
op_function_at exprs n (y ∷ ys) (suc m) x h =
    let same : suc n + m ≡ n + suc m = omega arith in
    op_function_at exprs (suc n) ys m x h ∙ ap (λ k. Some (op_function k (exprs + k) x)) same

pub op_functions_count : (exprs n : ℕ) (xs : List SiteTree) → length (op_functions exprs n xs) ≡ length xs
op_functions_count exprs n [] = refl
op_functions_count exprs n (x ∷ xs) = ap suc (op_functions_count exprs (suc n) xs)

-- what the new functions are called with
abbrev pub new_signatures : Lifting → List Signature
new_signatures l = map (λ f. f.signature) (op_functions (length l.tree.exprs) 0 (numbered_sites l))

abbrev pub HasItsRequest : Lifting → ℕ → SiteTree → Type 0
HasItsRequest l j x = slice_get (signatures_of l.tree ++ new_signatures l) (length l.tree.functions + number_in l.order j) ≡ Some (op_signature (number_in l.order j) x)

-- the site at a place stands in the list of all at its number
pub numbered_there : (l : Lifting) → IsOrdered l → (j : ℕ) (x : SiteTree) → slice_get (all_sites l) j ≡ Some x → slice_get (numbered_sites l) (number_in l.order j) ≡ Some x
numbered_there l o j x h =
    let placed : slice_get (placed_from 0 (all_sites l)) j ≡ Some (record { span = x.span; place = 0 + j }) = placed_at 0 (all_sites l) j x h in
    let zero_more : 0 + j ≡ j = omega arith in
    let found : IsFound l.order 0 j = number_found l.order 0 j (record { span = x.span; place = 0 + j })
    ((o.same (record { span = x.span; place = 0 + j })).1 (contains_from_get (placed_from 0 (all_sites l)) j (record { span = x.span; place = 0 + j }) placed)) zero_more in
    let plain : 0 + found.number ≡ found.number = omega arith in
    let number : number_in l.order j ≡ found.number = ap (λ m. unwrap_or m 0) found.position ∙ plain in
    let site : site_at l found.at.place ≡ x = ap (site_at l) found.place ∙ get_or_from_get (all_sites l) j x no_site h in
    ap (slice_get (numbered_sites l)) number ∙ get_mapped (λ (z : Placed). site_at l z.place) l.order found.number found.at found.there ∙ ap (λ z. Some z) site

pub requests_there : (l : Lifting) → IsOrdered l → Each (HasItsRequest l) 0 (all_sites l)
requests_there l o j x h =
    let same : 0 + j ≡ j = omega arith in
    let n = number_in l.order j in
    let plain : 0 + n ≡ n = omega arith in
    let functions = op_functions (length l.tree.exprs) 0 (numbered_sites l) in
    let function : slice_get functions n ≡ Some (op_function (0 + n) (length l.tree.exprs + (0 + n)) x) = op_function_at (length l.tree.exprs) 0 (numbered_sites l) n x (numbered_there l o j x h) in
    let signature : slice_get (new_signatures l) n ≡ Some (op_signature (0 + n) x) =
    get_mapped (λ (f : FunctionTree). f.signature) functions n (op_function (0 + n) (length l.tree.exprs + (0 + n)) x) function in
    let there : slice_get (new_signatures l) n ≡ Some (op_signature n x) = signature ∙ ap (λ k. Some (op_signature k x)) plain in
    let long : length (signatures_of l.tree) ≡ length l.tree.functions = length_map (λ (f : FunctionTree). f.signature) l.tree.functions in
    let behind : slice_get (signatures_of l.tree ++ new_signatures l) (length (signatures_of l.tree) + n) ≡ Some (op_signature n x) = get_after (signatures_of l.tree) (new_signatures l) n ∙ there in
    subst (λ k. HasItsRequest l k x) (sym same) (subst (λ m. slice_get (signatures_of l.tree ++ new_signatures l) (m + n) ≡ Some (op_signature n x)) long behind)
