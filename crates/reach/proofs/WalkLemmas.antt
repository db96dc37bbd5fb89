-- Lists that code gathers one by one.
use Rattle.std.proofs.Common.{◌≡◌, ◌∙◌, ◌<◌, ◌↔◌, ℕ, zero, suc, ◌+◌, ◌-◌, refl, ap, sym, Bool, true, false, Option, Some, None, List, [], ◌∷◌, ◌++◌, length, map, get_or, cond}
use Rattle.std.specs.Prelude.{Vec, if◌then◌else◌, is_some, MatchOption, vec_len}
use Rattle.std.specs.declared.alloc.Global.{Global}
use Rattle.std.specs.Vec.{with_items}
use Rattle.std.specs.List.{filter, flat_map, range_with_len}
use Rattle.std.proofs.Math.ListN.{set, length-set}
use Rattle.std.proofs.lemmas.List.{map-append, with_items_is}
use Rattle.pt_base.specs.declared.slot.Slot.{Slot}
use Rattle.pt_base.specs.declared.slot.Edge.{Edge}
use Rattle.pt_base.proofs.Members.{range_first}
use Rattle.typed_tree.specs.TypedTree.{FunctionTree, TypedTree}
use Rattle.propagation.specs.Paths.{IsPriv, IsShortestPath}
use Rattle.propagation.specs.Marks.{AreMarks, Shown, path_shown}
use Rattle.reach.specs.CallGraph.{privileged_from, calls_of, calls_from}
use Rattle.reach.specs.Contexts.{is_privileged}
use Rattle.reach.specs.declared.calls.Half.{Half}
use Rattle.reach.specs.Tables.{places_true, set_all, item_if}
use Rattle.reach.proofs.MoreLemmas.{moved_on}
use Rattle.reach.proofs.TableLemmas.{set_all_append}

-- ---- sets

pub places_on : {X : Type 0} (make : ℕ → X) (k : ℕ) (b : Bool) (bs : List Bool) (list list' all : List X) → list' ≡ list ++ item_if b (make k) → list ++ map make (places_true k (b ∷ bs)) ≡ all →
    list' ++ map make (places_true (suc k) bs) ≡ all
places_on make k true bs list list' all e h = moved_on list list' (make k ∷ []) (map make (places_true (suc k) bs)) all e h
places_on make k false bs list list' all e h = moved_on list list' [] (map make (places_true (suc k) bs)) all e h

pub privileged_on : (k : ℕ) (x : FunctionTree) (xs : List FunctionTree) (list list' all : List Slot) → list' ≡ list ++ item_if (is_privileged x) (record { 0 = k }) → list ++ privileged_from k (x ∷ xs) ≡ all →
    list' ++ privileged_from (suc k) xs ≡ all
privileged_on k x xs list list' all e h = go (is_privileged x) e h
  where
    go : (b : Bool) → list' ≡ list ++ item_if b (record { 0 = k }) → list ++ (if b then record { 0 = k } ∷ privileged_from (suc k) xs else privileged_from (suc k) xs) ≡ all → list' ++ privileged_from (suc k) xs ≡ all
    go true e h = moved_on list list' (record { 0 = k } ∷ []) (privileged_from (suc k) xs) all e h
    go false e h = moved_on list list' [] (privileged_from (suc k) xs) all e h

pub sets_on : (table table' all : List Bool) (xs rest : List ℕ) → table' ≡ set_all table xs → set_all table (xs ++ rest) ≡ all → set_all table' rest ≡ all
sets_on table table' all xs rest e h = ap (λ z. set_all z rest) e ∙ set_all_append table xs rest ∙ h

-- ---- filtered lists

pub filter_append : {X : Type 0} (test : X → Bool) (xs ys : List X) → filter test (xs ++ ys) ≡ filter test xs ++ filter test ys
filter_append test [] ys = refl
filter_append test (x ∷ xs) ys = go (filter_append test xs ys) (test x)
  where
    go : filter test (xs ++ ys) ≡ filter test xs ++ filter test ys → (b : Bool) → cond b (x ∷ filter test (xs ++ ys)) (filter test (xs ++ ys)) ≡ cond b (x ∷ filter test xs) (filter test xs) ++ filter test ys
    go rest true = ap (λ zs. x ∷ zs) rest
    go rest false = rest

pub chosen_append : {X Y : Type 0} (f : X → Y) (test : X → Bool) (xs ys : List X) → map f (filter test (xs ++ ys)) ≡ map f (filter test xs) ++ map f (filter test ys)
chosen_append f test xs ys = ap (map f) (filter_append test xs ys) ∙ map-append f (filter test xs) (filter test ys)

-- ---- calls

pub calls_on : (t : TypedTree) (half : Half) (k more : ℕ) (edges edges' all : List Edge) → edges' ≡ edges ++ calls_of t half k → edges ++ calls_from t half k (suc more) ≡ all → edges' ++ calls_from t half (suc k) more ≡ all
calls_on t half k more edges edges' all e h = moved_on edges edges' (calls_of t half k) (calls_from t half (suc k) more) all e h

-- ---- marks

pub shown_at : (marks : Shown) (k : ℕ) → get_or (map is_some marks) k false ≡ is_some (get_or marks k None)
shown_at [] k = refl
shown_at (m ∷ ms) zero = refl
shown_at (m ∷ ms) (suc k) = shown_at ms k

-- a mark is shown exactly where a path leads
pub told : (seeds : List Slot) (edges : List Edge) (slots : ℕ) (marks : Shown) (table : List Bool) → table ≡ map is_some marks → AreMarks seeds edges slots marks →
    (k : ℕ) → k < slots → (get_or table k false ≡ true) ↔ IsPriv seeds edges (record { 0 = k })
told seeds edges slots marks table e are k lt = (λ h. there (path_shown marks (record { 0 = k })) (are.paths (record { 0 = k }) lt) (sym at ∙ h), λ h. at ∙ back (path_shown marks (record { 0 = k })) (are.paths (record { 0 = k }) lt) h)
  where
    at : get_or table k false ≡ is_some (path_shown marks (record { 0 = k }))
    at = ap (λ xs. get_or xs k false) e ∙ shown_at marks k

    there : (o : Option (List ℕ)) → MatchOption o (¬ IsPriv seeds edges (record { 0 = k })) (λ path. IsShortestPath seeds edges path (record { 0 = k })) → is_some o ≡ true → IsPriv seeds edges (record { 0 = k })
    there None m h = cc
    there (Some path) m h = (m.0, path, m.1, m.2)

    back : (o : Option (List ℕ)) → MatchOption o (¬ IsPriv seeds edges (record { 0 = k })) (λ path. IsShortestPath seeds edges path (record { 0 = k })) → IsPriv seeds edges (record { 0 = k }) → is_some o ≡ true
    back None m h = absurd (m h)
    back (Some path) m h = refl

-- ---- leaves

-- after one more leaf
pub leaf_on : (test : ℕ → Bool) (start k n : ℕ) (table table' all : List Bool) → k < n → table' ≡ set_all table (map (λ j. start + j) (filter test (k ∷ []))) →
    set_all table (map (λ j. start + j) (filter test (range_with_len k (n - k)))) ≡ all → set_all table' (map (λ j. start + j) (filter test (range_with_len (k + 1) (n - (k + 1))))) ≡ all
leaf_on test start k n table table' all lt e h =
    sets_on table table' all (map (λ j. start + j) (filter test (k ∷ []))) (map (λ j. start + j) (filter test (range_with_len (k + 1) (n - (k + 1))))) e
    (ap (set_all table) (sym (ap (λ xs. map (λ j. start + j) (filter test xs)) (range_first k n lt) ∙ chosen_append (λ j. start + j) test (k ∷ []) (range_with_len (k + 1) (n - (k + 1))))) ∙ h)

-- ---- one body, and then the others

-- after what one more item adds
pub item_on : {X : Type 0} (numbers : X → List ℕ) (xs rest : List X) (x : X) (table table' all : List Bool) → xs ≡ x ∷ rest → table' ≡ set_all table (numbers x) → set_all table (flat_map numbers xs) ≡ all →
    set_all table' (flat_map numbers rest) ≡ all
item_on numbers xs rest x table table' all split e h = sets_on table table' all (numbers x) (flat_map numbers rest) e (ap (λ ys. set_all table (flat_map numbers ys)) (sym split) ∙ h)

-- after what is chosen of one more item
pub chosen_on : {X Y Z : Type 0} (make : Y → Z) (test : Y → Bool) (parts : X → List Y) (xs rest : List X) (x : X) (list list' all : List Z) → xs ≡ x ∷ rest → list' ≡ list ++ map make (filter test (parts x)) →
    list ++ map make (filter test (flat_map parts xs)) ≡ all → list' ++ map make (filter test (flat_map parts rest)) ≡ all
chosen_on make test parts xs rest x list list' all split e h =
    moved_on list list' (map make (filter test (parts x))) (map make (filter test (flat_map parts rest))) all e
    (ap (λ zs. list ++ zs) (sym (chosen_append make test (parts x) (flat_map parts rest))) ∙ ap (λ ys. list ++ map make (filter test (flat_map parts ys))) (sym split) ∙ h)

-- after the numbers of one more item
pub numbers_on : {X Y : Type 0} (number : Y → ℕ) (parts : X → List Y) (xs rest : List X) (x : X) (table table' all : List Bool) → xs ≡ x ∷ rest → table' ≡ set_all table (map number (parts x)) →
    set_all table (map number (flat_map parts xs)) ≡ all → set_all table' (map number (flat_map parts rest)) ≡ all
numbers_on number parts xs rest x table table' all split e h =
    sets_on table table' all (map number (parts x)) (map number (flat_map parts rest)) e
    (ap (set_all table) (sym (map-append number (parts x) (flat_map parts rest))) ∙ ap (λ ys. set_all table (map number (flat_map parts ys))) (sym split) ∙ h)

pub long_all : (table : List Bool) (ks : List ℕ) → length (set_all table ks) ≡ length table
long_all table [] = refl
long_all table (k ∷ ks) = long_all (set table k true) ks ∙ length-set table k true

-- a table that was lent as a slice
pub kept_items : (v : Vec Bool Global) (ws old : List Bool) (ks : List ℕ) → ws ≡ set_all old ks → old ≡ v.items → length old ≡ vec_len v → (with_items v ws).items ≡ set_all v.items ks
kept_items v ws old ks e eo long = with_items_is v ws (ap length e ∙ long_all old ks ∙ long) ∙ e ∙ ap (λ xs. set_all xs ks) eo
