-- Lists whose items have numbers, of which those are kept whose numbers are chosen: what is kept depends on what has a chosen number.
use Rattle.std.proofs.Common.{◌≡◌, ℕ, suc, ◌+◌, refl, ap, arith, Bool, true, false, not, Option, None, Some, List, [], ◌∷◌, ◌++◌, cond}
use Rattle.std.specs.Prelude.{◌&&◌, slice_get}
use Rattle.std.specs.List.{filter}
use Rattle.pt_base.proofs.Numbers.{as_plus_zero}
use Rattle.pt_tree.specs.declared.signature.Signature.{Signature}
use Rattle.typed_tree.specs.declared.variable.TypedGlobal.{TypedGlobal}
use Rattle.typed_tree.specs.StatementTree.{BodyTree}
use Rattle.typed_tree.specs.TypedTree.{FunctionTree, TypedTree}
use Rattle.pt_core.specs.CodeTree as core
use Rattle.pt_core.specs.CodeTree.{GlobalTree}
use Rattle.lowering.specs.Functions.{code_if, core_of, functions_from, globals_from, signatures_from}
use Rattle.splitter.specs.Halves.{is_slave_host}
use Rattle.splitter.specs.Sets.{numbered_global}

pub later : (n k j : ℕ) → n ≡ suc k + j → n ≡ k + suc j
later n k j e = omega (arith, e)

-- what the items give whose numbers are chosen, the first having the number k
abbrev pub given : {A B : Type 0} → (ℕ → Bool) → (ℕ → A → List B) → ℕ → List A → List B
given has give k [] = []
given has give k (x ∷ xs) = cond (has k) (give k x) [] ++ given has give (suc k) xs

-- what an item gives, if there is one
abbrev pub given_by : {A B : Type 0} → (ℕ → A → List B) → ℕ → Option A → List B
given_by give n None = []
given_by give n (Some x) = give n x

-- what is at a chosen number gives the same in both lists
abbrev GiveSame : {A B : Type 0} → (ℕ → Bool) → (give other : ℕ → A → List B) → ℕ → (xs ys : List A) → Type 0
GiveSame has give other k xs ys = (n i : ℕ) → n ≡ k + i → has n ≡ true → given_by give n (slice_get xs i) ≡ given_by other n (slice_get ys i)

pub given_same : {A B : Type 0} (has : ℕ → Bool) (give other : ℕ → A → List B) (k : ℕ) (xs ys : List A) → GiveSame has give other k xs ys → given has give k xs ≡ given has other k ys
given_same has give other k [] [] h = refl
given_same {A} {B} has give other k [] (y ∷ ys) h = λ i. go (has k) (h k 0 (as_plus_zero k)) i ++ given_same has give other (suc k) [] ys (λ n j e c. h n (suc j) (later n k j e) c) i
  where
    go : (b : Bool) → (b ≡ true → [] ≡ other k y) → [] ≡ cond b (other k y) []
    go true e = e refl
    go false e = refl
given_same {A} {B} has give other k (x ∷ xs) [] h = λ i. go (has k) (h k 0 (as_plus_zero k)) i ++ given_same has give other (suc k) xs [] (λ n j e c. h n (suc j) (later n k j e) c) i
  where
    go : (b : Bool) → (b ≡ true → give k x ≡ []) → cond b (give k x) [] ≡ []
    go true e = e refl
    go false e = refl
given_same {A} {B} has give other k (x ∷ xs) (y ∷ ys) h = λ i. go (has k) (h k 0 (as_plus_zero k)) i ++ given_same has give other (suc k) xs ys (λ n j e c. h n (suc j) (later n k j e) c) i
  where
    go : (b : Bool) → (b ≡ true → give k x ≡ other k y) → cond b (give k x) [] ≡ cond b (other k y) []
    go true e = e refl
    go false e = refl

-- ---- functions

abbrev pub code_with : TypedTree → ℕ → FunctionTree → List core.FunctionTree
code_with t n f = code_if t n f f.body

pub functions_given : (t : TypedTree) (has : ℕ → Bool) (k : ℕ) (fs : List FunctionTree) → filter (λ (c : core.FunctionTree). has c.id) (functions_from t k fs) ≡ given has (code_with t) k fs
functions_given t has k [] = refl
functions_given t has k (f ∷ fs) = go (functions_given t has (suc k) fs) f.body
  where
    none : (b : Bool) (xs ys : List core.FunctionTree) → xs ≡ ys → xs ≡ cond b [] [] ++ ys
    none true xs ys e = e
    none false xs ys e = e

    one : (b : Bool) (c : core.FunctionTree) (xs ys : List core.FunctionTree) → xs ≡ ys → cond b (c ∷ xs) xs ≡ cond b (c ∷ []) [] ++ ys
    one true c xs ys e = ap (λ (zs : List core.FunctionTree). c ∷ zs) e
    one false c xs ys e = e

    go : filter (λ (c : core.FunctionTree). has c.id) (functions_from t (suc k) fs) ≡ given has (code_with t) (suc k) fs → (o : Option BodyTree) →
        filter (λ (c : core.FunctionTree). has c.id) (code_if t k f o ++ functions_from t (suc k) fs) ≡ cond (has k) (code_if t k f o) [] ++ given has (code_with t) (suc k) fs
    go rest None = none (has k) (filter (λ (c : core.FunctionTree). has c.id) (functions_from t (suc k) fs)) (given has (code_with t) (suc k) fs) rest
    go rest (Some b) = one (has k) (core_of t k f b) (filter (λ (c : core.FunctionTree). has c.id) (functions_from t (suc k) fs)) (given has (code_with t) (suc k) fs) rest

-- ---- signatures and hosts

abbrev pub signature_with : ℕ → Signature → List (ℕ × Signature)
signature_with n s = (n, s) ∷ []

abbrev pub host_with : ℕ → Signature → List (ℕ × Signature)
host_with n s = cond (s.host && not s.privileged) ((n, s) ∷ []) []

pub signatures_given : (has : ℕ → Bool) (k : ℕ) (ss : List Signature) → filter (λ (s : ℕ × Signature). has s.0) (signatures_from k ss) ≡ given has signature_with k ss
signatures_given has k [] = refl
signatures_given has k (s ∷ ss) = go (has k) (signatures_given has (suc k) ss)
  where
    go : (b : Bool) → filter (λ (x : ℕ × Signature). has x.0) (signatures_from (suc k) ss) ≡ given has signature_with (suc k) ss →
        cond b ((k, s) ∷ filter (λ (x : ℕ × Signature). has x.0) (signatures_from (suc k) ss)) (filter (λ (x : ℕ × Signature). has x.0) (signatures_from (suc k) ss)) ≡ cond b (signature_with k s) [] ++ given has signature_with (suc k) ss
    go true rest = ap (λ (xs : List (ℕ × Signature)). (k, s) ∷ xs) rest
    go false rest = rest

pub hosts_given : (called : ℕ → Bool) (k : ℕ) (ss : List Signature) → filter (λ (s : ℕ × Signature). is_slave_host (called s.0) s.1) (signatures_from k ss) ≡ given called host_with k ss
hosts_given called k [] = refl
hosts_given called k (s ∷ ss) = go (s.host && not s.privileged) (called k) (hosts_given called (suc k) ss)
  where
    go : (a b : Bool) → filter (λ (x : ℕ × Signature). is_slave_host (called x.0) x.1) (signatures_from (suc k) ss) ≡ given called host_with (suc k) ss →
        cond (a && b) ((k, s) ∷ filter (λ (x : ℕ × Signature). is_slave_host (called x.0) x.1) (signatures_from (suc k) ss)) (filter (λ (x : ℕ × Signature). is_slave_host (called x.0) x.1) (signatures_from (suc k) ss))
        ≡ cond b (cond a ((k, s) ∷ []) []) [] ++ given called host_with (suc k) ss
    go true true rest = ap (λ (xs : List (ℕ × Signature)). (k, s) ∷ xs) rest
    go true false rest = rest
    go false true rest = rest
    go false false rest = rest

-- ---- globals

abbrev pub global_with : ℕ → TypedGlobal → List GlobalTree
global_with n g = numbered_global n g ∷ []

pub globals_given : (has : ℕ → Bool) (k : ℕ) (gs : List TypedGlobal) → filter (λ (g : GlobalTree). has g.id) (globals_from k gs) ≡ given has global_with k gs
globals_given has k [] = refl
globals_given has k (g ∷ gs) = go (has k) (globals_given has (suc k) gs)
  where
    go : (b : Bool) → filter (λ (x : GlobalTree). has x.id) (globals_from (suc k) gs) ≡ given has global_with (suc k) gs →
        cond b (numbered_global k g ∷ filter (λ (x : GlobalTree). has x.id) (globals_from (suc k) gs)) (filter (λ (x : GlobalTree). has x.id) (globals_from (suc k) gs)) ≡ cond b (global_with k g) [] ++ given has global_with (suc k) gs
    go true rest = ap (λ (xs : List GlobalTree). numbered_global k g ∷ xs) rest
    go false rest = rest
