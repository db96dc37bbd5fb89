-- Stacks of sorts: where one is below another, or stands for the entries of the derivation.
use Rattle.std.proofs.Common.{◌≡◌, ℕ, List, [], ◌∷◌, ◌++◌, Bool, true, false, ◌&&◌, ◌||◌, nat_eq, if◌then◌else◌, None, map, refl, sym, ap, subst, ◌∙◌, ◌⊎◌, inl, inr, arith, rules, append_assoc}
use Rattle.std.proofs.lemmas.Bool.Decides.{nat_tests}
use Rattle.std.proofs.lemmas.Cmp.{nat_eq_equiv}
use Rattle.std.proofs.lemmas.Bool.{and_from}
use Rattle.pt_base.proofs.Booleans.{and_true_first, and_true_second, false_not_true}
use Rattle.c_grammar.specs.Part.{Part, init_declarators}
use Rattle.c_grammar.specs.Item.{Item, token, symbol, counted, build}
use Rattle.c_grammar.specs.Machine.{Entry, takes, gives, opens, closes, builds, placed}
use Rattle.front_end_law.proofs.ParsesSorts.{fits, below, taken, OnTaken, ends, inits_sort, item_rest_sort, items_sort}
use Rattle.front_end_law.proofs.ParsesBuildShapes.{Builds}
use Rattle.front_end_law.proofs.ParsesRuleShapes.{token_sorts, needs, leaves, Shapes}

-- ---- one sort below another

abbrev IsBelow : ℕ → ℕ → Type 0
IsBelow s t = (s ≡ t) ⊎ ((s ≡ inits_sort) × (t ≡ item_rest_sort))

below_cases : (s t : ℕ) → below s t ≡ true → IsBelow s t
below_cases s t h = go (nat_eq s t) refl (nat_eq s inits_sort) refl (nat_eq t item_rest_sort) refl h
  where
    go : (a : Bool) → nat_eq s t ≡ a → (b : Bool) → nat_eq s inits_sort ≡ b → (c : Bool) → nat_eq t item_rest_sort ≡ c → (a || (b && c)) ≡ true → IsBelow s t
    go true e b f c g h = inl (search (rules, nat_tests))
    go false e true f true g h = inr (search (rules, nat_tests), search (rules, nat_tests))
    go false e true f false g h = cc
    go false e false f c g h = cc

below_same : (s : ℕ) → below s s ≡ true
below_same s = ap (λ b. b || (nat_eq s inits_sort && nat_eq s item_rest_sort)) (nat_eq_equiv.refl s)

below_trans : (s t u : ℕ) → below s t ≡ true → below t u ≡ true → below s u ≡ true
below_trans s t u a b = go (below_cases s t a) (below_cases t u b)
  where
    go : IsBelow s t → IsBelow t u → below s u ≡ true
    go (inl e) k = subst (λ n. below n u ≡ true) (sym e) b
    go (inr x) (inl f) = subst (λ n. below s n ≡ true) f a
    go (inr x) (inr y) = let e : item_rest_sort ≡ inits_sort = sym x.1 ∙ y.0 in absurd (omega (arith, e))

inits_fit : (x : Part) → fits inits_sort x ≡ true → fits item_rest_sort x ≡ true
inits_fit (init_declarators ds) h = refl
inits_fit x h = false_not_true h

pub below_fits : (s t : ℕ) (x : Part) → below s t ≡ true → fits s x ≡ true → fits t x ≡ true
below_fits s t x b h = go (below_cases s t b)
  where
    go : IsBelow s t → fits t x ≡ true
    go (inl e) = subst (λ n. fits n x ≡ true) e h
    go (inr y) = subst (λ n. fits n x ≡ true) (sym y.1) (inits_fit x (subst (λ n. fits n x ≡ true) y.0 h))

-- ---- one stack of sorts below another

abbrev belows : List ℕ → List ℕ → Bool
belows [] [] = true
belows [] (r ∷ rs) = false
belows (s ∷ ss) [] = false
belows (s ∷ ss) (r ∷ rs) = below s r && belows ss rs

same_belows : (ss : List ℕ) → belows ss ss ≡ true
same_belows [] = refl
same_belows (s ∷ ss) = and_from (below s s) (belows ss ss) (below_same s) (same_belows ss)

belows_more : (t : ℕ) (ss rs : List ℕ) → belows ss rs ≡ true → belows (t ∷ ss) (t ∷ rs) ≡ true
belows_more t ss rs h = and_from (below t t) (belows ss rs) (below_same t) h

belows_append : (ts ss rs : List ℕ) → belows ss rs ≡ true → belows (ts ++ ss) (ts ++ rs) ≡ true
belows_append [] ss rs h = h
belows_append (t ∷ ts) ss rs h = belows_more t (ts ++ ss) (ts ++ rs) (belows_append ts ss rs h)

lower_ends : (ss rs : List ℕ) (t : ℕ) → belows ss rs ≡ true → ends rs t ≡ true → ends ss t ≡ true
lower_ends ss [] t b h = false_not_true h
lower_ends [] (r ∷ rs) t b h = false_not_true b
lower_ends (s ∷ []) (r ∷ []) t b h = below_trans s r t (and_true_first (below s r) true b) h
lower_ends (s ∷ q ∷ ss) (r ∷ []) t b h = false_not_true (and_true_second (below s r) false b)
lower_ends (s ∷ ss) (r ∷ p ∷ rs) t b h = false_not_true h

lower_on : (ts ss rs : List ℕ) (P : List ℕ → Type 0) → ((ss rs : List ℕ) → belows ss rs ≡ true → P rs → P ss) → belows ss rs ≡ true → OnTaken (taken ts rs) P → OnTaken (taken ts ss) P
lower_on [] ss rs P low b h = low ss rs b h
lower_on (t ∷ ts) ss [] P low b h = absurd h
lower_on (t ∷ ts) [] (r ∷ rs) P low b h = false_not_true b
lower_on (t ∷ ts) (s ∷ ss) (r ∷ rs) P low b h = go (lower_on ts ss rs P low (and_true_second (below s r) (belows ss rs) b)) (below r t) refl (below s t) refl h
  where
    go : (OnTaken (taken ts rs) P → OnTaken (taken ts ss) P) → (y : Bool) → below r t ≡ y → (z : Bool) → below s t ≡ z → OnTaken (if y then taken ts rs else None) P → OnTaken (if z then taken ts ss else None) P
    go rest true e true f h = rest h
    go rest true e false f h = false_not_true (sym f ∙ below_trans s r t (and_true_first (below s r) (belows ss rs) b) e)
    go rest false e z f h = absurd h

-- ---- what the entries of the derivation make of a stack of sorts

-- from parts of these sorts the entries leave a program
abbrev pub Stands : List Entry → List ℕ → Type 0
Stands [] ss = ends ss items_sort ≡ true
Stands (takes k ∷ rest) ss = Stands rest (token_sorts k ++ ss)
Stands (gives x ∷ rest) ss = OnTaken (taken (needs x) ss) (λ rs. Stands rest (leaves x ∷ rs))
Stands (opens x ∷ rest) ss = OnTaken (taken (needs x) ss) (λ rs. Stands rest (leaves x ∷ rs))
Stands (closes ∷ rest) ss = Stands rest ss
Stands (builds from f ∷ rest) ss = (wants : List ℕ) × (leaf : ℕ) × Builds wants leaf f × OnTaken (taken wants ss) (λ rs. Stands rest (leaf ∷ rs))

lower : (stack : List Entry) (ss rs : List ℕ) → belows ss rs ≡ true → Stands stack rs → Stands stack ss
lower [] ss rs b h = lower_ends ss rs items_sort b h
lower (takes k ∷ rest) ss rs b h = lower rest (token_sorts k ++ ss) (token_sorts k ++ rs) (belows_append (token_sorts k) ss rs b) h
lower (gives x ∷ rest) ss rs b h = lower_on (needs x) ss rs (λ qs. Stands rest (leaves x ∷ qs)) (λ ps qs c i. lower rest (leaves x ∷ ps) (leaves x ∷ qs) (belows_more (leaves x) ps qs c) i) b h
lower (opens x ∷ rest) ss rs b h = lower_on (needs x) ss rs (λ qs. Stands rest (leaves x ∷ qs)) (λ ps qs c i. lower rest (leaves x ∷ ps) (leaves x ∷ qs) (belows_more (leaves x) ps qs c) i) b h
lower (closes ∷ rest) ss rs b h = lower rest ss rs b h
lower (builds from f ∷ rest) ss rs b h = (h.0, h.1, h.2, lower_on h.0 ss rs (λ qs. Stands rest (h.1 ∷ qs)) (λ ps qs c i. lower rest (h.1 ∷ ps) (h.1 ∷ qs) (belows_more h.1 ps qs c) i) b h.3)

enter_on : (ns ts rs : List ℕ) (P Q : List ℕ → Type 0) → ((qs : List ℕ) → P qs → Q (qs ++ rs)) → OnTaken (taken ns ts) P → OnTaken (taken ns (ts ++ rs)) Q
enter_on [] ts rs P Q step h = step ts h
enter_on (n ∷ ns) [] rs P Q step h = absurd h
enter_on (n ∷ ns) (t ∷ ts) rs P Q step h = go (below t n) (enter_on ns ts rs P Q step) h
  where
    go : (b : Bool) → (OnTaken (taken ns ts) P → OnTaken (taken ns (ts ++ rs)) Q) → OnTaken (if b then taken ns ts else None) P → OnTaken (if b then taken ns (ts ++ rs) else None) Q
    go true rest h = rest h
    go false rest h = absurd h

-- what a rule wants in place of its symbol
pub enters : (from left : ℕ) (want : List Item) (rest : List Entry) (ts rs : List ℕ) → Shapes ts want left → Stands rest (left ∷ rs) → Stands (map (placed from) want ++ rest) (ts ++ rs)
enters from left [] rest [] rs h i = false_not_true h
enters from left [] rest (t ∷ []) rs h i = lower rest (t ∷ rs) (left ∷ rs) (and_from (below t left) (belows rs rs) h (same_belows rs)) i
enters from left [] rest (t ∷ u ∷ ts) rs h i = false_not_true h
enters from left (token k ∷ want) rest ts rs h i = subst (Stands (map (placed from) want ++ rest)) (append_assoc (token_sorts k) ts rs) (enters from left want rest (token_sorts k ++ ts) rs h i)
enters from left (symbol x ∷ want) rest ts rs h i = enter_on (needs x) ts rs (λ qs. Shapes (leaves x ∷ qs) want left) (λ qs. Stands (map (placed from) want ++ rest) (leaves x ∷ qs)) (λ qs c. enters from left want rest (leaves x ∷ qs) rs c i) h
enters from left (counted x ∷ want) rest ts rs h i = enter_on (needs x) ts rs (λ qs. Shapes (leaves x ∷ qs) want left) (λ qs. Stands (map (placed from) want ++ rest) (leaves x ∷ qs)) (λ qs c. enters from left want rest (leaves x ∷ qs) rs c i) h
enters from left (build f ∷ want) rest ts rs h i = (h.0, h.1, h.2, enter_on h.0 ts rs (λ qs. Shapes (h.1 ∷ qs) want left) (λ qs. Stands (map (placed from) want ++ rest) (h.1 ∷ qs)) (λ qs c. enters from left want rest (h.1 ∷ qs) rs c i) h.3)
