-- Lists: appending, lengths, maps and filters.
use Rattle.std.proofs.Common.{Bool, List, [], ap, arith, false, if◌then◌else◌, length, length-append, map, refl, suc, sym, true, ℕ, ◌++◌, ◌+◌, ◌<◌, ◌==◌, ◌∙◌, ◌∷◌, ◌≡◌, ◌≢◌}
use Rattle.std.proofs.lemmas.Slice.Eq.{bytes_eq-Decides}
use Rattle.std.specs.List.{filter}
use Rattle.std.specs.Prelude.{All, cond}
use Rattle.std.specs.Str.{bytes_eq}

pub append_nil : {A : Type 0} (xs : List A) → xs ++ [] ≡ xs
append_nil [] = refl
append_nil (y ∷ ys) = ap (λ zs. y ∷ zs) (append_nil ys)

pub as_append_nil : {A : Type 0} (xs : List A) → xs ≡ xs ++ []
as_append_nil xs = sym (append_nil xs)

pub append_grouped : {A : Type 0} (xs ys zs : List A) → (xs ++ ys) ++ zs ≡ xs ++ (ys ++ zs)
append_grouped [] ys zs = refl
append_grouped (x ∷ xs) ys zs = ap (λ r. x ∷ r) (append_grouped xs ys zs)

pub bytes_grouped : (a b c : List ℕ) → (a ++ b) ++ c ≡ a ++ (b ++ c)
bytes_grouped [] b c = refl
bytes_grouped (x ∷ a) b c = ap (λ xs. x ∷ xs) (bytes_grouped a b c)

pub append_nils : {A : Type 0} (xs ys : List A) → xs ≡ [] → ys ≡ [] → xs ++ ys ≡ []
append_nils xs ys p q = λ i. p i ++ q i

pub append_nil_first : {X : Type 0} (xs ys : List X) → xs ++ ys ≡ [] → xs ≡ []
append_nil_first [] ys h = refl
append_nil_first (x ∷ xs) ys h = cc

pub append_nil_second : {X : Type 0} (xs ys : List X) → xs ++ ys ≡ [] → ys ≡ []
append_nil_second [] ys h = h
append_nil_second (x ∷ xs) ys h = cc

pub length_append : {A : Type 0} (xs ys : List A) → length (xs ++ ys) ≡ length xs + length ys
length_append [] ys = omega arith
length_append (x ∷ xs) ys = let h = length_append xs ys in omega (arith, h)

pub length_pushed : {X : Type 0} (xs : List X) (y : X) → length (xs ++ y ∷ []) ≡ suc (length xs)
length_pushed [] y = refl
length_pushed (x ∷ xs) y = ap suc (length_pushed xs y)

pub length_pushed_number : (known : List ℕ) (v : ℕ) → length (known ++ v ∷ []) ≡ suc (length known)
length_pushed_number known v = let long = length-append known (v ∷ []) in omega (arith, long)

pub length_map : {A B : Type 0} (f : A → B) (xs : List A) → length (map f xs) ≡ length xs
length_map f [] = refl
length_map f (x ∷ xs) = ap suc (length_map f xs)

pub nil_of_length : {A : Type 0} (xs : List A) → length xs ≡ 0 → xs ≡ []
nil_of_length [] h = refl
nil_of_length (x ∷ xs) h = cc

pub cons_not_nil : {X : Type 0} (x : X) (xs : List X) → x ∷ xs ≡ [] → ⊥
cons_not_nil x xs e = cc

pub not_nil_by_length : (b : Bool) (xs : List ℕ) → b ≡ (length xs == 0) → b ≡ false → xs ≢ []
not_nil_by_length b [] e f = λ z. true_false (sym e) f
  where
    true_false : true ≡ b → b ≡ false → ⊥
    true_false e f = cc
not_nil_by_length b (x ∷ xs) e f = λ z. cons_nil z
  where
    cons_nil : x ∷ xs ≡ [] → ⊥
    cons_nil z = cc

pub map_append : {X Y : Type 0} (f : X → Y) (xs ys : List X) → map f (xs ++ ys) ≡ map f xs ++ map f ys
map_append f [] ys = refl
map_append f (x ∷ xs) ys = ap (λ l. f x ∷ l) (map_append f xs ys)

pub map_of_map : {X Y Z : Type 0} (g : Y → Z) (h : X → Y) (xs : List X) → map g (map h xs) ≡ map (λ x. g (h x)) xs
map_of_map g h [] = refl
map_of_map g h (x ∷ xs) = ap (λ ys. g (h x) ∷ ys) (map_of_map g h xs)

pub map_map_turned : {A B C : Type 0} (f : A → B) (g : B → C) (xs : List A) → map g (map f xs) ≡ map (λ x. g (f x)) xs
map_map_turned f g [] = refl
map_map_turned f g (x ∷ xs) = ap (λ ys. g (f x) ∷ ys) (map_map_turned f g xs)

pub filter_append : (m : ℕ → Bool) (xs ys : List ℕ) → filter m (xs ++ ys) ≡ filter m xs ++ filter m ys
filter_append m [] ys = refl
filter_append m (x ∷ xs) ys = go (m x) (filter_append m xs ys)
  where
    go : (c : Bool) → filter m (xs ++ ys) ≡ filter m xs ++ filter m ys → cond c (x ∷ filter m (xs ++ ys)) (filter m (xs ++ ys)) ≡ cond c (x ∷ filter m xs) (filter m xs) ++ filter m ys
    go true same = ap (λ zs. x ∷ zs) same
    go false same = same

pub joined_three : (s a b c x y z : List ℕ) → x ≡ s ++ a → y ≡ x ++ b → z ≡ y ++ c → z ≡ s ++ ((a ++ b) ++ c)
joined_three s a b c x y z first second third =
    third ∙ ap (λ xs. xs ++ c) (second ∙ ap (λ xs. xs ++ b) first) ∙ ap (λ xs. xs ++ c) (bytes_grouped s a b) ∙ bytes_grouped s (a ++ b) c

pub bytes_eq_self : (n : List ℕ) → bytes_eq n n ≡ true
bytes_eq_self n = (bytes_eq-Decides n n).1 refl

pub bytes_eq_same : (m n : List ℕ) → bytes_eq m n ≡ true → m ≡ n
bytes_eq_same m n h = (bytes_eq-Decides m n).0 h

pub bytes_if : (b : Bool) (input : List ℕ) → All (λ n. n < 256) input → All (λ n. n < 256) (if b then input else [])
bytes_if true input h = h
bytes_if false input h = λ k d lt. absurd (omega (arith, lt))

pub nil_not_cons : {A B : Type 0} (x : A) (xs : List A) → [] ≡ x ∷ xs → B
nil_not_cons x xs e = cc
