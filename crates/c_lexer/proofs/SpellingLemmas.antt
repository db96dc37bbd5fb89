-- A word is the spelling of the kind that is found for it, and a word of another length is none of the kinds.
use Rattle.std.proofs.Common.{◌≡◌, ℕ, Bool, false, nat_eq, List, [], ◌∷◌, length, refl, rules, arith}
use Rattle.std.specs.Prelude.{None}
use Rattle.std.specs.List.{list_any}
use Rattle.std.specs.Str.{bytes_eq}
use Rattle.c_lexer.specs.declared.token.TokenKind.{TokenKind}
use Rattle.c_lexer.specs.Spelling.{spelling_of, keywords, kind_among, keyword_of}

abbrev pub as_long : ℕ → TokenKind → Bool
as_long n k = nat_eq n (length (spelling_of k))

-- words of two lengths differ
length_differs : (xs ys : List ℕ) → nat_eq (length xs) (length ys) ≡ false → bytes_eq xs ys ≡ false
length_differs [] [] h = cc
length_differs [] (y ∷ ys) h = refl
length_differs (x ∷ xs) [] h = refl
length_differs (x ∷ xs) (y ∷ ys) h = grind (arith, length_differs xs ys)

none_as_long : (ks : List TokenKind) (word : List ℕ) → list_any (as_long (length word)) ks ≡ false → kind_among ks word ≡ None
none_as_long [] word h = refl
none_as_long (k ∷ ks) word h = grind (arith, length_differs word (spelling_of k), none_as_long ks word)

lengths : (n : ℕ)
    → (n ≡ 2 → ⊥) → (n ≡ 3 → ⊥) → (n ≡ 4 → ⊥) → (n ≡ 5 → ⊥) → (n ≡ 6 → ⊥) → (n ≡ 7 → ⊥) → (n ≡ 8 → ⊥) → (n ≡ 10 → ⊥) → (n ≡ 13 → ⊥)
    → list_any (as_long n) keywords ≡ false
lengths n a b c d e f g h i = search rules

-- a word of no keyword's length is no keyword
pub no_keyword : (word : List ℕ) → let n = length word in
    (n ≡ 2 → ⊥) → (n ≡ 3 → ⊥) → (n ≡ 4 → ⊥) → (n ≡ 5 → ⊥) → (n ≡ 6 → ⊥) → (n ≡ 7 → ⊥) → (n ≡ 8 → ⊥) → (n ≡ 10 → ⊥) → (n ≡ 13 → ⊥)
    → keyword_of word ≡ None
unfolding keyword_of
no_keyword word a b c d e f g h i = none_as_long keywords word (lengths (length word) a b c d e f g h i)
