-- The first line of a text, and the first word of a line.
use Rattle.std.proofs.Common.{◌≡◌, ◌∙◌, ◌+◌, ◌<◌, ◌≤◌, ℕ, suc, Bool, true, false, cond, not, if◌then◌else◌, List, [], ◌∷◌, length, take, drop, refl, ap, sym, subst, arith, add-one, one-add, length-take, length-drop, take_all, drop_of_length-le, ap₂, ◌-◌}
use Rattle.std.specs.Prelude.{◌==◌}
use Rattle.std.specs.List.{filter, prefix_len, slice_split, onto_first}
use Rattle.policy.specs.Lines.{lines_of, words_of, is_blank, is_word}

-- the text is its first line and those behind the line feed
lines_at : (text : List ℕ) → 0 < length text
    → lines_of text ≡ take (prefix_len (λ b. not (b == 10)) text) text ∷ lines_of (drop (suc (prefix_len (λ b. not (b == 10)) text)) text)
lines_at [] some = absurd (omega arith)
lines_at (b ∷ []) some = go (b == 10)
  where
    go : (t : Bool) → (if t then [] ∷ [] else (b ∷ []) ∷ []) ≡ take (cond (not t) (1 + 0) 0) (b ∷ []) ∷ lines_of (drop (suc (cond (not t) (1 + 0) 0)) (b ∷ []))
    go true = refl
    go false = refl
lines_at (b ∷ a ∷ bs) some = go (b == 10) (lines_at (a ∷ bs) (omega arith))
  where
    go : (t : Bool) → lines_of (a ∷ bs) ≡ take (prefix_len (λ c. not (c == 10)) (a ∷ bs)) (a ∷ bs) ∷ lines_of (drop (suc (prefix_len (λ c. not (c == 10)) (a ∷ bs))) (a ∷ bs))
        → (if t then [] ∷ lines_of (a ∷ bs) else onto_first b (lines_of (a ∷ bs)))
        ≡ take (cond (not t) (1 + prefix_len (λ c. not (c == 10)) (a ∷ bs)) 0) (b ∷ a ∷ bs) ∷ lines_of (drop (suc (cond (not t) (1 + prefix_len (λ c. not (c == 10)) (a ∷ bs)) 0)) (b ∷ a ∷ bs))
    go true is = refl
    go false is =
        ap (onto_first b) is
        ∙ ap (λ n. take n (b ∷ a ∷ bs) ∷ lines_of (drop (suc n) (b ∷ a ∷ bs))) (sym (one-add (prefix_len (λ c. not (c == 10)) (a ∷ bs))))

pub lines_first : (text : List ℕ) (n : ℕ) → 0 < length text → n ≡ prefix_len (λ b. not (b == 10)) text
    → lines_of text ≡ take n text ∷ lines_of (drop (n + 1) text)
lines_first text n some is =
    lines_at text some
    ∙ ap (λ k. take k text ∷ lines_of (drop (suc k) text)) (sym is)
    ∙ ap (λ k. take n text ∷ lines_of (drop k text)) (sym (add-one n))

-- blanks at the front say nothing
skipped : (line : List ℕ) → words_of (drop (prefix_len is_blank line) line) ≡ words_of line
skipped [] = refl
skipped (b ∷ bs) = go (is_blank b) refl (skipped bs)
  where
    go : (t : Bool) → is_blank b ≡ t → words_of (drop (prefix_len is_blank bs) bs) ≡ words_of bs
        → words_of (drop (cond t (1 + prefix_len is_blank bs) 0) (b ∷ bs)) ≡ words_of (b ∷ bs)
    go true e is =
        ap (λ k. words_of (drop k (b ∷ bs))) (one-add (prefix_len is_blank bs)) ∙ is
        ∙ ap (λ t. filter is_word (cond t ([] ∷ slice_split is_blank bs) (onto_first b (slice_split is_blank bs)))) (sym e)
    go false e is = refl

pub words_skip : (line : List ℕ) (n : ℕ) → n ≡ prefix_len is_blank line → words_of (drop n line) ≡ words_of line
words_skip line n is = ap (λ k. words_of (drop k line)) is ∙ skipped line

-- a word begins behind them
pub begins_word : (line : List ℕ) (n : ℕ) → n ≡ prefix_len is_blank line → 0 < length (drop n line) → 0 < prefix_len (λ b. not (is_blank b)) (drop n line)
begins_word line n is = subst (λ k. 0 < length (drop k line) → 0 < prefix_len (λ b. not (is_blank b)) (drop k line)) (sym is) (begins line)
  where
    begins : (line : List ℕ) → 0 < length (drop (prefix_len is_blank line) line) → 0 < prefix_len (λ b. not (is_blank b)) (drop (prefix_len is_blank line) line)
    begins [] = λ some. absurd (omega arith)
    begins (b ∷ bs) = go (is_blank b) refl (begins bs)
      where
        go : (t : Bool) → is_blank b ≡ t → (0 < length (drop (prefix_len is_blank bs) bs) → 0 < prefix_len (λ c. not (is_blank c)) (drop (prefix_len is_blank bs) bs))
            → 0 < length (drop (cond t (1 + prefix_len is_blank bs) 0) (b ∷ bs)) → 0 < prefix_len (λ c. not (is_blank c)) (drop (cond t (1 + prefix_len is_blank bs) 0) (b ∷ bs))
        go true e rest = subst (λ k. 0 < length (drop k (b ∷ bs)) → 0 < prefix_len (λ c. not (is_blank c)) (drop k (b ∷ bs))) (sym (one-add (prefix_len is_blank bs))) rest
        go false e rest = λ some. subst (λ t. 0 < cond (not t) (1 + prefix_len (λ c. not (is_blank c)) bs) 0) (sym e) (omega arith)

-- the pieces behind a blank
behind : List ℕ → List (List ℕ)
behind [] = []
behind (y ∷ ys) = slice_split is_blank ys

begins_blank : List ℕ → Bool
begins_blank [] = true
begins_blank (y ∷ ys) = is_blank y

ends_blank : (line : List ℕ) → begins_blank (drop (prefix_len (λ b. not (is_blank b)) line) line) ≡ true
unfolding begins_blank
ends_blank [] = refl
ends_blank (b ∷ bs) = go (is_blank b) refl (ends_blank bs)
  where
    go : (t : Bool) → is_blank b ≡ t → begins_blank (drop (prefix_len (λ c. not (is_blank c)) bs) bs) ≡ true
        → begins_blank (drop (cond (not t) (1 + prefix_len (λ c. not (is_blank c)) bs) 0) (b ∷ bs)) ≡ true
    go true e rest = e
    go false e rest = ap (λ k. begins_blank (drop k (b ∷ bs))) (one-add (prefix_len (λ c. not (is_blank c)) bs)) ∙ rest

split_first : (line : List ℕ) → slice_split is_blank line ≡ take (prefix_len (λ b. not (is_blank b)) line) line ∷ behind (drop (prefix_len (λ b. not (is_blank b)) line) line)
unfolding behind
split_first [] = refl
split_first (b ∷ bs) = go (is_blank b) (split_first bs)
  where
    go : (t : Bool) → slice_split is_blank bs ≡ take (prefix_len (λ c. not (is_blank c)) bs) bs ∷ behind (drop (prefix_len (λ c. not (is_blank c)) bs) bs)
        → cond t ([] ∷ slice_split is_blank bs) (onto_first b (slice_split is_blank bs))
        ≡ take (cond (not t) (1 + prefix_len (λ c. not (is_blank c)) bs) 0) (b ∷ bs) ∷ behind (drop (cond (not t) (1 + prefix_len (λ c. not (is_blank c)) bs) 0) (b ∷ bs))
    go true is = refl
    go false is = ap (onto_first b) is ∙ ap (λ k. take k (b ∷ bs) ∷ behind (drop k (b ∷ bs))) (sym (one-add (prefix_len (λ c. not (is_blank c)) bs)))

words_behind : (rest : List ℕ) → begins_blank rest ≡ true → filter is_word (behind rest) ≡ words_of rest
unfolding behind begins_blank
words_behind [] e = refl
words_behind (y ∷ ys) e = ap (λ t. filter is_word (cond t ([] ∷ slice_split is_blank ys) (onto_first y (slice_split is_blank ys)))) (sym e)

first_is_word : (word : List ℕ) (pieces : List (List ℕ)) → 0 < length word → filter is_word (word ∷ pieces) ≡ word ∷ filter is_word pieces
first_is_word [] pieces some = absurd (omega arith)
first_is_word (b ∷ bs) pieces some = refl

-- the line is its first word and those behind it
pub words_first : (line : List ℕ) (n : ℕ) → n ≡ prefix_len (λ b. not (is_blank b)) line → 0 < n → n ≤ length line
    → words_of line ≡ take n line ∷ words_of (drop n line)
words_first line n is some within =
    let long : 0 < length (take n line) = omega (arith, length-take n line) in
    ap (filter is_word) (split_first line ∙ ap (λ k. take k line ∷ behind (drop k line)) (sym is))
    ∙ first_is_word (take n line) (behind (drop n line)) long
    ∙ ap (λ ws. take n line ∷ ws) (words_behind (drop n line) (ap (λ k. begins_blank (drop k line)) is ∙ ends_blank line))

-- what a slice has from a place on
tail_is : (k : ℕ) (xs : List ℕ) → take (length xs - k) (drop k xs) ≡ drop k xs
tail_is k xs = take_all (length xs - k) (drop k xs) (omega (arith, length-drop k xs))

pub line_cut : (text : List ℕ) (n : ℕ) → 0 < length text → n ≡ prefix_len (λ b. not (b == 10)) text
    → lines_of text ≡ take n text ∷ lines_of (take (length text - (n + 1)) (drop (n + 1) text))
line_cut text n some is = lines_first text n some is ∙ ap (λ rest. take n text ∷ lines_of rest) (sym (tail_is (n + 1) text))

pub line_last : (text : List ℕ) (n : ℕ) → 0 < length text → n ≡ prefix_len (λ b. not (b == 10)) text → length text ≤ n → lines_of text ≡ text ∷ []
line_last text n some is all =
    lines_first text n some is
    ∙ ap (λ line. line ∷ lines_of (drop (n + 1) text)) (take_all n text all)
    ∙ ap (λ rest. text ∷ lines_of rest) (drop_of_length-le text (omega arith))

empty_words : (rest : List ℕ) → length rest ≡ 0 → words_of rest ≡ []
empty_words [] none = refl
empty_words (b ∷ bs) none = absurd (omega arith)

pub no_word : (line : List ℕ) (n : ℕ) → n ≡ prefix_len is_blank line → length (take (length line - n) (drop n line)) ≡ 0 → words_of line ≡ []
no_word line n is none = sym (words_skip line n is) ∙ ap words_of (sym (tail_is n line)) ∙ empty_words (take (length line - n) (drop n line)) none

pub word_cut : (line rest first others : List ℕ) (n m : ℕ) → n ≡ prefix_len is_blank line → rest ≡ take (length line - n) (drop n line) → 0 < length rest
    → m ≡ prefix_len (λ b. not (is_blank b)) rest → m ≤ length rest → first ≡ take m rest → others ≡ drop m rest
    → words_of line ≡ first ∷ words_of others
word_cut line rest first others n m skipped is some run within front back =
    let tail : rest ≡ drop n line = is ∙ tail_is n line in
    let word : 0 < prefix_len (λ b. not (is_blank b)) rest
    = subst (λ r. 0 < prefix_len (λ b. not (is_blank b)) r) (sym tail) (begins_word line n skipped (subst (λ r. 0 < length r) tail some)) in
    sym (words_skip line n skipped) ∙ ap words_of (sym tail)
    ∙ words_first rest m run (omega arith) within
    ∙ ap₂ (λ w r. w ∷ words_of r) (sym front) (sym back)
