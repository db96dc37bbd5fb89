-- The lines of the policy's text, and the words of each.
use Rattle.std.proofs.Common.{◌≡◌, ◌∙◌, ◌==◌, ℕ, Bool, true, false, cond, not, List, [], ◌∷◌, ◌++◌, All, filter, codes, refl, sym, ap, append_assoc, ne_eqb}
use Rattle.std.specs.List.{list_all, onto_first}
use Rattle.std.proofs.lemmas.Bool.{and_parts, and_from, or_from, not-true, not_from_false}
use Rattle.std.proofs.lemmas.List.Elements.{All-cons, All-nil}
use Rattle.std.proofs.lemmas.List.Folds.{list_all-append}
use Rattle.std.proofs.lemmas.List.Splits.{slice_split_at}
use Rattle.c_lexer.specs.Bytes.{is_word_byte}
use Rattle.c_lexer.specs.Lexemes.{is_identifier}
use Rattle.policy.specs.Lines.{lines_of, words_of, is_blank, is_word}
use Rattle.starting_texts.specs.Policies.{rule_line}
use Rattle.starting_texts.proofs.NameLemmas.{all_of, not_word, word_bytes}

-- ---- lines

-- the line of a rule, without its line feed
abbrev pub line_of : List ℕ → List ℕ
line_of name = codes "from start allow " ++ name ++ codes " to start"

abbrev no_feed : ℕ → Bool
no_feed b = not (b == 10)

-- a line feed ends what has none
line_ends : (line rest : List ℕ) → list_all no_feed line ≡ true → lines_of (line ++ 10 ∷ rest) ≡ line ∷ lines_of rest
line_ends [] rest h = refl
line_ends (b ∷ bs) rest h =
    let both = and_parts (no_feed b) (list_all no_feed bs) h in
    ap (λ t. cond t ([] ∷ lines_of (bs ++ 10 ∷ rest)) (onto_first b (lines_of (bs ++ 10 ∷ rest)))) (not-true (b == 10) both.0)
    ∙ ap (onto_first b) (line_ends bs rest both.1)

word_feeds : (b : ℕ) → is_word_byte b ≡ true → no_feed b ≡ true
word_feeds b word = not_from_false (b == 10) (ne_eqb b 10 (not_word 10 b refl word))

line_feeds : (name : List ℕ) → is_identifier name ≡ true → list_all no_feed (line_of name) ≡ true
line_feeds name h =
    list_all-append no_feed name (codes " to start")
    ∙ and_from (list_all no_feed name) true (all_of is_word_byte no_feed word_feeds name (word_bytes name h)) refl

-- a rule's line, with what stands behind it
rule_then : (name rest : List ℕ) → rule_line name ++ rest ≡ line_of name ++ 10 ∷ rest
rule_then name rest =
    append_assoc (codes "from start allow " ++ name) (codes " to start\n") rest
    ∙ sym (append_assoc (codes "from start allow " ++ name) (codes " to start") (10 ∷ rest))

-- the first line of a policy
pub first_line : (name rest : List ℕ) → is_identifier name ≡ true → lines_of (rule_line name ++ rest) ≡ line_of name ∷ lines_of rest
first_line name rest h = ap lines_of (rule_then name rest) ∙ line_ends (line_of name) rest (line_feeds name h)

-- ---- words

word_blank : (b : ℕ) → is_word_byte b ≡ true → is_blank b ≡ false
word_blank b word = or_from (b == 32) (b == 9) (ne_eqb b 32 (not_word 32 b refl word)) (ne_eqb b 9 (not_word 9 b refl word))

blank_free : (w : List ℕ) → list_all is_word_byte w ≡ true → All (λ b. is_blank b ≡ false) w
blank_free [] h = All-nil (λ b. is_blank b ≡ false)
blank_free (b ∷ bs) h =
    let both = and_parts (is_word_byte b) (list_all is_word_byte bs) h in
    All-cons (λ b. is_blank b ≡ false) b bs (word_blank b both.0) (blank_free bs both.1)

pub rule_words : (name : List ℕ) → is_identifier name ≡ true
    → words_of (line_of name) ≡ codes "from" ∷ codes "start" ∷ codes "allow" ∷ name ∷ codes "to" ∷ codes "start" ∷ []
rule_words [] h = absurd (cc)
rule_words (b ∷ bs) h =
    ap (λ (ws : List (List ℕ)). codes "from" ∷ codes "start" ∷ codes "allow" ∷ filter is_word ws)
    (slice_split_at is_blank (b ∷ bs) 32 (codes "to start") (blank_free (b ∷ bs) (word_bytes (b ∷ bs) h)) refl)
