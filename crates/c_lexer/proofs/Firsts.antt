-- What a word's first bytes tell of its class.
use Rattle.std.proofs.Common.{◌≡◌, ℕ, ◌≤◌, ◌<◌, Bool, true, false, cond, nat_eq, List, [], ◌∷◌, get_or, refl, ap, sym, ◌∙◌, inl, inr, arith}
use Rattle.std.specs.Prelude.{Option, Some, None, ◌||◌, ◌&&◌, ◌⊎◌, is_some, IsTrue}
use Rattle.std.specs.List.{list_all}
use Rattle.std.specs.Int.{is_in_range}
use Rattle.std.specs.Str.{bytes_eq}
use Rattle.std.specs.Char.{is_ascii_digit}
use Rattle.std.proofs.lemmas.Slice.Eq.{bytes_eq-Decides}
use Rattle.pt_base.proofs.Booleans.{or_true_cases}
use Rattle.c_lexer.specs.Bytes.{is_space, is_nondigit, is_word_byte}
use Rattle.c_lexer.specs.Spelling.{spelling_of, punctuators, kind_among, punctuator_of}
use Rattle.c_lexer.specs.Numbers.{is_number, begins_number}
use Rattle.c_lexer.specs.Characters.{character_of}
use Rattle.c_lexer.specs.Lexemes.{is_identifier}
use Rattle.c_lexer.specs.declared.token.TokenKind.{TokenKind}

-- the ranges in which the punctuators' first bytes lie
abbrev pub is_mark : ℕ → Bool
is_mark b = is_in_range 33 38 b || (is_in_range 40 47 b || (is_in_range 58 63 b || (is_in_range 91 94 b || is_in_range 123 126 b)))

-- what is found passes a test that all pass, and is spelled so
found_first : (x : TokenKind) (xs : List TokenKind) (q : TokenKind → Bool) (w : List ℕ) (k : TokenKind) (r : Bool) → bytes_eq w (spelling_of x) ≡ r
    → q x ≡ true → cond r (Some x) (kind_among xs w) ≡ Some k → (kind_among xs w ≡ Some k → (q k ≡ true) × (w ≡ spelling_of k))
    → (q k ≡ true) × (w ≡ spelling_of k)
found_first x xs q w k true same passes h later =
    let is : x ≡ k = cc in
    (ap q (sym is) ∙ passes, (bytes_eq-Decides w (spelling_of x)).0 same ∙ ap spelling_of is)
found_first x xs q w k false same passes h later = later h

pub found_among : (ks : List TokenKind) (q : TokenKind → Bool) (w : List ℕ) (k : TokenKind)
    → list_all q ks ≡ true → kind_among ks w ≡ Some k → (q k ≡ true) × (w ≡ spelling_of k)
found_among [] q w k all h = absurd (cc)
found_among (x ∷ xs) q w k all h =
    found_first x xs q w k (bytes_eq w (spelling_of x)) refl (grind (arith, all)) h (found_among xs q w k (grind (arith, all)))

abbrev begins_with_mark : TokenKind → Bool
begins_with_mark k = is_mark (get_or (spelling_of k) 0 0)

pub is_found : (o : Option TokenKind) → IsTrue (is_some o) → (k : TokenKind) × (o ≡ Some k)
is_found None h = absurd (cc)
is_found (Some k) h = (k, refl)

pub mark_first : (w : List ℕ) → IsTrue (is_some (punctuator_of w)) → is_mark (get_or w 0 0) ≡ true
unfolding punctuator_of
mark_first w h =
    let found = is_found (punctuator_of w) h in
    let spelled = found_among punctuators begins_with_mark w found.0 refl found.1 in
    ap (λ v. is_mark (get_or v 0 0)) spelled.1 ∙ spelled.0

pub quote_first : (w : List ℕ) → IsTrue (is_some (character_of w)) → get_or w 0 0 ≡ 39
unfolding character_of
quote_first [] h = absurd (cc)
quote_first (b ∷ bs) h = grind arith

pub nondigit_first : (w : List ℕ) → IsTrue (is_identifier w) → is_nondigit (get_or w 0 0) ≡ true
nondigit_first [] h = absurd (cc)
nondigit_first (b ∷ bs) h = grind arith

pub number_first : (w : List ℕ) → IsTrue (is_number w) → begins_number w ≡ true
number_first [] h = absurd (cc)
number_first (b ∷ bs) h = grind arith

begins_either : (b d : ℕ) → (is_ascii_digit b ≡ true) ⊎ ((nat_eq b 46 && is_ascii_digit d) ≡ true) → (is_ascii_digit b ≡ true) ⊎ ((b ≡ 46) × (is_ascii_digit d ≡ true))
begins_either b d (inl h) = inl h
begins_either b d (inr h) = inr (grind (arith, h), grind (arith, h))

-- a number begins with a digit, or with a point and a digit
pub begins_by : (b : ℕ) (bs : List ℕ) → begins_number (b ∷ bs) ≡ true
    → (is_ascii_digit b ≡ true) ⊎ ((b ≡ 46) × (is_ascii_digit (get_or bs 0 0) ≡ true))
begins_by b bs h = begins_either b (get_or bs 0 0) (or_true_cases (is_ascii_digit b) (nat_eq b 46 && is_ascii_digit (get_or bs 0 0)) h)

-- classes of bytes have no byte in common
pub nondigit_is_no_space : (b : ℕ) → is_nondigit b ≡ true → is_space b ≡ false
nondigit_is_no_space b h = grind arith

in_range : (low high b : ℕ) → is_in_range low high b ≡ true → (low ≤ b) × (b ≤ high)
in_range low high b h = (grind (arith, h), grind (arith, h))

low_gap : (b : ℕ) → 63 < b → b < 91 → is_mark b ≡ false
low_gap b l h = grind arith

high_gap : (b : ℕ) → 94 < b → b < 123 → is_mark b ≡ false
high_gap b l h = grind arith

letter_is_no_mark : (b : ℕ) → (is_in_range 65 90 b ≡ true) ⊎ (is_in_range 97 122 b ≡ true) → is_mark b ≡ false
letter_is_no_mark b (inl h) = let r = in_range 65 90 b h in low_gap b (omega arith) (omega arith)
letter_is_no_mark b (inr h) = let r = in_range 97 122 b h in high_gap b (omega arith) (omega arith)

nondigit_mark : (b : ℕ) → ((is_in_range 65 90 b || is_in_range 97 122 b) ≡ true) ⊎ (nat_eq b 95 ≡ true) → is_mark b ≡ false
nondigit_mark b (inl h) = letter_is_no_mark b (or_true_cases (is_in_range 65 90 b) (is_in_range 97 122 b) h)
nondigit_mark b (inr h) = let e : b ≡ 95 = grind (arith, h) in high_gap b (omega arith) (omega arith)

pub nondigit_is_no_mark : (b : ℕ) → is_nondigit b ≡ true → is_mark b ≡ false
nondigit_is_no_mark b h = nondigit_mark b (or_true_cases (is_in_range 65 90 b || is_in_range 97 122 b) (nat_eq b 95) h)

pub nondigit_is_no_digit : (b : ℕ) → is_nondigit b ≡ true → is_ascii_digit b ≡ false
nondigit_is_no_digit b h = grind arith

pub mark_is_no_space : (b : ℕ) → is_mark b ≡ true → is_space b ≡ false
mark_is_no_space b h = grind arith

pub nondigit_is_word : (b : ℕ) → is_nondigit b ≡ true → is_word_byte b ≡ true
nondigit_is_word b h = grind arith

pub digit_is_word : (b : ℕ) → is_ascii_digit b ≡ true → is_word_byte b ≡ true
digit_is_word b h = grind arith

pub digit_is_no_space : (b : ℕ) → is_ascii_digit b ≡ true → is_space b ≡ false
digit_is_no_space b h = grind arith

pub digit_is_no_mark : (b : ℕ) → is_ascii_digit b ≡ true → is_mark b ≡ false
digit_is_no_mark b h = grind arith
