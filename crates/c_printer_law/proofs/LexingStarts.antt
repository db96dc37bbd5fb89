-- A word at the front of bytes is a token, where what follows can't be read on with it.
use Rattle.std.proofs.Common.{◌≡◌, ℕ, ◌+◌, ◌≤◌, ◌<◌, zero, suc, Bool, true, false, nat_eq, nat_lt, List, [], ◌∷◌, ◌++◌, length, take, drop, get_or, refl, ap, sym, ◌∙◌, subst, inl, inr, ⊎_elim, arith, length-append, length-take-le}
use Rattle.std.specs.Prelude.{Some, not, ◌&&◌, ◌||◌, ◌⊎◌, is_some, IsTrue}
use Rattle.std.specs.Option.{option_map_or}
use Rattle.std.specs.List.{list_all, prefix_len}
use Rattle.std.specs.Char.{is_ascii_digit, to_ascii_lowercase}
use Rattle.std.specs.Str.{bytes_eq}
use Rattle.std.proofs.lemmas.Bool.{and_parts, and_from, or_cases, not-true, both_ways, cases_lt, lt-ltb, eqb-true}
use Rattle.std.proofs.lemmas.List.{take_at, take-take, get_or-take, get_or-append-add}
use Rattle.std.proofs.lemmas.Slice.Eq.{bytes_eq-Decides}
use Rattle.pt_base.proofs.Booleans.{and_with_false}
use Rattle.c_lexer.specs.Bytes.{is_nondigit, is_word_byte}
use Rattle.c_lexer.specs.Spelling.{spelling_of, punctuators, punctuator_of}
use Rattle.c_lexer.specs.Numbers.{begins_number, continues, constant_of}
use Rattle.c_lexer.specs.Comments.{opens_comment}
use Rattle.c_lexer.specs.Lexemes.{is_identifier, identifier_meaning, IsLexeme, punctuator, StartsToken}
use Rattle.c_lexer.specs.Next.{BeginsWith, run_after, number_run, next_of}
use Rattle.c_lexer.specs.declared.token.TokenKind.{TokenKind}
use Rattle.c_lexer.specs.declared.token.TokenKind.TheVariants.{Number}
use Rattle.c_lexer.specs.declared.token.TokenValue.{TokenValue}
use Rattle.c_lexer.specs.declared.token.TokenValue.TheVariants.{Fixed}
use Rattle.c_lexer.specs.declared.next.Next.TheVariants.{Token, Fault}
use Rattle.c_lexer.specs.declared.error.LexFaultKind.TheVariants.{BadNumber}
use Rattle.c_lexer.proofs.Firsts.{is_mark, found_among, nondigit_first, nondigit_is_no_space, nondigit_is_no_mark, digit_is_no_space, mark_first, is_found}
use Rattle.c_lexer.proofs.Classes.{class_of, word, numeral, quoted, mark, number_is_no_word, mark_means}
use Rattle.c_lexer.proofs.Sound.{next_sound}

-- the elements that pass from the front, where what stands behind them begins with one that doesn't
pub run_stops : (p : ℕ → Bool) (ds rest : List ℕ) → list_all p ds ≡ true → p (get_or rest 0 0) ≡ false → prefix_len p (ds ++ rest) ≡ length ds
run_stops p [] [] all stops = refl
run_stops p [] (b ∷ rest) all stops = rw stops refl
run_stops p (d ∷ ds) rest all stops =
    let parts = and_parts (p d) (list_all p ds) all in
    let more : 1 + length ds ≡ suc (length ds) = omega arith in
    rw (parts.0, run_stops p ds rest parts.1 stops) more

-- a word of a name's bytes, and the token that it is
word_is : (w rest : List ℕ) → is_identifier w ≡ true → is_word_byte (get_or rest 0 0) ≡ false
    → next_of (w ++ rest) ≡ Token (length w) (identifier_meaning w).0 (identifier_meaning w).1
unfolding next_of
word_is [] rest is stops = absurd (cc)
word_is (b ∷ w) rest is stops =
    let first : is_nondigit b ≡ true = nondigit_first (b ∷ w) is in
    let space = nondigit_is_no_space b first in
    let all : list_all is_word_byte (b ∷ w) ≡ true = grind (arith, is, first) in
    let run = run_stops is_word_byte (b ∷ w) rest all stops in
    let whole : take (length (b ∷ w)) ((b ∷ w) ++ rest) ≡ b ∷ w = take_at (b ∷ w) rest (length (b ∷ w)) refl in
    rw (space, first) (ap (λ n. Token n (identifier_meaning (take n ((b ∷ w) ++ rest))).0 (identifier_meaning (take n ((b ∷ w) ++ rest))).1) run
    ∙ ap (λ v. Token (length (b ∷ w)) (identifier_meaning v).0 (identifier_meaning v).1) whole)

-- a name or a keyword
pub word_starts : (w rest : List ℕ) → is_identifier w ≡ true → is_word_byte (get_or rest 0 0) ≡ false
    → StartsToken (w ++ rest) (length w) (identifier_meaning w).0 (identifier_meaning w).1
word_starts [] rest is stops = absurd (cc)
word_starts (b ∷ w) rest is stops = subst (BeginsWith ((b ∷ w) ++ rest)) (word_is (b ∷ w) rest is stops) (next_sound ((b ∷ w) ++ rest) (omega arith))

-- bytes that are digits or letters of suffixes
abbrev pub is_number_byte : ℕ → Bool
is_number_byte b = is_ascii_digit b || (nat_eq b 117 || nat_eq b 108)

number_byte_goes_on : (before b : ℕ) → is_number_byte b ≡ true → continues before b ≡ true
number_byte_goes_on before b h = grind (arith, h)

-- what can't follow the digits and suffix of a number
abbrev pub ends_number : ℕ → Bool
ends_number b = not (is_word_byte b) && not (nat_eq b 46)

ends_parts : (b : ℕ) → ends_number b ≡ true → (is_word_byte b ≡ false) × (nat_eq b 46 ≡ false)
ends_parts b e =
    let parts = and_parts (not (is_word_byte b)) (not (nat_eq b 46)) e in
    (not-true (is_word_byte b) parts.0, not-true (nat_eq b 46) parts.1)

-- no number ends with e or p
no_exponent : (b : ℕ) → is_number_byte b ≡ true → (nat_eq (to_ascii_lowercase b) 101 || nat_eq (to_ascii_lowercase b) 112) ≡ false
no_exponent b h = ⊎_elim
    (λ (digit : is_ascii_digit b ≡ true). grind (arith, digit))
    (λ (letter : (nat_eq b 117 || nat_eq b 108) ≡ true). ⊎_elim
    (λ (u : nat_eq b 117 ≡ true). let e : b ≡ 117 = eqb-true b 117 u in ap (λ b. nat_eq (to_ascii_lowercase b) 101 || nat_eq (to_ascii_lowercase b) 112) e)
    (λ (l : nat_eq b 108 ≡ true). let e : b ≡ 108 = eqb-true b 108 l in ap (λ b. nat_eq (to_ascii_lowercase b) 101 || nat_eq (to_ascii_lowercase b) 112) e)
    (or_cases (nat_eq b 117) (nat_eq b 108) letter))
    (or_cases (is_ascii_digit b) (nat_eq b 117 || nat_eq b 108) h)

number_byte_ends : (before b : ℕ) → is_number_byte before ≡ true → ends_number b ≡ true → continues before b ≡ false
number_byte_ends before b h e =
    let no : (is_word_byte b ≡ false) × (nat_eq b 46 ≡ false) = ends_parts b e in
    rw (no.0, no.1, no_exponent before h) (and_with_false (nat_eq b 43 || nat_eq b 45))

-- bytes of a number up to what can't follow
number_stops : (before : ℕ) (ds rest : List ℕ) → is_number_byte before ≡ true → list_all is_number_byte ds ≡ true → ends_number (get_or rest 0 0) ≡ true
    → run_after before (ds ++ rest) ≡ length ds
number_stops before [] [] is all ends = refl
number_stops before [] (b ∷ rest) is all ends = rw (number_byte_ends before b is ends) refl
number_stops before (d ∷ ds) rest is all ends =
    let parts = and_parts (is_number_byte d) (list_all is_number_byte ds) all in
    let more : 1 + length ds ≡ suc (length ds) = omega arith in
    rw (number_byte_goes_on before d parts.0, number_stops d ds rest parts.0 parts.1 ends) more

number_is : (d : ℕ) (ds rest : List ℕ) (v : TokenValue) → is_ascii_digit d ≡ true → list_all is_number_byte ds ≡ true → ends_number (get_or rest 0 0) ≡ true
    → constant_of (d ∷ ds) ≡ Some v → next_of (d ∷ (ds ++ rest)) ≡ Token (length (d ∷ ds)) Number v
unfolding next_of
number_is d ds rest v digit all ends value =
    let bs = d ∷ (ds ++ rest) in
    let begins : begins_number bs ≡ true = grind (arith, digit) in
    let run : number_run bs ≡ length (d ∷ ds) = let r = number_stops d ds rest (grind (arith, digit)) all ends in omega (arith, r) in
    let whole : take (length (d ∷ ds)) bs ≡ d ∷ ds = take_at (d ∷ ds) rest (length (d ∷ ds)) refl in
    rw (digit_is_no_space d digit, number_is_no_word bs begins, begins) (
    ap (λ n. option_map_or (λ v. Token n Number v) (constant_of (take n bs)) (Fault BadNumber)) run
    ∙ ap (λ w. option_map_or (λ v. Token (length (d ∷ ds)) Number v) (constant_of w) (Fault BadNumber)) whole
    ∙ ap (λ o. option_map_or (λ v. Token (length (d ∷ ds)) Number v) o (Fault BadNumber)) value)

-- a constant
pub number_starts : (w rest : List ℕ) (v : TokenValue) → is_ascii_digit (get_or w 0 0) ≡ true → list_all is_number_byte w ≡ true → ends_number (get_or rest 0 0) ≡ true
    → constant_of w ≡ Some v → StartsToken (w ++ rest) (length w) Number v
number_starts [] rest v digit all ends value = absurd (cc)
number_starts (d ∷ ds) rest v digit all ends value =
    let parts = and_parts (is_number_byte d) (list_all is_number_byte ds) all in
    subst (BeginsWith (d ∷ (ds ++ rest))) (number_is d ds rest v digit parts.1 ends value) (next_sound (d ∷ (ds ++ rest)) (omega arith))

-- a word that a longer punctuator begins with
abbrev pub extends : List ℕ → List ℕ → Bool
extends short long = nat_lt (length short) (length long) && bytes_eq (take (length short) long) short

-- no longer punctuator begins with this one
abbrev pub is_final : List ℕ → Bool
is_final w = list_all (λ q. not (extends w (spelling_of q))) punctuators

-- the bytes that stand behind the first of a punctuator: > + - < = & |
abbrev pub is_tail : ℕ → Bool
is_tail b = nat_eq b 62 || (nat_eq b 43 || (nat_eq b 45 || (nat_eq b 60 || (nat_eq b 61 || (nat_eq b 38 || nat_eq b 124)))))

abbrev has_tail : TokenKind → Bool
has_tail q = list_all is_tail (drop 1 (spelling_of q))

all_at : (p : ℕ → Bool) (xs : List ℕ) (n : ℕ) → list_all p xs ≡ true → n < length xs → p (get_or xs n 0) ≡ true
all_at p [] n all within = absurd (omega arith)
all_at p (x ∷ xs) zero all within = (and_parts (p x) (list_all p xs) all).0
all_at p (x ∷ xs) (suc n) all within = all_at p xs n (and_parts (p x) (list_all p xs) all).1 (omega arith)

tail_at : (w : List ℕ) (n : ℕ) → list_all is_tail (drop 1 w) ≡ true → 0 < n → n < length w → is_tail (get_or w n 0) ≡ true
tail_at [] n all some within = absurd (omega arith)
tail_at (b ∷ w) zero all some within = absurd (omega arith)
tail_at (b ∷ w) (suc n) all some within = all_at is_tail w n all (omega arith)

-- which bytes end a punctuator
abbrev pub Ends : List ℕ → List ℕ → Type 0
Ends w rest = (is_final w ≡ true) ⊎ (is_tail (get_or rest 0 0) ≡ false)

-- a longer punctuator at the front can't be
no_longer : (w rest : List ℕ) (m : ℕ) → 0 < length w → Ends w rest → length w < m → m ≤ length (w ++ rest) → IsTrue (is_some (punctuator_of (take m (w ++ rest)))) → ⊥
unfolding punctuator_of
no_longer w rest m some (inl final) more within is =
    let bs = w ++ rest in
    let kind = is_found (punctuator_of (take m bs)) is in
    let found = found_among punctuators (λ q. not (extends w (spelling_of q))) (take m bs) kind.0 final kind.1 in
    let size : length (spelling_of kind.0) ≡ m = ap length (sym found.1) ∙ length-take-le m bs within in
    let front : take (length w) (spelling_of kind.0) ≡ w = ap (take (length w)) (sym found.1) ∙ take-take (length w) m bs (omega arith) ∙ take_at w rest (length w) refl in
    let same : bytes_eq (take (length w) (spelling_of kind.0)) w ≡ true = (bytes_eq-Decides (take (length w) (spelling_of kind.0)) w).1 front in
    both_ways (extends w (spelling_of kind.0)) (not-true (extends w (spelling_of kind.0)) found.0) (and_from (nat_lt (length w) (length (spelling_of kind.0))) (bytes_eq (take (length w) (spelling_of kind.0)) w) (lt-ltb (length w) (length (spelling_of kind.0)) (omega (arith, size, more))) same)
no_longer w rest m some (inr stops) more within is =
    let bs = w ++ rest in
    let kind = is_found (punctuator_of (take m bs)) is in
    let found = found_among punctuators has_tail (take m bs) kind.0 refl kind.1 in
    let size : length (spelling_of kind.0) ≡ m = ap length (sym found.1) ∙ length-take-le m bs within in
    let there : is_tail (get_or (spelling_of kind.0) (length w) 0) ≡ true = tail_at (spelling_of kind.0) (length w) found.0 some (omega (arith, size)) in
    let next : get_or bs (length w + 0) 0 ≡ get_or rest 0 0 = get_or-append-add w rest 0 0 in
    let zero_more : length w + 0 ≡ length w = omega arith in
    let same : get_or (spelling_of kind.0) (length w) 0 ≡ get_or rest 0 0 = ap (λ v. get_or v (length w) 0) (sym found.1) ∙ get_or-take m bs (length w) 0 more ∙ ap (λ n. get_or bs n 0) (sym zero_more) ∙ next in
    both_ways (is_tail (get_or rest 0 0)) stops (ap is_tail (sym same) ∙ there)

-- bytes that begin with a punctuator of which nothing longer begins there
record Marked (w rest : List ℕ) (k : TokenKind) : Type 0 where
  is : punctuator_of w ≡ Some k
  some : 0 < length w
  no_comment : opens_comment (w ++ rest) ≡ false
  no_number : begins_number (w ++ rest) ≡ false
  ends : Ends w rest

first_of : (w rest : List ℕ) → 0 < length w → get_or (w ++ rest) 0 0 ≡ get_or w 0 0
first_of [] rest some = absurd (omega arith)
first_of (b ∷ w) rest some = refl

mark_longest : (w rest : List ℕ) (k : TokenKind) → Marked w rest k → (m : ℕ) → m ≤ length (w ++ rest) → IsLexeme (take m (w ++ rest)) → m ≤ length w
mark_longest w rest k h m within lexeme =
    let bs = w ++ rest in
    let first : is_mark (get_or bs 0 0) ≡ true = ap is_mark (first_of w rest h.some) ∙ mark_first w (ap is_some h.is) in
    elim (class_of bs m lexeme) [
      | word is at ↦ absurd (both_ways (is_mark (get_or bs 0 0)) (nondigit_is_no_mark (get_or bs 0 0) at) first)
      | numeral is at ↦ absurd (both_ways (begins_number bs) h.no_number at)
      | quoted is at ↦ absurd (both_ways (is_mark (get_or bs 0 0)) (ap is_mark at) first)
      | mark is at ↦ ⊎_elim (λ (lt : length w < m). absurd (no_longer w rest m h.some h.ends lt within is)) (λ (le : m ≤ length w). le) (cases_lt (length w) m)
    ]

-- a punctuator
pub mark_starts : (w rest : List ℕ) (k : TokenKind) → punctuator_of w ≡ Some k → 0 < length w → opens_comment (w ++ rest) ≡ false → begins_number (w ++ rest) ≡ false → Ends w rest
    → StartsToken (w ++ rest) (length w) k Fixed
mark_starts w rest k is some no_comment no_number ends =
    let whole : take (length w) (w ++ rest) ≡ w = take_at w rest (length w) refl in
    record {
      no_comment = no_comment;
      longest = record {
        within = let size = length-append w rest in omega (arith, size);
        lexeme = punctuator (ap is_some (ap punctuator_of whole ∙ is));
        longest = mark_longest w rest k (record { is = is; some = some; no_comment = no_comment; no_number = no_number; ends = ends });
      };
      means = mark_means (take (length w) (w ++ rest)) k (ap punctuator_of whole ∙ is);
    }
