-- The classes of words have no word in common, and a word's class is told by the bytes that it begins with.
use Rattle.std.proofs.Common.{◌≡◌, ℕ, zero, suc, Bool, true, false, nat_eq, List, [], ◌∷◌, length, take, get_or, refl, ap, sym, ◌∙◌, subst, inl, inr, ⊎_elim, arith}
use Rattle.std.specs.Prelude.{Some, not, ◌||◌, ◌&&◌, ◌⊎◌, is_some, IsTrue}
use Rattle.std.specs.Option.{option_map}
use Rattle.std.specs.Char.{is_ascii_digit}
use Rattle.std.proofs.lemmas.Bool.{false_from_ne_true}
use Rattle.c_lexer.specs.Bytes.{is_space, is_nondigit}
use Rattle.c_lexer.specs.Spelling.{spelling_of, punctuators, punctuator_of}
use Rattle.c_lexer.specs.Numbers.{is_number, begins_number, constant_of}
use Rattle.c_lexer.specs.Characters.{character_of}
use Rattle.c_lexer.specs.Comments.{opens_comment}
use Rattle.c_lexer.specs.Lexemes.{is_identifier, IsLexeme, identifier, number, character, punctuator, identifier_meaning, character_meaning, meaning_of}
use Rattle.c_lexer.specs.declared.token.TokenKind.{TokenKind}
use Rattle.c_lexer.specs.declared.token.TokenKind.TheVariants.{Number}
use Rattle.c_lexer.specs.declared.token.TokenValue.TheVariants.{Fixed}
use Rattle.c_lexer.proofs.Firsts.{is_mark, found_among, mark_first, quote_first, nondigit_first, number_first, begins_by, nondigit_is_no_space, nondigit_is_no_digit, mark_is_no_space, digit_is_no_space}

-- what the bytes begin with, from a word at their front
word_begins : (bs : List ℕ) (m : ℕ) → IsTrue (is_identifier (take m bs)) → is_nondigit (get_or bs 0 0) ≡ true
word_begins bs zero h = absurd (cc)
word_begins [] (suc m) h = absurd (cc)
word_begins (b ∷ bs) (suc m) h = nondigit_first (b ∷ take m bs) h

digit_of_taken : (bs : List ℕ) (m : ℕ) → is_ascii_digit (get_or (take m bs) 0 0) ≡ true → is_ascii_digit (get_or bs 0 0) ≡ true
digit_of_taken bs zero h = absurd (cc)
digit_of_taken [] (suc m) h = absurd (cc)
digit_of_taken (b ∷ bs) (suc m) h = h

pub number_begins : (bs : List ℕ) (m : ℕ) → IsTrue (is_number (take m bs)) → begins_number bs ≡ true
number_begins bs zero h = absurd (cc)
number_begins [] (suc m) h = absurd (cc)
number_begins (b ∷ bs) (suc m) h = ⊎_elim
    (λ (digit : is_ascii_digit b ≡ true). grind (arith, digit))
    (λ (p : (b ≡ 46) × (is_ascii_digit (get_or (take m bs) 0 0) ≡ true)).
    let point : nat_eq b 46 ≡ true = grind (arith, p.0) in
    let digit = digit_of_taken bs m p.1 in
    grind (arith, point, digit))
    (begins_by b (take m bs) (number_first (b ∷ take m bs) h))

quote_begins : (bs : List ℕ) (m : ℕ) → IsTrue (is_some (character_of (take m bs))) → get_or bs 0 0 ≡ 39
quote_begins bs zero h = let first : 0 ≡ 39 = quote_first [] h in absurd (omega (arith, first))
quote_begins [] (suc m) h = let first : 0 ≡ 39 = quote_first [] h in absurd (omega (arith, first))
quote_begins (b ∷ bs) (suc m) h = quote_first (b ∷ take m bs) h

mark_begins : (bs : List ℕ) (m : ℕ) → IsTrue (is_some (punctuator_of (take m bs))) → is_mark (get_or bs 0 0) ≡ true
mark_begins bs zero h = absurd (let first : false ≡ true = mark_first [] h in cc)
mark_begins [] (suc m) h = absurd (let first : false ≡ true = mark_first [] h in cc)
mark_begins (b ∷ bs) (suc m) h = mark_first (b ∷ take m bs) h

-- the class of a word at the front of the bytes, with what they begin with
pub data Class (bs : List ℕ) (m : ℕ) : Type 0 where
  word : IsTrue (is_identifier (take m bs)) → is_nondigit (get_or bs 0 0) ≡ true → Class bs m
  numeral : IsTrue (is_number (take m bs)) → begins_number bs ≡ true → Class bs m
  quoted : IsTrue (is_some (character_of (take m bs))) → get_or bs 0 0 ≡ 39 → Class bs m
  mark : IsTrue (is_some (punctuator_of (take m bs))) → is_mark (get_or bs 0 0) ≡ true → Class bs m

pub class_of : (bs : List ℕ) (m : ℕ) → IsLexeme (take m bs) → Class bs m
class_of bs m (identifier h) = word h (word_begins bs m h)
class_of bs m (number h) = numeral h (number_begins bs m h)
class_of bs m (character h) = quoted h (quote_begins bs m h)
class_of bs m (punctuator h) = mark h (mark_begins bs m h)

-- a number begins with a digit or a point
pub number_byte : (bs : List ℕ) → begins_number bs ≡ true → (is_ascii_digit (get_or bs 0 0) ≡ true) ⊎ (get_or bs 0 0 ≡ 46)
number_byte [] h = absurd (cc)
number_byte (b ∷ bs) h = ⊎_elim (λ (d : is_ascii_digit b ≡ true). inl d) (λ (p : (b ≡ 46) × (is_ascii_digit (get_or bs 0 0) ≡ true)). inr p.0) (begins_by b bs h)

pub number_is_no_word : (bs : List ℕ) → begins_number bs ≡ true → is_nondigit (get_or bs 0 0) ≡ false
number_is_no_word bs h = false_from_ne_true (is_nondigit (get_or bs 0 0)) (λ w. ⊎_elim
    (λ (d : is_ascii_digit (get_or bs 0 0) ≡ true). let no = nondigit_is_no_digit (get_or bs 0 0) w in cc)
    (λ (p : get_or bs 0 0 ≡ 46). let no : is_nondigit 46 ≡ true = subst (λ b. is_nondigit b ≡ true) p w in cc)
    (number_byte bs h))

-- no number begins with one of the bytes of which this is a test that neither digits nor the point pass
number_fails : (test : ℕ → Bool) (bs : List ℕ) → begins_number bs ≡ true → ((b : ℕ) → is_ascii_digit b ≡ true → test b ≡ false) → test 46 ≡ false
    → test (get_or bs 0 0) ≡ false
number_fails test bs h digits point = ⊎_elim
    (λ (d : is_ascii_digit (get_or bs 0 0) ≡ true). digits (get_or bs 0 0) d)
    (λ (p : get_or bs 0 0 ≡ 46). ap test p ∙ point)
    (number_byte bs h)

pub number_is_no_space : (bs : List ℕ) → begins_number bs ≡ true → is_space (get_or bs 0 0) ≡ false
number_is_no_space bs h = number_fails is_space bs h digit_is_no_space refl

digit_is_not : (c b : ℕ) → is_ascii_digit b ≡ true → is_ascii_digit c ≡ false → nat_eq b c ≡ false
digit_is_not c b h other = false_from_ne_true (nat_eq b c) (λ e. let same : b ≡ c = grind (arith, e) in let d : is_ascii_digit c ≡ true = subst (λ x. is_ascii_digit x ≡ true) same h in cc)

pub number_is_no_quote : (bs : List ℕ) → begins_number bs ≡ true → nat_eq (get_or bs 0 0) 39 ≡ false
number_is_no_quote bs h = number_fails (λ b. nat_eq b 39) bs h (λ b d. digit_is_not 39 b d refl) refl

number_is_no_slash : (bs : List ℕ) → begins_number bs ≡ true → nat_eq (get_or bs 0 0) 47 ≡ false
number_is_no_slash bs h = number_fails (λ b. nat_eq b 47) bs h (λ b d. digit_is_not 47 b d refl) refl

nondigit_is_not : (c b : ℕ) → is_nondigit b ≡ true → is_nondigit c ≡ false → nat_eq b c ≡ false
nondigit_is_not c b h other = false_from_ne_true (nat_eq b c) (λ e. let same : b ≡ c = grind (arith, e) in let d : is_nondigit c ≡ true = subst (λ x. is_nondigit x ≡ true) same h in cc)

-- a comment begins with a slash
no_slash : (bs : List ℕ) → nat_eq (get_or bs 0 0) 47 ≡ false → opens_comment bs ≡ false
no_slash bs h = grind (arith, h)

pub word_is_no_comment : (bs : List ℕ) → is_nondigit (get_or bs 0 0) ≡ true → opens_comment bs ≡ false
word_is_no_comment bs h = no_slash bs (nondigit_is_not 47 (get_or bs 0 0) h refl)

pub number_is_no_comment : (bs : List ℕ) → begins_number bs ≡ true → opens_comment bs ≡ false
number_is_no_comment bs h = no_slash bs (number_is_no_slash bs h)

pub quote_is_no_comment : (bs : List ℕ) → get_or bs 0 0 ≡ 39 → opens_comment bs ≡ false
quote_is_no_comment bs h = no_slash bs (ap (λ b. nat_eq b 47) h)

-- no word begins with a space
pub lexeme_is_no_space : (bs : List ℕ) (m : ℕ) → IsLexeme (take m bs) → is_space (get_or bs 0 0) ≡ false
lexeme_is_no_space bs m lexeme = elim (class_of bs m lexeme) [
  | word h first ↦ nondigit_is_no_space (get_or bs 0 0) first
  | numeral h first ↦ number_is_no_space bs first
  | quoted h first ↦ ap is_space first
  | mark h first ↦ mark_is_no_space (get_or bs 0 0) first
]

-- no punctuator is another word
abbrev is_mark_alone : TokenKind → Bool
is_mark_alone k = not (is_identifier (spelling_of k)) && (not (is_number (spelling_of k)) && not (is_some (character_of (spelling_of k))))

-- the only punctuator that begins with a point has one byte
abbrev is_lone_point : TokenKind → Bool
is_lone_point k = not (nat_eq (get_or (spelling_of k) 0 0) 46) || nat_eq (length (spelling_of k)) 1

pub record MarkAlone (w : List ℕ) : Type 0 where
  pub no_word : is_identifier w ≡ false
  pub no_number : is_number w ≡ false
  pub no_character : is_some (character_of w) ≡ false

pub mark_alone : (w : List ℕ) (k : TokenKind) → punctuator_of w ≡ Some k → MarkAlone w
unfolding punctuator_of character_of
mark_alone w k h =
    let found = found_among punctuators is_mark_alone w k refl h in
    let alone : (not (is_identifier w) && (not (is_number w) && not (is_some (character_of w)))) ≡ true
    = ap (λ v. not (is_identifier v) && (not (is_number v) && not (is_some (character_of v)))) found.1 ∙ found.0 in
    record { no_word = grind (arith, alone); no_number = grind (arith, alone); no_character = grind (arith, alone) }

pub point_alone : (w : List ℕ) (k : TokenKind) → punctuator_of w ≡ Some k → get_or w 0 0 ≡ 46 → length w ≡ 1
unfolding punctuator_of
point_alone w k h point =
    let found = found_among punctuators is_lone_point w k refl h in
    let first : nat_eq (get_or (spelling_of k) 0 0) 46 ≡ true = ap (λ v. nat_eq (get_or v 0 0) 46) (sym found.1) ∙ ap (λ b. nat_eq b 46) point in
    let size : nat_eq (length (spelling_of k)) 1 ≡ true = grind (arith, first, found.0) in
    let one : length (spelling_of k) ≡ 1 = grind (arith, size) in
    ap length found.1 ∙ one

-- what a word of each class means
pub word_means : (w : List ℕ) → IsTrue (is_identifier w) → meaning_of w ≡ Some (identifier_meaning w)
unfolding meaning_of
word_means w h = rw h refl

pub number_means : (w : List ℕ) → IsTrue (is_number w) → meaning_of w ≡ option_map (λ v. (Number, v)) (constant_of w)
unfolding meaning_of
number_means w h =
    let no : is_identifier w ≡ false = false_from_ne_true (is_identifier w) (λ e. let first = nondigit_first w e in let none = number_is_no_word w (number_first w h) in cc) in
    rw (no, h) refl

pub character_means : (w : List ℕ) (v : ℕ) → character_of w ≡ Some v → meaning_of w ≡ Some (character_meaning v)
unfolding meaning_of
character_means w v h =
    let first : get_or w 0 0 ≡ 39 = quote_first w (ap is_some h) in
    let no_word : is_identifier w ≡ false = false_from_ne_true (is_identifier w) (λ e. let d : is_nondigit 39 ≡ true = subst (λ b. is_nondigit b ≡ true) first (nondigit_first w e) in cc) in
    let no_number : is_number w ≡ false = false_from_ne_true (is_number w) (λ e. let none = number_is_no_quote w (number_first w e) in let some : nat_eq (get_or w 0 0) 39 ≡ true = ap (λ b. nat_eq b 39) first in cc) in
    rw (no_word, no_number, h) refl

pub mark_means : (w : List ℕ) (k : TokenKind) → punctuator_of w ≡ Some k → meaning_of w ≡ Some (k, Fixed)
unfolding meaning_of
mark_means w k h =
    let alone = mark_alone w k h in
    rw (alone.no_word, alone.no_number, alone.no_character, h) refl
