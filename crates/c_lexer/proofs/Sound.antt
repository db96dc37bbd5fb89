-- The bytes from a place on begin with what the code finds there.
use Rattle.std.proofs.Common.{◌≡◌, ℕ, ◌+◌, ◌≤◌, ◌<◌, zero, suc, Bool, true, false, cond, nat_eq, List, [], ◌∷◌, length, take, drop, get_or, refl, ap, sym, ◌∙◌, subst, ⊎_elim, arith, length-take-le, take-append-drop}
use Rattle.std.specs.Prelude.{Option, Some, None, ◌||◌, is_some, IsTrue}
use Rattle.std.specs.List.{prefix_len}
use Rattle.std.specs.Option.{option_map, option_map_or}
use Rattle.std.specs.Char.{is_ascii_digit}
use Rattle.std.proofs.lemmas.List.Sums.{prefix_len-le-length}
use Rattle.c_lexer.specs.Bytes.{is_space, is_nondigit, is_word_byte}
use Rattle.c_lexer.specs.Spelling.{punctuator_of}
use Rattle.c_lexer.specs.Numbers.{begins_number, constant_of}
use Rattle.c_lexer.specs.Characters.{character_of}
use Rattle.c_lexer.specs.Comments.{opens_comment, is_no_line_feed, IsBlank, space, line, block}
use Rattle.c_lexer.specs.Lexemes.{IsLexeme, identifier, number, character, punctuator, IsLongest, character_meaning}
use Rattle.c_lexer.specs.Lexes.{bad_byte, open_comment, bad_number, bad_char}
use Rattle.c_lexer.specs.Next.{BeginsWith, token, word_next, number_run, number_next, character_run, character_at, character_next, close_of, comment_next, longest_punctuator, punctuator_next, next_of}
use Rattle.c_lexer.specs.declared.token.TokenKind.{TokenKind}
use Rattle.c_lexer.specs.declared.token.TokenKind.TheVariants.{Number}
use Rattle.c_lexer.specs.declared.token.TokenValue.{TokenValue}
use Rattle.c_lexer.specs.declared.token.TokenValue.TheVariants.{Fixed}
use Rattle.c_lexer.specs.declared.error.LexFaultKind.TheVariants.{BadByte, OpenComment, BadNumber, BadChar}
use Rattle.c_lexer.specs.declared.next.Next.{Next}
use Rattle.c_lexer.specs.declared.next.Next.TheVariants.{Blank, Token, Fault}
use Rattle.c_lexer.proofs.CommentLemmas.{run_ends_line, closed, none_is_open}
use Rattle.c_lexer.proofs.Firsts.{is_mark, nondigit_is_no_mark, digit_is_no_mark}
use Rattle.c_lexer.proofs.Classes.{class_of, word, numeral, quoted, mark, number_byte, number_is_no_word, number_is_no_quote, word_is_no_comment, number_is_no_comment, quote_is_no_comment, point_alone, word_means, number_means, character_means, mark_means}
use Rattle.c_lexer.proofs.Marks.{longest_is_mark, mark_within_longest}
use Rattle.c_lexer.proofs.Quotes.{character_is_run, character_run_within}
use Rattle.c_lexer.proofs.Runs.{run_passes, word_within_run, run_is_word, number_within_run, run_is_number, number_run_within}
use Rattle.pt_base.proofs.Booleans.{and_parts}
use Rattle.pt_base.proofs.Numbers.{nat_eq_same}

contra : (t : Bool) → t ≡ false → t ≡ true → ⊥
contra t f h = cc

is_found : {A : Type 0} (o : Option A) → IsTrue (is_some o) → (a : A) × (o ≡ Some a)
is_found None h = absurd (cc)
is_found (Some a) h = (a, refl)

-- a word
word_longest : (bs : List ℕ) → is_nondigit (get_or bs 0 0) ≡ true → (m : ℕ) → m ≤ length bs → IsLexeme (take m bs) → m ≤ prefix_len is_word_byte bs
word_longest bs h m within lexeme = elim (class_of bs m lexeme) [
  | word w first ↦ word_within_run bs m within w
  | numeral w first ↦ absurd (contra (is_nondigit (get_or bs 0 0)) (number_is_no_word bs first) h)
  | quoted w first ↦ absurd (contra (is_nondigit (get_or bs 0 0)) (ap is_nondigit first) h)
  | mark w first ↦ absurd (contra (is_mark (get_or bs 0 0)) (nondigit_is_no_mark (get_or bs 0 0) h) first)
]

word_sound : (bs : List ℕ) → is_nondigit (get_or bs 0 0) ≡ true → BeginsWith bs (word_next bs)
word_sound bs h = record {
  no_comment = word_is_no_comment bs h;
  longest = record {
    within = prefix_len-le-length is_word_byte bs;
    lexeme = identifier (run_is_word bs h);
    longest = word_longest bs h;
  };
  means = word_means (take (prefix_len is_word_byte bs) bs) (run_is_word bs h);
}

-- a number. The only punctuator with which a number can begin is the point
mark_in_number : (bs : List ℕ) (m : ℕ) → begins_number bs ≡ true → is_mark (get_or bs 0 0) ≡ true → m ≤ length bs
    → IsTrue (is_some (punctuator_of (take m bs))) → m ≤ number_run bs
mark_in_number bs zero h first within w = omega arith
mark_in_number [] (suc m) h first within w = omega arith
mark_in_number (b ∷ bs) (suc m) h first within w = ⊎_elim
    (λ (digit : is_ascii_digit b ≡ true). absurd (contra (is_mark b) (digit_is_no_mark b digit) first))
    (λ (point : b ≡ 46).
    let found = is_found (punctuator_of (b ∷ take m bs)) w in
    let one : suc (length (take m bs)) ≡ 1 = point_alone (b ∷ take m bs) found.0 found.1 point in
    let size : length (take m bs) ≡ m = length-take-le m bs (omega arith) in
    omega (arith, one, size))
    (number_byte (b ∷ bs) h)

number_longest : (bs : List ℕ) → begins_number bs ≡ true → IsLongest bs (number_run bs)
number_longest bs h = record {
  within = number_run_within bs h;
  lexeme = number (run_is_number bs h);
  longest = λ m within lexeme. elim (class_of bs m lexeme) [
    | word w first ↦ absurd (contra (is_nondigit (get_or bs 0 0)) (number_is_no_word bs h) first)
    | numeral w first ↦ number_within_run bs m within w
    | quoted w first ↦ absurd (contra (nat_eq (get_or bs 0 0) 39) (number_is_no_quote bs h) (ap (λ b. nat_eq b 39) first))
    | mark w first ↦ mark_in_number bs m h first within w
  ];
}

number_sound_at : (bs : List ℕ) → begins_number bs ≡ true → (r : Option TokenValue) → constant_of (take (number_run bs) bs) ≡ r
    → BeginsWith bs (option_map_or (λ v. Token (number_run bs) Number v) r (Fault BadNumber))
number_sound_at bs h (Some v) e = record {
  no_comment = number_is_no_comment bs h;
  longest = number_longest bs h;
  means = number_means (take (number_run bs) bs) (run_is_number bs h) ∙ ap (option_map (λ v. (Number, v))) e;
}
number_sound_at bs h None e = bad_number (number_run bs) (number_longest bs h) (run_is_number bs h) e

number_sound : (bs : List ℕ) → begins_number bs ≡ true → BeginsWith bs (number_next bs)
number_sound bs h = number_sound_at bs h (constant_of (take (number_run bs) bs)) refl

-- a character constant
at_quote : (bs : List ℕ) → get_or bs 0 0 ≡ 39 → (P : ℕ → Type 0) → ((m v : ℕ) → m ≤ length bs → character_of (take m bs) ≡ Some v → P m)
    → (m : ℕ) → m ≤ length bs → IsLexeme (take m bs) → P m
at_quote bs h P holds m within lexeme = elim (class_of bs m lexeme) [
  | word w first ↦ absurd (contra (is_nondigit (get_or bs 0 0)) (ap is_nondigit h) first)
  | numeral w first ↦ absurd (contra (nat_eq (get_or bs 0 0) 39) (number_is_no_quote bs first) (ap (λ b. nat_eq b 39) h))
  | quoted w first ↦ let found = is_found (character_of (take m bs)) w in holds m found.0 within found.1
  | mark w first ↦ absurd (contra (is_mark (get_or bs 0 0)) (ap is_mark h) first)
]

character_sound_at : (bs : List ℕ) (n : ℕ) → get_or bs 0 0 ≡ 39 → character_run bs ≡ Some n → (r : Option ℕ) → character_of (take n bs) ≡ r
    → BeginsWith bs (option_map_or (λ b. token n (character_meaning b)) r (Fault BadChar))
character_sound_at bs n h run (Some v) e = record {
  no_comment = quote_is_no_comment bs h;
  longest = record {
    within = character_run_within bs n run;
    lexeme = character (ap is_some e);
    longest = at_quote bs h (λ m. m ≤ n) (λ m w within is. let same : m ≡ n = let one = character_is_run bs m w within is in cc in omega (arith, same));
  };
  means = character_means (take n bs) v e;
}
character_sound_at bs n h run None e =
    bad_char h (at_quote bs h (λ m. ⊥) (λ m w within is.
    let same : m ≡ n = let one = character_is_run bs m w within is in cc in
    let none : character_of (take m bs) ≡ None = ap (λ k. character_of (take k bs)) same ∙ e in
    cc))

character_sound_run : (bs : List ℕ) → get_or bs 0 0 ≡ 39 → (r : Option ℕ) → character_run bs ≡ r
    → BeginsWith bs (option_map_or (character_at bs) r (Fault BadChar))
character_sound_run bs h (Some n) run = character_sound_at bs n h run (character_of (take n bs)) refl
character_sound_run bs h None run = bad_char h (at_quote bs h (λ m. ⊥) (λ m w within is. let one = character_is_run bs m w within is in cc))

character_sound : (bs : List ℕ) → get_or bs 0 0 ≡ 39 → BeginsWith bs (character_next bs)
character_sound bs h = character_sound_run bs h (character_run bs) refl

-- a comment
two_bytes : (bs : List ℕ) (x y : ℕ) → 0 < x → 0 < y → get_or bs 0 0 ≡ x → get_or bs 1 0 ≡ y → bs ≡ x ∷ (y ∷ drop 2 bs)
two_bytes [] x y px py ex ey = absurd (omega arith)
two_bytes (a ∷ []) x y px py ex ey = absurd (omega arith)
two_bytes (a ∷ b ∷ bs) x y px py ex ey = ap (λ v. v ∷ (b ∷ bs)) ex ∙ ap (λ v. x ∷ (v ∷ bs)) ey

line_sound : (bs rest : List ℕ) → bs ≡ 47 ∷ (47 ∷ rest) → IsBlank bs (2 + prefix_len is_no_line_feed rest)
line_sound bs rest is =
    let run = prefix_len is_no_line_feed rest in
    line (take run rest) (drop run rest)
    (is ∙ ap (λ xs. 47 ∷ (47 ∷ xs)) (sym (take-append-drop run rest)))
    (let size = length-take-le run rest (prefix_len-le-length is_no_line_feed rest) in omega (arith, size))
    (run_passes is_no_line_feed rest) (run_ends_line rest)

block_sound : (bs rest : List ℕ) → bs ≡ 47 ∷ (42 ∷ rest) → (r : Option ℕ) → close_of rest ≡ r
    → BeginsWith bs (option_map_or (λ n. Blank (2 + n)) r (Fault OpenComment))
block_sound bs rest is (Some n) e =
    let c = closed rest n e in
    block c.body c.after (is ∙ ap (λ xs. 47 ∷ (42 ∷ xs)) c.is) (omega (arith, c.size)) c.no_close
block_sound bs rest is None e = open_comment rest is (none_is_open rest e)

comment_sound_by : (bs : List ℕ) → get_or bs 0 0 ≡ 47 → (r : Bool) → nat_eq (get_or bs 1 0) 47 ≡ r → (r || nat_eq (get_or bs 1 0) 42) ≡ true
    → BeginsWith bs (cond r (Blank (2 + prefix_len is_no_line_feed (drop 2 bs))) (option_map_or (λ n. Blank (2 + n)) (close_of (drop 2 bs)) (Fault OpenComment)))
comment_sound_by bs first true e h = line_sound bs (drop 2 bs) (two_bytes bs 47 47 (omega arith) (omega arith) first (nat_eq_same (get_or bs 1 0) 47 e))
comment_sound_by bs first false e h = block_sound bs (drop 2 bs) (two_bytes bs 47 42 (omega arith) (omega arith) first (nat_eq_same (get_or bs 1 0) 42 h)) (close_of (drop 2 bs)) refl

comment_sound : (bs : List ℕ) → opens_comment bs ≡ true → BeginsWith bs (comment_next bs)
comment_sound bs h =
    let opens = and_parts (nat_eq (get_or bs 0 0) 47) (nat_eq (get_or bs 1 0) 47 || nat_eq (get_or bs 1 0) 42) h in
    comment_sound_by bs (nat_eq_same (get_or bs 0 0) 47 opens.0) (nat_eq (get_or bs 1 0) 47) refl opens.1

-- a punctuator, or nothing
record Marked (bs : List ℕ) : Type 0 where
  nonempty : 0 < length bs
  no_space : is_space (get_or bs 0 0) ≡ false
  no_word : is_nondigit (get_or bs 0 0) ≡ false
  no_number : begins_number bs ≡ false
  no_quote : nat_eq (get_or bs 0 0) 39 ≡ false
  no_comment : opens_comment bs ≡ false

at_mark : (bs : List ℕ) → Marked bs → (P : ℕ → Type 0) → ((m : ℕ) → m ≤ length bs → (p : TokenKind × ℕ) → longest_punctuator bs ≡ Some p → m ≤ p.1 → P m)
    → (m : ℕ) → m ≤ length bs → IsLexeme (take m bs) → P m
at_mark bs k P holds m within lexeme = elim (class_of bs m lexeme) [
  | word w first ↦ absurd (contra (is_nondigit (get_or bs 0 0)) k.no_word first)
  | numeral w first ↦ absurd (contra (begins_number bs) k.no_number first)
  | quoted w first ↦ absurd (contra (nat_eq (get_or bs 0 0) 39) k.no_quote (ap (λ b. nat_eq b 39) first))
  | mark w first ↦ let r = mark_within_longest bs m within w in holds m within r.0 r.1 r.2
]

punctuator_sound_at : (bs : List ℕ) → Marked bs → (r : Option (TokenKind × ℕ)) → longest_punctuator bs ≡ r
    → BeginsWith bs (option_map_or (λ p. Token p.1 p.0 Fixed) r (Fault BadByte))
punctuator_sound_at bs k (Some p) e =
    let is = longest_is_mark bs p e in
    record {
      no_comment = k.no_comment;
      longest = record {
        within = is.within;
        lexeme = punctuator (ap is_some is.spelled);
        longest = at_mark bs k (λ m. m ≤ p.1) (λ m within q f le. let same : q ≡ p = cc in subst (λ (r : TokenKind × ℕ). m ≤ r.1) same le);
      };
      means = mark_means (take p.1 bs) p.0 is.spelled;
    }
punctuator_sound_at bs k None e =
    bad_byte k.nonempty k.no_space (λ first. contra (nat_eq (get_or bs 0 0) 39) k.no_quote (ap (λ b. nat_eq b 39) first)) k.no_comment
    (at_mark bs k (λ m. ⊥) (λ m within q f le. cc))

punctuator_sound : (bs : List ℕ) → Marked bs → BeginsWith bs (punctuator_next bs)
punctuator_sound bs k = punctuator_sound_at bs k (longest_punctuator bs) refl

by_test : (P : Next → Type 0) (t : Bool) (x y : Next) → (t ≡ true → P x) → (t ≡ false → P y) → P (cond t x y)
by_test P true x y f g = f refl
by_test P false x y f g = g refl

-- the bytes begin with what the code finds
pub next_sound : (bs : List ℕ) → 0 < length bs → BeginsWith bs (next_of bs)
unfolding next_of
next_sound bs nonempty =
    let P = BeginsWith bs in
    by_test P (is_space (get_or bs 0 0)) (Blank 1) _ (λ e. space refl e) (λ no_space.
    by_test P (is_nondigit (get_or bs 0 0)) (word_next bs) _ (word_sound bs) (λ no_word.
    by_test P (begins_number bs) (number_next bs) _ (number_sound bs) (λ no_number.
    by_test P (nat_eq (get_or bs 0 0) 39) (character_next bs) _ (λ e. character_sound bs (nat_eq_same (get_or bs 0 0) 39 e)) (λ no_quote.
    by_test P (opens_comment bs) (comment_next bs) _ (comment_sound bs) (λ no_comment. punctuator_sound bs (record {
      nonempty = nonempty;
      no_space = no_space;
      no_word = no_word;
      no_number = no_number;
      no_quote = no_quote;
      no_comment = no_comment;
    }))))))
