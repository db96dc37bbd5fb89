-- The value of a constant is in the range of its type, and a name is as short as its word.
use Rattle.std.proofs.Common.{◌≡◌, ℕ, ◌-◌, ◌^◌, ◌≤◌, Bool, true, false, cond, nat_eq, nat_lt, get_or, List, [], ◌∷◌, length, take, drop, refl, ap, sym, ◌∙◌, arith, rules}
use Rattle.std.proofs.lemmas.List.{length-take}
use Rattle.std.proofs.lemmas.Bool.Decides.{nat_tests}
use Rattle.pt_base.specs.Names.{longest_name, is_short}
use Rattle.std.specs.Prelude.{Option, Some, None, IsTrue, is_some, pos, negsuc}
use Rattle.std.specs.List.{find, prefix_len}
use Rattle.std.specs.Option.{option_map, option_map_or, option_and_then}
use Rattle.pt_base.specs.declared.int_type.IntType.{IntType}
use Rattle.pt_base.specs.declared.int_type.IntType.TheVariants.{Char, SChar, UChar, Short, UShort, Int, UInt, Long, ULong}
use Rattle.std.specs.Char.{is_digit, to_ascii_lowercase}
use Rattle.c_lexer.specs.Bytes.{number_in}
use Rattle.c_lexer.specs.Spelling.{keyword_of, punctuator_of}
use Rattle.c_lexer.specs.Numbers.{is_number, suffix_of, types_of, value_bits, type_for, constant_in, constant_of}
use Rattle.c_lexer.specs.Characters.{char_value, character_of}
use Rattle.c_lexer.specs.Lexemes.{is_identifier, identifier_meaning, character_meaning, meaning_of}
use Rattle.c_lexer.specs.declared.number.Suffix.{Suffix}
use Rattle.c_lexer.specs.declared.token.TokenKind.{TokenKind}
use Rattle.c_lexer.specs.declared.token.TokenKind.TheVariants.{Identifier, Number}
use Rattle.c_lexer.specs.Values.{value_fits}
use Rattle.c_lexer.specs.declared.token.TokenValue.{TokenValue}
use Rattle.c_lexer.specs.declared.token.TokenValue.TheVariants.{Name, Constant, Fixed}

number_fits : (t : IntType) (v : ℕ) → nat_lt v (2 ^ value_bits t) ≡ true → value_fits (Constant (pos v) t) ≡ true
number_fits Char v h = grind (arith, h)
number_fits SChar v h = grind (arith, h)
number_fits UChar v h = grind (arith, h)
number_fits Short v h = grind (arith, h)
number_fits UShort v h = grind (arith, h)
number_fits Int v h = grind (arith, h)
number_fits UInt v h = grind (arith, h)
number_fits Long v h = grind (arith, h)
number_fits ULong v h = grind (arith, h)

byte_fits : (b : ℕ) → value_fits (Constant (char_value b) Int) ≡ true
byte_fits b = byte_at b (nat_lt b 128) refl where
  byte_at : (b : ℕ) (r : Bool) → nat_lt b 128 ≡ r → value_fits (Constant (cond r (pos b) (negsuc (255 - b))) Int) ≡ true
  byte_at b true e = grind (arith, e)
  byte_at b false e = grind (arith, e)

found_at : (p : IntType → Bool) (x : IntType) (xs : List IntType) (t : IntType) (r : Bool) → p x ≡ r → cond r (Some x) (find p xs) ≡ Some t
    → (find p xs ≡ Some t → p t ≡ true) → p t ≡ true
found_at p x xs t true e h later = let same : x ≡ t = cc in ap p (sym same) ∙ e
found_at p x xs t false e h later = later h

found_passes : (p : IntType → Bool) (ts : List IntType) (t : IntType) → find p ts ≡ Some t → p t ≡ true
found_passes p [] t h = absurd (cc)
found_passes p (x ∷ xs) t h = found_at p x xs t (p x) refl h (found_passes p xs t)

typed_fits : (value : ℕ) (types : List IntType) (v : TokenValue) (r : Option IntType) → type_for value types ≡ r
    → option_map (λ t. Constant (pos value) t) r ≡ Some v → value_fits v ≡ true
typed_fits value types v None e h = absurd (cc)
typed_fits value types v (Some t) e h =
    let is : Constant (pos value) t ≡ v = cc in
    ap value_fits (sym is) ∙ number_fits t value (found_passes (λ t. nat_lt value (2 ^ value_bits t)) types t e)

suffixed_fits : (base value : ℕ) (v : TokenValue) (t : Bool) (o : Option Suffix)
    → cond t (option_and_then (λ s. option_map (λ t. Constant (pos value) t) (type_for value (types_of base s))) o) None ≡ Some v → value_fits v ≡ true
suffixed_fits base value v true (Some s) h = typed_fits value (types_of base s) v (type_for value (types_of base s)) refl h
suffixed_fits base value v true None h = absurd (cc)
suffixed_fits base value v false o h = absurd (cc)

in_base_fits : (base : ℕ) (bs : List ℕ) (v : TokenValue) → constant_in base bs ≡ Some v → value_fits v ≡ true
in_base_fits base bs v h =
    let count = prefix_len (λ b. is_digit b base) bs in
    suffixed_fits base (number_in base (take count bs)) v (nat_lt 0 count) (suffix_of (drop count bs)) h

by_base : (w : List ℕ) (v : TokenValue) (p q : Bool) → cond p (cond q (constant_in 16 (drop 2 w)) (constant_in 8 w)) (constant_in 10 w) ≡ Some v → value_fits v ≡ true
by_base w v true true h = in_base_fits 16 (drop 2 w) v h
by_base w v true false h = in_base_fits 8 w v h
by_base w v false q h = in_base_fits 10 w v h

constant_fits : (w : List ℕ) (v : TokenValue) → constant_of w ≡ Some v → value_fits v ≡ true
unfolding constant_of
constant_fits w v h = by_base w v (nat_eq (get_or w 0 0) 48) (nat_eq (to_ascii_lowercase (get_or w 1 0)) 120) h

abbrev Meaning : Type 0
Meaning = TokenKind × TokenValue

same_value : (m n : Meaning) → ◌≡◌ {A = Option Meaning} (Some m) (Some n) → value_fits m.1 ≡ true → value_fits n.1 ≡ true
same_value m n e h = let is : m ≡ n = cc in ap (λ (x : Meaning). value_fits x.1) (sym is) ∙ h

named_fits : (w : List ℕ) (m : Meaning) (o : Option TokenKind) → is_short w ≡ true → ◌≡◌ {A = Option Meaning} (Some (option_map_or (λ k. (k, Fixed)) o (Identifier, Name w))) (Some m) → value_fits m.1 ≡ true
named_fits w m (Some k) short e = same_value (k, Fixed) m e refl
named_fits w m None short e = same_value (Identifier, Name w) m e short

numbered_fits : (w : List ℕ) (m : Meaning) (o : Option TokenValue) → constant_of w ≡ o → option_map (λ v. (Number, v)) o ≡ Some m → value_fits m.1 ≡ true
numbered_fits w m (Some v) is e = same_value (Number, v) m e (constant_fits w v is)
numbered_fits w m None is e = absurd (cc)

quoted_fits : (m : Meaning) (o : Option ℕ) → option_map character_meaning o ≡ Some m → value_fits m.1 ≡ true
quoted_fits m (Some b) e = same_value (character_meaning b) m e (byte_fits b)
quoted_fits m None e = absurd (cc)

marked_fits : (m : Meaning) (o : Option TokenKind) → option_map (λ k. (k, Fixed)) o ≡ Some m → value_fits m.1 ≡ true
marked_fits m (Some k) e = same_value (k, Fixed) m e refl
marked_fits m None e = absurd (cc)

by_class : (w : List ℕ) (m : Meaning) (a b c : Bool) → is_short w ≡ true
    → cond a (Some (identifier_meaning w)) (cond b (option_map (λ v. (Number, v)) (constant_of w))
    (cond c (option_map character_meaning (character_of w)) (option_map (λ k. (k, Fixed)) (punctuator_of w)))) ≡ Some m
    → value_fits m.1 ≡ true
by_class w m true b c short h = named_fits w m (keyword_of w) short h
by_class w m false true c short h = numbered_fits w m (constant_of w) refl h
by_class w m false false true short h = quoted_fits m (character_of w) h
by_class w m false false false short h = marked_fits m (punctuator_of w) h

-- the first bytes of a short text are short
short_piece : (bs : List ℕ) (n : ℕ) → n ≤ length bs → length bs ≤ longest_name → is_short (take n bs) ≡ true
short_piece bs n within few =
    let size = length-take n bs in
    let short : length (take n bs) ≤ longest_name = omega (arith, size) in
    search (rules, nat_tests)

-- what the first bytes of a short text mean is a value that fits
pub meaning_fits : (bs : List ℕ) (n : ℕ) (kind : TokenKind) (value : TokenValue) → n ≤ length bs → length bs ≤ longest_name → meaning_of (take n bs) ≡ Some (kind, value) → IsTrue (value_fits value)
unfolding meaning_of
meaning_fits bs n kind value within few h =
    let w = take n bs in
    by_class w (kind, value) (is_identifier w) (is_number w) (is_some (character_of w)) (short_piece bs n within few) h
