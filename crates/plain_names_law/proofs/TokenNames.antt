-- The identifiers among the tokens of a text carry names that are identifiers.
use Rattle.std.proofs.Common.{◌≡◌, ◌∙◌, ℕ, zero, suc, Bool, true, false, cond, not, ◌||◌, nat_eq, List, [], ◌∷◌, take, drop, slice_get, is_some, length, Option, Some, None, option_map, refl, sym, ap}
use Rattle.std.specs.Option.{option_map_or}
use Rattle.std.proofs.lemmas.Bool.{or_right}
use Rattle.std.proofs.lemmas.Option.{none-some, same_Some}
use Rattle.c_lexer.specs.Characters.{character_of}
use Rattle.c_lexer.specs.Lexemes.{is_identifier, identifier_meaning, character_meaning, meaning_of}
use Rattle.c_lexer.specs.Lexes.{Reads, Lexes, StandsIn}
use Rattle.c_lexer.specs.Numbers.{is_number, constant_of}
use Rattle.c_lexer.specs.Spelling.{keyword_of, punctuator_of}
use Rattle.c_lexer.specs.declared.token.Token.{Token}
use Rattle.c_lexer.specs.declared.token.TokenKind.{TokenKind}
use Rattle.c_lexer.specs.declared.token.TokenKind.TheVariants.{Identifier, Number}
use Rattle.c_lexer.specs.declared.token.TokenValue.{TokenValue}
use Rattle.c_lexer.specs.declared.token.TokenValue.TheVariants.{Name, Constant, Fixed}
use Rattle.c_grammar.specs.Numbers.{kind_number}

abbrev pub value_named : TokenValue → Bool
value_named (Name bytes) = is_identifier bytes
value_named (Constant value ty) = true
value_named Fixed = true

-- if it is an identifier, its name is one
abbrev pub meaning_named : TokenKind × TokenValue → Bool
meaning_named m = not (nat_eq (kind_number Identifier) (kind_number m.0)) || value_named m.1

abbrev Meaning : Type 0
Meaning = TokenKind × TokenValue

same_meaning : (m n : Meaning) → ◌≡◌ {A = Option Meaning} (Some m) (Some n) → meaning_named m ≡ true → meaning_named n ≡ true
same_meaning m n e h = ap meaning_named (sym (same_Some m n e)) ∙ h

fixed_named : (k : TokenKind) → meaning_named (k, Fixed) ≡ true
fixed_named k = or_right (not (nat_eq (kind_number Identifier) (kind_number k))) true refl

word_named : (w : List ℕ) (m : Meaning) (o : Option TokenKind) → is_identifier w ≡ true
    → ◌≡◌ {A = Option Meaning} (Some (option_map_or (λ k. (k, Fixed)) o (Identifier, Name w))) (Some m) → meaning_named m ≡ true
word_named w m (Some k) h e = same_meaning (k, Fixed) m e (fixed_named k)
word_named w m None h e = same_meaning (Identifier, Name w) m e h

number_named : (m : Meaning) (o : Option TokenValue) → option_map (λ v. (Number, v)) o ≡ Some m → meaning_named m ≡ true
number_named m (Some v) e = same_meaning (Number, v) m e refl
number_named m None e = absurd (none-some m e)

character_named : (m : Meaning) (o : Option ℕ) → option_map character_meaning o ≡ Some m → meaning_named m ≡ true
character_named m (Some b) e = same_meaning (character_meaning b) m e refl
character_named m None e = absurd (none-some m e)

mark_named : (m : Meaning) (o : Option TokenKind) → option_map (λ k. (k, Fixed)) o ≡ Some m → meaning_named m ≡ true
mark_named m (Some k) e = same_meaning (k, Fixed) m e (fixed_named k)
mark_named m None e = absurd (none-some m e)

by_class : (w : List ℕ) (m : Meaning) (a b c : Bool) → is_identifier w ≡ a
    → cond a (Some (identifier_meaning w)) (cond b (option_map (λ v. (Number, v)) (constant_of w))
    (cond c (option_map character_meaning (character_of w)) (option_map (λ k. (k, Fixed)) (punctuator_of w)))) ≡ Some m
    → meaning_named m ≡ true
by_class w m true b c word h = word_named w m (keyword_of w) word h
by_class w m false true c word h = number_named m (constant_of w) h
by_class w m false false true word h = character_named m (character_of w) h
by_class w m false false false word h = mark_named m (punctuator_of w) h

meaning_is_named : (w : List ℕ) (m : Meaning) → meaning_of w ≡ Some m → meaning_named m ≡ true
unfolding meaning_of
meaning_is_named w m h = by_class w m (is_identifier w) (is_number w) (is_some (character_of w)) refl h

-- ---- all tokens

abbrev pub token_named : Token → Bool
token_named t = meaning_named (t.kind, t.value)

-- each token of the list
abbrev pub TokensNamed : List Token → Type 0
TokensNamed [] = Unit {0}
TokensNamed (t ∷ ts) = (token_named t ≡ true) × TokensNamed ts

stands_named : (text : List ℕ) (t : Token) → StandsIn text t → token_named t ≡ true
stands_named text t stands = meaning_is_named (take stands.size (drop t.span.from text)) (t.kind, t.value) stands.token.means

reads_named : (text : List ℕ) (from : ℕ) (ts : List Token) (to : ℕ) → Reads text from ts to → TokensNamed ts
reads_named text from [] to reads = tt
reads_named text from (t ∷ ts) to reads = (stands_named text t reads.1, reads_named text t.span.to ts to reads.2)

pub tokens_named : (text : List ℕ) (ts : List Token) → Lexes text ts → TokensNamed ts
tokens_named text ts lexes = reads_named text 0 ts (length text) lexes

-- the token at a place
abbrev pub NamedIf : Option Token → Type 0
NamedIf None = Unit {0}
NamedIf (Some t) = token_named t ≡ true

pub named_at : (ts : List Token) (at : ℕ) → TokensNamed ts → NamedIf (slice_get ts at)
named_at [] at h = tt
named_at (t ∷ ts) zero h = h.0
named_at (t ∷ ts) (suc at) h = named_at ts at h.1
