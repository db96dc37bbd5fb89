-- Which words may stand side by side, with nothing between them.
use Rattle.std.proofs.Common.{◌≡◌, ℕ, ◌<◌, Bool, true, false, nat_eq, nat_lt, List, [], ◌∷◌, ◌++◌, length, get_or, refl, ap, sym, ◌∙◌, subst, inl, inr, arith}
use Rattle.std.specs.Prelude.{Option, Some, None, ℤ, not, ◌&&◌, ◌⊎◌, is_some}
use Rattle.std.specs.Option.{option_map_or}
use Rattle.std.specs.Char.{is_ascii_digit}
use Rattle.std.proofs.lemmas.Bool.{and_parts, and_from, ltb-true, not-true, eqb-true, both_ways, false_from_ne_true}
use Rattle.pt_base.specs.declared.int_type.IntType.{IntType}
use Rattle.pt_base.proofs.Booleans.{and_with_false}
use Rattle.c_lexer.specs.Bytes.{is_nondigit, is_word_byte}
use Rattle.c_lexer.specs.Spelling.{spelling_of, keywords, punctuators, kind_among, keyword_of, punctuator_of}
use Rattle.c_lexer.specs.Numbers.{begins_number}
use Rattle.c_lexer.specs.Comments.{opens_comment}
use Rattle.c_lexer.specs.Lexemes.{is_identifier, StartsToken}
use Rattle.c_lexer.specs.declared.token.TokenKind.{TokenKind}
use Rattle.c_lexer.specs.declared.token.TokenKind.TheVariants.{Identifier, Number}
use Rattle.c_lexer.specs.declared.token.TokenValue.{TokenValue}
use Rattle.c_lexer.specs.declared.token.TokenValue.TheVariants.{Name, Constant, Fixed}
use Rattle.c_lexer.proofs.Firsts.{found_among, nondigit_first, nondigit_is_no_digit}
use Rattle.c_printer.specs.Pieces.{Gap, tight, Piece, fixed, named, number, gap_of, bytes_of, kind_of, value_of}
use Rattle.c_printer.specs.Plain.{is_name}
use Rattle.c_printer_law.proofs.LexingStarts.{word_starts, number_starts, mark_starts, ends_number, is_final, is_tail}
use Rattle.c_printer_law.proofs.LexingConstants.{is_constant, constant_reads}

-- a keyword or a punctuator
pub data IsFixed (k : TokenKind) : Type 0 where
  keyword : is_identifier (spelling_of k) ≡ true → kind_among keywords (spelling_of k) ≡ Some k → IsFixed k
  mark : kind_among punctuators (spelling_of k) ≡ Some k → IsFixed k

-- a piece whose word is one
abbrev pub Proper : Piece → Type 0
Proper (fixed gap k) = IsFixed k
Proper (named gap w) = is_name w ≡ true
Proper (number gap v t) = is_constant v t ≡ true

abbrev pub first_byte : Piece → ℕ
first_byte p = get_or (bytes_of p) 0 0

-- a byte that no punctuator goes on with, nor makes a comment or a number of one: no tail, `/`, `*` or digit
abbrev pub is_quiet : ℕ → Bool
is_quiet b = not (is_tail b) && (not (nat_eq b 47) && (not (nat_eq b 42) && not (is_ascii_digit b)))

-- the byte may follow the mark at once
pub data FollowsMark (w : List ℕ) (b : ℕ) : Type 0 where
  -- nothing goes on with the mark
  closed : is_final w ≡ true → nat_eq (get_or w 0 0) 47 ≡ false → nat_eq (get_or w 0 0) 46 ≡ false → FollowsMark w b
  quiet : is_quiet b ≡ true → FollowsMark w b
  -- a digit behind anything but a point
  digit : nat_eq (get_or w 0 0) 46 ≡ false → is_ascii_digit b ≡ true → FollowsMark w b

pub record FollowsFixed (w : List ℕ) (b : ℕ) : Type 0 where
  pub word : is_identifier w ≡ true → is_word_byte b ≡ false
  pub mark : is_identifier w ≡ false → FollowsMark w b

-- the byte may follow the piece at once
abbrev pub Follows : Piece → ℕ → Type 0
Follows (fixed gap k) b = FollowsFixed (spelling_of k) b
Follows (named gap w) b = is_word_byte b ≡ false
Follows (number gap v t) b = ends_number b ≡ true

-- a byte that may follow any piece
abbrev pub is_alone : ℕ → Bool
is_alone b = not (is_word_byte b) && (not (nat_eq b 46) && is_quiet b)

pub alone_follows : (p : Piece) (b : ℕ) → is_alone b ≡ true → Follows p b
alone_follows (fixed gap k) b h =
    let parts = and_parts (not (is_word_byte b)) (not (nat_eq b 46) && is_quiet b) h in
    record {
      word = λ e. not-true (is_word_byte b) parts.0;
      mark = λ e. quiet (and_parts (not (nat_eq b 46)) (is_quiet b) parts.1).1;
    }
alone_follows (named gap w) b h = not-true (is_word_byte b) (and_parts (not (is_word_byte b)) (not (nat_eq b 46) && is_quiet b) h).0
alone_follows (number gap v t) b h =
    let parts = and_parts (not (is_word_byte b)) (not (nat_eq b 46) && is_quiet b) h in
    and_from (not (is_word_byte b)) (not (nat_eq b 46)) parts.0 (and_parts (not (nat_eq b 46)) (is_quiet b) parts.1).0

-- what a mark alone is
abbrev stands_alone : TokenKind → Bool
stands_alone k = not (opens_comment (spelling_of k ++ (32 ∷ []))) && (not (begins_number (spelling_of k ++ (32 ∷ []))) && (nat_lt 0 (length (spelling_of k)) && not (is_identifier (spelling_of k))))

record Alone (w : List ℕ) : Type 0 where
  no_comment : opens_comment (w ++ (32 ∷ [])) ≡ false
  no_number : begins_number (w ++ (32 ∷ [])) ≡ false
  some : 0 < length w
  no_word : is_identifier w ≡ false

mark_is_alone : (k : TokenKind) → kind_among punctuators (spelling_of k) ≡ Some k → Alone (spelling_of k)
mark_is_alone k h =
    let w = spelling_of k in
    let found = found_among punctuators stands_alone w k refl h in
    let one = and_parts (not (opens_comment (w ++ (32 ∷ [])))) (not (begins_number (w ++ (32 ∷ []))) && (nat_lt 0 (length w) && not (is_identifier w))) found.0 in
    let two = and_parts (not (begins_number (w ++ (32 ∷ [])))) (nat_lt 0 (length w) && not (is_identifier w)) one.1 in
    let three = and_parts (nat_lt 0 (length w)) (not (is_identifier w)) two.1 in
    record {
      no_comment = not-true (opens_comment (w ++ (32 ∷ []))) one.0;
      no_number = not-true (begins_number (w ++ (32 ∷ []))) two.0;
      some = ltb-true 0 (length w) three.0;
      no_word = not-true (is_identifier w) three.1;
    }

no_comment_by : (w rest : List ℕ) → 0 < length w → opens_comment (w ++ (32 ∷ [])) ≡ false
    → (nat_eq (get_or w 0 0) 47 ≡ false) ⊎ ((nat_eq (get_or rest 0 0) 47 ≡ false) × (nat_eq (get_or rest 0 0) 42 ≡ false)) → opens_comment (w ++ rest) ≡ false
no_comment_by [] rest some alone h = absurd (omega arith)
no_comment_by (x ∷ []) rest some alone (inl h) = rw h refl
no_comment_by (x ∷ []) rest some alone (inr h) = rw (h.0, h.1) (and_with_false (nat_eq x 47))
no_comment_by (x ∷ y ∷ w) rest some alone h = alone

no_number_by : (w rest : List ℕ) → 0 < length w → begins_number (w ++ (32 ∷ [])) ≡ false
    → (nat_eq (get_or w 0 0) 46 ≡ false) ⊎ (is_ascii_digit (get_or rest 0 0) ≡ false) → begins_number (w ++ rest) ≡ false
no_number_by [] rest some alone h = absurd (omega arith)
no_number_by (x ∷ []) rest some alone (inl h) = grind (arith, h, alone)
no_number_by (x ∷ []) rest some alone (inr h) = grind (arith, h, alone)
no_number_by (x ∷ y ∷ w) rest some alone h = alone

record Quiet (b : ℕ) : Type 0 where
  no_tail : is_tail b ≡ false
  no_slash : nat_eq b 47 ≡ false
  no_star : nat_eq b 42 ≡ false
  no_digit : is_ascii_digit b ≡ false

quiet_is : (b : ℕ) → is_quiet b ≡ true → Quiet b
quiet_is b h =
    let one = and_parts (not (is_tail b)) (not (nat_eq b 47) && (not (nat_eq b 42) && not (is_ascii_digit b))) h in
    let two = and_parts (not (nat_eq b 47)) (not (nat_eq b 42) && not (is_ascii_digit b)) one.1 in
    let three = and_parts (not (nat_eq b 42)) (not (is_ascii_digit b)) two.1 in
    record {
      no_tail = not-true (is_tail b) one.0;
      no_slash = not-true (nat_eq b 47) two.0;
      no_star = not-true (nat_eq b 42) three.0;
      no_digit = not-true (is_ascii_digit b) three.1;
    }

-- a byte of one class isn't the byte of another
other_byte : (test : ℕ → Bool) (b c : ℕ) → test b ≡ true → test c ≡ false → nat_eq b c ≡ false
other_byte test b c h other = false_from_ne_true (nat_eq b c) (λ e. both_ways (test c) other (ap test (sym (eqb-true b c e)) ∙ h))

no_tail_by : (test : ℕ → Bool) (b : ℕ) → test b ≡ true
    → test 62 ≡ false → test 43 ≡ false → test 45 ≡ false → test 60 ≡ false → test 61 ≡ false → test 38 ≡ false → test 124 ≡ false → is_tail b ≡ false
no_tail_by test b h m n o p q r s =
    rw (other_byte test b 62 h m, other_byte test b 43 h n, other_byte test b 45 h o, other_byte test b 60 h p, other_byte test b 61 h q, other_byte test b 38 h r, other_byte test b 124 h s) refl

digit_is : (b : ℕ) → is_ascii_digit b ≡ true → (is_tail b ≡ false) × (nat_eq b 47 ≡ false) × (nat_eq b 42 ≡ false)
digit_is b h = (no_tail_by is_ascii_digit b h refl refl refl refl refl refl refl, other_byte is_ascii_digit b 47 h refl, other_byte is_ascii_digit b 42 h refl)

nondigit_is_quiet : (b : ℕ) → is_nondigit b ≡ true → is_quiet b ≡ true
nondigit_is_quiet b h =
    rw (no_tail_by is_nondigit b h refl refl refl refl refl refl refl, other_byte is_nondigit b 47 h refl, other_byte is_nondigit b 42 h refl, nondigit_is_no_digit b h) refl

mark_piece_starts : (k : TokenKind) (rest : List ℕ) → kind_among punctuators (spelling_of k) ≡ Some k → FollowsMark (spelling_of k) (get_or rest 0 0)
    → StartsToken (spelling_of k ++ rest) (length (spelling_of k)) k Fixed
unfolding punctuator_of
mark_piece_starts k rest is (closed final slash point) =
    let w = spelling_of k in let a = mark_is_alone k is in
    mark_starts w rest k is a.some (no_comment_by w rest a.some a.no_comment (inl slash)) (no_number_by w rest a.some a.no_number (inl point)) (inl final)
mark_piece_starts k rest is (quiet h) =
    let w = spelling_of k in let a = mark_is_alone k is in let q = quiet_is (get_or rest 0 0) h in
    mark_starts w rest k is a.some (no_comment_by w rest a.some a.no_comment (inr (q.no_slash, q.no_star))) (no_number_by w rest a.some a.no_number (inr q.no_digit)) (inr q.no_tail)
mark_piece_starts k rest is (digit point h) =
    let w = spelling_of k in let a = mark_is_alone k is in let d = digit_is (get_or rest 0 0) h in
    mark_starts w rest k is a.some (no_comment_by w rest a.some a.no_comment (inr (d.1, d.2))) (no_number_by w rest a.some a.no_number (inl point)) (inr d.0)

-- what a word of a name's bytes means, by the keyword that it may be
abbrev Means : List ℕ → List ℕ → Option TokenKind → Type 0
Means w rest o = let m : TokenKind × TokenValue = option_map_or (λ k. (k, Fixed)) o (Identifier, Name w) in StartsToken (w ++ rest) (length w) m.0 m.1

keyword_starts : (k : TokenKind) (rest : List ℕ) → is_identifier (spelling_of k) ≡ true → kind_among keywords (spelling_of k) ≡ Some k → is_word_byte (get_or rest 0 0) ≡ false
    → StartsToken (spelling_of k ++ rest) (length (spelling_of k)) k Fixed
unfolding keyword_of
keyword_starts k rest is found stops =
    let w = spelling_of k in
    subst (Means w rest) found (word_starts w rest is stops)

none_by : (o : Option TokenKind) → not (is_some o) ≡ true → o ≡ None
none_by None h = refl
none_by (Some k) h = absurd (cc)

name_starts : (w rest : List ℕ) → is_name w ≡ true → is_word_byte (get_or rest 0 0) ≡ false → StartsToken (w ++ rest) (length w) Identifier (Name w)
name_starts w rest is stops =
    let parts = and_parts (is_identifier w) (not (is_some (keyword_of w))) is in
    subst (Means w rest) (none_by (keyword_of w) parts.1) (word_starts w rest parts.0 stops)

constant_starts : (gap : Gap) (v : ℤ) (t : IntType) (rest : List ℕ) → is_constant v t ≡ true → ends_number (get_or rest 0 0) ≡ true
    → StartsToken (bytes_of (number gap v t) ++ rest) (length (bytes_of (number gap v t))) Number (Constant v t)
constant_starts gap v t rest is ends =
    let c = constant_reads v t is in
    let reads = c.2.reads in
    number_starts (bytes_of (number gap v t)) rest (Constant v t) (let b = c.2.begins in b) (let b = c.2.bytes in b) ends (reads ∙ ap (λ x. Some (Constant x t)) (sym c.1))

-- the word of a piece is its token, where what follows may follow it
pub piece_starts : (p : Piece) (rest : List ℕ) → Proper p → Follows p (get_or rest 0 0) → StartsToken (bytes_of p ++ rest) (length (bytes_of p)) (kind_of p) (value_of p)
piece_starts (fixed gap k) rest (keyword is found) follows = keyword_starts k rest is found (follows.word is)
piece_starts (fixed gap k) rest (mark is) follows = mark_piece_starts k rest is (follows.mark (let a = mark_is_alone k is in a.no_word))
piece_starts (named gap w) rest proper follows = name_starts w rest proper follows
piece_starts (number gap v t) rest proper follows = constant_starts gap v t rest proper follows

abbrev pub has_gap : Gap → Bool
has_gap tight = false
has_gap gap = true

-- nothing goes on with the piece, whatever follows
abbrev pub is_closed : Piece → Bool
is_closed (fixed gap k) = not (is_identifier (spelling_of k)) && (is_final (spelling_of k) && (not (nat_eq (get_or (spelling_of k) 0 0) 47) && not (nat_eq (get_or (spelling_of k) 0 0) 46)))
is_closed (named gap w) = false
is_closed (number gap v t) = false

-- a punctuator
abbrev pub is_punctuator : Piece → Bool
is_punctuator (fixed gap k) = not (is_identifier (spelling_of k))
is_punctuator (named gap w) = false
is_punctuator (number gap v t) = false

-- a punctuator other than the point
abbrev pub is_operator : Piece → Bool
is_operator (fixed gap k) = not (is_identifier (spelling_of k)) && not (nat_eq (get_or (spelling_of k) 0 0) 46)
is_operator (named gap w) = false
is_operator (number gap v t) = false

abbrev pub is_named : Piece → Bool
is_named (fixed gap k) = false
is_named (named gap w) = true
is_named (number gap v t) = false

abbrev pub is_numbered : Piece → Bool
is_numbered (fixed gap k) = false
is_numbered (named gap w) = false
is_numbered (number gap v t) = true

-- the second may stand behind the first
pub data Stands (p q : Piece) : Type 0 where
  gapped : has_gap (gap_of q) ≡ true → Stands p q
  alone : is_alone (first_byte q) ≡ true → Stands p q
  behind : is_closed p ≡ true → Stands p q
  word : is_punctuator p ≡ true → is_named q ≡ true → Stands p q
  constant : is_operator p ≡ true → is_numbered q ≡ true → Stands p q
  access : is_named p ≡ true → is_word_byte (first_byte q) ≡ false → Stands p q

closed_follows : (p : Piece) (b : ℕ) → is_closed p ≡ true → Follows p b
closed_follows (fixed gap k) b h =
    let w = spelling_of k in
    let one = and_parts (not (is_identifier w)) (is_final w && (not (nat_eq (get_or w 0 0) 47) && not (nat_eq (get_or w 0 0) 46))) h in
    let two = and_parts (is_final w) (not (nat_eq (get_or w 0 0) 47) && not (nat_eq (get_or w 0 0) 46)) one.1 in
    let three = and_parts (not (nat_eq (get_or w 0 0) 47)) (not (nat_eq (get_or w 0 0) 46)) two.1 in
    record {
      word = λ e. absurd (both_ways (is_identifier w) (not-true (is_identifier w) one.0) e);
      mark = λ e. closed two.0 (not-true (nat_eq (get_or w 0 0) 47) three.0) (not-true (nat_eq (get_or w 0 0) 46) three.1);
    }
closed_follows (named gap w) b h = absurd (cc)
closed_follows (number gap v t) b h = absurd (cc)

name_follows : (p q : Piece) → is_punctuator p ≡ true → is_named q ≡ true → Proper q → Follows p (first_byte q)
name_follows (fixed gap k) (named g w) h is proper =
    let first = nondigit_first w (and_parts (is_identifier w) (not (is_some (keyword_of w))) proper).0 in
    record {
      word = λ e. absurd (both_ways (is_identifier (spelling_of k)) (not-true (is_identifier (spelling_of k)) h) e);
      mark = λ e. quiet (nondigit_is_quiet (get_or w 0 0) first);
    }
name_follows (fixed gap k) (fixed g l) h is proper = absurd (cc)
name_follows (fixed gap k) (number g v t) h is proper = absurd (cc)
name_follows (named gap w) q h is proper = absurd (cc)
name_follows (number gap v t) q h is proper = absurd (cc)

constant_follows : (p q : Piece) → is_operator p ≡ true → is_numbered q ≡ true → Proper q → Follows p (first_byte q)
constant_follows (fixed gap k) (number g v t) h is proper =
    let w = spelling_of k in
    let parts = and_parts (not (is_identifier w)) (not (nat_eq (get_or w 0 0) 46)) h in
    let c = constant_reads v t proper in
    record {
      word = λ e. absurd (both_ways (is_identifier w) (not-true (is_identifier w) parts.0) e);
      mark = λ e. digit (not-true (nat_eq (get_or w 0 0) 46) parts.1) (let b = c.2.begins in b);
    }
constant_follows (fixed gap k) (fixed g l) h is proper = absurd (cc)
constant_follows (fixed gap k) (named g w) h is proper = absurd (cc)
constant_follows (named gap w) q h is proper = absurd (cc)
constant_follows (number gap v t) q h is proper = absurd (cc)

access_follows : (p : Piece) (b : ℕ) → is_named p ≡ true → is_word_byte b ≡ false → Follows p b
access_follows (named gap w) b h stops = stops
access_follows (fixed gap k) b h stops = absurd (cc)
access_follows (number gap v t) b h stops = absurd (cc)

-- a piece that may stand behind another without a gap begins with a byte that may
pub stands_follows : (p q : Piece) → Proper q → Stands p q → has_gap (gap_of q) ≡ false → Follows p (first_byte q)
stands_follows p q proper (gapped gap) none = absurd (both_ways (has_gap (gap_of q)) none gap)
stands_follows p q proper (alone h) none = alone_follows p (first_byte q) h
stands_follows p q proper (behind h) none = closed_follows p (first_byte q) h
stands_follows p q proper (word h is) none = name_follows p q h is proper
stands_follows p q proper (constant h is) none = constant_follows p q h is proper
stands_follows p q proper (access h stops) none = access_follows p (first_byte q) h stops

first_stays : (w rest : List ℕ) → 0 < length w → get_or (w ++ rest) 0 0 ≡ get_or w 0 0
first_stays [] rest some = absurd (omega arith)
first_stays (b ∷ w) rest some = refl

word_nonempty : (w : List ℕ) → is_identifier w ≡ true → 0 < length w
word_nonempty [] h = absurd (cc)
word_nonempty (b ∷ w) h = omega arith

digit_nonempty : (w : List ℕ) → is_ascii_digit (get_or w 0 0) ≡ true → 0 < length w
digit_nonempty [] h = absurd (cc)
digit_nonempty (b ∷ w) h = omega arith

-- a word has a byte
pub piece_nonempty : (p : Piece) → Proper p → 0 < length (bytes_of p)
piece_nonempty (fixed gap k) (keyword is found) = word_nonempty (spelling_of k) is
piece_nonempty (fixed gap k) (mark is) = let a = mark_is_alone k is in a.some
piece_nonempty (named gap w) h = word_nonempty w (and_parts (is_identifier w) (not (is_some (keyword_of w))) h).0
piece_nonempty (number gap v t) h = let c = constant_reads v t h in digit_nonempty (bytes_of (number gap v t)) (let b = c.2.begins in b)

pub first_of : (p : Piece) (rest : List ℕ) → Proper p → get_or (bytes_of p ++ rest) 0 0 ≡ first_byte p
first_of p rest proper = first_stays (bytes_of p) rest (piece_nonempty p proper)
