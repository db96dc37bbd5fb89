-- Words that are laid on lines are these words with space between them, and the tokens of the text are theirs.
use Rattle.std.proofs.Common.{◌≡◌, ℕ, ◌+◌, zero, suc, Bool, true, false, cond, nat_eq, nat_le, List, [], ◌∷◌, ◌++◌, length, drop, map, get_or, refl, ap, sym, ◌∙◌, subst, ⊎_elim, arith, length-drop}
use Rattle.std.specs.Prelude.{◌||◌, replicate}
use Rattle.std.specs.List.{list_all}
use Rattle.std.proofs.lemmas.Bool.{and_parts, or_cases, eqb-true}
use Rattle.std.proofs.lemmas.List.{append_assoc, drop_at, drop-drop}
use Rattle.c_lexer.specs.Bytes.{is_space}
use Rattle.c_lexer.specs.Comments.{space}
use Rattle.c_lexer.specs.Lexemes.{StartsToken}
use Rattle.c_lexer.specs.Lexes.{IsGap, none, more, Reads}
use Rattle.c_lexer.specs.declared.token.Token.{Token}
use Rattle.c_lexer.proofs.Walks.{token_at}
use Rattle.c_printer.specs.Pieces.{Gap, tight, spaced, line, apart, Piece, gap_of, bytes_of, kind_of, value_of}
use Rattle.c_printer.specs.Sheets.{Written, widest, columns_of, behind, below, laid, put, lay}
use Rattle.c_printer_law.proofs.LexingNeighbours.{Proper, is_alone, Follows, alone_follows, piece_starts, first_of, has_gap, Stands, stands_follows}

-- space and line feeds
abbrev pub is_blank : ℕ → Bool
is_blank b = nat_eq b 32 || nat_eq b 10

-- what stands between two words: nothing only where nothing has to
pub record Blanks (gap : Gap) (blank : List ℕ) : Type 0 where
  pub all : list_all is_blank blank ≡ true
  pub kept : (blank ≡ []) → has_gap gap ≡ false

blanks : (n : ℕ) → list_all is_blank (replicate n 32) ≡ true
blanks zero = refl
blanks (suc n) = blanks n

-- a word that is laid adds space and the word
record Adds (gap : Gap) (word : List ℕ) (from to : List ℕ) : Type 0 where
  blank : List ℕ
  blanks : Blanks gap blank
  is : to ≡ from ++ (blank ++ word)

below_adds : (gap : Gap) (columns : ℕ) (word : List ℕ) (w : Written) → Adds gap word w.bytes (below columns word w).bytes
below_adds gap columns word w = record {
  blank = 10 ∷ replicate columns 32;
  blanks = record { all = blanks columns; kept = λ e. absurd (cc) };
  is = refl;
}

continued_adds : (gap : Gap) (between word : List ℕ) (w : Written) (fits : Bool) → Blanks gap between
    → Adds gap word w.bytes (cond fits (behind between word w) (below (w.indent + 4) word w)).bytes
continued_adds gap between word w true blank = record { blank = between; blanks = blank; is = refl }
continued_adds gap between word w false blank = below_adds gap (w.indent + 4) word w

laid_adds : (gap : Gap) (word : List ℕ) (w : Written) → Adds gap word w.bytes (laid gap word w).bytes
laid_adds tight word w = continued_adds tight [] word w (nat_le (w.column + (0 + length word)) widest) (record { all = refl; kept = λ e. refl })
laid_adds spaced word w = continued_adds spaced (32 ∷ []) word w (nat_le (w.column + (1 + length word)) widest) (record { all = refl; kept = λ e. absurd (cc) })
laid_adds (line levels) word w = below_adds (line levels) (columns_of levels) word w
laid_adds apart word w = record {
  blank = 10 ∷ 10 ∷ [];
  blanks = record { all = refl; kept = λ e. absurd (cc) };
  is = append_assoc w.bytes (10 ∷ []) (10 ∷ word);
}

-- the words with space between them, up to the line feed that ends the text
pub data Spread : List Piece → List ℕ → Type 0 where
  ends : Spread [] (10 ∷ [])
  word : {qs : List Piece} {rest : List ℕ} (q : Piece) (blank : List ℕ) → Blanks (gap_of q) blank → Spread qs rest → Spread (q ∷ qs) (blank ++ (bytes_of q ++ rest))

pub lay_spreads : (ps : List Piece) (w : Written) → (text : List ℕ) × Spread ps text × ((lay ps w).bytes ++ (10 ∷ []) ≡ w.bytes ++ text)
lay_spreads [] w = (10 ∷ [], ends, refl)
lay_spreads (p ∷ ps) w =
    let a = laid_adds (gap_of p) (bytes_of p) w in
    let rest = lay_spreads ps (put p w) in (
      a.blank ++ (bytes_of p ++ rest.0),
      word p a.blank a.blanks rest.1,
      rest.2 ∙ ap (λ bytes. bytes ++ rest.0) a.is ∙ append_assoc w.bytes (a.blank ++ bytes_of p) rest.0 ∙ ap (λ more. w.bytes ++ more) (append_assoc a.blank (bytes_of p) rest.0),
    )

-- each of the pieces is a word that may stand behind the one before it
abbrev pub Chain : Piece → List Piece → Type 0
Chain p [] = Unit {0}
Chain p (q ∷ qs) = Stands p q × Proper q × Chain q qs

blank_is : (b : ℕ) → is_blank b ≡ true → (is_alone b ≡ true) × (is_space b ≡ true)
blank_is b h = ⊎_elim
    (λ (s : nat_eq b 32 ≡ true). let e : b ≡ 32 = eqb-true b 32 s in (ap is_alone e, ap is_space e))
    (λ (l : nat_eq b 10 ≡ true). let e : b ≡ 10 = eqb-true b 10 l in (ap is_alone e, ap is_space e))
    (or_cases (nat_eq b 32) (nat_eq b 10) h)

blank_follows : (p q : Piece) (blank rest : List ℕ) → Blanks (gap_of q) blank → Proper q → Stands p q → Follows p (get_or (blank ++ (bytes_of q ++ rest)) 0 0)
blank_follows p q [] rest blank proper stands =
    let none = blank.kept refl in
    subst (Follows p) (sym (first_of q rest proper)) (stands_follows p q proper stands none)
blank_follows p q (b ∷ blank) rest h proper stands =
    let all = h.all in
    alone_follows p b (blank_is b (and_parts (is_blank b) (list_all is_blank blank) all).0).0

-- what is laid behind a piece may follow it
spread_follows : (p : Piece) (ps : List Piece) (rest : List ℕ) → Chain p ps → Spread ps rest → Follows p (get_or rest 0 0)
spread_follows p ps rest chain ends = alone_follows p 10 refl
spread_follows p ps rest chain (word {rest = after} q blank h spread) = blank_follows p q blank after h chain.1 chain.0

-- tokens from a place on whose kinds and values are those of the pieces
pub record Read (text : List ℕ) (from : ℕ) (ps : List Piece) : Type 0 where
  pub tokens : List Token
  pub reads : Reads text from tokens (length text)
  pub kinds : map (λ t. t.kind) tokens ≡ map kind_of ps
  pub values : map (λ t. t.value) tokens ≡ map value_of ps

moved : (text front rest : List ℕ) (at n : ℕ) → drop at text ≡ front ++ rest → length front ≡ n → drop (at + n) text ≡ rest
moved text front rest at n is size = sym (drop-drop n at text) ∙ ap (drop n) is ∙ drop_at front rest n size

gap_blanks : (text blank rest : List ℕ) (from at : ℕ) → drop at text ≡ blank ++ rest → list_all is_blank blank ≡ true → IsGap text from at → IsGap text from (at + length blank)
gap_blanks text [] rest from at is all gap = let e : at ≡ at + 0 = omega arith in subst (IsGap text from) e gap
gap_blanks text (b ∷ blank) rest from at is all gap =
    let parts = and_parts (is_blank b) (list_all is_blank blank) all in
    let first : is_space (get_or (drop at text) 0 0) ≡ true = ap (λ bs. is_space (get_or bs 0 0)) is ∙ (blank_is b parts.0).1 in
    let e : at + 1 + length blank ≡ at + suc (length blank) = omega arith in
    subst (IsGap text from) e (gap_blanks text blank rest from (at + 1) (moved text (b ∷ []) (blank ++ rest) at 1 is refl) parts.1 (more 1 gap (space refl first)))

last_gap : (text : List ℕ) (from at : ℕ) → drop at text ≡ 10 ∷ [] → IsGap text from at → IsGap text from (length text)
last_gap text from at is gap =
    let size : length (drop at text) ≡ 1 = ap length is in
    let e : at + 1 ≡ length text = omega (arith, size, length-drop at text) in
    subst (IsGap text from) e (gap_blanks text (10 ∷ []) [] from at is refl gap)

pub reads_on : (ps : List Piece) (p : Piece) (text rest : List ℕ) (from at : ℕ) → drop at text ≡ rest → Spread ps rest → Chain p ps → IsGap text from at → Read text from ps
reads_on ps p text rest from at is ends chain gap = record { tokens = []; reads = last_gap text from at is gap; kinds = refl; values = refl }
reads_on ps p text rest from at is (word {qs = qs} {rest = after} q blank h spread) chain gap =
    let here = at + length blank in
    let size = length (bytes_of q) in
    let there : drop here text ≡ bytes_of q ++ after = moved text blank (bytes_of q ++ after) at (length blank) is refl in
    let behind = moved text (bytes_of q) after here size there refl in
    let follows = spread_follows q qs after chain.2 spread in
    let t = token_at here size (kind_of q) (value_of q) in
    let more = reads_on qs q text after (here + size) (here + size) behind spread chain.2 none in
    record {
      tokens = t ∷ more.tokens;
      reads = (
        gap_blanks text blank (bytes_of q ++ after) from at is (let all = h.all in all) gap,
        record { size = size; ends = refl; token = subst (λ bs. StartsToken bs size (kind_of q) (value_of q)) (sym there) (piece_starts q after chain.1 follows) },
        (let reads = more.reads in reads),
      );
      kinds = ap (λ ks. kind_of q ∷ ks) (let kinds = more.kinds in kinds);
      values = ap (λ vs. value_of q ∷ vs) (let values = more.values in values);
    }
