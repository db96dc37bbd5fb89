-- Bytes begin with one thing at most.
use Rattle.std.proofs.Common.{◌≡◌, ℕ, ◌+◌, true, false, cond, nat_eq, List, ◌∷◌, ◌++◌, length, take, get_or, refl, ap, sym, ◌∙◌, subst, arith}
use Rattle.std.specs.List.{prefix_len}
use Rattle.std.specs.Option.{option_map, option_map_or}
use Rattle.std.proofs.lemmas.Bool.{false_from_ne_true as not_true}
use Rattle.c_lexer.specs.Bytes.{is_space}
use Rattle.c_lexer.specs.Comments.{opens_comment, is_no_line_feed, IsBlank, space, line, block}
use Rattle.c_lexer.specs.Lexemes.{IsLongest, StartsToken, meaning_of}
use Rattle.c_lexer.specs.Lexes.{NoLexeme, IsFault, bad_byte, open_comment, bad_number, bad_char}
use Rattle.c_lexer.specs.Next.{BeginsWith, comment_next}
use Rattle.c_lexer.specs.declared.token.TokenKind.{TokenKind}
use Rattle.c_lexer.specs.declared.token.TokenKind.TheVariants.{Number}
use Rattle.c_lexer.specs.declared.token.TokenValue.{TokenValue}
use Rattle.c_lexer.specs.declared.error.LexFaultKind.{LexFaultKind}
use Rattle.c_lexer.specs.declared.error.LexFaultKind.TheVariants.{BadByte, OpenComment, BadNumber, BadChar}
use Rattle.c_lexer.specs.declared.next.Next.{Next}
use Rattle.c_lexer.specs.declared.next.Next.TheVariants.{Blank, Token, Fault}
use Rattle.c_lexer.proofs.CommentLemmas.{run_of_line, close_of_body, open_has_none}
use Rattle.c_lexer.proofs.Classes.{number_begins, lexeme_is_no_space, number_is_no_comment, quote_is_no_comment, number_means}

-- what a longest word of n bytes is
abbrev lexed : List ℕ → ℕ → Next
lexed bs n = option_map_or (λ (m : TokenKind × TokenValue). Token n m.0 m.1) (meaning_of (take n bs)) (Fault BadNumber)

abbrev unlexed : List ℕ → Next
unlexed bs = Fault (cond (nat_eq (get_or bs 0 0) 39) BadChar BadByte)

-- the one thing that bytes begin with, by tests of which one alone is passed
data Way (bs : List ℕ) (x : Next) : Type 0 where
  spaced : is_space (get_or bs 0 0) ≡ true → x ≡ Blank 1 → Way bs x
  commented : is_space (get_or bs 0 0) ≡ false → opens_comment bs ≡ true → x ≡ comment_next bs → Way bs x
  worded : is_space (get_or bs 0 0) ≡ false → opens_comment bs ≡ false → (n : ℕ) → IsLongest bs n → x ≡ lexed bs n → Way bs x
  unworded : is_space (get_or bs 0 0) ≡ false → opens_comment bs ≡ false → NoLexeme bs → x ≡ unlexed bs → Way bs x

line_next : (body after : List ℕ) → prefix_len is_no_line_feed (body ++ after) ≡ length body → Blank (2 + length body) ≡ comment_next (47 ∷ (47 ∷ (body ++ after)))
line_next body after run = ap (λ n. Blank (2 + n)) (sym run)

comment_way : (bs cs : List ℕ) (x : Next) → bs ≡ cs → is_space (get_or cs 0 0) ≡ false → opens_comment cs ≡ true → x ≡ comment_next cs → Way bs x
comment_way bs cs x is no_space opens next =
    subst (λ v. Way v x) (sym is) (commented no_space opens next)

blank_way : (bs : List ℕ) (n : ℕ) → IsBlank bs n → Way bs (Blank n)
blank_way bs n (space one h) = spaced h (ap Blank one)
blank_way bs n (line body after is size all ends) =
    comment_way bs (47 ∷ (47 ∷ (body ++ after))) (Blank n) is refl refl (ap Blank size ∙ line_next body after (run_of_line body after all ends))
blank_way bs n (block body after is size none) =
    let more : n ≡ 2 + (2 + length body) = omega (arith, size) in
    comment_way bs (47 ∷ (42 ∷ (body ++ (42 ∷ (47 ∷ after))))) (Blank n) is refl refl
    (ap Blank more ∙ sym (ap (λ o. option_map_or (λ n. Blank (2 + n)) o (Fault OpenComment)) (close_of_body body after none)))

token_way : (bs : List ℕ) (n : ℕ) (kind : TokenKind) (value : TokenValue) → StartsToken bs n kind value → Way bs (Token n kind value)
token_way bs n kind value s =
    worded (lexeme_is_no_space bs n s.longest.lexeme) s.no_comment n s.longest
    (sym (ap (λ o. option_map_or (λ (m : TokenKind × TokenValue). Token n m.0 m.1) o (Fault BadNumber)) s.means))

fault_way : (bs : List ℕ) (kind : LexFaultKind) → IsFault bs kind → Way bs (Fault kind)
fault_way bs kind (bad_byte nonempty no_space no_quote no_comment none) =
    unworded no_space no_comment none
    (ap (λ t. Fault (cond t BadChar BadByte)) (sym (not_true (nat_eq (get_or bs 0 0) 39) (λ e. no_quote (let same : get_or bs 0 0 ≡ 39 = grind (arith, e) in same)))))
fault_way bs kind (open_comment body is none) =
    comment_way bs (47 ∷ (42 ∷ body)) (Fault OpenComment) is refl refl
    (sym (ap (λ o. option_map_or (λ n. Blank (2 + n)) o (Fault OpenComment)) (open_has_none body none)))
fault_way bs kind (bad_number n longest is_number none) =
    worded (lexeme_is_no_space bs n longest.lexeme) (number_is_no_comment bs (number_begins bs n is_number)) n longest
    (sym (ap (λ o. option_map_or (λ (m : TokenKind × TokenValue). Token n m.0 m.1) o (Fault BadNumber))
    (number_means (take n bs) is_number ∙ ap (option_map (λ v. (Number, v))) none)))
fault_way bs kind (bad_char first none) =
    unworded (ap is_space first) (quote_is_no_comment bs first) none (ap (λ t. Fault (cond t BadChar BadByte)) (sym (ap (λ b. nat_eq b 39) first)))

way_of : (bs : List ℕ) (x : Next) → BeginsWith bs x → Way bs x
way_of bs (Blank n) h = blank_way bs n h
way_of bs (Token n kind value) h = token_way bs n kind value h
way_of bs (Fault kind) h = fault_way bs kind h

longest_is_one : (bs : List ℕ) (n m : ℕ) → IsLongest bs n → IsLongest bs m → n ≡ m
longest_is_one bs n m a b =
    let up = b.longest n a.within a.lexeme in
    let down = a.longest m b.within b.lexeme in
    omega (arith, up, down)

one_way : (bs : List ℕ) (x y : Next) → Way bs x → Way bs y → x ≡ y
one_way bs x y (spaced a e) (spaced b f) = e ∙ sym f
one_way bs x y (spaced a e) (commented b c f) = absurd (cc)
one_way bs x y (spaced a e) (worded b c n l f) = absurd (cc)
one_way bs x y (spaced a e) (unworded b c none f) = absurd (cc)
one_way bs x y (commented a c e) (spaced b f) = absurd (cc)
one_way bs x y (commented a c e) (commented b d f) = e ∙ sym f
one_way bs x y (commented a c e) (worded b d n l f) = absurd (cc)
one_way bs x y (commented a c e) (unworded b d none f) = absurd (cc)
one_way bs x y (worded a c n l e) (spaced b f) = absurd (cc)
one_way bs x y (worded a c n l e) (commented b d f) = absurd (cc)
one_way bs x y (worded a c n l e) (worded b d m k f) = e ∙ ap (lexed bs) (longest_is_one bs n m l k) ∙ sym f
one_way bs x y (worded a c n l e) (unworded b d none f) = absurd (none n l.within l.lexeme)
one_way bs x y (unworded a c none e) (spaced b f) = absurd (cc)
one_way bs x y (unworded a c none e) (commented b d f) = absurd (cc)
one_way bs x y (unworded a c none e) (worded b d m k f) = absurd (none m k.within k.lexeme)
one_way bs x y (unworded a c none e) (unworded b d other f) = e ∙ sym f

pub begins_with_one : (bs : List ℕ) (x y : Next) → BeginsWith bs x → BeginsWith bs y → x ≡ y
begins_with_one bs x y a b = one_way bs x y (way_of bs x a) (way_of bs y b)
