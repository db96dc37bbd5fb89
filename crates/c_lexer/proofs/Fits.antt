-- What bytes begin with has at least one byte, and no more than there are.
use Rattle.std.proofs.Common.{◌≡◌, ℕ, ◌≤◌, ◌<◌, zero, suc, true, false, List, [], ◌∷◌, ◌++◌, length, take, get_or, ap, arith, length-append}
use Rattle.std.specs.Prelude.{IsTrue}
use Rattle.c_lexer.specs.Bytes.{is_space}
use Rattle.c_lexer.specs.Comments.{IsBlank, space, line, block}
use Rattle.c_lexer.specs.Lexemes.{IsLexeme, identifier, number, character, punctuator}
use Rattle.c_lexer.specs.Lexes.{IsFault, bad_byte, open_comment, bad_number, bad_char}
use Rattle.c_lexer.specs.Next.{BeginsWith}
use Rattle.c_lexer.specs.declared.error.LexFaultKind.{LexFaultKind}
use Rattle.c_lexer.specs.declared.next.Next.{Next}
use Rattle.c_lexer.specs.declared.next.Next.TheVariants.{Blank, Token, Fault}
use Rattle.c_lexer.proofs.Firsts.{quote_first, mark_first}

-- what is answered has at least one byte, and at most so many
abbrev pub FitsIn : ℕ → Next → Type 0
FitsIn size (Blank n) = (0 < n) × (n ≤ size)
FitsIn size (Token n kind value) = (0 < n) × (n ≤ size)
FitsIn size (Fault kind) = Unit {0}

no_lexeme : IsLexeme [] → ⊥
no_lexeme (identifier h) = cc
no_lexeme (number h) = cc
no_lexeme (character h) = let first : 0 ≡ 39 = quote_first [] h in omega (arith, first)
no_lexeme (punctuator h) = let first : false ≡ true = mark_first [] h in cc

longest_nonempty : (bs : List ℕ) (n : ℕ) → IsLexeme (take n bs) → 0 < n
longest_nonempty bs zero h = absurd (no_lexeme h)
longest_nonempty bs (suc n) h = omega arith

first_nonempty : (bs : List ℕ) → 0 < get_or bs 0 0 → 0 < length bs
first_nonempty [] h = absurd (omega arith)
first_nonempty (b ∷ bs) h = omega arith

space_nonempty : (bs : List ℕ) → IsTrue (is_space (get_or bs 0 0)) → 0 < length bs
space_nonempty [] h = absurd (cc)
space_nonempty (b ∷ bs) h = omega arith

blank_fits : (bs : List ℕ) (n : ℕ) → IsBlank bs n → FitsIn (length bs) (Blank n)
blank_fits bs n (space one h) = let some = space_nonempty bs h in (omega (arith, one), omega (arith, one, some))
blank_fits bs n (line body after is size all ends) =
    let long : length bs ≡ suc (suc (length (body ++ after))) = ap length is in
    (omega (arith, size), omega (arith, size, long, length-append body after))
blank_fits bs n (block body after is size none) =
    let long : length bs ≡ suc (suc (length (body ++ (42 ∷ (47 ∷ after))))) = ap length is in
    (omega (arith, size), omega (arith, size, long, length-append body (42 ∷ (47 ∷ after))))

pub begins_fits : (bs : List ℕ) (x : Next) → BeginsWith bs x → FitsIn (length bs) x
begins_fits bs (Blank n) h = blank_fits bs n h
begins_fits bs (Token n kind value) h = (longest_nonempty bs n h.longest.lexeme, h.longest.within)
begins_fits bs (Fault kind) h = tt

pub fault_nonempty : (bs : List ℕ) (kind : LexFaultKind) → IsFault bs kind → 0 < length bs
fault_nonempty bs kind (bad_byte some no_space no_quote no_comment none) = some
fault_nonempty bs kind (open_comment body is none) = let long : length bs ≡ suc (suc (length body)) = ap length is in omega (arith, long)
fault_nonempty bs kind (bad_number n longest is_number none) = let some = longest_nonempty bs n longest.lexeme in let le = longest.within in omega (arith, some, le)
fault_nonempty bs kind (bad_char first none) = first_nonempty bs (omega (arith, first))

pub begins_nonempty : (bs : List ℕ) (x : Next) → BeginsWith bs x → 0 < length bs
begins_nonempty bs (Blank n) h = let fits = blank_fits bs n h in omega (arith, fits.0, fits.1)
begins_nonempty bs (Token n kind value) h = let fits = begins_fits bs (Token n kind value) h in omega (arith, fits.0, fits.1)
begins_nonempty bs (Fault kind) h = fault_nonempty bs kind h
