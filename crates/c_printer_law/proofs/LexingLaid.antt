-- The tokens of a printed text are the words of its items.
use Rattle.std.proofs.Common.{◌≡◌, ℕ, ◌+◌, false, nat_eq, List, [], ◌∷◌, ◌++◌, length, drop, refl, ap, sym, ◌∙◌, subst, arith, length-append}
use Rattle.std.specs.Prelude.{◌&&◌, ◌||◌}
use Rattle.std.specs.List.{flat_map}
use Rattle.std.proofs.lemmas.Bool.{not-true}
use Rattle.std.proofs.lemmas.List.{append_assoc, drop_at}
use Rattle.c_lexer.specs.Comments.{has_close, IsBlank, block}
use Rattle.c_lexer.specs.Lexes.{IsGap, none, more}
use Rattle.c_lexer.specs.declared.token.TokenKind.TheVariants as k
use Rattle.c_printer.specs.Pieces.{tight, fixed}
use Rattle.c_printer.specs.Sheets.{heading}
use Rattle.c_printer.specs.Items.{item_words, text_of}
use Rattle.c_printer_law.specs.LexingLaw.{LaidLexes}
use Rattle.c_printer_law.proofs.LexingLayouts.{lay_spreads, reads_on}
use Rattle.c_printer_law.proofs.LexingItemChains.{items_free}

-- a space closes no comment
space_closes_nothing : (body : List ℕ) → has_close (body ++ (32 ∷ [])) ≡ has_close body
space_closes_nothing [] = refl
space_closes_nothing (b ∷ []) = refl
space_closes_nothing (b ∷ c ∷ body) = ap (λ t. (nat_eq b 42 && nat_eq c 47) || t) (space_closes_nothing (c ∷ body))

abbrev body_of : List ℕ → List ℕ
body_of comment = 32 ∷ (comment ++ (32 ∷ []))

heading_is : (comment rest : List ℕ) → (heading comment).bytes ++ rest ≡ 47 ∷ 42 ∷ (body_of comment ++ (42 ∷ 47 ∷ rest))
heading_is comment rest =
    ap (λ bytes. 47 ∷ 42 ∷ 32 ∷ bytes) (append_assoc comment (32 ∷ 42 ∷ 47 ∷ []) rest ∙ sym (append_assoc comment (32 ∷ []) (42 ∷ 47 ∷ rest)))

heading_gap : (comment rest text : List ℕ) → has_close comment ≡ false → text ≡ (heading comment).bytes ++ rest → IsGap text 0 (length (heading comment).bytes)
heading_gap comment rest text no_close is =
    let n = 4 + length (body_of comment) in
    let blank : IsBlank text n = block (body_of comment) rest (is ∙ heading_is comment rest) refl (space_closes_nothing comment ∙ no_close) in
    let sizes = length-append comment (32 ∷ []) in
    let more_sizes = length-append comment (32 ∷ 42 ∷ 47 ∷ []) in
    let same : 0 + n ≡ length (heading comment).bytes = omega (arith, sizes, more_sizes) in
    subst (IsGap text 0) same (more n none blank)

pub laid_lexes : LaidLexes
laid_lexes comment program no_close plain =
    let pieces = flat_map item_words program in
    let laid = lay_spreads pieces (heading comment) in
    let text = text_of comment program in
    let at = length (heading comment).bytes in
    let behind : drop at text ≡ laid.0 = ap (drop at) laid.2 ∙ drop_at (heading comment).bytes laid.0 at refl in
    let first = fixed tight k.OpenParen in
    let read = reads_on pieces first text laid.0 0 at behind laid.1 (items_free program plain first) (heading_gap comment laid.0 text (not-true (has_close comment) no_close) laid.2) in
    (read.tokens, read.reads, read.kinds, read.values)
