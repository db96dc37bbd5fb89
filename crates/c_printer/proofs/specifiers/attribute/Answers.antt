use Rattle.std.proofs.Common.{[], ◌∷◌, ap, sym, ◌∙◌}
use Rattle.std.specs.Prelude.{codes}
use Rattle.c_lexer.specs.declared.token.TokenKind.TheVariants as k
use Rattle.c_printer.specs.Pieces.{tight, fixed}
use Rattle.c_printer.specs.Sheets.{laid, lay}
use Rattle.c_printer.specs.Specifiers as words
use Rattle.c_printer.proofs.Laying.{lay_both, laid_to}
use Rattle.c_printer.proofs.specifiers.attribute.Goals as goal

pub returns : goal.returns
returns c =
    let ws = c.args.attributes.now in
    let begun = c.in_ok-word-3.ensures ∙ ap (laid tight (codes "(")) (c.in_ok-word-2.ensures ∙ ap (laid tight (codes "(")) c.in_ok-word.ensures) in
    let named = c.in_ok-names.ensures ∙ ap (lay (words.names ws)) begun in
    laid_to _ _ _ _ c.word-5.ensures
    (ap (laid tight (codes ")")) (c.in_ok-word-4.ensures ∙ ap (laid tight (codes ")")) named)
    ∙ sym (lay_both (words.names ws) (fixed tight k.CloseParen ∷ fixed tight k.CloseParen ∷ []) _))
