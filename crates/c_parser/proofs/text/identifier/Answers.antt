use Rattle.std.proofs.Common.{sym, refl, ap, ◌∙◌, [], ◌∷◌, Some}
use Rattle.c_lexer.specs.declared.token.TokenKind.TheVariants.{Identifier}
use Rattle.c_grammar.specs.Part.{word}
use Rattle.c_grammar.specs.Machine.{given}
use Rattle.c_parser.proofs.Steps.{value_stands, value_lacks, no_name}
use Rattle.c_parser.proofs.text.identifier.Goals as goal

pub returns-in-Ok-clause-word : goal.returns-in-Ok-clause-word
returns-in-Ok-clause-word c = λ depth.
    let lt = c.if-not-stands.ensures.within refl in
    let t = c.index-tokens-at.result in
    value_stands _ _ _ Identifier t _ lt c.index-tokens-at.is c.if-not-stands.ensures.kind (ap (given Identifier t.span) c.in-Name.is ∙ ap (λ b. Some (word (record { span = t.span; bytes = b }) ∷ [])) (sym c.in-Ok.ensures))

pub returns-in-Constant-clause-word : goal.returns-in-Constant-clause-word
returns-in-Constant-clause-word c = λ depth.
    let lt = c.if-not-stands.ensures.within refl in
    let t = c.index-tokens-at.result in
    value_lacks _ _ _ Identifier t lt c.index-tokens-at.is c.if-not-stands.ensures.kind (no_name t.span t.value c.in-Constant.is)
