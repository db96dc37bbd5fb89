use Rattle.std.proofs.Common.{refl, ap, ◌∙◌, rules, [], ◌∷◌}
use Rattle.std.proofs.Common.{FitsSigned}
use Rattle.std.specs.Int.{w128}
use Rattle.std.proofs.lemmas.Int.{to_z-of_z}
use Rattle.c_grammar.specs.Part.{number}
use Rattle.c_grammar.specs.Machine.{given}
use Rattle.c_parser.proofs.Steps.{value_stands, value_lacks, a_constant, no_constant}
use Rattle.c_parser.proofs.text.constant.Goals as goal

pub returns-in-Constant-clause-number : goal.returns-in-Constant-clause-number
returns-in-Constant-clause-number c = λ depth.
    let lt = c.if-not-stands.ensures.within refl in
    let t = c.index-tokens-at.result in
    let fits : FitsSigned w128 c.in-Constant.value = search rules in
    let found = value_stands c.args.tokens.now c.args.at depth c.args.kind t (number (record { span = t.span; value = c.in-Constant.value; ty = c.in-Constant.ty }) ∷ []) lt c.index-tokens-at.is c.if-not-stands.ensures.kind (ap (given c.args.kind t.span) c.in-Constant.is ∙ a_constant _ _ _ _ c.requires.valued) in
    simp to_z-of_z found

pub returns-in-Name-clause-number : goal.returns-in-Name-clause-number
returns-in-Name-clause-number c = λ depth.
    let lt = c.if-not-stands.ensures.within refl in
    let t = c.index-tokens-at.result in
    value_lacks _ _ _ c.args.kind t lt c.index-tokens-at.is c.if-not-stands.ensures.kind (no_constant c.args.kind t.span t.value c.requires.valued c.in-Name.is)
