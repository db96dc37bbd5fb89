use Rattle.std.proofs.Common.{sym, ap, ◌∙◌, arith, rules, FitsSigned, to_z-of_z, ℤ}
use Rattle.std.specs.Prelude.{Some, pos}
use Rattle.std.specs.Int.{w128}
use Rattle.c_lexer.specs.Numbers.{type_for, types_of}
use Rattle.c_lexer.specs.declared.token.TokenValue.TheVariants.{Constant}
use Rattle.c_lexer.proofs.NumberLemmas.{type_for_large, constant_is, fits_some, fits_none}
use Rattle.c_lexer.proofs.number.constant_in.Goals as goal

pub returns-in_err-value : goal.returns-in_err-value
returns-in_err-value c =
    let large = fits_none _ c.in_err-value.ensures in
    c.from_residual-in_err-value.ensures ∙ sym (constant_is c.args.base c.args.bytes.now c.digit_count-count.result c.in_ok-suffix.suffix _ c.digit_count-count.ensures.count (omega arith) (sym c.in_ok-suffix.ensures) (type_for_large _ c.args.base c.in_ok-suffix.suffix large))

pub returns-in_err-ty : goal.returns-in_err-ty
returns-in_err-ty c =
    let value = fits_some _ _ c.in_ok-value.ensures in
    c.from_residual-in_err-ty.ensures ∙ sym (constant_is c.args.base c.args.bytes.now c.digit_count-count.result c.in_ok-suffix.suffix _ c.digit_count-count.ensures.count (omega arith) (sym c.in_ok-suffix.ensures)
    (ap (λ v. type_for v (types_of c.args.base c.in_ok-suffix.suffix)) (sym value) ∙ sym c.in_err-ty.ensures))

pub returns : goal.returns
returns c =
    let f : FitsSigned w128 c.from.result = search rules in
    let value = fits_some _ _ c.in_ok-value.ensures in
    let is = constant_is c.args.base c.args.bytes.now c.digit_count-count.result c.in_ok-suffix.suffix _ c.digit_count-count.ensures.count (omega arith) (sym c.in_ok-suffix.ensures)
    (ap (λ v. type_for v (types_of c.args.base c.in_ok-suffix.suffix)) (sym value) ∙ sym c.in_ok-ty.ensures) in
    simp to_z-of_z (ap (λ (v : ℤ). Some (Constant v c.in_ok-ty.ty)) (c.from.ensures ∙ ap pos value) ∙ sym is)
