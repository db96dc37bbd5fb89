use Rattle.std.proofs.Common.{sym, ap, subst, ◌∙◌, option_map}
use Rattle.std.specs.Prelude.{Ok}
use Rattle.std.proofs.lemmas.Result.{err_from_is_err_and}
use Rattle.pt_core.specs.CodeTree.{view_expr, view_place}
use Rattle.boot_fields.specs.Reading.{Gives, expr_at}
use Rattle.boot_reading.proofs.FirstOperands.{no_place_start, place_there, no_pointer, place_pointed}
use Rattle.boot_reading.proofs.expressions.place.Goals as goal

pub returns-in_err-found : goal.returns-in_err-found
returns-in_err-found c =
    let p = err_from_is_err_and c.from_residual.result c.from_residual.ensures.1 in
    rw (p.1, p.2) (no_place_start (expr_at c.args.depth) c.args.bytes.now c.in_err-found.field-0.0 c.in_err-found.ensures)

pub returns-in_err-pointer-in-None : goal.returns-in_err-pointer-in-None
returns-in_err-pointer-in-None c =
    let p = err_from_is_err_and c.from_residual-in_err-pointer-in-None.result c.from_residual-in_err-pointer-in-None.ensures.1 in
    rw (p.1, p.2) (no_pointer (expr_at c.args.depth) c.args.bytes.now c.in_ok-found.rest.now c.in_err-pointer-in-None.field-0.0
    (c.in_ok-found.ensures ∙ ap (λ o. Ok (option_map view_place o, c.in_ok-found.rest.now)) c.in-None.is) c.in_err-pointer-in-None.ensures)

pub returns-in-Some : goal.returns-in-Some
returns-in-Some c =
    place_there (expr_at c.args.depth) c.args.bytes.now c.in_ok-found.rest.now (view_place c.in-Some.place)
    (c.in_ok-found.ensures ∙ ap (λ o. Ok (option_map view_place o, c.in_ok-found.rest.now)) c.in-Some.is)

pub returns-in_ok-pointer-in-None : goal.returns-in_ok-pointer-in-None
returns-in_ok-pointer-in-None c =
    subst (Gives (λ x. (view_place x.0, x.1.now)) c.pointed.result)
    (sym (place_pointed (expr_at c.args.depth) c.args.bytes.now c.in_ok-found.rest.now c.in_ok-pointer-in-None.rest.now (view_expr c.in_ok-pointer-in-None.pointer)
    (c.in_ok-found.ensures ∙ ap (λ o. Ok (option_map view_place o, c.in_ok-found.rest.now)) c.in-None.is) c.in_ok-pointer-in-None.ensures))
    c.pointed.ensures
