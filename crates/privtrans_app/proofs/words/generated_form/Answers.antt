use Rattle.std.proofs.Common.{◌≡◌, ◌≤◌, ◌∙◌, [], get_or, arith, sym, ap}
use Rattle.std.specs.Fmt.{decimal}
use Rattle.std.proofs.lemmas.Fmt.{decimal_injective}
use Rattle.privtrans_app.proofs.words.generated_form.Goals as goal

pub returns-then-count-eq0 : goal.returns-then-count-eq0
returns-then-count-eq0 c = λ s n form.
    let here : c.args.count.now ≡ decimal c.in_ok-count.count = c.in_ok-count.ensures.1 in
    let spelled : c.args.count.now ≡ decimal n = ap (λ xs. get_or xs 2 []) form.are in
    let most : n ≤ 2000 = form.count_most in
    let least : 1 ≤ n = form.count_least in
    let none : n ≡ 0 = decimal_injective n 0 (omega arith) (omega arith) (sym spelled ∙ here ∙ ap decimal c.if-count-eq0.true) in
    absurd (omega arith)
