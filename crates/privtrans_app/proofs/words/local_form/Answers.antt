use Rattle.std.proofs.Common.{◌≡◌, ◌≤◌, ◌∙◌, [], get_or, arith, sym, ap}
use Rattle.std.specs.Fmt.{decimal}
use Rattle.std.proofs.lemmas.Fmt.{decimal_injective}
use Rattle.privtrans_app.proofs.words.local_form.Goals as goal

pub returns-then-window-eq0 : goal.returns-then-window-eq0
returns-then-window-eq0 c = λ p h q i t w form.
    let here : c.args.window.now ≡ decimal c.in_ok-window.window = c.in_ok-window.ensures.1 in
    let spelled : c.args.window.now ≡ decimal w = ap (λ xs. get_or xs 6 []) form.are in
    let most : w ≤ 1024 = form.window_most in
    let least : 1 ≤ w = form.window_least in
    let none : w ≡ 0 = decimal_injective w 0 (omega arith) (omega arith) (sym spelled ∙ here ∙ ap decimal c.if-window-eq0.true) in
    absurd (omega arith)
