use Rattle.std.proofs.Common.{◌≡◌, ◌<◌, ℕ, arith, sym, ◌∙◌, ap, refl, Result, Ok}
use Rattle.std.specs.Fmt.{decimal}
use Rattle.std.proofs.lemmas.Fmt.{parse-decimal}
use Rattle.privtrans_app.proofs.words.number.Goals as goal

ok_is : {E : Type 0} (m n : ℕ) (r : Result ℕ E) → r ≡ Ok m → r ≡ Ok n → m ≡ n
ok_is m n r a b = cc

pub returns-in_default : goal.returns-in_default
returns-in_default c = λ n most is.
    c.in_default.not-Ok n (parse-decimal 32 n c.args.word.now c.from_str_radix.result (let fits = c.ranges.most in omega arith) (let fits = c.ranges.most in omega arith) is c.from_str_radix.ensures.value)

pub returns-then-n-most : goal.returns-then-n-most
returns-then-n-most c = λ n most is.
    let same : c.in-Ok.n ≡ n = ok_is c.in-Ok.n n c.from_str_radix.result c.in-Ok.is
    (parse-decimal 32 n c.args.word.now c.from_str_radix.result (let fits = c.ranges.most in omega arith) (let fits = c.ranges.most in omega arith) is c.from_str_radix.ensures.value) in
    let over : c.args.most < c.in-Ok.n = c.if-n-most.true in
    omega arith

pub returns-else-is_spelling : goal.returns-else-is_spelling
returns-else-is_spelling c = λ n most is.
    let same : c.in-Ok.n ≡ n = ok_is c.in-Ok.n n c.from_str_radix.result c.in-Ok.is
    (parse-decimal 32 n c.args.word.now c.from_str_radix.result (let fits = c.ranges.most in omega arith) (let fits = c.ranges.most in omega arith) is c.from_str_radix.ensures.value) in
    c.if-is_spelling.ensures.no refl (is ∙ ap decimal (sym same))
