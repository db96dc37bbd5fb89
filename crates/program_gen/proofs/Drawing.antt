-- A function takes three draws.
use Rattle.std.proofs.Common.{◌≡◌, ℕ, ◌+◌, ◌*◌, suc, List, [], ◌∷◌, ◌++◌, map, ap, sym, ◌∙◌, arith}
use Rattle.std.specs.List.{range_with_len}
use Rattle.std.proofs.lemmas.List.FromFn.{map-range_with_len_more}
use Rattle.program_gen.specs.declared.functions.Function.{Function}
use Rattle.program_gen.specs.Draws.{moved, state}

three_more : (n : ℕ) → 3 * (n + 1) ≡ suc (suc (suc (3 * n)))
three_more n = omega arith

-- the states of three draws after those of n functions
pub next_three : (seed n s a b c : ℕ) → s ≡ state seed (3 * n) → a ≡ moved s → b ≡ moved a → c ≡ moved b → c ≡ state seed (3 * (n + 1))
next_three seed n s a b c s_is a_is b_is c_is = c_is ∙ ap moved (b_is ∙ ap moved (a_is ∙ ap moved s_is)) ∙ sym (ap (state seed) (three_more n))

-- one function more
pub one_more : (f : ℕ → Function) (n : ℕ) (before after : List Function) (x : Function) → before ≡ map f (range_with_len 0 n) → x ≡ f n → after ≡ before ++ x ∷ []
    → after ≡ map f (range_with_len 0 (n + 1))
one_more f n before after x are is more =
    more ∙ ap (λ xs. xs ++ x ∷ []) are ∙ ap (λ y. map f (range_with_len 0 n) ++ y ∷ []) is ∙ sym (map-range_with_len_more f 0 n n (omega arith))
