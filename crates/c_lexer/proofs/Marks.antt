-- The longest punctuator that bytes begin with.
use Rattle.std.proofs.Common.{◌≡◌, ℕ, ◌≤◌, zero, suc, Bool, true, false, cond, nat_le, List, length, take, refl, ap, sym, ◌∙◌, subst, inl, inr, ⊎_elim, arith, length-take-le}
use Rattle.std.specs.Prelude.{Option, Some, None, ◌⊎◌, is_some, IsTrue, ◌&&◌}
use Rattle.std.specs.Option.{option_or, option_map}
use Rattle.c_lexer.specs.Spelling.{spelling_of, punctuators, punctuator_of}
use Rattle.c_lexer.specs.Next.{punctuator_at, longest_punctuator}
use Rattle.c_lexer.specs.declared.token.TokenKind.{TokenKind}
use Rattle.c_lexer.proofs.Firsts.{found_among, is_found}

abbrev is_short : TokenKind → Bool
is_short k = nat_le 1 (length (spelling_of k)) && nat_le (length (spelling_of k)) 3

-- a punctuator has one to three bytes
short_mark : (w : List ℕ) (k : TokenKind) → punctuator_of w ≡ Some k → (1 ≤ length w) × (length w ≤ 3)
unfolding punctuator_of
short_mark w k h =
    let found = found_among punctuators is_short w k refl h in
    let size : length w ≡ length (spelling_of k) = ap length found.1 in
    let short : is_short k ≡ true = found.0 in
    (grind (arith, size, short), grind (arith, size, short))

mark_at : (n : ℕ) (bs : List ℕ) (k : TokenKind) → n ≤ length bs → punctuator_of (take n bs) ≡ Some k → punctuator_at n bs ≡ Some (k, n)
mark_at n bs k within h = grind (arith, within, h)

sized : (t : Bool) (o : Option TokenKind) (n : ℕ) (p : TokenKind × ℕ) → cond t (option_map (λ k. (k, n)) o) None ≡ Some p
    → (t ≡ true) × (o ≡ Some p.0) × (n ≡ p.1)
sized true (Some k) n p h = let e : (k, n) ≡ p = cc in (refl, ap (λ (q : TokenKind × ℕ). Some q.0) e, ap (λ (q : TokenKind × ℕ). q.1) e)
sized true None n p h = absurd (cc)
sized false o n p h = absurd (cc)

-- p is a punctuator that the bytes begin with, and its length
pub record IsMark (bs : List ℕ) (p : TokenKind × ℕ) : Type 0 where
  pub within : p.1 ≤ length bs
  pub spelled : punctuator_of (take p.1 bs) ≡ Some p.0

at_is_mark : (n : ℕ) (bs : List ℕ) (p : TokenKind × ℕ) → punctuator_at n bs ≡ Some p → IsMark bs p
at_is_mark n bs p h =
    let at = sized (nat_le n (length bs)) (punctuator_of (take n bs)) n p h in
    let within : n ≤ length bs = grind (arith, at.0) in
    record {
      within = subst (λ m. m ≤ length bs) at.2 within;
      spelled = ap (λ m. punctuator_of (take m bs)) (sym at.2) ∙ at.1;
    }

size_at : (n : ℕ) (bs : List ℕ) (p : TokenKind × ℕ) → punctuator_at n bs ≡ Some p → n ≡ p.1
size_at n bs p h = (sized (nat_le n (length bs)) (punctuator_of (take n bs)) n p h).2

abbrev Marks : Type 0
Marks = Option (TokenKind × ℕ)

some_of_or : (a b : Marks) (p : TokenKind × ℕ) → option_or a b ≡ Some p → (a ≡ Some p) ⊎ (b ≡ Some p)
some_of_or (Some q) b p h = inl h
some_of_or None b p h = inr h

pub longest_is_mark : (bs : List ℕ) (p : TokenKind × ℕ) → longest_punctuator bs ≡ Some p → IsMark bs p
longest_is_mark bs p h = ⊎_elim
    (λ e. ⊎_elim (at_is_mark 3 bs p) (at_is_mark 2 bs p) (some_of_or (punctuator_at 3 bs) (punctuator_at 2 bs) p e))
    (at_is_mark 1 bs p)
    (some_of_or (option_or (punctuator_at 3 bs) (punctuator_at 2 bs)) (punctuator_at 1 bs) p h)

-- the longest is at least as long as m
abbrev Reaches : Marks → ℕ → Type 0
Reaches o m = (p : TokenKind × ℕ) × (o ≡ Some p) × (m ≤ p.1)

by_two : (a b c : Marks) (p : TokenKind × ℕ) (m : ℕ) → b ≡ Some p → m ≤ p.1 → ((q : TokenKind × ℕ) → a ≡ Some q → m ≤ q.1)
    → Reaches (option_or (option_or a b) c) m
by_two (Some q) b c p m e le bound = (q, refl, bound q refl)
by_two None b c p m e le bound = (p, ap (λ o. option_or o c) e, le)

by_one : (a b c : Marks) (p : TokenKind × ℕ) (m : ℕ) → c ≡ Some p → m ≤ p.1 → ((q : TokenKind × ℕ) → a ≡ Some q → m ≤ q.1)
    → ((q : TokenKind × ℕ) → b ≡ Some q → m ≤ q.1) → Reaches (option_or (option_or a b) c) m
by_one (Some q) b c p m e le three two = (q, refl, three q refl)
by_one None (Some q) c p m e le three two = (q, refl, two q refl)
by_one None None c p m e le three two = (p, e, le)

reaches : (bs : List ℕ) (m : ℕ) (k : TokenKind) → 1 ≤ m → m ≤ 3 → punctuator_at m bs ≡ Some (k, m) → Reaches (longest_punctuator bs) m
reaches bs zero k low high at = absurd (omega arith)
reaches bs (suc zero) k low high at =
    by_one (punctuator_at 3 bs) (punctuator_at 2 bs) (punctuator_at 1 bs) (k, 1) 1 at (omega arith)
    (λ q e. omega (arith, size_at 3 bs q e)) (λ q e. omega (arith, size_at 2 bs q e))
reaches bs (suc (suc zero)) k low high at =
    by_two (punctuator_at 3 bs) (punctuator_at 2 bs) (punctuator_at 1 bs) (k, 2) 2 at (omega arith) (λ q e. omega (arith, size_at 3 bs q e))
reaches bs (suc (suc (suc zero))) k low high at =
    ((k, 3), ap (λ o. option_or (option_or o (punctuator_at 2 bs)) (punctuator_at 1 bs)) at, omega arith)
reaches bs (suc (suc (suc (suc m)))) k low high at = absurd (omega arith)

-- each punctuator is at most as long as the longest
pub mark_within_longest : (bs : List ℕ) (m : ℕ) → m ≤ length bs → IsTrue (is_some (punctuator_of (take m bs)))
    → (p : TokenKind × ℕ) × (longest_punctuator bs ≡ Some p) × (m ≤ p.1)
mark_within_longest bs m within mark =
    let found = is_found (punctuator_of (take m bs)) mark in
    let short = short_mark (take m bs) found.0 found.1 in
    let size = length-take-le m bs within in
    reaches bs m found.0 (omega (arith, short.0, size)) (omega (arith, short.1, size)) (mark_at m bs found.0 within found.1)
