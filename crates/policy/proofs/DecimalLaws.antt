-- The number of a word by its digits.
use Rattle.std.proofs.Common.{◌≡◌, ◌∙◌, ◌+◌, ◌^◌, ◌<◌, ℕ, ℤ, pos, neg_ℤ, ◌≤ℤ◌, ◌<ℤ◌, suc, Bool, true, false, ◌&&◌, nat_lt, nat_le, ◌==◌, if◌then◌else◌, List, [], ◌∷◌, length, Some, None, refl, ap, sym, subst, arith}
use Rattle.std.specs.Option.{option_map}
use Rattle.std.specs.List.{list_all}
use Rattle.std.specs.Char.{is_ascii_digit}
use Rattle.std.proofs.lemmas.Int.{ints}
use Rattle.std.proofs.lemmas.Bool.{ltb-true, lt-ltb, eqb-true, and_from}
use Rattle.std.proofs.lemmas.Bool.Decides.{nat_tests}
use Rattle.pt_base.proofs.Booleans.{and_parts, if_false, if_true}
use Rattle.policy.specs.Numbers.{decimal_value, are_digits, IsDecimal, plain, minus, IsBound, IsCount}
use Rattle.policy.specs.Reading.{digits_below, bound_of, negative}
use Rattle.policy.proofs.OptionLemmas.{if_some, map_some}

pub record Digits (limit : ℕ) (word : List ℕ) (n : ℕ) : Type 0 where
  pub digits : are_digits word ≡ true
  pub small : decimal_value word < limit
  pub is : n ≡ decimal_value word

pub digits_are : (limit : ℕ) (word : List ℕ) (n : ℕ) → digits_below limit word ≡ Some n → Digits limit word n
digits_are limit word n e =
    let found = if_some (are_digits word && nat_lt (decimal_value word) limit) (Some (decimal_value word)) n e in
    let tests = and_parts (are_digits word) (nat_lt (decimal_value word) limit) found.0 in
    record { digits = tests.0; small = ltb-true (decimal_value word) limit tests.1; is = cc found.1 }

pub digits_give : (limit : ℕ) (word : List ℕ) → are_digits word ≡ true → decimal_value word < limit → digits_below limit word ≡ Some (decimal_value word)
digits_give limit word digits small =
    if_true (are_digits word && nat_lt (decimal_value word) limit) (Some (decimal_value word)) None
    (and_from (are_digits word) (nat_lt (decimal_value word) limit) digits (lt-ltb (decimal_value word) limit small))

pub count_is : (word : List ℕ) (n : ℕ) → digits_below (2 ^ 32) word ≡ Some n → IsCount word n
count_is word n e =
    let d = digits_are (2 ^ 32) word n e in
    record { digits = d.digits; is = d.is; small = subst (λ k. k < 2 ^ 32) (sym d.is) d.small }

pub count_gives : (word : List ℕ) (n : ℕ) → IsCount word n → digits_below (2 ^ 32) word ≡ Some n
count_gives word n c = digits_give (2 ^ 32) word c.digits (subst (λ k. k < 2 ^ 32) c.is c.small) ∙ ap Some (sym c.is)

above : (n : ℕ) → n < 2 ^ 64 → (neg_ℤ (pos (2 ^ 63)) ≤ℤ pos n) × (pos n <ℤ pos (2 ^ 64))
above n h = (omega (arith, ints), omega (arith, ints))

beneath : (n : ℕ) → n < 2 ^ 63 + 1 → (neg_ℤ (pos (2 ^ 63)) ≤ℤ neg_ℤ (pos n)) × (neg_ℤ (pos n) <ℤ pos (2 ^ 64))
beneath n h = (omega (arith, ints), omega (arith, ints))

not_above : (n : ℕ) → pos n <ℤ pos (2 ^ 64) → n < 2 ^ 64
not_above n h = omega (arith, ints)

not_beneath : (n : ℕ) → neg_ℤ (pos (2 ^ 63)) ≤ℤ neg_ℤ (pos n) → n < 2 ^ 63 + 1
not_beneath n h = omega (arith, ints)

bound_plain : (word : List ℕ) (v : ℤ) → option_map pos (digits_below (2 ^ 64) word) ≡ Some v → IsBound word v
bound_plain word v e =
    let m = map_some pos (digits_below (2 ^ 64) word) v e in
    let d = digits_are (2 ^ 64) word m.0 m.1 in
    let is : v ≡ pos (decimal_value word) = m.2 ∙ ap pos d.is in
    let fits = above (decimal_value word) d.small in
    subst (λ (z : ℤ). IsBound word z) (sym is) record { spelled = plain word d.digits; least = fits.0; greatest = fits.1 }

bound_minus : (word : List ℕ) (v : ℤ) → option_map negative (digits_below (2 ^ 63 + 1) word) ≡ Some v → IsBound (45 ∷ word) v
bound_minus word v e =
    let m = map_some negative (digits_below (2 ^ 63 + 1) word) v e in
    let d = digits_are (2 ^ 63 + 1) word m.0 m.1 in
    let is : v ≡ negative (decimal_value word) = m.2 ∙ ap negative d.is in
    let fits = beneath (decimal_value word) d.small in
    subst (λ (z : ℤ). IsBound (45 ∷ word) z) (sym is) record { spelled = minus word d.digits; least = fits.0; greatest = fits.1 }

pub bound_is : (word : List ℕ) (v : ℤ) → bound_of word ≡ Some v → IsBound word v
bound_is [] v e = cc
bound_is (b ∷ bs) v e = go (b == 45) refl e
  where
    go : (t : Bool) → (b == 45) ≡ t → (if t then option_map negative (digits_below (2 ^ 63 + 1) bs) else option_map pos (digits_below (2 ^ 64) (b ∷ bs))) ≡ Some v
        → IsBound (b ∷ bs) v
    go true is given = subst (λ (c : ℕ). IsBound (c ∷ bs) v) (sym (eqb-true b 45 is)) (bound_minus bs v given)
    go false is given = bound_plain (b ∷ bs) v given

no_minus : (b : ℕ) (bs : List ℕ) → are_digits (b ∷ bs) ≡ true → (b == 45) ≡ false
no_minus b bs e =
    let some = and_parts (nat_lt 0 (suc (length bs))) (list_all is_ascii_digit (b ∷ bs)) e in
    let first = and_parts (is_ascii_digit b) (list_all is_ascii_digit bs) some.1 in
    let range = and_parts (nat_le 48 b) (nat_le b 57) first.0 in
    grind (arith, nat_tests, range.0)

plain_gives : (word : List ℕ) → are_digits word ≡ true → decimal_value word < 2 ^ 64 → bound_of word ≡ Some (pos (decimal_value word))
plain_gives [] digits small = cc
plain_gives (b ∷ bs) digits small =
    if_false (b == 45) (option_map negative (digits_below (2 ^ 63 + 1) bs)) (option_map pos (digits_below (2 ^ 64) (b ∷ bs))) (no_minus b bs digits)
    ∙ ap (option_map pos) (digits_give (2 ^ 64) (b ∷ bs) digits small)

spelled_gives : (word : List ℕ) (v : ℤ) → IsDecimal word v → neg_ℤ (pos (2 ^ 63)) ≤ℤ v → v <ℤ pos (2 ^ 64) → bound_of word ≡ Some v
spelled_gives word v (plain digits are) least greatest = plain_gives digits are (not_above (decimal_value digits) greatest)
spelled_gives word v (minus digits are) least greatest =
    ap (option_map negative) (digits_give (2 ^ 63 + 1) digits are (not_beneath (decimal_value digits) least))

pub bound_gives : (word : List ℕ) (v : ℤ) → IsBound word v → bound_of word ≡ Some v
bound_gives word v b = spelled_gives word v b.spelled b.least b.greatest

-- no byte of a number is a point
no_point : (b : ℕ) → is_ascii_digit b ≡ true → (b == 46) ≡ false
no_point b e = let range = and_parts (nat_le 48 b) (nat_le b 57) e in grind (arith, nat_tests, range.0)

unfoldable pub Pointless : List ℕ → Type 0
Pointless [] = Unit {0}
Pointless (b ∷ bs) = ((b == 46) ≡ false) × Pointless bs

digits_pointless : (bs : List ℕ) → list_all is_ascii_digit bs ≡ true → Pointless bs
unfolding Pointless
digits_pointless [] e = tt
digits_pointless (b ∷ bs) e = let each = and_parts (is_ascii_digit b) (list_all is_ascii_digit bs) e in (no_point b each.0, digits_pointless bs each.1)

decimal_pointless : (word : List ℕ) (v : ℤ) → IsDecimal word v → Pointless word
unfolding Pointless
decimal_pointless word v (plain digits are) = digits_pointless digits (and_parts (nat_lt 0 (length digits)) (list_all is_ascii_digit digits) are).1
decimal_pointless word v (minus digits are) = (refl, digits_pointless digits (and_parts (nat_lt 0 (length digits)) (list_all is_ascii_digit digits) are).1)

pub bound_pointless : (word : List ℕ) (v : ℤ) → IsBound word v → Pointless word
bound_pointless word v b = decimal_pointless word v b.spelled
