-- What the digits of a number spell grows with each digit, and no type represents 2^64.
use Rattle.std.proofs.Common.{◌≡◌, ℕ, ◌+◌, ◌*◌, ◌^◌, ◌<◌, ◌≤◌, Bool, nat_eq, nat_lt, List, [], ◌∷◌, ◌++◌, length, take, drop, get_or, refl, ap, sym, ◌∙◌, subst, rules, arith, ◌-◌, take-append-drop, length-drop}
use Rattle.std.specs.Prelude.{Option, Some, None, pos, if◌then◌else◌}
use Rattle.std.specs.Option.{option_map}
use Rattle.std.specs.List.{fold, list_all, prefix_len}
use Rattle.std.specs.Char.{digit_value, is_digit}
use Rattle.std.proofs.Math.Nat.{mul-le-mul_left}
use Rattle.std.proofs.lemmas.List.Sums.{fold_more, fold-append}
use Rattle.std.proofs.lemmas.List.{take_all}
use Rattle.c_lexer.specs.Bytes.{number_in}
use Rattle.c_lexer.specs.Numbers.{suffix_of, types_of, type_for, constant_in}
use Rattle.c_lexer.specs.declared.token.TokenValue.{TokenValue}
use Rattle.c_lexer.specs.declared.token.TokenValue.TheVariants.{Constant}
use Rattle.pt_base.specs.declared.int_type.IntType.{IntType}
use Rattle.c_lexer.specs.declared.number.Suffix.{Suffix}
use Rattle.c_lexer.specs.declared.number.Suffix.TheVariants.{Plain, Unsigned, Long, UnsignedLong}

abbrev step : ℕ → ℕ → ℕ → ℕ
step base n d = n * base + digit_value d

grows : (base n : ℕ) (ds : List ℕ) → 0 < base → n ≤ fold (step base) n ds
grows base n [] h = omega arith
grows base n (d ∷ ds) h =
    let more : n * 1 ≤ n * base = mul-le-mul_left n h in
    let rest : step base n d ≤ fold (step base) (step base n d) ds = grows base (step base n d) ds h in
    omega (arith, more, rest)

-- the digits up to one of them spell no more than all
pub number_in_le : (base : ℕ) (digits : List ℕ) (i : ℕ) → 0 < base → number_in base (take i digits) ≤ number_in base digits
number_in_le base digits i h =
    let all : number_in base (take i digits ++ drop i digits) ≡ number_in base digits = ap (number_in base) (take-append-drop i digits) in
    let split : number_in base (take i digits ++ drop i digits) ≡ fold (step base) (number_in base (take i digits)) (drop i digits)
    = fold-append (step base) 0 (take i digits) (drop i digits) in
    omega (arith, all, split, grows base (number_in base (take i digits)) (drop i digits) h)

-- one more digit
pub number_in_more : (base : ℕ) (digits : List ℕ) (i : ℕ) → i < length digits
    → number_in base (take (i + 1) digits) ≡ number_in base (take i digits) * base + digit_value (get_or digits i 0)
number_in_more base digits i h = fold_more (step base) 0 digits i 0 h

-- all pass exactly where the number of those that pass from the front is the number of all
pub list_all_by_count : (p : ℕ → Bool) (xs : List ℕ) → list_all p xs ≡ nat_eq (prefix_len p xs) (length xs)
list_all_by_count p [] = refl
list_all_by_count p (x ∷ xs) = grind (arith, list_all_by_count p xs)

-- no type represents a value of more than 64 bits
pub type_for_large : (v base : ℕ) (s : Suffix) → 2 ^ 64 ≤ v → type_for v (types_of base s) ≡ None
type_for_large v base Plain h = search rules
type_for_large v base Unsigned h = search rules
type_for_large v base Long h = search rules
type_for_large v base UnsignedLong h = search rules

-- the constant of a value, where it has a type
abbrev pub constant_at : ℕ → Option IntType → Option TokenValue
constant_at value r = option_map (λ t. Constant (pos value) t) r

-- digits, a suffix, and the type of the value
pub constant_is : (base : ℕ) (bs : List ℕ) (n : ℕ) (s : Suffix) (r : Option IntType)
    → n ≡ prefix_len (λ b. is_digit b base) bs → 0 < n → suffix_of (take (length bs - n) (drop n bs)) ≡ Some s
    → type_for (number_in base (take n bs)) (types_of base s) ≡ r → constant_in base bs ≡ constant_at (number_in base (take n bs)) r
constant_is base bs n s r count some suffix type =
    let P : ℕ → Type 0 = λ m. 0 < m → suffix_of (drop m bs) ≡ Some s → type_for (number_in base (take m bs)) (types_of base s) ≡ r
    → constant_in base bs ≡ constant_at (number_in base (take m bs)) r in
    let whole : take (length bs - n) (drop n bs) ≡ drop n bs = take_all (length bs - n) (drop n bs) (simp length-drop (omega arith)) in
    subst P (sym count) (λ h e f. grind (arith, h, e, f)) some (ap suffix_of (sym whole) ∙ suffix) type

pub fits_some : (n v : ℕ) → ◌≡◌ {A = Option ℕ} (Some v) (if nat_lt n (2 ^ 64) then Some n else None) → v ≡ n
fits_some n v h = grind (arith, h)

pub fits_none : (n : ℕ) → ◌≡◌ {A = Option ℕ} None (if nat_lt n (2 ^ 64) then Some n else None) → 2 ^ 64 ≤ n
fits_none n h = grind (arith, h)
