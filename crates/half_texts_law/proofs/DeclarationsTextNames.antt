-- The names that a text takes from a tree, or in their place numbers: different names stay different.
use Rattle.std.proofs.Common.{◌≡◌, ◌∙◌, ◌<◌, ◌≤◌, ◌^◌, sym, ap, refl, ℕ, Bool, true, false, List, [], ◌∷◌, codes, arith, if◌then◌else◌, Some}
use Rattle.std.specs.Prelude.{◌&&◌}
use Rattle.std.specs.Fmt.{decimal}
use Rattle.std.specs.List.{list_all}
use Rattle.std.specs.Str.{bytes_eq}
use Rattle.std.specs.Str.Parse.{AllDigits}
use Rattle.std.proofs.lemmas.Bool.Decides.{nat_tests}
use Rattle.std.proofs.lemmas.Fmt.{decimal_injective, decimal_is_IsNumeral}
use Rattle.std.proofs.lemmas.Str.Parse.{digit_from_value}
use Rattle.pt_base.proofs.Lists.{bytes_eq_same, bytes_eq_self}
use Rattle.half_trees.specs.Names.{is_name_start, is_name_byte, is_identifier, named}
use Rattle.half_texts_law.proofs.DeclarationsNames.{Apart, name_other, before_both}

-- ---- identifiers and numbers

digit_starts_none : (c : ℕ) → 48 ≤ c → c ≤ 57 → is_name_start c ≡ false
digit_starts_none c low high = grind (arith, nat_tests)

-- a number's text begins with a digit
digits_unnamed : (ds : List ℕ) → AllDigits 10 ds → is_identifier ds ≡ false
digits_unnamed [] d = refl
digits_unnamed (c ∷ cs) d = let k = digit_from_value c d.0 in ap (λ b. b && list_all is_name_byte cs) (digit_starts_none c k.0 k.1)

number_unnamed : (n : ℕ) → n < 2 ^ 64 → is_identifier (decimal n) ≡ false
number_unnamed n small = digits_unnamed (decimal n) (decimal_is_IsNumeral n small).0.1

not_alike : (a b : List ℕ) → (a ≡ b → ⊥) → bytes_eq a b ≡ false
not_alike a b differ = go (bytes_eq a b) refl
  where
    go : (x : Bool) → bytes_eq a b ≡ x → x ≡ false
    go true e = absurd (differ (bytes_eq_same a b e))
    go false e = refl

name_no_number : (a : List ℕ) (n : ℕ) → is_identifier a ≡ true → n < 2 ^ 64 → bytes_eq a (decimal n) ≡ false
name_no_number a n is small = not_alike a (decimal n) (λ same. apart (sym is ∙ ap is_identifier same ∙ number_unnamed n small))
  where
    apart : true ≡ false → ⊥
    apart e = cc

-- ---- names with a prefix

-- the name itself, or its number
abbrev text_of : ℕ → List ℕ → List ℕ
text_of n name = if is_identifier name then name else decimal n

text_apart : Apart text_of
text_apart j k a b less small other = go (is_identifier a) (is_identifier b) refl refl
  where
    go : (x y : Bool) → is_identifier a ≡ x → is_identifier b ≡ y → bytes_eq (if x then a else decimal j) (if y then b else decimal k) ≡ false
    go true true e i = other
    go true false e i = name_no_number a k e small
    go false true e i = name_other b (decimal j) (name_no_number b j i (omega (arith, less, small)))
    go false false e i = not_alike (decimal j) (decimal k) (λ same. let equal = decimal_injective j k (omega (arith, less, small)) small same in omega (arith, equal, less))

pub struct_apart : Apart (λ n a. named (codes "s_") n (Some a))
struct_apart j k a b less small other = before_both 115 95 (text_of j a) (text_of k b) ∙ text_apart j k a b less small other

pub field_apart : Apart (λ n a. named (codes "m_") n (Some a))
field_apart j k a b less small other = before_both 109 95 (text_of j a) (text_of k b) ∙ text_apart j k a b less small other

-- ---- functions

-- how a function of this number and name is called in the text
abbrev pub called_as : ℕ → List ℕ → List ℕ
called_as n name = if bytes_eq name (codes "main") then codes "main" else named (codes "f_") n (Some name)

pub called_apart : Apart called_as
called_apart j k a b less small other = go (bytes_eq a (codes "main")) (bytes_eq b (codes "main")) refl refl
  where
    both_main : bytes_eq a (codes "main") ≡ true → bytes_eq b (codes "main") ≡ true → true ≡ false
    both_main e i = sym (bytes_eq_self a) ∙ ap (bytes_eq a) (bytes_eq_same a (codes "main") e ∙ sym (bytes_eq_same b (codes "main") i)) ∙ other

    go : (x y : Bool) → bytes_eq a (codes "main") ≡ x → bytes_eq b (codes "main") ≡ y → bytes_eq (if x then codes "main" else named (codes "f_") j (Some a)) (if y then codes "main" else named (codes "f_") k (Some b)) ≡ false
    go true true e i = let same = both_main e i in cc
    go true false e i = refl
    go false true e i = refl
    go false false e i = before_both 102 95 (text_of j a) (text_of k b) ∙ text_apart j k a b less small other
