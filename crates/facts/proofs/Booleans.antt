-- Truth values: conjunctions, disjunctions, negations and choices.
use Rattle.std.proofs.Common.{Bool, ap, cond, false, inl, inr, refl, sym, true, ◌&&◌, ◌≡◌}
use Rattle.std.proofs.Props.{props}
use Rattle.std.specs.Prelude.{IsTrue, if◌then◌else◌, not, ◌||◌, ◌⊎◌}

pub and_parts : (a b : Bool) → (a && b) ≡ true → (a ≡ true) × (b ≡ true)
and_parts true b h = (refl, h)
and_parts false b h = cc

pub and_true_first : (a b : Bool) → (a && b) ≡ true → a ≡ true
and_true_first true b h = refl
and_true_first false b h = h

pub and_true_second : (a b : Bool) → (a && b) ≡ true → b ≡ true
and_true_second true b h = h
and_true_second false b h = cc

pub and_with_false : (b : Bool) → (b && false) ≡ false
and_with_false true = refl
and_with_false false = refl

pub or_true_cases : (a b : Bool) → (a || b) ≡ true → (a ≡ true) ⊎ (b ≡ true)
or_true_cases true b h = inl refl
or_true_cases false b h = inr h

pub or_with_true : (b : Bool) → (b || true) ≡ true
or_with_true true = refl
or_with_true false = refl

pub or_false_first : (a b : Bool) → (a || b) ≡ false → a ≡ false
or_false_first true b h = h
or_false_first false b h = refl

pub or_false_second : (a b : Bool) → (a || b) ≡ false → b ≡ false
or_false_second true b h = cc
or_false_second false b h = h

pub or_with_false : (a : Bool) → (a || false) ≡ a
or_with_false true = refl
or_with_false false = refl

pub as_or_with_false : (a : Bool) → a ≡ (a || false)
as_or_with_false true = refl
as_or_with_false false = refl

pub or_assoc : (a b c : Bool) → (a || (b || c)) ≡ ((a || b) || c)
or_assoc true b c = refl
or_assoc false b c = refl

pub false_not_true : {X : Type 0} → false ≡ true → X
false_not_true h = cc

pub or_without_and : (a c d : Bool) → c ≡ false → (a || (c && d)) ≡ true → a ≡ true
or_without_and true c d h k = refl
or_without_and false false d h k = false_not_true k
or_without_and false true d h k = false_not_true (sym h)

pub or_not_self : (f : Bool) → (f || not f) ≡ true
or_not_self true = refl
or_not_self false = refl

pub not_or_self : (f : Bool) → (not f || f) ≡ true
not_or_self true = refl
not_or_self false = refl

pub or_not_first : (f g : Bool) → ((f || g) || not f) ≡ true
or_not_first true g = refl
or_not_first false true = refl
or_not_first false false = refl

pub or_not_second : (f g : Bool) → ((f || g) || not g) ≡ true
or_not_second true g = refl
or_not_second false true = refl
or_not_second false false = refl

pub from_not_true : (b : Bool) → not b ≡ true → b ≡ false
from_not_true false h = refl
from_not_true true h = cc

pub from_not_false : (b : Bool) → not b ≡ false → b ≡ true
from_not_false true h = refl
from_not_false false h = cc

pub true_not_false : {A : Type 0} → true ≡ false → A
true_not_false e = cc

pub false_true_absurd : false ≡ true → ⊥
false_true_absurd e = cc

pub true_and_false : {Z : Type 0} (x : Bool) → x ≡ true → x ≡ false → Z
true_and_false x h k = absurd (cc)

pub never_true_and_false : (t : Bool) → t ≡ true → t ≡ false → ⊥
never_true_and_false t p q = cc

pub same_truth : (a b : Bool) → (a ≡ true → b ≡ true) → (b ≡ true → a ≡ true) → a ≡ b
same_truth true b h k = sym (h refl)
same_truth false true h k = k refl
same_truth false false h k = refl

pub both_hold : (a b : Bool) → IsTrue a → IsTrue b → IsTrue (a && b)
both_hold true b h k = k
both_hold false b h k = cc

pub both_hold_first : (a b : Bool) → IsTrue (a && b) → IsTrue a
both_hold_first true b h = refl
both_hold_first false b h = cc

pub both_hold_second : (a b : Bool) → IsTrue (a && b) → IsTrue b
both_hold_second true b h = h
both_hold_second false b h = cc

pub either_holds_second : (a b : Bool) → IsTrue b → IsTrue (a || b)
either_holds_second true b h = refl
either_holds_second false b h = h

pub truth_is_prop : (b : Bool) → IsProp (IsTrue b)
truth_is_prop b = hlevel props

pub cond_true : {A : Type 0} (b : Bool) (x y : A) → b ≡ true → cond b x y ≡ x
cond_true true x y h = refl
cond_true false x y h = cc

pub cond_false : {A : Type 0} (b : Bool) (x y : A) → b ≡ false → cond b x y ≡ y
cond_false false x y h = refl
cond_false true x y h = cc

pub if_true : {A : Type 0} (b : Bool) (x y : A) → b ≡ true → (if b then x else y) ≡ x
if_true b x y e = ap (λ b. if b then x else y) e

pub if_false : {A : Type 0} (b : Bool) (x y : A) → b ≡ false → (if b then x else y) ≡ y
if_false b x y e = ap (λ b. if b then x else y) e

pub if_same : {A : Type 0} (b : Bool) (x y : A) → x ≡ y → (if b then x else y) ≡ y
if_same true x y h = h
if_same false x y h = refl

pub if_false_holds : (host a b : Bool) → host ≡ false → IsTrue (if host then a else b) → IsTrue b
if_false_holds true a b e h = cc
if_false_holds false a b e h = h
