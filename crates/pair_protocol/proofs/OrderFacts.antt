-- Lists, tests and contradictions.
use Rattle.std.proofs.Common.{◌≡◌, List, [], ◌∷◌, ◌++◌, refl, sym, ap, Bool, true, false, Option, Some, None}
use Rattle.facts.proofs.Booleans.{true_not_false}
use Rattle.facts.proofs.Numbers.{zero_not_suc}
use Rattle.pair_protocol.specs.Sides.{Mode, going, waits, over, waiting}
use Rattle.pair_protocol.specs.SlaveRun.{with_said}

pub said_more : {X : Type 0} (o : Option X) (xs ys : List X) → with_said o (xs ++ ys) ≡ with_said o xs ++ ys
said_more None xs ys = refl
said_more (Some x) xs ys = refl

abbrev pub empty : {A : Type 0} → List A → Bool
empty [] = true
empty (x ∷ xs) = false

abbrev pub first : {A : Type 0} → A → List A → A
first x [] = x
first x (y ∷ ys) = y

abbrev pub others : {A : Type 0} → List A → List A
others [] = []
others (y ∷ ys) = ys

-- ---- modes

abbrev pub is_going' : Mode → Bool
is_going' going = true
is_going' waits = false
is_going' over = false

pub waits_going : {B : Type 0} → waits ≡ going → B
waits_going e = true_not_false (sym (ap is_going' e))

pub over_going : {B : Type 0} → over ≡ going → B
over_going e = true_not_false (sym (ap is_going' e))

pub going_waits : {B : Type 0} → going ≡ waits → B
going_waits e = true_not_false (ap is_going' e)

pub over_waits : {B : Type 0} → over ≡ waits → B
over_waits e = zero_not_suc 0 (ap waiting e)
