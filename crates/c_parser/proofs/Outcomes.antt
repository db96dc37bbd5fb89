-- A derivation that is over stays as it is.
use Rattle.std.proofs.Common.{◌≡◌, ℕ, zero, suc, ◌+◌, ◌-◌, List, [], ◌∷◌, ◌++◌, Option, None, Some, if◌then◌else◌, slice_get, refl, Bool, true, false}
use Rattle.c_lexer.specs.declared.token.Token.{Token}
use Rattle.c_grammar.specs.declared.symbol.Symbol.TheVariants.{TranslationUnit}
use Rattle.c_grammar.specs.Part.{Part, items}
use Rattle.c_grammar.specs.Machine.{Entry, takes, gives, opens, closes, builds, Outcome, too_deep, unfinished, rule_at, wanted, accepted, allows, stretch, run, on_rule, on_token}
use Rattle.c_parser.specs.Nesting.{OneOutcome}

abbrev IsOver : Outcome → Type 0
IsOver o = o ≡ unfinished → ⊥

same : (limit : Option ℕ) (tokens : List Token) (n m : ℕ) (stack : List Entry) (at depth : ℕ) (parts : List Part) → IsOver (run limit tokens n stack at depth parts) → IsOver (run limit tokens m stack at depth parts) → run limit tokens n stack at depth parts ≡ run limit tokens m stack at depth parts
same limit tokens zero m stack at depth parts a b = absurd (a refl)
same limit tokens (suc n) zero stack at depth parts a b = absurd (b refl)
same limit tokens (suc n) (suc m) [] at depth parts a b = refl
same limit tokens (suc n) (suc m) (takes k ∷ rest) at depth parts a b = go (accepted k (slice_get tokens at)) (λ new. same limit tokens n m rest (at + 1) depth (new ++ parts)) a b
  where
    go : (o : Option (List Part)) → ((new : List Part) → IsOver (run limit tokens n rest (at + 1) depth (new ++ parts)) → IsOver (run limit tokens m rest (at + 1) depth (new ++ parts)) → run limit tokens n rest (at + 1) depth (new ++ parts) ≡ run limit tokens m rest (at + 1) depth (new ++ parts)) → IsOver (on_token o at (λ new. run limit tokens n rest (at + 1) depth (new ++ parts))) → IsOver (on_token o at (λ new. run limit tokens m rest (at + 1) depth (new ++ parts))) → on_token o at (λ new. run limit tokens n rest (at + 1) depth (new ++ parts)) ≡ on_token o at (λ new. run limit tokens m rest (at + 1) depth (new ++ parts))
    go None h a b = refl
    go (Some new) h a b = h new a b
same limit tokens (suc n) (suc m) (gives s ∷ rest) at depth parts a b = go (rule_at s (slice_get tokens at)) (λ r. same limit tokens n m (wanted at r ++ rest) at depth parts) a b
  where
    go : (o : Option ℕ) → ((r : ℕ) → IsOver (run limit tokens n (wanted at r ++ rest) at depth parts) → IsOver (run limit tokens m (wanted at r ++ rest) at depth parts) → run limit tokens n (wanted at r ++ rest) at depth parts ≡ run limit tokens m (wanted at r ++ rest) at depth parts) → IsOver (on_rule o at (λ r. run limit tokens n (wanted at r ++ rest) at depth parts)) → IsOver (on_rule o at (λ r. run limit tokens m (wanted at r ++ rest) at depth parts)) → on_rule o at (λ r. run limit tokens n (wanted at r ++ rest) at depth parts) ≡ on_rule o at (λ r. run limit tokens m (wanted at r ++ rest) at depth parts)
    go None h a b = refl
    go (Some r) h a b = h r a b
same limit tokens (suc n) (suc m) (opens s ∷ rest) at depth parts a b = go (allows limit depth) (same limit tokens n m (gives s ∷ closes ∷ rest) at (depth + 1) parts) a b
  where
    go : (o : Bool) → (IsOver (run limit tokens n (gives s ∷ closes ∷ rest) at (depth + 1) parts) → IsOver (run limit tokens m (gives s ∷ closes ∷ rest) at (depth + 1) parts) → run limit tokens n (gives s ∷ closes ∷ rest) at (depth + 1) parts ≡ run limit tokens m (gives s ∷ closes ∷ rest) at (depth + 1) parts) → IsOver (if o then run limit tokens n (gives s ∷ closes ∷ rest) at (depth + 1) parts else too_deep at) → IsOver (if o then run limit tokens m (gives s ∷ closes ∷ rest) at (depth + 1) parts else too_deep at) → (if o then run limit tokens n (gives s ∷ closes ∷ rest) at (depth + 1) parts else too_deep at) ≡ (if o then run limit tokens m (gives s ∷ closes ∷ rest) at (depth + 1) parts else too_deep at)
    go true h a b = h a b
    go false h a b = refl
same limit tokens (suc n) (suc m) (closes ∷ rest) at depth parts a b = same limit tokens n m rest at (depth - 1) parts a b
same limit tokens (suc n) (suc m) (builds from f ∷ rest) at depth parts a b = same limit tokens n m rest at depth (f (stretch tokens from at) parts) a b

pub one_outcome : OneOutcome
one_outcome limit tokens n m a b = same limit tokens n m (gives TranslationUnit ∷ []) 0 0 (items [] ∷ []) a b
