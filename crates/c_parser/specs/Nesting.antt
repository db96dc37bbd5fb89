-- What the limit does: the derivation itself has none. With a limit or without one, each list of tokens
-- comes to one outcome.
use Rattle.std.specs.Prelude.{◌≡◌, ℕ, zero, suc, ◌+◌, ◌-◌, ◌<◌, ◌≤◌, max, List, [], ◌∷◌, ◌++◌, Option, None, Some, nat_eq, if◌then◌else◌, slice_get}
use Rattle.c_lexer.specs.declared.token.Token.{Token}
use Rattle.c_grammar.specs.declared.symbol.Symbol.TheVariants.{TranslationUnit}
use Rattle.c_grammar.specs.Part.{Part, items}
use Rattle.c_grammar.specs.Machine.{Entry, takes, gives, opens, closes, builds, Outcome, done, fault_at, too_deep, unfinished, rule_at, wanted, accepted, stretch, derived}

abbrev pub count_rule : Option ℕ → (ℕ → ℕ) → ℕ
count_rule None go = 0
count_rule (Some r) go = go r

abbrev pub count_token : Option (List Part) → (List Part → ℕ) → ℕ
count_token None go = 0
count_token (Some new) go = go new

-- the most counted symbols that are open at the place p, the one on top among them, within n steps of
-- the derivation without a limit
abbrev pub nested_by : List Token → ℕ → List Entry → ℕ → ℕ → List Part → ℕ → ℕ
nested_by tokens zero stack at depth parts p = 0
nested_by tokens (suc n) [] at depth parts p = 0
nested_by tokens (suc n) (takes k ∷ rest) at depth parts p = count_token (accepted k (slice_get tokens at)) (λ new. nested_by tokens n rest (at + 1) depth (new ++ parts) p)
nested_by tokens (suc n) (gives s ∷ rest) at depth parts p = count_rule (rule_at s (slice_get tokens at)) (λ r. nested_by tokens n (wanted at r ++ rest) at depth parts p)
nested_by tokens (suc n) (opens s ∷ rest) at depth parts p = max (if nat_eq at p then depth + 1 else 0) (nested_by tokens n (gives s ∷ closes ∷ rest) at (depth + 1) parts p)
nested_by tokens (suc n) (closes ∷ rest) at depth parts p = nested_by tokens n rest at (depth - 1) parts p
nested_by tokens (suc n) (builds from f ∷ rest) at depth parts p = nested_by tokens n rest at depth (f (stretch tokens from at) parts) p

abbrev pub nested : List Token → ℕ → ℕ → ℕ
nested tokens n p = nested_by tokens n (gives TranslationUnit ∷ []) 0 0 (items [] ∷ []) p

-- an outcome within a limit, beside the one without and the nesting at each place
abbrev pub Agrees : ℕ → Outcome → Outcome → (ℕ → ℕ) → Type 0
Agrees limit (done parts) free deep = (free ≡ done parts) × ((p : ℕ) → deep p ≤ limit)
Agrees limit (fault_at n) free deep = (free ≡ fault_at n) × ((p : ℕ) → deep p ≤ limit)
Agrees limit (too_deep n) free deep = (limit < deep n) × ((p : ℕ) → p < n → deep p ≤ limit)
Agrees limit unfinished free deep = (free ≡ unfinished) × ((p : ℕ) → deep p ≤ limit)

-- Within a limit the derivation gives what it gives without, where the nesting never goes over the
-- limit; and else the first place at which it does.
abbrev pub LimitIsNesting : Type 0
LimitIsNesting = (limit : ℕ) (tokens : List Token) (n : ℕ) → Agrees limit (derived (Some limit) tokens n) (derived None tokens n) (nested tokens n)

-- However many steps are taken, the derivation comes to one outcome at most.
abbrev pub OneOutcome : Type 0
OneOutcome = (limit : Option ℕ) (tokens : List Token) (n m : ℕ) → (derived limit tokens n ≡ unfinished → ⊥) → (derived limit tokens m ≡ unfinished → ⊥) → derived limit tokens n ≡ derived limit tokens m

-- However many tokens there are, the derivation comes to an outcome.
abbrev pub SomeOutcome : Type 0
SomeOutcome = (limit : Option ℕ) (tokens : List Token) → (n : ℕ) × (derived limit tokens n ≡ unfinished → ⊥)
