-- The limit stops the derivation exactly where the nesting first goes over it.
use Rattle.std.proofs.Common.{◌≡◌, ℕ, zero, suc, ◌+◌, ◌-◌, ◌<◌, ◌≤◌, max, List, [], ◌∷◌, ◌++◌, Option, None, Some, nat_eq, nat_lt, if◌then◌else◌, slice_get, refl, arith, rules, Bool, true, false}
use Rattle.std.proofs.lemmas.Bool.Decides.{nat_tests}
use Rattle.c_lexer.specs.declared.token.Token.{Token}
use Rattle.c_grammar.specs.declared.symbol.Symbol.TheVariants.{TranslationUnit}
use Rattle.c_grammar.specs.Part.{Part, items}
use Rattle.c_grammar.specs.Machine.{Entry, takes, gives, opens, closes, builds, Outcome, done, fault_at, too_deep, unfinished, rule_at, wanted, accepted, stretch, run, on_rule, on_token}
use Rattle.c_parser.specs.Nesting.{nested_by, count_rule, count_token, Agrees, LimitIsNesting}

-- an earlier place is left behind
left : (tokens : List Token) (n : ℕ) (stack : List Entry) (at depth : ℕ) (parts : List Part) (p : ℕ) → p < at → nested_by tokens n stack at depth parts p ≡ 0
left tokens zero stack at depth parts p lt = refl
left tokens (suc n) [] at depth parts p lt = refl
left tokens (suc n) (takes k ∷ rest) at depth parts p lt = go (accepted k (slice_get tokens at)) (λ new. left tokens n rest (at + 1) depth (new ++ parts) p (omega arith))
  where
    go : (o : Option (List Part)) → ((new : List Part) → nested_by tokens n rest (at + 1) depth (new ++ parts) p ≡ 0) → count_token o (λ new. nested_by tokens n rest (at + 1) depth (new ++ parts) p) ≡ 0
    go None h = refl
    go (Some new) h = h new
left tokens (suc n) (gives s ∷ rest) at depth parts p lt = go (rule_at s (slice_get tokens at)) (λ r. left tokens n (wanted at r ++ rest) at depth parts p lt)
  where
    go : (o : Option ℕ) → ((r : ℕ) → nested_by tokens n (wanted at r ++ rest) at depth parts p ≡ 0) → count_rule o (λ r. nested_by tokens n (wanted at r ++ rest) at depth parts p) ≡ 0
    go None h = refl
    go (Some r) h = h r
left tokens (suc n) (opens s ∷ rest) at depth parts p lt = go (nat_eq at p) (search (rules, nat_tests)) (left tokens n (gives s ∷ closes ∷ rest) at (depth + 1) parts p lt)
  where
    go : (b : Bool) → b ≡ false → nested_by tokens n (gives s ∷ closes ∷ rest) at (depth + 1) parts p ≡ 0 → max (if b then depth + 1 else 0) (nested_by tokens n (gives s ∷ closes ∷ rest) at (depth + 1) parts p) ≡ 0
    go true e h = cc
    go false e h = omega arith
left tokens (suc n) (closes ∷ rest) at depth parts p lt = left tokens n rest at (depth - 1) parts p lt
left tokens (suc n) (builds from f ∷ rest) at depth parts p lt = left tokens n rest at depth (f (stretch tokens from at) parts) p lt

-- one more counted symbol that may open
opened : (limit at depth : ℕ) (o free : Outcome) (inner : ℕ → ℕ) → depth < limit → ((p : ℕ) → p < at → inner p ≡ 0) → Agrees limit o free inner → Agrees limit o free (λ p. max (if nat_eq at p then depth + 1 else 0) (inner p))
opened limit at depth o free inner lt before a = go o a
  where
    here : (p : ℕ) → (if nat_eq at p then depth + 1 else 0) ≤ limit
    here p = cases (nat_eq at p)
      where
        cases : (b : Bool) → (if b then depth + 1 else 0) ≤ limit
        cases true = omega arith
        cases false = omega arith

    all : ((p : ℕ) → inner p ≤ limit) → (p : ℕ) → max (if nat_eq at p then depth + 1 else 0) (inner p) ≤ limit
    all h p = let a = here p in let b = h p in omega arith

    go : (o : Outcome) → Agrees limit o free inner → Agrees limit o free (λ p. max (if nat_eq at p then depth + 1 else 0) (inner p))
    go (done parts) a = (a.0, all a.1)
    go (fault_at n) a = (a.0, all a.1)
    go unfinished a = (a.0, all a.1)
    go (too_deep n) a = (
      (let x = a.0 in omega arith),
      λ p lt. let h = here p in let i = a.1 p lt in omega arith,
    )

agrees : (limit : ℕ) (tokens : List Token) (n : ℕ) (stack : List Entry) (at depth : ℕ) (parts : List Part) → depth ≤ limit → Agrees limit (run (Some limit) tokens n stack at depth parts) (run None tokens n stack at depth parts) (nested_by tokens n stack at depth parts)
agrees limit tokens zero stack at depth parts le = (refl, λ p. omega arith)
agrees limit tokens (suc n) [] at depth parts le = (refl, λ p. omega arith)
agrees limit tokens (suc n) (takes k ∷ rest) at depth parts le = go (accepted k (slice_get tokens at)) (λ new. agrees limit tokens n rest (at + 1) depth (new ++ parts) le)
  where
    go : (o : Option (List Part)) → ((new : List Part) → Agrees limit (run (Some limit) tokens n rest (at + 1) depth (new ++ parts)) (run None tokens n rest (at + 1) depth (new ++ parts)) (nested_by tokens n rest (at + 1) depth (new ++ parts))) → Agrees limit (on_token o at (λ new. run (Some limit) tokens n rest (at + 1) depth (new ++ parts))) (on_token o at (λ new. run None tokens n rest (at + 1) depth (new ++ parts))) (λ p. count_token o (λ new. nested_by tokens n rest (at + 1) depth (new ++ parts) p))
    go None h = (refl, λ p. omega arith)
    go (Some new) h = h new
agrees limit tokens (suc n) (gives s ∷ rest) at depth parts le = go (rule_at s (slice_get tokens at)) (λ r. agrees limit tokens n (wanted at r ++ rest) at depth parts le)
  where
    go : (o : Option ℕ) → ((r : ℕ) → Agrees limit (run (Some limit) tokens n (wanted at r ++ rest) at depth parts) (run None tokens n (wanted at r ++ rest) at depth parts) (nested_by tokens n (wanted at r ++ rest) at depth parts)) → Agrees limit (on_rule o at (λ r. run (Some limit) tokens n (wanted at r ++ rest) at depth parts)) (on_rule o at (λ r. run None tokens n (wanted at r ++ rest) at depth parts)) (λ p. count_rule o (λ r. nested_by tokens n (wanted at r ++ rest) at depth parts p))
    go None h = (refl, λ p. omega arith)
    go (Some r) h = h r
agrees limit tokens (suc n) (opens s ∷ rest) at depth parts le = go (nat_lt depth limit) refl (agrees limit tokens n (gives s ∷ closes ∷ rest) at (depth + 1) parts)
  where
    inner : ℕ → ℕ
    inner p = nested_by tokens n (gives s ∷ closes ∷ rest) at (depth + 1) parts p

    at_place : (depth + 1) ≤ max (if nat_eq at at then depth + 1 else 0) (nested_by tokens n (gives s ∷ closes ∷ rest) at (depth + 1) parts at)
    at_place = cases (nat_eq at at) (search (rules, nat_tests))
      where
        cases : (b : Bool) → b ≡ true → (depth + 1) ≤ max (if b then depth + 1 else 0) (nested_by tokens n (gives s ∷ closes ∷ rest) at (depth + 1) parts at)
        cases true e = omega arith
        cases false e = cc

    before : (p : ℕ) → p < at → max (if nat_eq at p then depth + 1 else 0) (nested_by tokens n (gives s ∷ closes ∷ rest) at (depth + 1) parts p) ≡ 0
    before p lt = left tokens (suc n) (opens s ∷ rest) at depth parts p lt

    go : (b : Bool) → nat_lt depth limit ≡ b → ((depth + 1) ≤ limit → Agrees limit (run (Some limit) tokens n (gives s ∷ closes ∷ rest) at (depth + 1) parts) (run None tokens n (gives s ∷ closes ∷ rest) at (depth + 1) parts) (nested_by tokens n (gives s ∷ closes ∷ rest) at (depth + 1) parts)) → Agrees limit (if b then run (Some limit) tokens n (gives s ∷ closes ∷ rest) at (depth + 1) parts else too_deep at) (run None tokens n (gives s ∷ closes ∷ rest) at (depth + 1) parts) (λ p. max (if nat_eq at p then depth + 1 else 0) (nested_by tokens n (gives s ∷ closes ∷ rest) at (depth + 1) parts p))
    go true e h =
        let lt : depth < limit = search (rules, nat_tests) in
        opened limit at depth _ _ (nested_by tokens n (gives s ∷ closes ∷ rest) at (depth + 1) parts) lt (λ p less. left tokens n (gives s ∷ closes ∷ rest) at (depth + 1) parts p less) (h (omega arith))
    go false e h =
        let full : limit ≤ depth = search (rules, nat_tests) in
        (let x = at_place in omega arith, λ p less. let x = before p less in omega arith)
agrees limit tokens (suc n) (closes ∷ rest) at depth parts le = agrees limit tokens n rest at (depth - 1) parts (omega arith)
agrees limit tokens (suc n) (builds from f ∷ rest) at depth parts le = agrees limit tokens n rest at depth (f (stretch tokens from at) parts) le

pub limit_is_nesting : LimitIsNesting
limit_is_nesting limit tokens n = agrees limit tokens n (gives TranslationUnit ∷ []) 0 0 (items [] ∷ []) (omega arith)
