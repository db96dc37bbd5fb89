-- The derivation keeps the sorts of its parts, so where it is done its one part is a program.
use Rattle.std.proofs.Common.{◌≡◌, ℕ, zero, suc, ◌+◌, ◌-◌, List, [], ◌∷◌, ◌++◌, Bool, true, false, nat_eq, if◌then◌else◌, Option, None, Some, slice_get, refl, ap, ◌∙◌, ◌⊎◌, inl, inr}
use Rattle.std.proofs.lemmas.Bool.{and_from}
use Rattle.pt_base.specs.declared.span.Span.{Span}
use Rattle.pt_base.proofs.Booleans.{and_true_first, and_true_second, false_not_true}
use Rattle.c_lexer.specs.declared.token.Token.{Token}
use Rattle.c_lexer.specs.declared.token.TokenKind.{TokenKind}
use Rattle.c_lexer.specs.declared.token.TokenKind.TheVariants.{Identifier, Number, Character}
use Rattle.c_lexer.specs.declared.token.TokenValue.{TokenValue}
use Rattle.c_lexer.specs.declared.token.TokenValue.TheVariants.{Name, Constant}
use Rattle.pt_tree.specs.ProgramTree.{ItemTree}
use Rattle.c_grammar.specs.declared.symbol.Symbol.TheVariants.{TranslationUnit}
use Rattle.c_grammar.specs.Numbers.{kind_number}
use Rattle.c_grammar.specs.Part.{Part, items}
use Rattle.c_grammar.specs.Machine.{Entry, takes, gives, opens, closes, builds, right_side, wanted, Outcome, done, fault_at, too_deep, unfinished, rule_at, given, accepted, allows, stretch, run, derived, on_rule, on_token}
use Rattle.c_parser.specs.Parses.{deepest}
use Rattle.c_parser.proofs.Halting.{some_outcome}
use Rattle.front_end_law.specs.ParsesLaws.{AreSomeProgram, StopSomewhere, TokensComeToAnOutcome}
use Rattle.front_end_law.proofs.ParsesSorts.{fits, shaped, below, taken, OnTaken, ends, items_sort}
use Rattle.front_end_law.proofs.ParsesRuleShapes.{token_sorts, needs, leaves, FoundShapes, rule_shapes}
use Rattle.front_end_law.proofs.ParsesStackShapes.{below_fits, Stands, enters}

-- ---- parts

shaped_append : (us ss : List ℕ) (new parts : List Part) → shaped us new ≡ true → shaped ss parts ≡ true → shaped (us ++ ss) (new ++ parts) ≡ true
shaped_append [] ss [] parts h i = i
shaped_append [] ss (x ∷ xs) parts h i = false_not_true h
shaped_append (u ∷ us) ss [] parts h i = false_not_true h
shaped_append (u ∷ us) ss (x ∷ xs) parts h i =
    and_from (fits u x) (shaped (us ++ ss) (xs ++ parts)) (and_true_first (fits u x) (shaped us xs) h) (shaped_append us ss xs parts (and_true_second (fits u x) (shaped us xs) h) i)

-- what is left of the sorts where some are taken off
off : (ts ss : List ℕ) (parts : List Part) (P : List ℕ → Type 0) → shaped ss parts ≡ true → OnTaken (taken ts ss) P → (rs : List ℕ) × P rs × (shaped (ts ++ rs) parts ≡ true)
off [] ss parts P h i = (ss, i, h)
off (t ∷ ts) [] parts P h i = absurd i
off (t ∷ ts) (s ∷ ss) [] P h i = false_not_true h
off (t ∷ ts) (s ∷ ss) (x ∷ xs) P h i = go (below s t) refl i (off ts ss xs P (and_true_second (fits s x) (shaped ss xs) h))
  where
    go : (b : Bool) → below s t ≡ b → OnTaken (if b then taken ts ss else None) P → (OnTaken (taken ts ss) P → (rs : List ℕ) × P rs × (shaped (ts ++ rs) xs ≡ true)) → (rs : List ℕ) × P rs × (shaped ((t ∷ ts) ++ rs) (x ∷ xs) ≡ true)
    go true e i rest = let r = rest i in (r.0, r.1, and_from (fits t x) (shaped (ts ++ r.0) xs) (below_fits s t x e (and_true_first (fits s x) (shaped ss xs) h)) r.2)
    go false e i rest = absurd i

only : (x : Part) → fits items_sort x ≡ true → (p : List ItemTree) × (x ∷ [] ≡ items p ∷ [])
only (items p) h = (p, refl)
only x h = false_not_true h

ended : (ss : List ℕ) (parts : List Part) → ends ss items_sort ≡ true → shaped ss parts ≡ true → (p : List ItemTree) × (parts ≡ items p ∷ [])
ended [] parts h i = false_not_true h
ended (s ∷ []) [] h i = false_not_true i
ended (s ∷ []) (x ∷ []) h i = only x (below_fits s items_sort x h (and_true_first (fits s x) true i))
ended (s ∷ []) (x ∷ y ∷ xs) h i = false_not_true (and_true_second (fits s x) false i)
ended (s ∷ r ∷ ss) parts h i = false_not_true h

-- ---- tokens

abbrev Given : TokenKind → Option (List Part) → Type 0
Given k None = Unit {0}
Given k (Some new) = shaped (token_sorts k) new ≡ true

given_shaped : (k : TokenKind) (at : Span) (v : TokenValue) → Given k (given k at v)
given_shaped Identifier at (Name bytes) = refl
given_shaped Identifier at v = tt
given_shaped Number at (Constant value ty) = refl
given_shaped Number at v = tt
given_shaped Character at (Constant value ty) = refl
given_shaped Character at v = tt
given_shaped k at v = refl

accepted_shaped : (k : TokenKind) (o : Option Token) → Given k (accepted k o)
accepted_shaped k None = tt
accepted_shaped k (Some t) = go (nat_eq (kind_number k) (kind_number t.kind))
  where
    go : (b : Bool) → Given k (if b then given k t.span t.value else None)
    go true = given_shaped k t.span t.value
    go false = tt

-- ---- the derivation

-- where it is done there is one part, a program
abbrev IsWhole : Outcome → Type 0
IsWhole (done parts) = (p : List ItemTree) × (parts ≡ items p ∷ [])
IsWhole (fault_at n) = Unit {0}
IsWhole (too_deep n) = Unit {0}
IsWhole unfinished = Unit {0}

whole : (limit : Option ℕ) (tokens : List Token) (n : ℕ) (stack : List Entry) (at depth : ℕ) (parts : List Part) (ss : List ℕ) → Stands stack ss → shaped ss parts ≡ true → IsWhole (run limit tokens n stack at depth parts)
whole limit tokens zero stack at depth parts ss h i = tt
whole limit tokens (suc n) [] at depth parts ss h i = ended ss parts h i
whole limit tokens (suc n) (takes k ∷ rest) at depth parts ss h i =
    go (accepted k (slice_get tokens at)) (accepted_shaped k (slice_get tokens at)) (λ new s. whole limit tokens n rest (at + 1) depth (new ++ parts) (token_sorts k ++ ss) h s)
  where
    go : (o : Option (List Part)) → Given k o → ((new : List Part) → shaped (token_sorts k ++ ss) (new ++ parts) ≡ true → IsWhole (run limit tokens n rest (at + 1) depth (new ++ parts))) → IsWhole (on_token o at (λ new. run limit tokens n rest (at + 1) depth (new ++ parts)))
    go None g next = tt
    go (Some new) g next = next new (shaped_append (token_sorts k) ss new parts g i)
whole limit tokens (suc n) (gives x ∷ rest) at depth parts ss h i =
    let r = off (needs x) ss parts (λ rs. Stands rest (leaves x ∷ rs)) i h in
    go r.0 r.1 (rule_at x (slice_get tokens at)) (rule_shapes x (slice_get tokens at)) (λ m s. whole limit tokens n (wanted at m ++ rest) at depth parts (needs x ++ r.0) s r.2)
  where
    go : (rs : List ℕ) → Stands rest (leaves x ∷ rs) → (o : Option ℕ) → FoundShapes x o → ((m : ℕ) → Stands (wanted at m ++ rest) (needs x ++ rs) → IsWhole (run limit tokens n (wanted at m ++ rest) at depth parts)) → IsWhole (on_rule o at (λ m. run limit tokens n (wanted at m ++ rest) at depth parts))
    go rs h None f next = tt
    go rs h (Some m) f next = next m (enters at (leaves x) (right_side m) rest (needs x) rs f h)
whole limit tokens (suc n) (opens x ∷ rest) at depth parts ss h i = go (allows limit depth) (whole limit tokens n (gives x ∷ closes ∷ rest) at (depth + 1) parts ss h i)
  where
    go : (b : Bool) → IsWhole (run limit tokens n (gives x ∷ closes ∷ rest) at (depth + 1) parts) → IsWhole (if b then run limit tokens n (gives x ∷ closes ∷ rest) at (depth + 1) parts else too_deep at)
    go true w = w
    go false w = tt
whole limit tokens (suc n) (closes ∷ rest) at depth parts ss h i = whole limit tokens n rest at (depth - 1) parts ss h i
whole limit tokens (suc n) (builds from f ∷ rest) at depth parts ss h i =
    let r = off h.0 ss parts (λ rs. Stands rest (h.1 ∷ rs)) i h.3 in
    whole limit tokens n rest at depth (f (stretch tokens from at) parts) (h.1 ∷ r.0) r.1 (h.2 (stretch tokens from at) r.0 parts r.2)

outcome : (tokens : List Token) (n : ℕ) (o : Outcome) → derived (Some deepest) tokens n ≡ o → (o ≡ unfinished → ⊥) → IsWhole o → AreSomeProgram tokens ⊎ StopSomewhere tokens
outcome tokens n (done parts) e some w = inl (w.0, (n, e ∙ ap done w.1))
outcome tokens n (fault_at k) e some w = inr (k, inl (n, e))
outcome tokens n (too_deep k) e some w = inr (k, inr (n, e))
outcome tokens n unfinished e some w = absurd (some refl)

pub tokens_come : TokensComeToAnOutcome
tokens_come tokens =
    let x = some_outcome (Some deepest) tokens in
    outcome tokens x.0 (derived (Some deepest) tokens x.0) refl x.1 (whole (Some deepest) tokens x.0 (gives TranslationUnit ∷ []) 0 0 (items [] ∷ []) (items_sort ∷ []) refl refl)
