-- A program that is derived has at most twice as many nodes as tokens, its constants are in range, and
-- its words are short.
use Rattle.std.proofs.Common.{◌≡◌, ℕ, zero, suc, ◌+◌, ◌-◌, ◌*◌, ◌<◌, ◌≤◌, List, [], ◌∷◌, ◌++◌, Option, None, Some, Bool, true, false, if◌then◌else◌, nat_eq, slice_get, length, map, subst, refl, arith}
use Rattle.std.specs.Prelude.{IsTrue}
use Rattle.pt_base.specs.declared.span.Span.{Span}
use Rattle.pt_tree.specs.ProgramTree.{ItemTree}
use Rattle.pt_tree.specs.Nodes.{nodes_of}
use Rattle.pt_tree.specs.Facts.{items_sound}
use Rattle.c_lexer.specs.Values.{value_fits, ValuesFit}
use Rattle.c_lexer.specs.declared.token.Token.{Token}
use Rattle.c_lexer.specs.declared.token.TokenValue.{TokenValue}
use Rattle.c_lexer.specs.declared.token.TokenValue.TheVariants.{Name, Constant}
use Rattle.c_lexer.specs.declared.token.TokenKind.{TokenKind}
use Rattle.c_lexer.specs.declared.token.TokenKind.TheVariants.{Identifier, Number, Character}
use Rattle.c_grammar.specs.declared.symbol.Symbol.{Symbol}
use Rattle.c_grammar.specs.declared.symbol.Symbol.TheVariants.{TranslationUnit}
use Rattle.c_grammar.specs.Numbers.{kind_number}
use Rattle.c_grammar.specs.Part.{Part, items}
use Rattle.c_grammar.specs.Item.{Item, token, symbol, counted, build}
use Rattle.c_grammar.specs.Machine.{Entry, takes, gives, opens, closes, builds, placed, right_side, wanted, Outcome, done, fault_at, too_deep, unfinished, rule_at, given, accepted, allows, stretch, run, derived, on_rule, on_token}
use Rattle.c_grammar.proofs.PartFacts.{parts_nodes, Sound, nodes_append, sound_append}
use Rattle.c_grammar.proofs.BuildFacts.{Builds}
use Rattle.c_grammar.proofs.RuleFacts.{worth, spare, Fits, FoundFits, rule_fits}

-- with so many nodes paid for, the stack makes none that is not
abbrev Stands : List Entry → ℕ → Type 0
Stands [] paid = Unit {0}
Stands (takes k ∷ rest) paid = Stands rest (worth k + paid)
Stands (gives x ∷ rest) paid = Stands rest (spare x + paid)
Stands (opens x ∷ rest) paid = Stands rest (spare x + paid)
Stands (closes ∷ rest) paid = Stands rest paid
Stands (builds from f ∷ rest) paid = (n : ℕ) × Builds n f × (n ≤ paid) × Stands rest (paid - n)

more : (stack : List Entry) (a b : ℕ) → a ≤ b → Stands stack a → Stands stack b
more [] a b le h = tt
more (takes k ∷ rest) a b le h = more rest (worth k + a) (worth k + b) (omega arith) h
more (gives x ∷ rest) a b le h = more rest (spare x + a) (spare x + b) (omega arith) h
more (opens x ∷ rest) a b le h = more rest (spare x + a) (spare x + b) (omega arith) h
more (closes ∷ rest) a b le h = more rest a b le h
more (builds from f ∷ rest) a b le h = let few = h.2 in (h.0, h.1, omega arith, more rest (a - h.0) (b - h.0) (omega arith) h.3)

-- what a rule wants in place of its symbol
enters : (from : ℕ) (paid extra left : ℕ) (want : List Item) (rest : List Entry) → Fits paid want left → Stands rest (left + extra) → Stands (map (placed from) want ++ rest) (paid + extra)
enters from paid extra left [] rest fits h = more rest (left + extra) (paid + extra) (omega arith) h
enters from paid extra left (token k ∷ want) rest fits h = more (map (placed from) want ++ rest) (worth k + paid + extra) (worth k + (paid + extra)) (omega arith) (enters from (worth k + paid) extra left want rest fits h)
enters from paid extra left (symbol x ∷ want) rest fits h = more (map (placed from) want ++ rest) (spare x + paid + extra) (spare x + (paid + extra)) (omega arith) (enters from (spare x + paid) extra left want rest fits h)
enters from paid extra left (counted x ∷ want) rest fits h = more (map (placed from) want ++ rest) (spare x + paid + extra) (spare x + (paid + extra)) (omega arith) (enters from (spare x + paid) extra left want rest fits h)
enters from paid extra left (build f ∷ want) rest fits h =
    let few = fits.2 in
    (fits.0, fits.1, omega arith, more (map (placed from) want ++ rest) (paid - fits.0 + extra) (paid + extra - fits.0) (omega arith) (enters from (paid - fits.0) extra left want rest fits.3 h))

-- what a token gives
abbrev Takes : TokenKind → Option (List Part) → Type 0
Takes k None = Unit {0}
Takes k (Some new) = (parts_nodes new + worth k ≤ 2) × Sound new

given_takes : (k : TokenKind) (at : Span) (v : TokenValue) → IsTrue (value_fits v) → Takes k (given k at v)
given_takes Identifier at (Name bytes) fit = (omega arith, (fit, tt))
given_takes Identifier at v fit = tt
given_takes Number at (Constant value ty) fit = (omega arith, (fit, tt))
given_takes Number at v fit = tt
given_takes Character at (Constant value ty) fit = (omega arith, (fit, tt))
given_takes Character at v fit = tt
given_takes k at v fit = (omega arith, tt)

-- the token at a place
abbrev Found : List Token → ℕ → Option Token → Type 0
Found tokens at None = Unit {0}
Found tokens at (Some t) = (at < length tokens) × IsTrue (value_fits t.value)

found : (tokens : List Token) (at : ℕ) → ValuesFit tokens → Found tokens at (slice_get tokens at)
found [] at fit = tt
found (t ∷ ts) zero fit = (omega arith, fit 0 t (omega arith))
found (t ∷ ts) (suc at) fit = go (slice_get ts at) (found ts at (λ k d lt. fit (suc k) d (omega arith)))
  where
    go : (o : Option Token) → Found ts at o → Found (t ∷ ts) (suc at) o
    go None h = tt
    go (Some u) h = let lt = h.0 in (omega arith, h.1)

abbrev Accepts : List Token → TokenKind → ℕ → Option (List Part) → Type 0
Accepts tokens k at None = Unit {0}
Accepts tokens k at (Some new) = (at < length tokens) × (parts_nodes new + worth k ≤ 2) × Sound new

accepts : (tokens : List Token) (k : TokenKind) (at : ℕ) → ValuesFit tokens → Accepts tokens k at (accepted k (slice_get tokens at))
accepts tokens k at fit = go (slice_get tokens at) (found tokens at fit)
  where
    value : (o : Option (List Part)) → at < length tokens → Takes k o → Accepts tokens k at o
    value None lt h = tt
    value (Some new) lt h = (lt, h.0, h.1)

    test : (t : Token) (b : Bool) → at < length tokens → IsTrue (value_fits t.value) → Accepts tokens k at (if b then given k t.span t.value else None)
    test t true lt fits = value (given k t.span t.value) lt (given_takes k t.span t.value fits)
    test t false lt fits = tt

    go : (o : Option Token) → Found tokens at o → Accepts tokens k at (accepted k o)
    go None h = tt
    go (Some t) h = test t (nat_eq (kind_number k) (kind_number t.kind)) h.0 h.1

-- what is known before each step
record Known (tokens : List Token) (stack : List Entry) (at : ℕ) (parts : List Part) (paid : ℕ) : Type 0 where
  stands : Stands stack paid
  few : parts_nodes parts + paid ≤ 2 * at
  within : at ≤ length tokens
  sound : Sound parts

abbrev IsFine : List Token → Outcome → Type 0
IsFine tokens (done parts) = (parts_nodes parts ≤ 2 * length tokens) × Sound parts
IsFine tokens (fault_at n) = Unit {0}
IsFine tokens (too_deep n) = Unit {0}
IsFine tokens unfinished = Unit {0}

took : (tokens : List Token) (k : TokenKind) (rest : List Entry) (at : ℕ) (new parts : List Part) (paid : ℕ) → Known tokens (takes k ∷ rest) at parts paid → Accepts tokens k at (Some new) → Known tokens rest (at + 1) (new ++ parts) (worth k + paid)
took tokens k rest at new parts paid h a =
    let few = h.few in
    let lt = a.0 in
    let two = a.1 in
    record { stands = h.stands; few = omega (arith, nodes_append new parts); within = omega arith; sound = sound_append new parts a.2 h.sound }

went : (tokens : List Token) (x : Symbol) (r : ℕ) (rest : List Entry) (at : ℕ) (parts : List Part) (paid : ℕ) → Known tokens (gives x ∷ rest) at parts paid → FoundFits x (Some r) → Known tokens (wanted at r ++ rest) at parts paid
went tokens x r rest at parts paid h fits =
    record { stands = more (wanted at r ++ rest) (0 + paid) paid (omega arith) (enters at 0 paid (spare x) (right_side r) rest fits h.stands); few = h.few; within = h.within; sound = h.sound }

built : (tokens : List Token) (from : ℕ) (f : Span → List Part → List Part) (rest : List Entry) (at : ℕ) (parts : List Part) (paid : ℕ) → (h : Known tokens (builds from f ∷ rest) at parts paid) → Known tokens rest at (f (stretch tokens from at) parts) (paid - h.stands.0)
built tokens from f rest at parts paid h =
    let good = h.stands.1 (stretch tokens from at) parts in
    let nodes = good.nodes in
    let less = h.stands.2 in
    let few = h.few in
    record { stands = h.stands.3; few = omega arith; within = h.within; sound = good.sound h.sound }

fine : (limit : Option ℕ) (tokens : List Token) → ValuesFit tokens → (n : ℕ) (stack : List Entry) (at depth : ℕ) (parts : List Part) (paid : ℕ) → Known tokens stack at parts paid → IsFine tokens (run limit tokens n stack at depth parts)
fine limit tokens fit zero stack at depth parts paid h = tt
fine limit tokens fit (suc n) [] at depth parts paid h = let few = h.few in let within = h.within in (omega arith, h.sound)
fine limit tokens fit (suc n) (takes k ∷ rest) at depth parts paid h = go (accepted k (slice_get tokens at)) (accepts tokens k at fit) (λ new. fine limit tokens fit n rest (at + 1) depth (new ++ parts) (worth k + paid))
  where
    go : (o : Option (List Part)) → Accepts tokens k at o → ((new : List Part) → Known tokens rest (at + 1) (new ++ parts) (worth k + paid) → IsFine tokens (run limit tokens n rest (at + 1) depth (new ++ parts))) → IsFine tokens (on_token o at (λ new. run limit tokens n rest (at + 1) depth (new ++ parts)))
    go None a next = tt
    go (Some new) a next = next new (took tokens k rest at new parts paid h a)
fine limit tokens fit (suc n) (gives x ∷ rest) at depth parts paid h = go (rule_at x (slice_get tokens at)) (rule_fits x (slice_get tokens at)) (λ r. fine limit tokens fit n (wanted at r ++ rest) at depth parts paid)
  where
    go : (o : Option ℕ) → FoundFits x o → ((r : ℕ) → Known tokens (wanted at r ++ rest) at parts paid → IsFine tokens (run limit tokens n (wanted at r ++ rest) at depth parts)) → IsFine tokens (on_rule o at (λ r. run limit tokens n (wanted at r ++ rest) at depth parts))
    go None a next = tt
    go (Some r) a next = next r (went tokens x r rest at parts paid h a)
fine limit tokens fit (suc n) (opens x ∷ rest) at depth parts paid h = go (allows limit depth) (fine limit tokens fit n (gives x ∷ closes ∷ rest) at (depth + 1) parts paid (record { stands = h.stands; few = h.few; within = h.within; sound = h.sound }))
  where
    go : (b : Bool) → IsFine tokens (run limit tokens n (gives x ∷ closes ∷ rest) at (depth + 1) parts) → IsFine tokens (if b then run limit tokens n (gives x ∷ closes ∷ rest) at (depth + 1) parts else too_deep at)
    go true a = a
    go false a = tt
fine limit tokens fit (suc n) (closes ∷ rest) at depth parts paid h = fine limit tokens fit n rest at (depth - 1) parts paid (record { stands = h.stands; few = h.few; within = h.within; sound = h.sound })
fine limit tokens fit (suc n) (builds from f ∷ rest) at depth parts paid h = fine limit tokens fit n rest at depth (f (stretch tokens from at) parts) (paid - h.stands.0) (built tokens from f rest at parts paid h)

-- what is known of a program that is derived
pub program_facts : (limit : Option ℕ) (tokens : List Token) (n : ℕ) (is : List ItemTree) → ValuesFit tokens → derived limit tokens n ≡ done (items is ∷ []) → (nodes_of is ≤ 2 * length tokens) × IsTrue (items_sound is)
program_facts limit tokens n is fit e =
    let h : IsFine tokens (done (items is ∷ [])) = subst (IsFine tokens) e (fine limit tokens fit n (gives TranslationUnit ∷ []) 0 0 (items [] ∷ []) 0 (record { stands = tt; few = omega arith; within = omega arith; sound = (refl, tt) })) in
    let few = h.0 in
    (omega arith, h.1.0)
