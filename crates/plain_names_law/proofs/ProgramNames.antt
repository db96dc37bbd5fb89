-- The functions of a program that is derived from such tokens have names that are identifiers.
use Rattle.std.proofs.Common.{◌≡◌, ℕ, zero, suc, ◌+◌, ◌-◌, Bool, true, false, not, ◌||◌, nat_eq, if◌then◌else◌, List, [], ◌∷◌, ◌++◌, map, slice_get, Option, None, Some, refl, subst}
use Rattle.std.specs.List.{list_all}
use Rattle.pt_base.specs.declared.span.Span.{Span}
use Rattle.pt_tree.specs.ProgramTree.{ItemTree}
use Rattle.c_lexer.specs.declared.token.Token.{Token}
use Rattle.c_lexer.specs.declared.token.TokenKind.{TokenKind}
use Rattle.c_lexer.specs.declared.token.TokenKind.TheVariants.{Identifier, Number, Character}
use Rattle.c_lexer.specs.declared.token.TokenValue.{TokenValue}
use Rattle.c_lexer.specs.declared.token.TokenValue.TheVariants.{Name, Constant}
use Rattle.c_grammar.specs.Item.{Item, token, symbol, counted, build}
use Rattle.c_grammar.specs.Machine.{Entry, takes, gives, opens, closes, builds, placed, right_side, wanted, Outcome, done, fault_at, too_deep, unfinished, rule_at, given, accepted, allows, stretch, run, derived, on_rule, on_token}
use Rattle.c_grammar.specs.Numbers.{kind_number}
use Rattle.c_grammar.specs.Part.{Part, items}
use Rattle.c_grammar.specs.declared.symbol.Symbol.TheVariants.{TranslationUnit}
use Rattle.plain_names_law.proofs.BuildNames.{Keeps}
use Rattle.plain_names_law.proofs.PartNames.{item_named, Named, named_append}
use Rattle.plain_names_law.proofs.RuleNames.{AllKeep, FoundKeeps, rule_keeps}
use Rattle.plain_names_law.proofs.TokenNames.{value_named, TokensNamed, NamedIf, named_at}

-- ---- the stack

-- what is to be built keeps names that are identifiers
abbrev Stands : List Entry → Type 0
Stands [] = Unit {0}
Stands (takes k ∷ rest) = Stands rest
Stands (gives x ∷ rest) = Stands rest
Stands (opens x ∷ rest) = Stands rest
Stands (closes ∷ rest) = Stands rest
Stands (builds from f ∷ rest) = Keeps f × Stands rest

enters : (from : ℕ) (want : List Item) (rest : List Entry) → AllKeep want → Stands rest → Stands (map (placed from) want ++ rest)
enters from [] rest keep h = h
enters from (token k ∷ want) rest keep h = enters from want rest keep h
enters from (symbol x ∷ want) rest keep h = enters from want rest keep h
enters from (counted x ∷ want) rest keep h = enters from want rest keep h
enters from (build f ∷ want) rest keep h = (keep.0, enters from want rest keep.1 h)

-- ---- tokens

abbrev Gives : Option (List Part) → Type 0
Gives None = Unit {0}
Gives (Some new) = Named new

-- what stands behind a test that holds
behind : (b c : Bool) → b ≡ true → not b || c ≡ true → c ≡ true
behind true c e h = h
behind false c e h = absurd (cc)

given_named : (k : TokenKind) (at : Span) (v : TokenValue) → (kind_number k ≡ kind_number Identifier → value_named v ≡ true) → Gives (given k at v)
given_named Identifier at (Name bytes) h = (h refl, tt)
given_named Identifier at v h = tt
given_named Number at (Constant value ty) h = (refl, tt)
given_named Number at v h = tt
given_named Character at (Constant value ty) h = (refl, tt)
given_named Character at v h = tt
given_named k at v h = tt

accepted_named : (k : TokenKind) (o : Option Token) → NamedIf o → Gives (accepted k o)
accepted_named k None h = tt
accepted_named k (Some t) h = go (nat_eq (kind_number k) (kind_number t.kind)) refl
  where
    go : (b : Bool) → nat_eq (kind_number k) (kind_number t.kind) ≡ b → Gives (if b then given k t.span t.value else None)
    go true same =
        given_named k t.span t.value
        (λ e. behind (nat_eq (kind_number Identifier) (kind_number t.kind)) (value_named t.value) (subst (λ (n : ℕ). nat_eq n (kind_number t.kind) ≡ true) e same) h)
    go false same = tt

-- ---- the derivation

abbrev IsNamed : Outcome → Type 0
IsNamed (done parts) = Named parts
IsNamed (fault_at n) = Unit {0}
IsNamed (too_deep n) = Unit {0}
IsNamed unfinished = Unit {0}

named : (limit : Option ℕ) (tokens : List Token) → TokensNamed tokens → (n : ℕ) (stack : List Entry) (at depth : ℕ) (parts : List Part) → Stands stack → Named parts → IsNamed (run limit tokens n stack at depth parts)
named limit tokens all zero stack at depth parts h i = tt
named limit tokens all (suc n) [] at depth parts h i = i
named limit tokens all (suc n) (takes k ∷ rest) at depth parts h i =
    go (accepted k (slice_get tokens at)) (accepted_named k (slice_get tokens at) (named_at tokens at all)) (λ new new_named. named limit tokens all n rest (at + 1) depth (new ++ parts) h (named_append new parts new_named i))
  where
    go : (o : Option (List Part)) → Gives o → ((new : List Part) → Named new → IsNamed (run limit tokens n rest (at + 1) depth (new ++ parts))) → IsNamed (on_token o at (λ new. run limit tokens n rest (at + 1) depth (new ++ parts)))
    go None g next = tt
    go (Some new) g next = next new g
named limit tokens all (suc n) (gives x ∷ rest) at depth parts h i =
    go (rule_at x (slice_get tokens at)) (rule_keeps x (slice_get tokens at)) (λ r stands. named limit tokens all n (wanted at r ++ rest) at depth parts stands i)
  where
    go : (o : Option ℕ) → FoundKeeps o → ((r : ℕ) → Stands (wanted at r ++ rest) → IsNamed (run limit tokens n (wanted at r ++ rest) at depth parts)) → IsNamed (on_rule o at (λ r. run limit tokens n (wanted at r ++ rest) at depth parts))
    go None keep next = tt
    go (Some r) keep next = next r (enters at (right_side r) rest keep h)
named limit tokens all (suc n) (opens x ∷ rest) at depth parts h i =
    go (allows limit depth) (named limit tokens all n (gives x ∷ closes ∷ rest) at (depth + 1) parts h i)
  where
    go : (b : Bool) → IsNamed (run limit tokens n (gives x ∷ closes ∷ rest) at (depth + 1) parts) → IsNamed (if b then run limit tokens n (gives x ∷ closes ∷ rest) at (depth + 1) parts else too_deep at)
    go true w = w
    go false w = tt
named limit tokens all (suc n) (closes ∷ rest) at depth parts h i = named limit tokens all n rest at (depth - 1) parts h i
named limit tokens all (suc n) (builds from f ∷ rest) at depth parts h i =
    named limit tokens all n rest at depth (f (stretch tokens from at) parts) h.1 (h.0 (stretch tokens from at) parts i)

-- each function of a program that is derived
pub program_named : (limit : Option ℕ) (tokens : List Token) (n : ℕ) (is : List ItemTree) → TokensNamed tokens → derived limit tokens n ≡ done (items is ∷ []) → list_all item_named is ≡ true
program_named limit tokens n is all e =
    let h : IsNamed (done (items is ∷ [])) = subst IsNamed e (named limit tokens all n (gives TranslationUnit ∷ []) 0 0 (items [] ∷ []) tt (refl, tt)) in
    h.0
