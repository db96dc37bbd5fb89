-- What each function of the parser does to the stack of the derivation.
use Rattle.std.specs.Prelude.{◌≡◌, ℕ, List, [], ◌∷◌, ◌++◌, ◌+◌, Option, Some, None, Result, Ok, Err, Bool, true, false, nat_eq, slice_get, get_or, ◌⊎◌}
use Rattle.c_lexer.specs.declared.token.Token.{Token}
use Rattle.c_lexer.specs.declared.token.TokenKind.{TokenKind}
use Rattle.c_grammar.specs.declared.symbol.Symbol.{Symbol}
use Rattle.c_grammar.specs.Part.{Part}
use Rattle.c_grammar.specs.Table.{alternatives_of}
use Rattle.c_grammar.specs.Machine.{Entry, takes, gives, Outcome, fault_at, too_deep, run, rule_at, wanted}
use Rattle.c_grammar.specs.Numbers.{kind_number}
use Rattle.c_lexer.specs.declared.token.TokenKind.TheVariants.{Identifier, Number, Character}
use Rattle.c_parser.specs.declared.error.ParseError.{ParseError}
use Rattle.c_parser.specs.declared.error.ParseError.TheVariants.{Memory, FaultAt, TooDeep}
use Rattle.c_parser.specs.declared.parsed.Parsed.{Parsed}

abbrev pub deepest : ℕ
deepest = 200

-- this comes of that stack, place, depth and parts
pub record Comes (tokens : List Token) (stack : List Entry) (at depth : ℕ) (parts : List Part) (o : Outcome) : Type 0 where
  pub steps : ℕ
  pub by : run (Some deepest) tokens steps stack at depth parts ≡ o

-- these entries and parts on top give way to those parts
pub record Turns (tokens : List Token) (entries : List Entry) (at depth : ℕ) (old new : List Part) (next : ℕ) : Type 0 where
  pub from : (rest : List Entry) (parts : List Part) (o : Outcome) → Comes tokens rest next depth (new ++ parts) o → Comes tokens (entries ++ rest) at depth (old ++ parts) o

-- the outcome that the error tells; want of memory tells none
abbrev pub Tells : ParseError → Outcome → Type 0
Tells Memory o = ⊥
Tells (FaultAt n) o = o ≡ fault_at n
Tells (TooDeep n) o = o ≡ too_deep n

-- these entries and parts on top end all, as the error tells
pub record Fails (tokens : List Token) (entries : List Entry) (at depth : ℕ) (old : List Part) (err : ParseError) : Type 0 where
  pub from : (o : Outcome) → Tells err o → (rest : List Entry) (parts : List Part) → Comes tokens (entries ++ rest) at depth (old ++ parts) o

-- the symbol on top gives way to what the rule wants
pub record Enters (tokens : List Token) (s : Symbol) (at : ℕ) (r : ℕ) : Type 0 where
  pub from : (depth : ℕ) (rest : List Entry) (parts : List Part) (o : Outcome) → Comes tokens (wanted at r ++ rest) at depth parts o → Comes tokens (gives s ∷ rest) at depth parts o

-- these entries on top, over the old parts, give way to the parts of the tree; or they end in the fault
abbrev pub Parses : {T : Type 0} → List Part → (T → List Part) → List Token → List Entry → ℕ → ℕ → Result (Parsed T) ParseError → Type 0
Parses old new tokens es at depth (Ok p) = Turns tokens es at depth old (new p.tree) p.next
Parses old new tokens es at depth (Err err) = Fails tokens es at depth old err

-- the rule by which the symbol goes on
abbrev pub row_at : List Token → Symbol → ℕ → Option ℕ
row_at tokens s at = rule_at s (slice_get tokens at)

-- whether a token of this kind stands there
abbrev pub is_kind : TokenKind → Option Token → Bool
is_kind k None = false
is_kind k (Some t) = nat_eq (kind_number k) (kind_number t.kind)

-- a kind whose tokens have no value
abbrev pub is_fixed : TokenKind → Bool
is_fixed Identifier = false
is_fixed Number = false
is_fixed Character = false
is_fixed k = true

-- a keyword or punctuator
abbrev pub Expects : List Token → TokenKind → ℕ → Result ℕ ParseError → Type 0
Expects tokens k at (Ok next) = (depth : ℕ) → Turns tokens (takes k ∷ []) at depth [] [] next
Expects tokens k at (Err err) = (depth : ℕ) → Fails tokens (takes k ∷ []) at depth [] err

-- the only rule of a symbol
abbrev pub Begins : List Token → Symbol → ℕ → Result (Unit {0}) ParseError → Type 0
Begins tokens s at (Ok u) = Enters tokens s at (get_or (alternatives_of s) 0 0)
Begins tokens s at (Err err) = (depth : ℕ) → Fails tokens (gives s ∷ []) at depth [] err

-- by the first or by the second rule of a symbol that has two
pub record Goes (tokens : List Token) (s : Symbol) (at : ℕ) (is_first : Bool) : Type 0 where
  pub first : is_first ≡ true → Enters tokens s at (get_or (alternatives_of s) 0 0)
  pub second : is_first ≡ false → Enters tokens s at (get_or (alternatives_of s) 1 0)

-- the entry stays on top, and the parts change
pub record Repeats (tokens : List Token) (e : Entry) (at depth : ℕ) (old : List Part) (next : ℕ) (new : List Part) : Type 0 where
  pub from : (rest : List Entry) (parts : List Part) (o : Outcome) → Comes tokens (e ∷ rest) next depth (new ++ parts) o → Comes tokens (e ∷ rest) at depth (old ++ parts) o

abbrev pub IsOneOf : ℕ → List ℕ → Type 0
IsOneOf n [] = ⊥
IsOneOf n (r ∷ rs) = (n ≡ r) ⊎ IsOneOf n rs

abbrev pub has_one : List ℕ → Bool
has_one (r ∷ []) = true
has_one rs = false

abbrev pub has_two : List ℕ → Bool
has_two (r ∷ s ∷ []) = true
has_two rs = false

abbrev pub has_constant : TokenKind → Bool
has_constant Number = true
has_constant Character = true
has_constant k = false

-- a token with a value
abbrev pub Finds : {T : Type 0} → (T → List Part) → List Token → TokenKind → ℕ → Result T ParseError → Type 0
Finds part tokens k at (Ok x) = (depth : ℕ) → Turns tokens (takes k ∷ []) at depth [] (part x) (at + 1)
Finds part tokens k at (Err err) = (depth : ℕ) → Fails tokens (takes k ∷ []) at depth [] err
