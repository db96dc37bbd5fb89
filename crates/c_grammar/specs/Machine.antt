-- The derivation: a stack of what is still wanted, which begins as a program. For a symbol on
-- top comes a rule, the one in its row of the table; a token on top has to come next in the text. What a
-- rule builds has the span from the rule's first to past its last token.
use Rattle.std.specs.Prelude.{ℕ, zero, suc, ◌+◌, ◌-◌, List, [], ◌∷◌, ◌++◌, Option, Some, None, Bool, true, nat_eq, nat_lt, get_or, map, slice_get, if◌then◌else◌}
use Rattle.pt_base.specs.declared.span.Span.{Span}
use Rattle.c_lexer.specs.declared.token.Token.{Token}
use Rattle.c_lexer.specs.declared.token.TokenValue.{TokenValue}
use Rattle.c_lexer.specs.declared.token.TokenValue.TheVariants.{Name, Constant}
use Rattle.c_lexer.specs.declared.token.TokenKind.{TokenKind}
use Rattle.c_lexer.specs.declared.token.TokenKind.TheVariants.{Identifier, Number, Character}
use Rattle.c_grammar.specs.declared.symbol.Symbol.{Symbol}
use Rattle.c_grammar.specs.declared.symbol.Symbol.TheVariants.{TranslationUnit}
use Rattle.c_grammar.specs.Numbers.{kind_number}
use Rattle.c_grammar.specs.Part.{Part, word, number, items}
use Rattle.c_grammar.specs.Item.{Item, token, symbol, counted, build, Rule, rule}
use Rattle.c_grammar.specs.Grammar.{grammar}
use Rattle.c_grammar.specs.Table.{row_of}

-- What is wanted on the stack. `closes` stands behind a counted symbol, and `builds` has the place
-- where its rule began.
pub data Entry : Type 0 where
  takes : TokenKind → Entry
  gives : Symbol → Entry
  opens : Symbol → Entry
  closes : Entry
  builds : ℕ → (Span → List Part → List Part) → Entry

abbrev pub placed : ℕ → Item → Entry
placed from (token k) = takes k
placed from (symbol s) = gives s
placed from (counted s) = opens s
placed from (build f) = builds from f

-- the right side of the rule with this number
abbrev pub right_of : Rule → List Item
right_of (rule s right) = right

abbrev pub right_side : ℕ → List Item
right_side n = right_of (get_or grammar (n - 1) (rule TranslationUnit []))

-- what the rule wants, where it begins at this place
abbrev pub wanted : ℕ → ℕ → List Entry
wanted from n = map (placed from) (right_side n)

-- the rule at a token; at the end of the tokens a program is over, and nothing else has a rule
abbrev pub rule_at : Symbol → Option Token → Option ℕ
rule_at s (Some t) = row_of s t.kind
rule_at TranslationUnit None = Some 2
rule_at s None = None

-- what a token gives: an identifier its word, a constant its value, and each must have it
abbrev pub given : TokenKind → Span → TokenValue → Option (List Part)
given Identifier at (Name bytes) = Some (word (record { span = at; bytes = bytes }) ∷ [])
given Identifier at v = None
given Number at (Constant value ty) = Some (number (record { span = at; value = value; ty = ty }) ∷ [])
given Number at v = None
given Character at (Constant value ty) = Some (number (record { span = at; value = value; ty = ty }) ∷ [])
given Character at v = None
given k at v = Some []

abbrev pub accepted : TokenKind → Option Token → Option (List Part)
accepted k None = None
accepted k (Some t) = if nat_eq (kind_number k) (kind_number t.kind) then given k t.span t.value else None

abbrev pub start_of : Option Token → ℕ
start_of None = 0
start_of (Some t) = t.span.from

abbrev pub end_of : Option Token → ℕ
end_of None = 0
end_of (Some t) = t.span.to

-- from the token at one place to past the last one before another
abbrev pub stretch : List Token → ℕ → ℕ → Span
stretch tokens from at = record { from = start_of (slice_get tokens from); to = end_of (slice_get tokens (at - 1)) }

pub data Outcome : Type 0 where
  done : List Part → Outcome
  fault_at : ℕ → Outcome
  too_deep : ℕ → Outcome
  unfinished : Outcome

abbrev pub on_rule : Option ℕ → ℕ → (ℕ → Outcome) → Outcome
on_rule None at go = fault_at at
on_rule (Some n) at go = go n

abbrev pub on_token : Option (List Part) → ℕ → (List Part → Outcome) → Outcome
on_token None at go = fault_at at
on_token (Some new) at go = go new

-- whether one more counted symbol may open
abbrev pub allows : Option ℕ → ℕ → Bool
allows None depth = true
allows (Some limit) depth = nat_lt depth limit

-- what comes of it within n steps: from this stack, at this place, with so many counted symbols open
-- and these parts. Without a limit this is the derivation.
abbrev pub run : Option ℕ → List Token → ℕ → List Entry → ℕ → ℕ → List Part → Outcome
run limit tokens zero stack at depth parts = unfinished
run limit tokens (suc n) [] at depth parts = done parts
run limit tokens (suc n) (takes k ∷ rest) at depth parts = on_token (accepted k (slice_get tokens at)) at (λ new. run limit tokens n rest (at + 1) depth (new ++ parts))
run limit tokens (suc n) (gives s ∷ rest) at depth parts = on_rule (rule_at s (slice_get tokens at)) at (λ r. run limit tokens n (wanted at r ++ rest) at depth parts)
run limit tokens (suc n) (opens s ∷ rest) at depth parts = if allows limit depth then run limit tokens n (gives s ∷ closes ∷ rest) at (depth + 1) parts else too_deep at
run limit tokens (suc n) (closes ∷ rest) at depth parts = run limit tokens n rest at (depth - 1) parts
run limit tokens (suc n) (builds from f ∷ rest) at depth parts = run limit tokens n rest at depth (f (stretch tokens from at) parts)

-- the whole text: a program, with no item yet
abbrev pub derived : Option ℕ → List Token → ℕ → Outcome
derived limit tokens n = run limit tokens n (gives TranslationUnit ∷ []) 0 0 (items [] ∷ [])
