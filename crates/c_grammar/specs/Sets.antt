-- Which tokens can begin what a rule has, and which can follow a symbol: the least sets that the
-- rules ask for (FIRST and FOLLOW of the books on parsing), by rounds over all rules until nothing
-- changes. A set is a number whose bits are those of the kinds.
use Rattle.std.specs.Prelude.{ℕ, zero, suc, ◌≡◌, ◌^◌, ◌+◌, List, [], ◌∷◌, get_or, set, Bool, true, false, bit_or, nat_eq, if◌then◌else◌, replicate}
use Rattle.c_grammar.specs.declared.symbol.Symbol.{Symbol}
use Rattle.c_grammar.specs.Numbers.{kind_number, symbol_number}
use Rattle.c_grammar.specs.Item.{Item, token, symbol, counted, build, Rule, rule}
use Rattle.c_grammar.specs.Grammar.{grammar}
use Rattle.c_grammar.specs.Table.{alternatives_of, leading}

-- what can begin a symbol, and whether it can be empty
pub record First : Type 0 where
  pub tokens : ℕ
  pub empty : Bool

abbrev pub none_yet : First
none_yet = record { tokens = 0; empty = false }

abbrev pub first_of : List First → Symbol → First
first_of firsts s = get_or firsts (symbol_number s) none_yet

-- what stands first, and what is behind it where that can be empty
abbrev pub then_first : First → First → First
then_first a b = if a.empty then record { tokens = bit_or a.tokens b.tokens; empty = b.empty } else a

abbrev pub begins : List First → List Item → First
begins firsts [] = record { tokens = 0; empty = true }
begins firsts (token k ∷ rest) = record { tokens = 2 ^ kind_number k; empty = false }
begins firsts (symbol s ∷ rest) = then_first (first_of firsts s) (begins firsts rest)
begins firsts (counted s ∷ rest) = then_first (first_of firsts s) (begins firsts rest)
begins firsts (build f ∷ rest) = begins firsts rest

-- what begins an alternative begins its symbol
abbrev pub or_first : First → First → First
or_first a b = record { tokens = bit_or a.tokens b.tokens; empty = if a.empty then true else b.empty }

abbrev pub first_round : List Rule → List First → List First
first_round [] firsts = firsts
first_round (rule s items ∷ rules) firsts =
    let before = first_round rules firsts in
    set before (symbol_number s) (or_first (first_of before s) (begins before items))

abbrev pub first_rounds : ℕ → List First → List First
first_rounds zero firsts = firsts
first_rounds (suc n) firsts = first_rounds n (first_round grammar firsts)

abbrev pub firsts : List First
firsts = first_rounds 4 (replicate 74 none_yet)

-- what begins the rest of a rule follows the symbol before it; where the rest can be empty, so does
-- what follows the rule's own symbol
abbrev pub follows_by : First → ℕ → Symbol → List ℕ → List ℕ
follows_by rest behind s follows =
    set follows (symbol_number s) (bit_or (get_or follows (symbol_number s) 0) (if rest.empty then bit_or rest.tokens behind else rest.tokens))

abbrev pub follow_rule : List First → Symbol → List Item → List ℕ → List ℕ
follow_rule fs left [] follows = follows
follow_rule fs left (token k ∷ rest) follows = follow_rule fs left rest follows
follow_rule fs left (symbol s ∷ rest) follows = follow_rule fs left rest (follows_by (begins fs rest) (get_or follows (symbol_number left) 0) s follows)
follow_rule fs left (counted s ∷ rest) follows = follow_rule fs left rest (follows_by (begins fs rest) (get_or follows (symbol_number left) 0) s follows)
follow_rule fs left (build f ∷ rest) follows = follow_rule fs left rest follows

abbrev pub follow_round : List Rule → List ℕ → List ℕ
follow_round [] follows = follows
follow_round (rule s items ∷ rules) follows = follow_round rules (follow_rule firsts s items follows)

abbrev pub follow_rounds : ℕ → List ℕ → List ℕ
follow_rounds zero follows = follows
follow_rounds (suc n) follows = follow_rounds n (follow_round grammar follows)

abbrev pub follows : List ℕ
follows = follow_rounds 4 (replicate 74 0)

-- the tokens that lead to each rule: those that can begin it, and where it can be empty those that
-- can follow its symbol
abbrev pub leading_tokens : First → ℕ → ℕ
leading_tokens f behind = if f.empty then bit_or f.tokens behind else f.tokens

abbrev pub leading_by : List First → List ℕ → List Rule → List ℕ
leading_by fs gs [] = []
leading_by fs gs (rule s items ∷ rules) = leading_tokens (begins fs items) (get_or gs (symbol_number s) 0) ∷ leading_by fs gs rules

-- the numbers of a symbol's rules, counted from n
abbrev pub rules_of : Symbol → ℕ → List Rule → List ℕ
rules_of s n [] = []
rules_of s n (rule t items ∷ rules) = if nat_eq (symbol_number s) (symbol_number t) then n ∷ rules_of s (n + 1) rules else rules_of s (n + 1) rules

-- The table is the grammar's. No rule has the number 0.
pub record TableIsTheGrammars : Type 0 where
  pub first_done : first_round grammar firsts ≡ firsts
  pub follow_done : follow_round grammar follows ≡ follows
  pub leading_is : leading ≡ 0 ∷ leading_by firsts follows grammar
  pub alternatives_are : (s : Symbol) → alternatives_of s ≡ rules_of s 1 grammar
