-- Each derivation comes to an outcome: no symbol begins with itself before a token is taken.
use Rattle.std.proofs.Common.{◌≡◌, ℕ, zero, suc, ◌+◌, ◌-◌, ◌<◌, ◌≤◌, List, [], ◌∷◌, ◌++◌, Option, None, Some, Bool, true, false, ◌&&◌, cond, nat_lt, if◌then◌else◌, slice_get, length, map, refl, sym, ap, ◌∙◌, inl, inr, arith, rules}
use Rattle.std.proofs.lemmas.Bool.Decides.{nat_tests}
use Rattle.pt_base.specs.declared.span.Span.{Span}
use Rattle.pt_base.proofs.Booleans.{and_true_first, and_true_second}
use Rattle.c_lexer.specs.declared.token.Token.{Token}
use Rattle.c_lexer.specs.declared.token.TokenKind.{TokenKind}
use Rattle.c_grammar.specs.declared.symbol.Symbol.{Symbol}
use Rattle.c_grammar.specs.declared.symbol.Symbol.TheVariants as s
use Rattle.c_grammar.specs.Item.{Item, token, symbol, counted, build}
use Rattle.c_grammar.specs.Part.{Part, items}
use Rattle.c_grammar.specs.Table.{alternatives_of}
use Rattle.c_grammar.specs.Machine.{Entry, takes, gives, opens, closes, builds, placed, right_side, wanted, Outcome, fault_at, too_deep, unfinished, rule_at, accepted, allows, stretch, run, on_rule, on_token}
use Rattle.c_parser.specs.Parses.{IsOneOf}
use Rattle.c_parser.specs.Nesting.{SomeOutcome}
use Rattle.c_parser.proofs.Steps.{among}

-- the symbol may give way to nothing
abbrev empties : Symbol → Bool
empties s.TranslationUnit = true
empties s.MoreSpecs = true
empties s.MoreNames = true
empties s.StructBody = true
empties s.Fields = true
empties s.MoreDeclarators = true
empties s.Star = true
empties s.Suffix = true
empties s.Size = true
empties s.Init = true
empties s.InitItems = true
empties s.InitNext = true
empties s.More = true
empties s.Params = true
empties s.MoreParams = true
empties s.Name = true
empties s.Items = true
empties s.ElsePart = true
empties s.ForStep = true
empties s.Opt = true
empties s.AssignTail = true
empties s.CondTail = true
empties s.Postfixes = true
empties s.Arguments = true
empties s.MoreArguments = true
empties s.LogicalOrTail = true
empties s.LogicalAndTail = true
empties s.BitOrTail = true
empties s.BitXorTail = true
empties s.BitAndTail = true
empties s.EqualityTail = true
empties s.RelationalTail = true
empties s.ShiftTail = true
empties s.AdditiveTail = true
empties s.MultiplicativeTail = true
empties s.Sections = true
empties s.SectionItems = true
empties x = false

-- above the rank of each symbol that it can begin with
abbrev rank : Symbol → ℕ
rank s.TranslationUnit = 4
rank s.External = 3
rank s.ExternalRest = 2
rank s.ExternalTail = 1
rank s.FunctionEnd = 1
rank s.Specs = 2
rank s.MoreSpecs = 2
rank s.Spec = 1
rank s.Fields = 4
rank s.Field = 3
rank s.Declarator = 1
rank s.InitValue = 14
rank s.InitNext = 14
rank s.Params = 4
rank s.Param = 3
rank s.Items = 16
rank s.Item = 15
rank s.Declaration = 3
rank s.DeclarationRest = 2
rank s.Statement = 14
rank s.ForInit = 14
rank s.ForStep = 14
rank s.Opt = 14
rank s.Expr = 13
rank s.AssignTail = 1
rank s.Cond = 12
rank s.Unary = 1
rank s.Paren = 14
rank s.Arguments = 14
rank s.LogicalOr = 11
rank s.LogicalAnd = 10
rank s.BitOr = 9
rank s.BitXor = 8
rank s.BitAnd = 7
rank s.Equality = 6
rank s.Relational = 5
rank s.Shift = 4
rank s.Additive = 3
rank s.Multiplicative = 2
rank s.Sections = 2
rank s.Section = 1
rank s.SectionItems = 15
rank x = 0

-- up to the first token the symbols have ranks below this one, and all may be nothing only if the whole may
abbrev is_ranked : ℕ → Bool → List Item → Bool
is_ranked top empty [] = empty
is_ranked top empty (token k ∷ want) = true
is_ranked top empty (symbol y ∷ want) = nat_lt (rank y) top && (if empties y then is_ranked top empty want else true)
is_ranked top empty (counted y ∷ want) = nat_lt (rank y) top && (if empties y then is_ranked top empty want else true)
is_ranked top empty (build f ∷ want) = is_ranked top empty want

abbrev all_ranked : ℕ → Bool → List ℕ → Bool
all_ranked top empty [] = true
all_ranked top empty (n ∷ ns) = is_ranked top empty (right_side n) && all_ranked top empty ns

ranked : (x : Symbol) → all_ranked (rank x) (empties x) (alternatives_of x) ≡ true
ranked s.TranslationUnit = refl
ranked s.External = refl
ranked s.ExternalRest = refl
ranked s.ExternalTail = refl
ranked s.FunctionEnd = refl
ranked s.Specs = refl
ranked s.MoreSpecs = refl
ranked s.Spec = refl
ranked s.Attribute = refl
ranked s.MoreNames = refl
ranked s.Struct = refl
ranked s.StructBody = refl
ranked s.Fields = refl
ranked s.Field = refl
ranked s.MoreDeclarators = refl
ranked s.Declarator = refl
ranked s.Star = refl
ranked s.Suffix = refl
ranked s.Size = refl
ranked s.Init = refl
ranked s.InitValue = refl
ranked s.InitItems = refl
ranked s.InitNext = refl
ranked s.More = refl
ranked s.Params = refl
ranked s.MoreParams = refl
ranked s.Param = refl
ranked s.Name = refl
ranked s.Block = refl
ranked s.Items = refl
ranked s.Item = refl
ranked s.Declaration = refl
ranked s.DeclarationRest = refl
ranked s.Statement = refl
ranked s.ElsePart = refl
ranked s.ForInit = refl
ranked s.ForStep = refl
ranked s.Opt = refl
ranked s.Expr = refl
ranked s.AssignTail = refl
ranked s.Cond = refl
ranked s.CondTail = refl
ranked s.Unary = refl
ranked s.Paren = refl
ranked s.Postfixes = refl
ranked s.Arguments = refl
ranked s.MoreArguments = refl
ranked s.Primary = refl
ranked s.AssignOp = refl
ranked s.UnaryOp = refl
ranked s.LogicalOr = refl
ranked s.LogicalOrTail = refl
ranked s.LogicalAnd = refl
ranked s.LogicalAndTail = refl
ranked s.BitOr = refl
ranked s.BitOrTail = refl
ranked s.BitXor = refl
ranked s.BitXorTail = refl
ranked s.BitAnd = refl
ranked s.BitAndTail = refl
ranked s.Equality = refl
ranked s.EqualityTail = refl
ranked s.Relational = refl
ranked s.RelationalTail = refl
ranked s.Shift = refl
ranked s.ShiftTail = refl
ranked s.Additive = refl
ranked s.AdditiveTail = refl
ranked s.Multiplicative = refl
ranked s.MultiplicativeTail = refl
ranked s.Sections = refl
ranked s.Section = refl
ranked s.Label = refl
ranked s.SectionItems = refl

then_so : (a b : Bool) → cond a b true ≡ true → a ≡ true → b ≡ true
then_so true b h e = h
then_so false b h e = cc

each_ranked : (top : ℕ) (empty : Bool) (ns : List ℕ) (n : ℕ) → all_ranked top empty ns ≡ true → IsOneOf n ns → is_ranked top empty (right_side n) ≡ true
each_ranked top empty [] n all one = absurd one
each_ranked top empty (r ∷ rs) n all (inl e) = ap (λ m. is_ranked top empty (right_side m)) e ∙ and_true_first (is_ranked top empty (right_side r)) (all_ranked top empty rs) all
each_ranked top empty (r ∷ rs) n all (inr one) = each_ranked top empty rs n (and_true_second (is_ranked top empty (right_side r)) (all_ranked top empty rs) all) one

below : (y : Symbol) (top : ℕ) → nat_lt (rank y) top ≡ true → rank y < top
below y top h = search (rules, nat_tests)

-- a token that is taken stands in the text
inside : (tokens : List Token) (k : TokenKind) (at : ℕ) (new : List Part) → accepted k (slice_get tokens at) ≡ Some new → at < length tokens
inside [] k at new e = absurd (cc)
inside (t ∷ ts) k zero new e = omega arith
inside (t ∷ ts) k (suc at) new e = let h = inside ts k at new e in omega (arith, h)

module _ (limit : Option ℕ) (tokens : List Token) where
  -- within some number of steps there is an outcome, whatever is open and built
  abbrev Halts : List Entry → ℕ → Type 0
  Halts stack at = (depth : ℕ) (parts : List Part) → (n : ℕ) × (run limit tokens n stack at depth parts ≡ unfinished → ⊥)

  -- and so it is for each stack behind the next token
  abbrev Later : ℕ → Type 0
  Later at = at < length tokens → (stack : List Entry) → Halts stack (at + 1)

  takes_halts : (k : TokenKind) (rest : List Entry) (at : ℕ) → Later at → Halts (takes k ∷ rest) at
  takes_halts k rest at later depth parts = go (accepted k (slice_get tokens at)) refl
    where
      go : (a : Option (List Part)) → accepted k (slice_get tokens at) ≡ a → (n : ℕ) × (run limit tokens n (takes k ∷ rest) at depth parts ≡ unfinished → ⊥)
      go None e = (1, λ h. let w : fault_at at ≡ unfinished = sym (ap (λ a. on_token a at (λ new. run limit tokens 0 rest (at + 1) depth (new ++ parts))) e) ∙ h in cc)
      go (Some new) e =
          let x = later (inside tokens k at new e) rest depth (new ++ parts) in
          (suc x.0, λ h. x.1 (sym (ap (λ a. on_token a at (λ new. run limit tokens x.0 rest (at + 1) depth (new ++ parts))) e) ∙ h))

  closes_halts : (rest : List Entry) (at : ℕ) → Halts rest at → Halts (closes ∷ rest) at
  closes_halts rest at then_on depth parts = let x = then_on (depth - 1) parts in (suc x.0, x.1)

  builds_halts : (from : ℕ) (f : Span → List Part → List Part) (rest : List Entry) (at : ℕ) → Halts rest at → Halts (builds from f ∷ rest) at
  builds_halts from f rest at then_on depth parts = let x = then_on depth (f (stretch tokens from at) parts) in (suc x.0, x.1)

  opens_halts : (y : Symbol) (rest : List Entry) (at : ℕ) → Halts (gives y ∷ closes ∷ rest) at → Halts (opens y ∷ rest) at
  opens_halts y rest at then_on depth parts = go (allows limit depth) refl
    where
      go : (b : Bool) → allows limit depth ≡ b → (n : ℕ) × (run limit tokens n (opens y ∷ rest) at depth parts ≡ unfinished → ⊥)
      go true e =
          let x = then_on (depth + 1) parts in
          (suc x.0, λ h. x.1 (sym (ap (λ b. if b then run limit tokens x.0 (gives y ∷ closes ∷ rest) at (depth + 1) parts else too_deep at) e) ∙ h))
      go false e = (1, λ h. let w : too_deep at ≡ unfinished = sym (ap (λ b. if b then run limit tokens 0 (gives y ∷ closes ∷ rest) at (depth + 1) parts else too_deep at) e) ∙ h in cc)

  -- what a rule wants, where the symbols of lower ranks come to an outcome
  items_halt : (at from top : ℕ) (empty : Bool) (rest : List Entry) → Later at → ((y : Symbol) (rest : List Entry) → rank y < top → (empties y ≡ true → Halts rest at) → Halts (gives y ∷ rest) at) → (empty ≡ true → Halts rest at) → (want : List Item) → is_ranked top empty want ≡ true → Halts (map (placed from) want ++ rest) at
  items_halt at from top empty rest later lower then_on [] h = then_on h
  items_halt at from top empty rest later lower then_on (token k ∷ want) h = takes_halts k (map (placed from) want ++ rest) at later
  items_halt at from top empty rest later lower then_on (symbol y ∷ want) h =
      let low = and_true_first (nat_lt (rank y) top) (cond (empties y) (is_ranked top empty want) true) h in
      let more = and_true_second (nat_lt (rank y) top) (cond (empties y) (is_ranked top empty want) true) h in
      lower y (map (placed from) want ++ rest) (below y top low) (λ e. items_halt at from top empty rest later lower then_on want (then_so (empties y) (is_ranked top empty want) more e))
  items_halt at from top empty rest later lower then_on (counted y ∷ want) h =
      let low = and_true_first (nat_lt (rank y) top) (cond (empties y) (is_ranked top empty want) true) h in
      let more = and_true_second (nat_lt (rank y) top) (cond (empties y) (is_ranked top empty want) true) h in
      opens_halts y (map (placed from) want ++ rest) at (lower y (closes ∷ map (placed from) want ++ rest) (below y top low) (λ e. closes_halts (map (placed from) want ++ rest) at (items_halt at from top empty rest later lower then_on want (then_so (empties y) (is_ranked top empty want) more e))))
  items_halt at from top empty rest later lower then_on (build f ∷ want) h = builds_halts from f (map (placed from) want ++ rest) at (items_halt at from top empty rest later lower then_on want h)

  gives_halts : (r : ℕ) (at : ℕ) → Later at → (x : Symbol) (rest : List Entry) → rank x < r → (empties x ≡ true → Halts rest at) → Halts (gives x ∷ rest) at
  gives_halts zero at later x rest low then_on = absurd (omega arith)
  gives_halts (suc r) at later x rest low then_on = λ depth parts. go depth parts (λ y rest lower. gives_halts r at later y rest (omega (arith, low, lower))) (rule_at x (slice_get tokens at)) refl
    where
      go : (depth : ℕ) (parts : List Part) → ((y : Symbol) (rest : List Entry) → rank y < rank x → (empties y ≡ true → Halts rest at) → Halts (gives y ∷ rest) at) → (o : Option ℕ) → rule_at x (slice_get tokens at) ≡ o → (n : ℕ) × (run limit tokens n (gives x ∷ rest) at depth parts ≡ unfinished → ⊥)
      go depth parts lower None e = (1, λ h. let w : fault_at at ≡ unfinished = sym (ap (λ a. on_rule a at (λ n. run limit tokens 0 (wanted at n ++ rest) at depth parts)) e) ∙ h in cc)
      go depth parts lower (Some n) e =
          let fine = each_ranked (rank x) (empties x) (alternatives_of x) n (ranked x) (among tokens x at n e) in
          let y = items_halt at at (rank x) (empties x) rest later lower then_on (right_side n) fine depth parts in
          (suc y.0, λ h. y.1 (sym (ap (λ a. on_rule a at (λ n. run limit tokens y.0 (wanted at n ++ rest) at depth parts)) e) ∙ h))

  stack_halts : (at : ℕ) → Later at → (stack : List Entry) → Halts stack at
  stack_halts at later [] = λ depth parts. (1, λ h. cc)
  stack_halts at later (takes k ∷ rest) = takes_halts k rest at later
  stack_halts at later (gives x ∷ rest) = gives_halts (suc (rank x)) at later x rest (omega arith) (λ e. stack_halts at later rest)
  stack_halts at later (opens x ∷ rest) = opens_halts x rest at (gives_halts (suc (rank x)) at later x (closes ∷ rest) (omega arith) (λ e. closes_halts rest at (stack_halts at later rest)))
  stack_halts at later (closes ∷ rest) = closes_halts rest at (stack_halts at later rest)
  stack_halts at later (builds from f ∷ rest) = builds_halts from f rest at (stack_halts at later rest)

  all_halt : (left at : ℕ) → length tokens ≤ at + left → (stack : List Entry) → Halts stack at
  all_halt zero at few = stack_halts at (λ lt. absurd (omega arith))
  all_halt (suc left) at few = stack_halts at (λ lt. all_halt left (at + 1) (omega arith))

pub some_outcome : SomeOutcome
some_outcome limit tokens = all_halt limit tokens (length tokens) 0 (omega arith) (gives s.TranslationUnit ∷ []) 0 (items [] ∷ [])
