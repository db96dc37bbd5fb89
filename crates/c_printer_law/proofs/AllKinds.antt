-- What holds of each kind of token, by trying all of them.
use Rattle.std.proofs.Common.{◌≡◌, ℕ, zero, suc, ◌<◌, List, [], ◌∷◌, Bool, true, false, if◌then◌else◌, Option, Some, None, nat_eq, get_or, length, refl, ap, subst, arith, rules}
use Rattle.std.proofs.lemmas.Bool.Decides.{nat_tests}
use Rattle.std.specs.List.{list_all}
use Rattle.pt_base.proofs.Booleans.{and_parts}
use Rattle.c_lexer.specs.declared.token.TokenKind.{TokenKind}
use Rattle.c_lexer.specs.declared.token.TokenKind.TheVariants as k
use Rattle.c_grammar.specs.declared.symbol.Symbol.{Symbol}
use Rattle.c_grammar.specs.Numbers.{kind_number}
use Rattle.c_grammar.specs.Table.{row_of}

abbrev all_kinds : List TokenKind
all_kinds = k.Identifier ∷ k.Number ∷ k.Character ∷ k.Auto ∷ k.Break ∷ k.Case ∷ k.Char ∷ k.Const ∷ k.Continue ∷ k.Default ∷ k.Do ∷ k.Double ∷ k.Else ∷ k.Enum ∷ k.Extern ∷ k.Float ∷ k.For ∷ k.Goto ∷ k.If ∷ k.Inline ∷ k.Int ∷ k.Long ∷ k.Register ∷ k.Restrict ∷ k.Return ∷ k.Short ∷ k.Signed ∷ k.Sizeof ∷ k.Static ∷ k.Struct ∷ k.Switch ∷ k.Typedef ∷ k.Union ∷ k.Unsigned ∷ k.Void ∷ k.Volatile ∷ k.While ∷ k.Bool ∷ k.Complex ∷ k.Imaginary ∷ k.Attribute ∷ k.OpenBracket ∷ k.CloseBracket ∷ k.OpenParen ∷ k.CloseParen ∷ k.OpenBrace ∷ k.CloseBrace ∷ k.Dot ∷ k.Arrow ∷ k.PlusPlus ∷ k.MinusMinus ∷ k.Amp ∷ k.Star ∷ k.Plus ∷ k.Minus ∷ k.Tilde ∷ k.Bang ∷ k.Slash ∷ k.Percent ∷ k.ShiftLeft ∷ k.ShiftRight ∷ k.Less ∷ k.Greater ∷ k.LessEqual ∷ k.GreaterEqual ∷ k.EqualEqual ∷ k.BangEqual ∷ k.Caret ∷ k.Pipe ∷ k.AmpAmp ∷ k.PipePipe ∷ k.Question ∷ k.Colon ∷ k.Semicolon ∷ k.Equal ∷ k.StarEqual ∷ k.SlashEqual ∷ k.PercentEqual ∷ k.PlusEqual ∷ k.MinusEqual ∷ k.ShiftLeftEqual ∷ k.ShiftRightEqual ∷ k.AmpEqual ∷ k.CaretEqual ∷ k.PipeEqual ∷ k.Comma ∷ []

kind_at_number : (kind : TokenKind) → get_or all_kinds (kind_number kind) k.Identifier ≡ kind
kind_at_number k.Identifier = refl
kind_at_number kind = refl

number_is_small : (kind : TokenKind) → kind_number kind < 86
number_is_small k.Identifier = omega arith
number_is_small kind = omega arith

holds_at : {A : Type 0} (test : A → Bool) (xs : List A) (i : ℕ) (other : A) → list_all test xs ≡ true → i < length xs → test (get_or xs i other) ≡ true
holds_at test [] i other all lt = absurd (omega arith)
holds_at test (x ∷ xs) zero other all lt = (and_parts (test x) (list_all test xs) all).0
holds_at test (x ∷ xs) (suc i) other all lt = holds_at test xs i other (and_parts (test x) (list_all test xs) all).1 (omega arith)

-- a test that all kinds pass
pub everywhere : (test : TokenKind → Bool) → list_all test all_kinds ≡ true → (kind : TokenKind) → test kind ≡ true
everywhere test all kind = subst (λ x. test x ≡ true) (kind_at_number kind) (holds_at test all_kinds (kind_number kind) k.Identifier all (number_is_small kind))

abbrev pub is_rule : ℕ → Option ℕ → Bool
is_rule n None = false
is_rule n (Some r) = nat_eq r n

-- at each kind that passes the test the symbol has this rule
abbrev pub leads : (TokenKind → Bool) → Symbol → ℕ → Bool
leads test s n = list_all (λ kind. if test kind then is_rule n (row_of s kind) else true) all_kinds

rule_is : (n : ℕ) (o : Option ℕ) → is_rule n o ≡ true → o ≡ Some n
rule_is n None h = cc
rule_is n (Some r) h = let e : r ≡ n = search (rules, nat_tests) in ap (λ x. Some x) e

pub row_by : (test : TokenKind → Bool) (s : Symbol) (n : ℕ) → leads test s n ≡ true → (kind : TokenKind) → test kind ≡ true → row_of s kind ≡ Some n
row_by test s n all kind h = rule_is n (row_of s kind) (go (test kind) (everywhere (λ x. if test x then is_rule n (row_of s x) else true) all kind) h)
  where
    go : (b : Bool) → (if b then is_rule n (row_of s kind) else true) ≡ true → b ≡ true → is_rule n (row_of s kind) ≡ true
    go true e h = e
    go false e h = cc

-- a test that implies another
abbrev pub implies : (TokenKind → Bool) → (TokenKind → Bool) → Bool
implies a b = list_all (λ kind. if a kind then b kind else true) all_kinds

pub implied : (a b : TokenKind → Bool) → implies a b ≡ true → (kind : TokenKind) → a kind ≡ true → b kind ≡ true
implied a b all kind h = go (a kind) (everywhere (λ x. if a x then b x else true) all kind) h
  where
    go : (c : Bool) → (if c then b kind else true) ≡ true → c ≡ true → b kind ≡ true
    go true e h = e
    go false e h = cc
