-- The levels' rows: an operand begins all levels or none, and where a level's operands end.
use Rattle.std.proofs.Common.{◌≡◌, ℕ, zero, suc, ◌+◌, ◌-◌, ◌<◌, ◌≤◌, List, [], ◌∷◌, ◌++◌, Option, Some, None, refl, sym, rules, ap, ◌∙◌, subst, arith, Bool, true, false, ◌⊎◌, inl, inr, nat_eq, slice_get, if◌then◌else◌, cond, option_map}
use Rattle.std.proofs.lemmas.Bool.Decides.{nat_tests}
use Rattle.c_lexer.specs.declared.token.Token.{Token}
use Rattle.c_lexer.specs.declared.token.TokenKind.{TokenKind}
use Rattle.c_lexer.specs.declared.token.TokenKind.TheVariants as k
use Rattle.pt_tree.specs.ExpressionTree.{ExprTree}
use Rattle.c_grammar.specs.declared.symbol.Symbol.TheVariants as s
use Rattle.c_grammar.specs.Part.{Part, expr}
use Rattle.c_grammar.specs.Table.{leads_to, row_of}
use Rattle.c_grammar.specs.Builds.{no_links, chain_of}
use Rattle.c_grammar.specs.Machine.{Entry, gives, builds, Outcome, rule_at}
use Rattle.c_parser.specs.declared.operators.Level.{Level}
use Rattle.c_parser.specs.declared.operators.Level.TheVariants as l
use Rattle.c_parser.specs.Climbing.{level_at, behind, Descends, EndsBelow, end_of_level, ended_at}
use Rattle.c_parser.specs.Levels.{symbol_of, tail_of, number_of, EntersEnd}
use Rattle.c_parser.specs.declared.error.ParseError.{ParseError}
use Rattle.c_parser.specs.Parses.{Comes, Turns, Fails, row_at}
use Rattle.c_parser.proofs.Steps.{entered, builds_on}

-- the rule of a level
abbrev pub rule_of : Level → ℕ
rule_of l.LogicalOr = 131
rule_of l.LogicalAnd = 134
rule_of l.BitOr = 137
rule_of l.BitXor = 140
rule_of l.BitAnd = 143
rule_of l.Equality = 146
rule_of l.Relational = 150
rule_of l.Shift = 156
rule_of l.Additive = 160
rule_of l.Multiplicative = 164

abbrev by_bit : Bool → ℕ → Option ℕ
by_bit b r = cond b (Some r) None

at_kind : (level : Level) (t : Token) → rule_at (symbol_of level) (Some t) ≡ option_map (λ _. rule_of level) (rule_at s.Multiplicative (Some t))
at_kind level t = each level
  where
    pick : (b : Bool) (r : ℕ) → by_bit b r ≡ option_map (λ _. r) (by_bit b 164)
    pick true r = refl
    pick false r = refl

    each : (level : Level) → rule_at (symbol_of level) (Some t) ≡ option_map (λ _. rule_of level) (rule_at s.Multiplicative (Some t))
    each l.LogicalOr = pick (leads_to t.kind 164) 131
    each l.LogicalAnd = pick (leads_to t.kind 164) 134
    each l.BitOr = pick (leads_to t.kind 164) 137
    each l.BitXor = pick (leads_to t.kind 164) 140
    each l.BitAnd = pick (leads_to t.kind 164) 143
    each l.Equality = pick (leads_to t.kind 164) 146
    each l.Relational = pick (leads_to t.kind 164) 150
    each l.Shift = pick (leads_to t.kind 164) 156
    each l.Additive = pick (leads_to t.kind 164) 160
    each l.Multiplicative = pick (leads_to t.kind 164) 164

at_end : (level : Level) → rule_at (symbol_of level) None ≡ None
at_end l.LogicalOr = refl
at_end l.LogicalAnd = refl
at_end l.BitOr = refl
at_end l.BitXor = refl
at_end l.BitAnd = refl
at_end l.Equality = refl
at_end l.Relational = refl
at_end l.Shift = refl
at_end l.Additive = refl
at_end l.Multiplicative = refl

-- an operand begins all levels or none
pub level_row : (tokens : List Token) (at : ℕ) (level : Level) → row_at tokens (symbol_of level) at ≡ option_map (λ _. rule_of level) (row_at tokens s.Multiplicative at)
level_row tokens at level = go (slice_get tokens at)
  where
    go : (o : Option Token) → rule_at (symbol_of level) o ≡ option_map (λ _. rule_of level) (rule_at s.Multiplicative o)
    go None = at_end level
    go (Some t) = at_kind level t

-- down to an operand, level by level
down : (tokens : List Token) (at : ℕ) → ((level : Level) → row_at tokens (symbol_of level) at ≡ Some (rule_of level)) → (level : Level) → Descends tokens level at
down tokens at rows level = each level
  where
    multiplicative : Descends tokens l.Multiplicative at
    multiplicative = record { from = λ depth rest parts o c. (entered tokens s.Multiplicative at 164 (rows l.Multiplicative)).from depth rest parts o c }

    additive : Descends tokens l.Additive at
    additive = record { from = λ depth rest parts o c. (entered tokens s.Additive at 160 (rows l.Additive)).from depth rest parts o (multiplicative.from depth _ parts o c) }

    shift : Descends tokens l.Shift at
    shift = record { from = λ depth rest parts o c. (entered tokens s.Shift at 156 (rows l.Shift)).from depth rest parts o (additive.from depth _ parts o c) }

    relational : Descends tokens l.Relational at
    relational = record { from = λ depth rest parts o c. (entered tokens s.Relational at 150 (rows l.Relational)).from depth rest parts o (shift.from depth _ parts o c) }

    equality : Descends tokens l.Equality at
    equality = record { from = λ depth rest parts o c. (entered tokens s.Equality at 146 (rows l.Equality)).from depth rest parts o (relational.from depth _ parts o c) }

    bit_and : Descends tokens l.BitAnd at
    bit_and = record { from = λ depth rest parts o c. (entered tokens s.BitAnd at 143 (rows l.BitAnd)).from depth rest parts o (equality.from depth _ parts o c) }

    bit_xor : Descends tokens l.BitXor at
    bit_xor = record { from = λ depth rest parts o c. (entered tokens s.BitXor at 140 (rows l.BitXor)).from depth rest parts o (bit_and.from depth _ parts o c) }

    bit_or : Descends tokens l.BitOr at
    bit_or = record { from = λ depth rest parts o c. (entered tokens s.BitOr at 137 (rows l.BitOr)).from depth rest parts o (bit_xor.from depth _ parts o c) }

    logical_and : Descends tokens l.LogicalAnd at
    logical_and = record { from = λ depth rest parts o c. (entered tokens s.LogicalAnd at 134 (rows l.LogicalAnd)).from depth rest parts o (bit_or.from depth _ parts o c) }

    logical_or : Descends tokens l.LogicalOr at
    logical_or = record { from = λ depth rest parts o c. (entered tokens s.LogicalOr at 131 (rows l.LogicalOr)).from depth rest parts o (logical_and.from depth _ parts o c) }

    each : (level : Level) → Descends tokens level at
    each l.LogicalOr = logical_or
    each l.LogicalAnd = logical_and
    each l.BitOr = bit_or
    each l.BitXor = bit_xor
    each l.BitAnd = bit_and
    each l.Equality = equality
    each l.Relational = relational
    each l.Shift = shift
    each l.Additive = additive
    each l.Multiplicative = multiplicative

pub descends : (tokens : List Token) (level : Level) (at n : ℕ) → row_at tokens s.Multiplicative at ≡ Some n → Descends tokens level at
descends tokens level at n h = down tokens at (λ l. level_row tokens at l ∙ ap (option_map (λ _. rule_of l)) h) level

pub no_level : (tokens : List Token) (level : Level) (at : ℕ) → row_at tokens s.Multiplicative at ≡ None → row_at tokens (symbol_of level) at ≡ None
no_level tokens level at h = level_row tokens at level ∙ ap (option_map (λ _. rule_of level)) h

-- where the operands of a level end
pub level_end : (tokens : List Token) (level : Level) (at : ℕ) → row_at tokens (tail_of level) at ≡ Some (end_of_level level) → EntersEnd tokens level at
level_end tokens l.LogicalOr at h = record { from = (entered tokens s.LogicalOrTail at 133 h).from }
level_end tokens l.LogicalAnd at h = record { from = (entered tokens s.LogicalAndTail at 136 h).from }
level_end tokens l.BitOr at h = record { from = (entered tokens s.BitOrTail at 139 h).from }
level_end tokens l.BitXor at h = record { from = (entered tokens s.BitXorTail at 142 h).from }
level_end tokens l.BitAnd at h = record { from = (entered tokens s.BitAndTail at 145 h).from }
level_end tokens l.Equality at h = record { from = (entered tokens s.EqualityTail at 149 h).from }
level_end tokens l.Relational at h = record { from = (entered tokens s.RelationalTail at 155 h).from }
level_end tokens l.Shift at h = record { from = (entered tokens s.ShiftTail at 159 h).from }
level_end tokens l.Additive at h = record { from = (entered tokens s.AdditiveTail at 163 h).from }
level_end tokens l.Multiplicative at h = record { from = (entered tokens s.MultiplicativeTail at 168 h).from }

-- the count of a token's levels that end is right
abbrev is_end : Option ℕ → ℕ → Bool
is_end None n = false
is_end (Some r) n = nat_eq r n

abbrev all_end : TokenKind → ℕ → Bool
all_end kind zero = true
all_end kind (suc n) = if is_end (row_of (tail_of (level_at n)) kind) (end_of_level (level_at n)) then all_end kind n else false

counted : (kind : TokenKind) → all_end kind (ended_at kind) ≡ true
counted k.Identifier = refl
counted k.Number = refl
counted k.Character = refl
counted k.Auto = refl
counted k.Break = refl
counted k.Case = refl
counted k.Char = refl
counted k.Const = refl
counted k.Continue = refl
counted k.Default = refl
counted k.Do = refl
counted k.Double = refl
counted k.Else = refl
counted k.Enum = refl
counted k.Extern = refl
counted k.Float = refl
counted k.For = refl
counted k.Goto = refl
counted k.If = refl
counted k.Inline = refl
counted k.Int = refl
counted k.Long = refl
counted k.Register = refl
counted k.Restrict = refl
counted k.Return = refl
counted k.Short = refl
counted k.Signed = refl
counted k.Sizeof = refl
counted k.Static = refl
counted k.Struct = refl
counted k.Switch = refl
counted k.Typedef = refl
counted k.Union = refl
counted k.Unsigned = refl
counted k.Void = refl
counted k.Volatile = refl
counted k.While = refl
counted k.Bool = refl
counted k.Complex = refl
counted k.Imaginary = refl
counted k.Attribute = refl
counted k.OpenBracket = refl
counted k.CloseBracket = refl
counted k.OpenParen = refl
counted k.CloseParen = refl
counted k.OpenBrace = refl
counted k.CloseBrace = refl
counted k.Dot = refl
counted k.Arrow = refl
counted k.PlusPlus = refl
counted k.MinusMinus = refl
counted k.Amp = refl
counted k.Star = refl
counted k.Plus = refl
counted k.Minus = refl
counted k.Tilde = refl
counted k.Bang = refl
counted k.Slash = refl
counted k.Percent = refl
counted k.ShiftLeft = refl
counted k.ShiftRight = refl
counted k.Less = refl
counted k.Greater = refl
counted k.LessEqual = refl
counted k.GreaterEqual = refl
counted k.EqualEqual = refl
counted k.BangEqual = refl
counted k.Caret = refl
counted k.Pipe = refl
counted k.AmpAmp = refl
counted k.PipePipe = refl
counted k.Question = refl
counted k.Colon = refl
counted k.Semicolon = refl
counted k.Equal = refl
counted k.StarEqual = refl
counted k.SlashEqual = refl
counted k.PercentEqual = refl
counted k.PlusEqual = refl
counted k.MinusEqual = refl
counted k.ShiftLeftEqual = refl
counted k.ShiftRightEqual = refl
counted k.AmpEqual = refl
counted k.CaretEqual = refl
counted k.PipeEqual = refl
counted k.Comma = refl

end_is : (o : Option ℕ) (n : ℕ) → is_end o n ≡ true → o ≡ Some n
end_is None n h = cc
end_is (Some r) n h = ap (λ x. Some x) (search (rules, nat_tests))

both : (a b : Bool) → (if a then b else false) ≡ true → (a ≡ true) × (b ≡ true)
both true b h = (refl, h)
both false b h = cc

each_ends : (kind : TokenKind) (n position : ℕ) → all_end kind n ≡ true → position < n → row_of (tail_of (level_at position)) kind ≡ Some (end_of_level (level_at position))
each_ends kind zero position h lt = absurd (omega (arith, lt))
each_ends kind (suc n) position h lt = go (nat_eq position n) refl (λ less. each_ends kind n position now.0 less)
  where
    now : (all_end kind n ≡ true) × (row_of (tail_of (level_at n)) kind ≡ Some (end_of_level (level_at n)))
    now = let parts : (is_end (row_of (tail_of (level_at n)) kind) (end_of_level (level_at n)) ≡ true) × (all_end kind n ≡ true) = both _ _ h in (parts.1, end_is _ _ parts.0)

    go : (b : Bool) → nat_eq position n ≡ b → (position < n → row_of (tail_of (level_at position)) kind ≡ Some (end_of_level (level_at position))) → row_of (tail_of (level_at position)) kind ≡ Some (end_of_level (level_at position))
    go true e rest = let same : n ≡ position = search (rules, nat_tests) in subst (λ p. row_of (tail_of (level_at p)) kind ≡ Some (end_of_level (level_at p))) same now.1
    go false e rest = let less : position < n = grind (arith, nat_tests) in rest less

pub ends_below : (tokens : List Token) (at : ℕ) (t : Token) → slice_get tokens at ≡ Some t → EndsBelow tokens at (ended_at t.kind)
ends_below tokens at t h position lt = ap (rule_at (tail_of (level_at position))) h ∙ each_ends t.kind (ended_at t.kind) position (counted t.kind) lt

-- a level of no more operands is what stands before it
pub skipped : (tokens : List Token) (from at depth n position : ℕ) (x : ExprTree) (rest : List Entry) (parts : List Part) (o : Outcome) → row_at tokens (tail_of (level_at position)) at ≡ Some (end_of_level (level_at position)) → Comes tokens (behind from n (suc position) ++ rest) at depth (expr x ∷ parts) o → Comes tokens (behind from (suc n) position ++ rest) at depth (expr x ∷ parts) o
skipped tokens from at depth n position x rest parts o h c =
    builds_on tokens from at depth _ _ _ o
    ((level_end tokens (level_at position) at h).from depth _ _ o
    (builds_on tokens from at depth _ _ _ o c))

-- so far: what stands behind an operand at the levels before a place
pub record Climbs (tokens : List Token) (level : Level) (at depth count position next : ℕ) (x : ExprTree) : Type 0 where
  pub from : (rest : List Entry) (parts : List Part) (o : Outcome) → Comes tokens (behind at (count - position) position ++ rest) next depth (expr x ∷ parts) o → Comes tokens (gives (symbol_of level) ∷ rest) at depth parts o

pub climbs_begin : (tokens : List Token) (level : Level) (at depth count next : ℕ) (x : ExprTree) → Descends tokens level at → count ≡ 10 - number_of level → Turns tokens (gives s.Unary ∷ []) at depth [] (expr x ∷ []) next → Climbs tokens level at depth count 0 next x
climbs_begin tokens level at depth count next x down e turns = record { from = λ rest parts o c. down.from depth rest parts o (turns.from _ parts o (subst (λ n. Comes tokens (behind at n 0 ++ rest) next depth (expr x ∷ parts) o) all c)) }
  where
    all : count - 0 ≡ 10 - number_of level
    all = omega (arith, e)

-- one level more
one_more : (tokens : List Token) (at depth count position p next : ℕ) (x : ExprTree) (rest : List Entry) (parts : List Part) (o : Outcome) → position < count → p ≡ position + 1 → Comes tokens (behind at (count - p) p ++ rest) next depth (expr x ∷ parts) o → Comes tokens (behind at (count - suc position) (suc position) ++ rest) next depth (expr x ∷ parts) o
one_more tokens at depth count position p next x rest parts o lt e c = subst (λ q. Comes tokens (behind at (count - q) q ++ rest) next depth (expr x ∷ parts) o) after c
  where
    after : p ≡ suc position
    after = omega (arith, e)

remaining : (tokens : List Token) (at depth count position next : ℕ) (x : ExprTree) (rest : List Entry) (parts : List Part) (o : Outcome) → position < count → Comes tokens (behind at (suc (count - suc position)) position ++ rest) next depth (expr x ∷ parts) o → Comes tokens (behind at (count - position) position ++ rest) next depth (expr x ∷ parts) o
remaining tokens at depth count position next x rest parts o lt c = subst (λ n. Comes tokens (behind at n position ++ rest) next depth (expr x ∷ parts) o) same c
  where
    same : suc (count - suc position) ≡ count - position
    same = omega (arith, lt)

pub climbs_skip : (tokens : List Token) (level : Level) (at depth count position p next : ℕ) (x : ExprTree) → position < count → p ≡ position + 1 → row_at tokens (tail_of (level_at position)) next ≡ Some (end_of_level (level_at position)) → Climbs tokens level at depth count position next x → Climbs tokens level at depth count p next x
climbs_skip tokens level at depth count position p next x lt e row climbs = record { from = λ rest parts o c. climbs.from rest parts o (remaining tokens at depth count position next x rest parts o lt (skipped tokens at next depth (count - suc position) position x rest parts o row (one_more tokens at depth count position p next x rest parts o lt e c))) }

pub climbs_level : (tokens : List Token) (level here : Level) (at depth count position p next after : ℕ) (x y : ExprTree) → here ≡ level_at position → position < count → p ≡ position + 1 → Turns tokens (builds at no_links ∷ gives (tail_of here) ∷ builds at chain_of ∷ []) next depth (expr x ∷ []) (expr y ∷ []) after → Climbs tokens level at depth count position next x → Climbs tokens level at depth count p after y
climbs_level tokens level here at depth count position p next after x y is lt e turns climbs =
    let there : Turns tokens (builds at no_links ∷ gives (tail_of (level_at position)) ∷ builds at chain_of ∷ []) next depth (expr x ∷ []) (expr y ∷ []) after = subst (λ h. Turns tokens (builds at no_links ∷ gives (tail_of h) ∷ builds at chain_of ∷ []) next depth (expr x ∷ []) (expr y ∷ []) after) is turns in
    record { from = λ rest parts o c. climbs.from rest parts o (remaining tokens at depth count position next x rest parts o lt (there.from (behind at (count - suc position) (suc position) ++ rest) parts o (one_more tokens at depth count position p after y rest parts o lt e c))) }

pub climbs_fail : (tokens : List Token) (level here : Level) (at depth count position next : ℕ) (x : ExprTree) (err : ParseError) → here ≡ level_at position → position < count → Fails tokens (builds at no_links ∷ gives (tail_of here) ∷ builds at chain_of ∷ []) next depth (expr x ∷ []) err → Climbs tokens level at depth count position next x → Fails tokens (gives (symbol_of level) ∷ []) at depth [] err
climbs_fail tokens level here at depth count position next x err is lt fails climbs =
    let there : Fails tokens (builds at no_links ∷ gives (tail_of (level_at position)) ∷ builds at chain_of ∷ []) next depth (expr x ∷ []) err = subst (λ h. Fails tokens (builds at no_links ∷ gives (tail_of h) ∷ builds at chain_of ∷ []) next depth (expr x ∷ []) err) is fails in
    record { from = λ o t rest parts. climbs.from rest parts o (remaining tokens at depth count position next x rest parts o lt (there.from o t (behind at (count - suc position) (suc position) ++ rest) parts)) }

pub climbs_end : (tokens : List Token) (level : Level) (at depth count position next : ℕ) (x : ExprTree) → count ≤ position → Climbs tokens level at depth count position next x → Turns tokens (gives (symbol_of level) ∷ []) at depth [] (expr x ∷ []) next
climbs_end tokens level at depth count position next x le climbs = record { from = λ rest parts o c. climbs.from rest parts o (subst (λ n. Comes tokens (behind at n position ++ rest) next depth (expr x ∷ parts) o) none c) }
  where
    none : 0 ≡ count - position
    none = omega (arith, le)
