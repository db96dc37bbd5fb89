-- The steps of the derivation, as the parser takes them.
use Rattle.std.proofs.Common.{◌≡◌, Result, ℕ, suc, ◌+◌, ◌-◌, ◌<◌, List, [], ◌∷◌, ◌++◌, Option, Some, None, refl, sym, rules, ap, ◌∙◌, subst, arith, Bool, true, false, ◌⊎◌, inl, inr, Ok, Err, nat_eq, nat_lt, slice_get, get_or, if◌then◌else◌, cond, ℤ, length, map}
use Rattle.std.proofs.lemmas.Bool.Decides.{nat_tests}
use Rattle.pt_base.specs.declared.span.Span.{Span}
use Rattle.c_lexer.specs.declared.token.Token.{Token}
use Rattle.c_lexer.specs.declared.token.TokenValue.{TokenValue}
use Rattle.c_lexer.specs.declared.token.TokenKind.{TokenKind}
use Rattle.c_lexer.specs.declared.token.TokenKind.TheVariants as kinds
use Rattle.c_grammar.specs.declared.symbol.Symbol.{Symbol}
use Rattle.c_grammar.specs.declared.symbol.Symbol.TheVariants.{TranslationUnit}
use Rattle.std.specs.List.{find}
use Rattle.std.proofs.lemmas.Option.{slice_get-get_or}
use Rattle.std.proofs.lemmas.List.{map-append}
use Rattle.pt_base.specs.declared.int_type.IntType.{IntType}
use Rattle.pt_base.specs.declared.bytes.Bytes.{Bytes}
use Rattle.c_lexer.specs.declared.token.TokenKind.TheVariants.{Identifier, Number, Character}
use Rattle.c_lexer.specs.declared.token.TokenValue.TheVariants.{Name, Constant, Fixed}
use Rattle.c_grammar.specs.Part.{Part, number}
use Rattle.c_grammar.specs.Table.{alternatives_of, leads_to}
use Rattle.c_grammar.specs.Machine.{Entry, takes, gives, opens, closes, builds, Outcome, too_deep, run, rule_at, wanted, accepted, given, on_rule, on_token, stretch}
use Rattle.c_parser.specs.declared.error.ParseError.{ParseError}
use Rattle.c_parser.specs.declared.error.ParseError.TheVariants.{Memory, FaultAt, TooDeep}
use Rattle.c_parser.specs.declared.parsed.Parsed.{Parsed}
use Rattle.pt_tree.specs.declared.expression.Postfix.{Postfix}
use Rattle.c_grammar.specs.declared.symbol.Symbol.TheVariants.{Postfixes}
use Rattle.c_parser.specs.Parts.{Adds, Ends}
use Rattle.c_parser.specs.Parses.{Comes, Parses, Turns, Fails, Enters, Goes, IsOneOf, row_at, is_kind, is_fixed, has_one, has_two, has_constant, deepest}

pub shifted : (tokens : List Token) (k : TokenKind) (at depth : ℕ) (new : List Part) → accepted k (slice_get tokens at) ≡ Some new → Turns tokens (takes k ∷ []) at depth [] new (at + 1)
shifted tokens k at depth new h = record {
  from = λ rest parts o c. record {
    steps = suc c.steps;
    by = ap (λ a. on_token a at (λ new. run (Some deepest) tokens c.steps rest (at + 1) depth (new ++ parts))) h ∙ c.by;
  };
}

pub mismatched : (tokens : List Token) (k : TokenKind) (at depth : ℕ) → accepted k (slice_get tokens at) ≡ None → Fails tokens (takes k ∷ []) at depth [] (FaultAt at)
mismatched tokens k at depth h = record {
  from = λ o e rest parts. record {
    steps = 1;
    by = ap (λ a. on_token a at (λ new. run (Some deepest) tokens 0 rest (at + 1) depth (new ++ parts))) h ∙ sym e;
  };
}

pub entered : (tokens : List Token) (s : Symbol) (at r : ℕ) → row_at tokens s at ≡ Some r → Enters tokens s at r
entered tokens s at r h = record {
  from = λ depth rest parts o c. record {
    steps = suc c.steps;
    by = ap (λ a. on_rule a at (λ n. run (Some deepest) tokens c.steps (wanted at n ++ rest) at depth parts)) h ∙ c.by;
  };
}

pub no_rule : (tokens : List Token) (s : Symbol) (at depth : ℕ) → row_at tokens s at ≡ None → Fails tokens (gives s ∷ []) at depth [] (FaultAt at)
no_rule tokens s at depth h = record {
  from = λ o e rest parts. record {
    steps = 1;
    by = ap (λ a. on_rule a at (λ n. run (Some deepest) tokens 0 (wanted at n ++ rest) at depth parts)) h ∙ sym e;
  };
}

-- what a rule builds, and the end of a counted symbol, need no condition
pub builds_on : (tokens : List Token) (from at depth : ℕ) (f : Span → List Part → List Part) (rest : List Entry) (parts : List Part) (o : Outcome) → Comes tokens rest at depth (f (stretch tokens from at) parts) o → Comes tokens (builds from f ∷ rest) at depth parts o
builds_on tokens from at depth f rest parts o c = record { steps = suc c.steps; by = c.by }

allowed : (depth : ℕ) → depth < 200 → nat_lt depth 200 ≡ true
allowed depth lt = search (rules, nat_tests)

opens_so : (tokens : List Token) (s : Symbol) (at depth : ℕ) (rest : List Entry) (parts : List Part) (o : Outcome) → depth < 200 → Comes tokens (gives s ∷ closes ∷ rest) at (depth + 1) parts o → Comes tokens (opens s ∷ rest) at depth parts o
opens_so tokens s at depth rest parts o lt c = record {
  steps = suc c.steps;
  by = ap (λ b. if b then run (Some deepest) tokens c.steps (gives s ∷ closes ∷ rest) at (depth + 1) parts else too_deep at) (allowed depth lt) ∙ c.by;
}

closes_so : (tokens : List Token) (at depth : ℕ) (rest : List Entry) (parts : List Part) (o : Outcome) → Comes tokens rest at depth parts o → Comes tokens (closes ∷ rest) at (depth + 1) parts o
closes_so tokens at depth rest parts o c = record { steps = suc c.steps; by = ap (λ d. run (Some deepest) tokens c.steps rest at d parts) back ∙ c.by }
  where
    back : depth + 1 - 1 ≡ depth
    back = omega arith

-- a counted symbol is what the symbol is, one deeper
pub opened : {T : Type 0} (new : T → List Part) (tokens : List Token) (s : Symbol) (at depth : ℕ) (r : Result (Parsed T) ParseError) → depth < 200 → Parses [] new tokens (gives s ∷ []) at (depth + 1) r → Parses [] new tokens (opens s ∷ []) at depth r
opened new tokens s at depth (Ok p) lt m = record { from = λ rest parts o c. opens_so _ _ _ _ _ _ _ lt (m.from _ _ _ (closes_so _ _ _ _ _ _ c)) }
opened new tokens s at depth (Err err) lt f = record { from = λ o e rest parts. opens_so _ _ _ _ _ _ _ lt (f.from o e _ _) }

pub opened_too_deep : (tokens : List Token) (s : Symbol) (at depth : ℕ) → depth ≡ 200 → Fails tokens (opens s ∷ []) at depth [] (TooDeep at)
opened_too_deep tokens s at depth e = record {
  from = λ o t rest parts. record {
    steps = 1;
    by = ap (λ d. if nat_lt d 200 then run (Some deepest) tokens 0 (gives s ∷ closes ∷ rest) at (d + 1) parts else too_deep at) e ∙ sym t;
  };
}

-- a symbol is what the rule that it enters is
pub by_rule : {T : Type 0} (old : List Part) (new : T → List Part) (tokens : List Token) (s : Symbol) (at depth r : ℕ) (result : Result (Parsed T) ParseError) → Enters tokens s at r → Parses old new tokens (wanted at r) at depth result → Parses old new tokens (gives s ∷ []) at depth result
by_rule old new tokens s at depth r (Ok p) e m = record { from = λ rest parts o c. e.from _ _ _ _ (m.from _ _ _ c) }
by_rule old new tokens s at depth r (Err err) e f = record { from = λ o t rest parts. e.from _ _ _ _ (f.from o t _ _) }

-- want of memory tells nothing
pub no_memory : (tokens : List Token) (es : List Entry) (at depth : ℕ) (old : List Part) → Fails tokens es at depth old Memory
no_memory tokens es at depth old = record { from = λ o e rest parts. absurd e }

pub same_kind : (k : TokenKind) (o : Option Token) → is_fixed k ≡ true → is_kind k o ≡ true → accepted k o ≡ Some []
same_kind k None fixed h = cc
same_kind k (Some t) fixed h = ap (λ b. if b then given k t.span t.value else None) h ∙ fixed_gives k t.span t.value fixed
  where
    fixed_gives : (k : TokenKind) (s : Span) (v : TokenValue) → is_fixed k ≡ true → given k s v ≡ Some []
    fixed_gives kinds.Identifier s v h = cc
    fixed_gives kinds.Number s v h = cc
    fixed_gives kinds.Character s v h = cc
    fixed_gives kinds.Auto s v h = refl
    fixed_gives kinds.Break s v h = refl
    fixed_gives kinds.Case s v h = refl
    fixed_gives kinds.Char s v h = refl
    fixed_gives kinds.Const s v h = refl
    fixed_gives kinds.Continue s v h = refl
    fixed_gives kinds.Default s v h = refl
    fixed_gives kinds.Do s v h = refl
    fixed_gives kinds.Double s v h = refl
    fixed_gives kinds.Else s v h = refl
    fixed_gives kinds.Enum s v h = refl
    fixed_gives kinds.Extern s v h = refl
    fixed_gives kinds.Float s v h = refl
    fixed_gives kinds.For s v h = refl
    fixed_gives kinds.Goto s v h = refl
    fixed_gives kinds.If s v h = refl
    fixed_gives kinds.Inline s v h = refl
    fixed_gives kinds.Int s v h = refl
    fixed_gives kinds.Long s v h = refl
    fixed_gives kinds.Register s v h = refl
    fixed_gives kinds.Restrict s v h = refl
    fixed_gives kinds.Return s v h = refl
    fixed_gives kinds.Short s v h = refl
    fixed_gives kinds.Signed s v h = refl
    fixed_gives kinds.Sizeof s v h = refl
    fixed_gives kinds.Static s v h = refl
    fixed_gives kinds.Struct s v h = refl
    fixed_gives kinds.Switch s v h = refl
    fixed_gives kinds.Typedef s v h = refl
    fixed_gives kinds.Union s v h = refl
    fixed_gives kinds.Unsigned s v h = refl
    fixed_gives kinds.Void s v h = refl
    fixed_gives kinds.Volatile s v h = refl
    fixed_gives kinds.While s v h = refl
    fixed_gives kinds.Bool s v h = refl
    fixed_gives kinds.Complex s v h = refl
    fixed_gives kinds.Imaginary s v h = refl
    fixed_gives kinds.Attribute s v h = refl
    fixed_gives kinds.OpenBracket s v h = refl
    fixed_gives kinds.CloseBracket s v h = refl
    fixed_gives kinds.OpenParen s v h = refl
    fixed_gives kinds.CloseParen s v h = refl
    fixed_gives kinds.OpenBrace s v h = refl
    fixed_gives kinds.CloseBrace s v h = refl
    fixed_gives kinds.Dot s v h = refl
    fixed_gives kinds.Arrow s v h = refl
    fixed_gives kinds.PlusPlus s v h = refl
    fixed_gives kinds.MinusMinus s v h = refl
    fixed_gives kinds.Amp s v h = refl
    fixed_gives kinds.Star s v h = refl
    fixed_gives kinds.Plus s v h = refl
    fixed_gives kinds.Minus s v h = refl
    fixed_gives kinds.Tilde s v h = refl
    fixed_gives kinds.Bang s v h = refl
    fixed_gives kinds.Slash s v h = refl
    fixed_gives kinds.Percent s v h = refl
    fixed_gives kinds.ShiftLeft s v h = refl
    fixed_gives kinds.ShiftRight s v h = refl
    fixed_gives kinds.Less s v h = refl
    fixed_gives kinds.Greater s v h = refl
    fixed_gives kinds.LessEqual s v h = refl
    fixed_gives kinds.GreaterEqual s v h = refl
    fixed_gives kinds.EqualEqual s v h = refl
    fixed_gives kinds.BangEqual s v h = refl
    fixed_gives kinds.Caret s v h = refl
    fixed_gives kinds.Pipe s v h = refl
    fixed_gives kinds.AmpAmp s v h = refl
    fixed_gives kinds.PipePipe s v h = refl
    fixed_gives kinds.Question s v h = refl
    fixed_gives kinds.Colon s v h = refl
    fixed_gives kinds.Semicolon s v h = refl
    fixed_gives kinds.Equal s v h = refl
    fixed_gives kinds.StarEqual s v h = refl
    fixed_gives kinds.SlashEqual s v h = refl
    fixed_gives kinds.PercentEqual s v h = refl
    fixed_gives kinds.PlusEqual s v h = refl
    fixed_gives kinds.MinusEqual s v h = refl
    fixed_gives kinds.ShiftLeftEqual s v h = refl
    fixed_gives kinds.ShiftRightEqual s v h = refl
    fixed_gives kinds.AmpEqual s v h = refl
    fixed_gives kinds.CaretEqual s v h = refl
    fixed_gives kinds.PipeEqual s v h = refl
    fixed_gives kinds.Comma s v h = refl

pub other_kind : (k : TokenKind) (o : Option Token) → is_kind k o ≡ false → accepted k o ≡ None
other_kind k None h = refl
other_kind k (Some t) h = ap (λ b. if b then given k t.span t.value else None) h

find_one : (p : ℕ → Bool) (rs : List ℕ) (n : ℕ) → find p rs ≡ Some n → IsOneOf n rs
find_one p [] n h = cc
find_one p (r ∷ rs) n h = go (p r) (find_one p rs n) h
  where
    go : (b : Bool) → (find p rs ≡ Some n → IsOneOf n rs) → cond b (Some r) (find p rs) ≡ Some n → IsOneOf n (r ∷ rs)
    go true rest h = inl (cc)
    go false rest h = inr (rest h)

one_at_end : (s : Symbol) (n : ℕ) → rule_at s None ≡ Some n → IsOneOf n (alternatives_of s)
one_at_end TranslationUnit n h = inr (inl (cc))
one_at_end s n h = cc

-- the rule is one of the symbol's
pub among : (tokens : List Token) (s : Symbol) (at n : ℕ) → row_at tokens s at ≡ Some n → IsOneOf n (alternatives_of s)
among tokens s at n h = go (slice_get tokens at) h
  where
    go : (o : Option Token) → rule_at s o ≡ Some n → IsOneOf n (alternatives_of s)
    go None h = one_at_end s n h
    go (Some t) h = find_one (leads_to t.kind) (alternatives_of s) n h

pub only_rule : (tokens : List Token) (s : Symbol) (at n : ℕ) → has_one (alternatives_of s) ≡ true → row_at tokens s at ≡ Some n → Enters tokens s at (get_or (alternatives_of s) 0 0)
only_rule tokens s at n one h = subst (Enters tokens s at) (go (alternatives_of s) one (among tokens s at n h)) (entered tokens s at n h)
  where
    go : (rs : List ℕ) → has_one rs ≡ true → IsOneOf n rs → n ≡ get_or rs 0 0
    go [] one c = cc
    go (r ∷ []) one (inl e) = e
    go (r ∷ []) one (inr e) = absurd e
    go (r ∷ x ∷ rs) one c = cc

pub of_two : (tokens : List Token) (s : Symbol) (at n : ℕ) (first : Bool) → has_two (alternatives_of s) ≡ true → row_at tokens s at ≡ Some n → first ≡ nat_eq n (get_or (alternatives_of s) 0 0) → Goes tokens s at first
of_two tokens s at n first two h e = go first (nat_eq n (get_or (alternatives_of s) 0 0)) e refl
  where
    second : (rs : List ℕ) → has_two rs ≡ true → IsOneOf n rs → nat_eq n (get_or rs 0 0) ≡ false → n ≡ get_or rs 1 0
    second [] two c e = cc
    second (r ∷ []) two c e = cc
    second (r ∷ x ∷ []) two (inl is) e = grind (arith, nat_tests)
    second (r ∷ x ∷ []) two (inr (inl is)) e = is
    second (r ∷ x ∷ []) two (inr (inr no_more)) e = absurd no_more
    second (r ∷ x ∷ y ∷ rs) two c e = cc

    is_first : nat_eq n (get_or (alternatives_of s) 0 0) ≡ true → n ≡ get_or (alternatives_of s) 0 0
    is_first e = search (rules, nat_tests)

    go : (first same : Bool) → first ≡ same → nat_eq n (get_or (alternatives_of s) 0 0) ≡ same → Goes tokens s at first
    go true true e is = record { first = λ _. subst (Enters tokens s at) (is_first is) (entered tokens s at n h); second = λ w. cc }
    go false false e is = record { first = λ w. cc; second = λ _. subst (Enters tokens s at) (second (alternatives_of s) two (among tokens s at n h) is) (entered tokens s at n h) }
    go true false e is = cc
    go false true e is = cc

found : (tokens : List Token) (at : ℕ) (t : Token) → at < length tokens → t ≡ get_or tokens at t → slice_get tokens at ≡ Some t
found tokens at t lt e = slice_get-get_or tokens at t lt ∙ ap (λ x. Some x) (sym e)

accepted_is : (k : TokenKind) (t : Token) → is_kind k (Some t) ≡ true → accepted k (Some t) ≡ given k t.span t.value
accepted_is k t is = ap (λ b. if b then given k t.span t.value else None) is

-- a token of the kind with its value, and one without
pub value_stands : (tokens : List Token) (at depth : ℕ) (k : TokenKind) (t : Token) (new : List Part) → at < length tokens → t ≡ get_or tokens at t → true ≡ is_kind k (slice_get tokens at) → given k t.span t.value ≡ Some new → Turns tokens (takes k ∷ []) at depth [] new (at + 1)
value_stands tokens at depth k t new lt e is g =
    let h = found tokens at t lt e in
    shifted tokens k at depth new (ap (accepted k) h ∙ accepted_is k t (sym (ap (is_kind k) h) ∙ sym is) ∙ g)

pub value_lacks : (tokens : List Token) (at depth : ℕ) (k : TokenKind) (t : Token) → at < length tokens → t ≡ get_or tokens at t → true ≡ is_kind k (slice_get tokens at) → given k t.span t.value ≡ None → Fails tokens (takes k ∷ []) at depth [] (FaultAt at)
value_lacks tokens at depth k t lt e is g =
    let h = found tokens at t lt e in
    mismatched tokens k at depth (ap (accepted k) h ∙ accepted_is k t (sym (ap (is_kind k) h) ∙ sym is) ∙ g)

pub other_token : (tokens : List Token) (at depth : ℕ) (k : TokenKind) → false ≡ is_kind k (slice_get tokens at) → Fails tokens (takes k ∷ []) at depth [] (FaultAt at)
other_token tokens at depth k h = mismatched tokens k at depth (other_kind k (slice_get tokens at) (sym h))

pub no_name : (s : Span) (v : TokenValue) → ((x : ℤ) × (ty : IntType) × (v ≡ Constant x ty)) ⊎ (v ≡ Fixed) → given Identifier s v ≡ None
no_name s v (inl h) = ap (given Identifier s) h.2
no_name s v (inr h) = ap (given Identifier s) h

pub a_constant : (k : TokenKind) (s : Span) (x : ℤ) (ty : IntType) → has_constant k ≡ true → given k s (Constant x ty) ≡ Some (number (record { span = s; value = x; ty = ty }) ∷ [])
a_constant Number s x ty h = refl
a_constant Character s x ty h = refl
a_constant k s x ty h = cc

pub no_constant : (k : TokenKind) (s : Span) (v : TokenValue) → has_constant k ≡ true → ((b : Bytes) × (v ≡ Name b)) ⊎ (v ≡ Fixed) → given k s v ≡ None
no_constant Number s v h (inl e) = ap (given Number s) e.1
no_constant Number s v h (inr e) = ap (given Number s) e
no_constant Character s v h (inl e) = ap (given Character s) e.1
no_constant Character s v h (inr e) = ap (given Character s) e
no_constant k s v h e = cc

-- what is built is what is made
pub built : (tokens : List Token) (from at depth : ℕ) (f : Span → List Part → List Part) (rest : List Entry) (parts new : List Part) (o : Outcome) → f (stretch tokens from at) parts ≡ new → Comes tokens rest at depth new o → Comes tokens (builds from f ∷ rest) at depth parts o
built tokens from at depth f rest parts new o e c = builds_on tokens from at depth f rest parts o (subst (λ ps. Comes tokens rest at depth ps o) (sym e) c)

-- lists at the top of the parts
pub same_top : {A : Type 0} (f : A → Part) (x y : A) (parts : List Part) → x ≡ y → f x ∷ parts ≡ f y ∷ parts
same_top f x y parts e = ap (λ z. f z ∷ parts) e

pub pushed : {A B : Type 0} (c : List B → Part) (f : A → B) (old new : List A) (x : A) (parts : List Part) → new ≡ old ++ x ∷ [] → c (map f old ++ f x ∷ []) ∷ parts ≡ c (map f new) ∷ parts
pushed c f old new x parts e = ap (λ xs. c xs ∷ parts) (sym (ap (map f) e ∙ map-append f old (x ∷ [])))

-- what stands behind an operand, by its rule
pub adds_by_rule : (tokens : List Token) (at depth r : ℕ) (result : Result (Option (Parsed Postfix)) ParseError) → Enters tokens Postfixes at r → Adds tokens (wanted at r) at depth result → Adds tokens (gives Postfixes ∷ []) at depth result
adds_by_rule tokens at depth r (Ok None) e m = record { from = λ rest parts o c. e.from _ _ _ _ (m.from _ _ _ c) }
adds_by_rule tokens at depth r (Ok (Some p)) e m = record { from = λ ps rest parts o c. e.from _ _ _ _ (m.from _ _ _ _ c) }
adds_by_rule tokens at depth r (Err err) e f = λ ps. record { from = λ o t rest parts. e.from _ _ _ _ ((f ps).from o t _ _) }

pub ends_by_rule : (tokens : List Token) (at depth : ℕ) → Enters tokens Postfixes at 106 → Ends tokens (gives Postfixes ∷ []) at depth
ends_by_rule tokens at depth e = record { from = λ rest parts o c. e.from _ _ _ _ c }
