-- The steps of the derivation without a limit, and the words that stand at a place of the tokens.
use Rattle.std.proofs.Common.{◌≡◌, ℕ, suc, ◌+◌, ◌≤◌, List, [], ◌∷◌, ◌++◌, Bool, true, false, Some, None, if◌then◌else◌, nat_eq, nat_le, slice_get, refl, sym, ap, ◌∙◌, subst, rules, arith, append-nil, append_assoc, ℤ}
use Rattle.std.proofs.lemmas.Bool.Decides.{nat_tests}
use Rattle.pt_base.specs.declared.span.Span.{Span}
use Rattle.pt_base.specs.declared.int_type.IntType.{IntType}
use Rattle.c_lexer.specs.declared.token.Token.{Token}
use Rattle.c_lexer.specs.declared.token.TokenValue.{TokenValue}
use Rattle.c_lexer.specs.declared.token.TokenKind.{TokenKind}
use Rattle.c_lexer.specs.declared.token.TokenKind.TheVariants.{Identifier, Number, Character}
use Rattle.c_grammar.specs.declared.symbol.Symbol.{Symbol}
use Rattle.c_grammar.specs.Numbers.{kind_number}
use Rattle.c_grammar.specs.Part.{Part, word, number}
use Rattle.c_grammar.specs.Table.{row_of}
use Rattle.c_grammar.specs.Machine.{Entry, takes, gives, opens, closes, builds, Outcome, run, rule_at, wanted, accepted, given, on_rule, on_token, stretch}
use Rattle.c_printer.specs.Pieces.{Gap, Piece, fixed, named, number as numbered, kind_of, value_of}
use Rattle.c_printer_law.proofs.AllKinds.{leads, row_by, implies, implied}
use Rattle.c_printer_law.proofs.Classes.{ends}

-- this comes of that stack, place and parts, however deep
pub record Comes (tokens : List Token) (stack : List Entry) (at : ℕ) (parts : List Part) (o : Outcome) : Type 0 where
  pub from : (depth : ℕ) → (steps : ℕ) × (run None tokens steps stack at depth parts ≡ o)

-- a token of this kind stands there
pub record KindAt (tokens : List Token) (at : ℕ) (kind : TokenKind) : Type 0 where
  pub token : Token
  pub there : slice_get tokens at ≡ Some token
  pub is : token.kind ≡ kind

-- a token of a kind that passes the test stands there
pub record Has (tokens : List Token) (at : ℕ) (test : TokenKind → Bool) : Type 0 where
  pub kind : TokenKind
  pub stands : KindAt tokens at kind
  pub passes : test kind ≡ true

-- the token of this word stands there
pub record Is (tokens : List Token) (at : ℕ) (p : Piece) : Type 0 where
  pub token : Token
  pub there : slice_get tokens at ≡ Some token
  pub kind : token.kind ≡ kind_of p
  pub value : token.value ≡ value_of p

-- the words' tokens, from one place to before another
abbrev pub Standing : List Token → ℕ → List Piece → ℕ → Type 0
Standing tokens at [] next = at ≡ next
Standing tokens at (p ∷ ps) next = Is tokens at p × Standing tokens (at + 1) ps next

-- these words stand from one place to before another
pub record Stands (tokens : List Token) (at : ℕ) (words : List Piece) (next : ℕ) : Type 0 where
  pub by : Standing tokens at words next

pub first : {tokens : List Token} {at next : ℕ} {p : Piece} {ps : List Piece} → Stands tokens at (p ∷ ps) next → Is tokens at p
first h = h.by.0

pub behind : {tokens : List Token} {at next : ℕ} {p : Piece} {ps : List Piece} → Stands tokens at (p ∷ ps) next → Stands tokens (at + 1) ps next
behind h = record { by = h.by.1 }

pub over : {tokens : List Token} {at next : ℕ} → Stands tokens at [] next → at ≡ next
over h = h.by

parted : (tokens : List Token) (a b : List Piece) (at next : ℕ) → Standing tokens at (a ++ b) next → (mid : ℕ) × Standing tokens at a mid × Standing tokens mid b next
parted tokens [] b at next h = (at, refl, h)
parted tokens (p ∷ ps) b at next h = let x = parted tokens ps b (at + 1) next h.1 in (x.0, (h.0, x.1), x.2)

-- two lists of words stand one behind the other
pub record Split (tokens : List Token) (at : ℕ) (a b : List Piece) (next : ℕ) : Type 0 where
  pub mid : ℕ
  pub left : Stands tokens at a mid
  pub right : Stands tokens mid b next

pub split : {tokens : List Token} {at next : ℕ} (a b : List Piece) → Stands tokens at (a ++ b) next → Split tokens at a b next
split {tokens = tokens} {at = at} {next = next} a b h = let x = parted tokens a b at next h.by in record { mid = x.0; left = record { by = x.1 }; right = record { by = x.2 } }

pub kind_here : {tokens : List Token} {at : ℕ} {p : Piece} → Is tokens at p → KindAt tokens at (kind_of p)
kind_here i = record { token = i.token; there = i.there; is = i.kind }

pub has_here : {tokens : List Token} {at : ℕ} {p : Piece} (test : TokenKind → Bool) → Is tokens at p → test (kind_of p) ≡ true → Has tokens at test
has_here {p = p} test i h = record { kind = kind_of p; stands = kind_here i; passes = h }

pub weaker : {tokens : List Token} {at : ℕ} (a b : TokenKind → Bool) → implies a b ≡ true → Has tokens at a → Has tokens at b
weaker a b all h = record { kind = h.kind; stands = h.stands; passes = implied a b all h.kind h.passes }

ends_mono : (n least m : ℕ) → least ≤ m → nat_le n least ≡ true → nat_le n m ≡ true
ends_mono n least m le h = let x : n ≤ least = search (rules, nat_tests) in let y : n ≤ m = omega arith in search (rules, nat_tests)

pub ends_later : {tokens : List Token} {at : ℕ} (least m : ℕ) → least ≤ m → Has tokens at (ends least) → Has tokens at (ends m)
ends_later least m le h = record { kind = h.kind; stands = h.stands; passes = ends_mono _ least m le h.passes }

-- at the place that follows, wherever that is
pub settled : {tokens : List Token} {rest : List Entry} {at next : ℕ} {parts : List Part} {o : Outcome} → at ≡ next → Comes tokens rest next parts o → Comes tokens rest at parts o
settled {tokens = tokens} {rest = rest} {parts = parts} {o = o} e c = subst (λ n. Comes tokens rest n parts o) (sym e) c

pub has_at : {tokens : List Token} {at next : ℕ} {test : TokenKind → Bool} → at ≡ next → Has tokens next test → Has tokens at test
has_at {tokens = tokens} {test = test} e h = subst (λ n. Has tokens n test) (sym e) h

pub moved : {tokens : List Token} {at mid next : ℕ} {words : List Piece} → at ≡ mid → Stands tokens mid words next → Stands tokens at words next
moved {tokens = tokens} {next = next} {words = words} e h = subst (λ n. Stands tokens n words next) (sym e) h

-- a symbol gives way to what its rule wants
pub enters : {tokens : List Token} {s : Symbol} {at : ℕ} {kind : TokenKind} {rest : List Entry} {parts : List Part} {o : Outcome} (r : ℕ) → KindAt tokens at kind → row_of s kind ≡ Some r → Comes tokens (wanted at r ++ rest) at parts o → Comes tokens (gives s ∷ rest) at parts o
enters {tokens = tokens} {s = s} {at = at} {rest = rest} {parts = parts} r k row c = record {
  from = λ depth. let x = c.from depth in (suc x.0, ap (λ a. on_rule a at (λ n. run None tokens x.0 (wanted at n ++ rest) at depth parts)) (ap (rule_at s) k.there ∙ ap (row_of s) k.is ∙ row) ∙ x.1);
}

-- by a rule that all kinds of a test lead to
pub enters_by : {tokens : List Token} {s : Symbol} {at : ℕ} {rest : List Entry} {parts : List Part} {o : Outcome} (test : TokenKind → Bool) (r : ℕ) → leads test s r ≡ true → Has tokens at test → Comes tokens (wanted at r ++ rest) at parts o → Comes tokens (gives s ∷ rest) at parts o
enters_by {s = s} test r all h c = enters r h.stands (row_by test s r all h.kind h.passes) c

-- what a rule wants, where that is known by an equation
pub wants_as : {tokens : List Token} {next : ℕ} {es : List Entry} {parts : List Part} {o : Outcome} (at r : ℕ) (rest : List Entry) → wanted at r ≡ es → Comes tokens (es ++ rest) next parts o → Comes tokens (wanted at r ++ rest) next parts o
wants_as {tokens = tokens} {next = next} {parts = parts} {o = o} at r rest e c = subst (λ x. Comes tokens (x ++ rest) next parts o) (sym e) c

-- what a rule builds, and the ends of counted symbols, need no token
pub builds_on : {tokens : List Token} {at from : ℕ} {f : Span → List Part → List Part} {rest : List Entry} {parts : List Part} {o : Outcome} → Comes tokens rest at (f (stretch tokens from at) parts) o → Comes tokens (builds from f ∷ rest) at parts o
builds_on c = record { from = λ depth. let x = c.from depth in (suc x.0, x.1) }

pub opens_on : {tokens : List Token} {s : Symbol} {at : ℕ} {rest : List Entry} {parts : List Part} {o : Outcome} → Comes tokens (gives s ∷ closes ∷ rest) at parts o → Comes tokens (opens s ∷ rest) at parts o
opens_on c = record { from = λ depth. let x = c.from (depth + 1) in (suc x.0, x.1) }

pub closes_on : {tokens : List Token} {at : ℕ} {rest : List Entry} {parts : List Part} {o : Outcome} → Comes tokens rest at parts o → Comes tokens (closes ∷ rest) at parts o
closes_on c = record { from = λ depth. let x = c.from _ in (suc x.0, x.1) }

-- a token on top is taken
shifts : {tokens : List Token} {kind : TokenKind} {at : ℕ} {rest : List Entry} {parts : List Part} {o : Outcome} (new : List Part) → accepted kind (slice_get tokens at) ≡ Some new → Comes tokens rest (at + 1) (new ++ parts) o → Comes tokens (takes kind ∷ rest) at parts o
shifts {tokens = tokens} {at = at} {rest = rest} {parts = parts} new h c = record {
  from = λ depth. let x = c.from depth in (suc x.0, ap (λ a. on_token a at (λ new. run None tokens x.0 rest (at + 1) depth (new ++ parts))) h ∙ x.1);
}

-- a kind whose tokens have no value
abbrev pub is_fixed : TokenKind → Bool
is_fixed Identifier = false
is_fixed Number = false
is_fixed Character = false
is_fixed kind = true

given_fixed : (kind : TokenKind) (s : Span) (v : TokenValue) → is_fixed kind ≡ true → given kind s v ≡ Some []
given_fixed Identifier s v h = cc
given_fixed Number s v h = cc
given_fixed Character s v h = cc
given_fixed kind s v h = refl

same_number : (kind : TokenKind) (t : Token) → t.kind ≡ kind → nat_eq (kind_number kind) (kind_number t.kind) ≡ true
same_number kind t e = let n : kind_number kind ≡ kind_number t.kind = ap kind_number (sym e) in search (rules, nat_tests)

accepts : (tokens : List Token) (at : ℕ) (kind : TokenKind) (t : Token) → slice_get tokens at ≡ Some t → t.kind ≡ kind → accepted kind (slice_get tokens at) ≡ given kind t.span t.value
accepts tokens at kind t there e = ap (accepted kind) there ∙ ap (λ b. if b then given kind t.span t.value else None) (same_number kind t e)

pub takes_fixed : {tokens : List Token} {kind : TokenKind} {at : ℕ} {rest : List Entry} {parts : List Part} {o : Outcome} → KindAt tokens at kind → is_fixed kind ≡ true → Comes tokens rest (at + 1) parts o → Comes tokens (takes kind ∷ rest) at parts o
takes_fixed {tokens = tokens} {kind = kind} {at = at} k h c = shifts [] (accepts tokens at kind k.token k.there k.is ∙ given_fixed kind k.token.span k.token.value h) c

-- a punctuator or keyword of the words
pub takes_it : {tokens : List Token} {kind : TokenKind} {gap : Gap} {at : ℕ} {rest : List Entry} {parts : List Part} {o : Outcome} → Is tokens at (fixed gap kind) → is_fixed kind ≡ true → Comes tokens rest (at + 1) parts o → Comes tokens (takes kind ∷ rest) at parts o
takes_it i h c = takes_fixed (kind_here i) h c

pub takes_name : {tokens : List Token} {gap : Gap} {bytes : List ℕ} {at : ℕ} {rest : List Entry} {parts : List Part} {o : Outcome} (i : Is tokens at (named gap bytes)) → Comes tokens rest (at + 1) (word (record { span = i.token.span; bytes = bytes }) ∷ parts) o → Comes tokens (takes Identifier ∷ rest) at parts o
takes_name {tokens = tokens} {bytes = bytes} {at = at} i c = shifts (word (record { span = i.token.span; bytes = bytes }) ∷ []) (accepts tokens at Identifier i.token i.there i.kind ∙ ap (given Identifier i.token.span) i.value) c

pub takes_number : {tokens : List Token} {gap : Gap} {value : ℤ} {ty : IntType} {at : ℕ} {rest : List Entry} {parts : List Part} {o : Outcome} (i : Is tokens at (numbered gap value ty)) → Comes tokens rest (at + 1) (number (record { span = i.token.span; value = value; ty = ty }) ∷ parts) o → Comes tokens (takes Number ∷ rest) at parts o
takes_number {tokens = tokens} {value = value} {ty = ty} {at = at} i c = shifts (number (record { span = i.token.span; value = value; ty = ty }) ∷ []) (accepts tokens at Number i.token i.there i.kind ∙ ap (given Number i.token.span) i.value) c

-- the symbol gives way to one part, which is what it is to be
pub record Gives {T R : Type 0} (tokens : List Token) (s : Symbol) (at next : ℕ) (part : T → Part) (same : T → R) (what : R) : Type 0 where
  pub tree : T
  pub alike : same tree ≡ what
  pub from : {rest : List Entry} {parts : List Part} {o : Outcome} → Comes tokens rest next (part tree ∷ parts) o → Comes tokens (gives s ∷ rest) at parts o

-- a counted symbol does so too
pub counted_from : {T R : Type 0} {tokens : List Token} {s : Symbol} {at next : ℕ} {part : T → Part} {same : T → R} {what : R} (g : Gives tokens s at next part same what) {rest : List Entry} {parts : List Part} {o : Outcome} → Comes tokens rest next (part g.tree ∷ parts) o → Comes tokens (opens s ∷ rest) at parts o
counted_from g c = opens_on (g.from (closes_on c))

-- the symbol adds these to the list on top, which are what they are to be
pub record Grows {A R : Type 0} (tokens : List Token) (s : Symbol) (at next : ℕ) (part : List A → Part) (same : List A → R) (what : R) : Type 0 where
  pub new : List A
  pub alike : same new ≡ what
  pub from : (before : List A) {rest : List Entry} {parts : List Part} {o : Outcome} → Comes tokens rest next (part (before ++ new) ∷ parts) o → Comes tokens (gives s ∷ rest) at (part before ∷ parts) o

-- it adds none where its rule is empty
pub grows_none : {A R : Type 0} {tokens : List Token} {s : Symbol} {at next : ℕ} {part : List A → Part} {same : List A → R} {what : R} (test : TokenKind → Bool) (r : ℕ) → leads test s r ≡ true → wanted at r ≡ [] → at ≡ next → Has tokens next test → same [] ≡ what → Grows tokens s at next part same what
grows_none {tokens = tokens} {at = at} {next = next} {part = part} test r all none e h is = record {
  new = [];
  alike = is;
  from = λ before {rest} {parts} {o} c. enters_by test r all (has_at e h) (subst (λ es. Comes tokens (es ++ rest) at (part before ∷ parts) o) (sym none) (settled e (subst (λ xs. Comes tokens rest next (part xs ∷ parts) o) (append-nil before) c)));
}

-- it adds one, and then others
pub grows_more : {A R : Type 0} {tokens : List Token} {s : Symbol} {at mid next : ℕ} {part : List A → Part} {same : List A → R} {more what : R} (x : A) (g : Grows tokens s mid next part same more) → ((before : List A) (rest : List Entry) (parts : List Part) (o : Outcome) → Comes tokens (gives s ∷ rest) mid (part (before ++ x ∷ []) ∷ parts) o → Comes tokens (gives s ∷ rest) at (part before ∷ parts) o) → same (x ∷ g.new) ≡ what → Grows tokens s at next part same what
grows_more {tokens = tokens} {next = next} {part = part} x g step is = record {
  new = x ∷ g.new;
  alike = is;
  from = λ before {rest} {parts} {o} c. step before rest parts o (g.from (before ++ x ∷ []) (subst (λ xs. Comes tokens rest next (part xs ∷ parts) o) (sym (append_assoc before (x ∷ []) g.new)) c));
}
