-- A text read step by step: what is read grows at its end, and is one.
use Rattle.std.proofs.Common.{◌≡◌, ℕ, ◌+◌, ◌≤◌, ◌<◌, zero, suc, List, [], ◌∷◌, ◌++◌, length, drop, refl, ap, sym, ◌∙◌, subst, inl, inr, ⊎_elim, arith, length-drop}
use Rattle.std.specs.Prelude.{◌⊎◌}
use Rattle.std.proofs.lemmas.List.{drop_all}
use Rattle.std.proofs.str.Laws.{order}
use Rattle.std.proofs.lemmas.List.{append-nil}
use Rattle.c_lexer.specs.Comments.{IsBlank}
use Rattle.c_lexer.specs.Lexemes.{StartsToken}
use Rattle.c_lexer.specs.Lexes.{IsGap, none, more, Reads, Lexes, IsFault, IsFirstFault, TokensAreOne, FaultIsOne, TokensOrFault}
use Rattle.c_lexer.specs.Next.{BeginsWith, next_of}
use Rattle.c_lexer.specs.declared.token.Token.{Token}
use Rattle.c_lexer.specs.declared.token.TokenKind.{TokenKind}
use Rattle.c_lexer.specs.declared.token.TokenValue.{TokenValue}
use Rattle.c_lexer.specs.declared.error.LexFaultKind.{LexFaultKind}
use Rattle.c_lexer.specs.declared.error.LexFault.{LexFault}
use Rattle.c_lexer.specs.declared.next.Next.{Next}
use Rattle.c_lexer.specs.declared.next.Next.TheVariants as next
use Rattle.c_lexer.specs.declared.error.LexFaultKind.TheVariants.{BadByte}
use Rattle.c_lexer.proofs.Fits.{begins_fits, begins_nonempty, fault_nonempty}
use Rattle.c_lexer.proofs.Sound.{next_sound}
use Rattle.c_lexer.proofs.Unique.{begins_with_one}

-- the token of the kind and value that stands there with n bytes
abbrev pub token_at : ℕ → ℕ → TokenKind → TokenValue → Token
token_at at n kind value = record { kind = kind; span = record { from = at; to = at + n }; value = value }

-- what is read goes on with a blank
pub reads_blank : (text : List ℕ) (from : ℕ) (ts : List Token) (at n : ℕ) → Reads text from ts at → IsBlank (drop at text) n → Reads text from ts (at + n)
reads_blank text from [] at n reads blank = more n reads blank
reads_blank text from (t ∷ ts) at n reads blank = (reads.0, reads.1, reads_blank text t.span.to ts at n reads.2 blank)

-- what is read goes on with a token
pub reads_token : (text : List ℕ) (from : ℕ) (ts : List Token) (at n : ℕ) (kind : TokenKind) (value : TokenValue)
    → Reads text from ts at → StartsToken (drop at text) n kind value → Reads text from (ts ++ (token_at at n kind value ∷ [])) (at + n)
reads_token text from [] at n kind value reads token = (reads, record { size = n; ends = refl; token = token }, none)
reads_token text from (t ∷ ts) at n kind value reads token = (reads.0, reads.1, reads_token text t.span.to ts at n kind value reads.2 token)

-- the tokens of some steps, and the place that they lead to
abbrev Walked : Type 0
Walked = List Token × ℕ

abbrev prepend : Token → Walked → Walked
prepend t w = (t ∷ w.0, w.1)

abbrev append : List Token → Walked → Walked
append ts w = (ts ++ w.0, w.1)

-- a step, and then what goes on from the place behind it
abbrev onward : (ℕ → Walked) → ℕ → Next → Walked
onward go at (next.Blank n) = go (at + n)
onward go at (next.Token n kind value) = prepend (token_at at n kind value) (go (at + n))
onward go at (next.Fault kind) = ([], at)

abbrev walk : ℕ → List ℕ → ℕ → Walked
walk zero text at = ([], at)
walk (suc k) text at = onward (walk k text) at (next_of (drop at text))

-- what stands there is what a step finds
walk_next : (k : ℕ) (text : List ℕ) (at : ℕ) (x : Next) → BeginsWith (drop at text) x → walk (suc k) text at ≡ onward (walk k text) at x
walk_next k text at x h =
    let found = next_sound (drop at text) (begins_nonempty (drop at text) x h) in
    ap (onward (walk k text) at) (begins_with_one (drop at text) (next_of (drop at text)) x found h)

-- from one place some steps give these tokens and lead to the other place
record Walks (text : List ℕ) (from : ℕ) (ts : List Token) (to : ℕ) : Type 0 where
  steps : ℕ
  by : (j : ℕ) → walk (steps + j) text from ≡ append ts (walk j text to)

gap_walks : (text : List ℕ) (from to : ℕ) → IsGap text from to → Walks text from [] to
gap_walks text from to none = record { steps = 0; by = λ j. let e : 0 + j ≡ j = omega arith in ap (λ k. walk k text from) e }
gap_walks text from to (more {at = at} n gap blank) =
    let rest = gap_walks text from at gap in
    record {
      steps = rest.steps + 1;
      by = λ j. let e : rest.steps + 1 + j ≡ rest.steps + suc j = omega arith in
          ap (λ k. walk k text from) e ∙ rest.by (suc j) ∙ ap (append []) (walk_next j text at (next.Blank n) blank);
    }

token_is : (t : Token) (n : ℕ) → t.span.to ≡ t.span.from + n → t ≡ token_at t.span.from n t.kind t.value
token_is t n ends = ap (λ (e : ℕ). let made : Token = record { kind = t.kind; span = record { from = t.span.from; to = e }; value = t.value } in made) ends

reads_walk : (text : List ℕ) (from : ℕ) (ts : List Token) (to : ℕ) → Reads text from ts to → Walks text from ts to
reads_walk text from [] to reads = gap_walks text from to reads
reads_walk text from (t ∷ ts) to reads =
    let gap = gap_walks text from t.span.from reads.0 in
    let stands = reads.1 in
    let rest = reads_walk text t.span.to ts to reads.2 in
    record {
      steps = gap.steps + suc rest.steps;
      by = λ j. let e : gap.steps + suc rest.steps + j ≡ gap.steps + suc (rest.steps + j) = omega arith in
          ap (λ k. walk k text from) e ∙ gap.by (suc (rest.steps + j))
          ∙ ap (append []) (walk_next (rest.steps + j) text t.span.from (next.Token stands.size t.kind t.value) stands.token
          ∙ ap (λ u. prepend u (walk (rest.steps + j) text (t.span.from + stands.size))) (sym (token_is t stands.size stands.ends))
          ∙ ap (λ m. prepend t (walk (rest.steps + j) text m)) (sym stands.ends)
          ∙ ap (prepend t) (rest.by j));
    }

-- no step leads on from there
abbrev IsLast : List ℕ → ℕ → Type 0
IsLast text at = (j : ℕ) → walk j text at ≡ ([], at)

nothing_next : next_of [] ≡ next.Fault BadByte
unfolding next_of
nothing_next = refl

end_is_last : (text : List ℕ) → IsLast text (length text)
end_is_last text zero = refl
end_is_last text (suc j) = ap (onward (walk j text) (length text)) (ap next_of (drop_all (length text) text (omega arith)) ∙ nothing_next)

fault_is_last : (text : List ℕ) (at : ℕ) (kind : LexFaultKind) → IsFault (drop at text) kind → IsLast text at
fault_is_last text at kind h zero = refl
fault_is_last text at kind h (suc j) = walk_next j text at (next.Fault kind) h

-- what is read up to a last place is one
reads_one : (text : List ℕ) (ts us : List Token) (at bt : ℕ) → Reads text 0 ts at → Reads text 0 us bt → IsLast text at → IsLast text bt → (ts ≡ us) × (at ≡ bt)
reads_one text ts us at bt a b last other =
    let w = reads_walk text 0 ts at a in
    let v = reads_walk text 0 us bt b in
    let commuted : w.steps + v.steps ≡ v.steps + w.steps = omega arith in
    let one : append ts ([], at) ≡ append us ([], bt)
    = ap (append ts) (sym (last v.steps)) ∙ sym (w.by v.steps) ∙ ap (λ k. walk k text 0) commuted ∙ v.by w.steps ∙ ap (append us) (other w.steps) in
    (sym (append-nil ts) ∙ ap (λ (x : Walked). x.0) one ∙ append-nil us, ap (λ (x : Walked). x.1) one)

pub tokens_one : TokensAreOne
tokens_one text ts us a b = (reads_one text ts us (length text) (length text) a b (end_is_last text) (end_is_last text)).0

pub fault_one : FaultIsOne
fault_one text f g a b =
    let place = (reads_one text a.before b.before f.at g.at a.reads b.reads (fault_is_last text f.at f.kind a.stops) (fault_is_last text g.at g.kind b.stops)).1 in
    let there : IsFault (drop f.at text) g.kind = subst (λ m. IsFault (drop m text) g.kind) (sym place) b.stops in
    let kinds : next.Fault f.kind ≡ next.Fault g.kind = begins_with_one (drop f.at text) (next.Fault f.kind) (next.Fault g.kind) a.stops there in
    let kind : f.kind ≡ g.kind = cc in
    ap (λ (k : LexFaultKind). let made : LexFault = record { kind = k; at = f.at } in made) kind
    ∙ ap (λ (m : ℕ). let made : LexFault = record { kind = g.kind; at = m } in made) place

never_both : (text : List ℕ) (ts : List Token) (f : LexFault) → Lexes text ts → IsFirstFault text f → ⊥
never_both text ts f a b =
    let place = (reads_one text ts b.before (length text) f.at a b.reads (end_is_last text) (fault_is_last text f.at f.kind b.stops)).1 in
    let nonempty = fault_nonempty (drop f.at text) f.kind b.stops in
    omega (arith, nonempty, length-drop f.at text)

abbrev Outcome : List ℕ → Type 0
Outcome text = ((ts : List Token) × Lexes text ts) ⊎ ((f : LexFault) × IsFirstFault text f)

-- what a text has that is read up to a place
abbrev Finishes : List ℕ → ℕ → Type 0
Finishes text k = (ts : List Token) (at : ℕ) → length text ≤ at + k → at ≤ length text → Reads text 0 ts at → Outcome text

finish_at : (k : ℕ) (text : List ℕ) → Finishes text k → (ts : List Token) (at : ℕ) (x : Next) → length text ≤ at + suc k → Reads text 0 ts at
    → BeginsWith (drop at text) x → Outcome text
finish_at k text go ts at (next.Blank n) fuel reads h =
    let fits = begins_fits (drop at text) (next.Blank n) h in
    let size = length-drop at text in
    go ts (at + n) (omega (arith, fits.0)) (omega (arith, fits.0, fits.1, size)) (reads_blank text 0 ts at n reads h)
finish_at k text go ts at (next.Token n kind value) fuel reads h =
    let fits = begins_fits (drop at text) (next.Token n kind value) h in
    let size = length-drop at text in
    go (ts ++ (token_at at n kind value ∷ [])) (at + n) (omega (arith, fits.0)) (omega (arith, fits.0, fits.1, size)) (reads_token text 0 ts at n kind value reads h)
finish_at k text go ts at (next.Fault kind) fuel reads h = inr (record { kind = kind; at = at }, record { before = ts; reads = reads; stops = h })

finish : (k : ℕ) (text : List ℕ) → Finishes text k
finish zero text ts at fuel within reads = let over : at ≡ length text = omega arith in inl (ts, subst (Reads text 0 ts) over reads)
finish (suc k) text ts at fuel within reads = ⊎_elim
    (λ (lt : at < length text). finish_at k text (finish k text) ts at (next_of (drop at text)) fuel reads (next_sound (drop at text) (let size = length-drop at text in omega (arith, size))))
    (λ (le : length text ≤ at). let over : at ≡ length text = omega arith in inl (ts, subst (Reads text 0 ts) over reads))
    (order at (length text))

pub tokens_or_fault : TokensOrFault
tokens_or_fault text = (finish (length text) text [] 0 (omega arith) (omega arith) none, never_both text)
