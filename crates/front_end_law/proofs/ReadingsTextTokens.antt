-- The tokens of a text: their values fit, and there are no more of them than bytes.
use Rattle.std.proofs.Common.{◌≡◌, ◌<◌, ◌≤◌, ◌+◌, ℕ, List, [], ◌∷◌, length, drop, arith}
use Rattle.std.specs.Prelude.{IsTrue}
use Rattle.std.proofs.lemmas.List.{length-drop}
use Rattle.std.proofs.lemmas.List.Elements.{All-cons, All-nil}
use Rattle.pt_base.specs.Names.{longest_name}
use Rattle.c_lexer.specs.declared.token.Token.{Token}
use Rattle.c_lexer.specs.declared.next.Next.TheVariants as next
use Rattle.c_lexer.specs.Lexes.{IsGap, none, more, Reads, Lexes, StandsIn}
use Rattle.c_lexer.specs.Values.{value_fits, ValuesFit}
use Rattle.c_lexer.proofs.Fits.{begins_fits}
use Rattle.c_lexer.proofs.ValueLemmas.{meaning_fits}

token_fits : (text : List ℕ) (t : Token) → length text ≤ longest_name → StandsIn text t → IsTrue (value_fits t.value)
token_fits text t few stands =
    let left = length-drop t.span.from text in
    let short : length (drop t.span.from text) ≤ longest_name = omega (arith, left, few) in
    meaning_fits (drop t.span.from text) stands.size t.kind t.value stands.token.longest.within short stands.token.means

tokens_fit : (text : List ℕ) (from : ℕ) (ts : List Token) (to : ℕ) → length text ≤ longest_name → Reads text from ts to → ValuesFit ts
tokens_fit text from [] to few reads = All-nil (λ (t : Token). IsTrue (value_fits t.value))
tokens_fit text from (t ∷ ts) to few reads = All-cons (λ (u : Token). IsTrue (value_fits u.value)) t ts (token_fits text t few reads.1) (tokens_fit text t.span.to ts to few reads.2)

pub values_fit : (text : List ℕ) (ts : List Token) → length text ≤ longest_name → Lexes text ts → ValuesFit ts
values_fit text ts few lexes = tokens_fit text 0 ts (length text) few lexes

-- ---- how many there are

gap_rises : (text : List ℕ) (from to : ℕ) → IsGap text from to → from ≤ to
gap_rises text from to none = omega arith
gap_rises text from to (more {at = at} n gap blank) = let rises = gap_rises text from at gap in omega (arith, rises)

token_rises : (text : List ℕ) (t : Token) → StandsIn text t → t.span.from < t.span.to
token_rises text t stands =
    let some : 0 < stands.size = (begins_fits (drop t.span.from text) (next.Token stands.size t.kind t.value) stands.token).0 in
    let ends : t.span.to ≡ t.span.from + stands.size = stands.ends in
    omega (arith, some, ends)

tokens_rise : (text : List ℕ) (from : ℕ) (ts : List Token) (to : ℕ) → Reads text from ts to → from + length ts ≤ to
tokens_rise text from [] to reads = let rises = gap_rises text from to reads in omega (arith, rises)
tokens_rise text from (t ∷ ts) to reads =
    let gap = gap_rises text from t.span.from reads.0 in
    let token = token_rises text t reads.1 in
    let rest = tokens_rise text t.span.to ts to reads.2 in
    omega (arith, gap, token, rest)

pub tokens_few : (text : List ℕ) (ts : List Token) → Lexes text ts → length ts ≤ length text
tokens_few text ts lexes = let rise = tokens_rise text 0 ts (length text) lexes in omega (arith, rise)
