-- The tokens of a whole text, and its first fault.
use Rattle.std.specs.Prelude.{ℕ, ◌+◌, ◌≡◌, ◌≢◌, ◌≤◌, ◌<◌, ◌⊎◌, false, List, [], ◌∷◌, ◌++◌, length, take, drop, slice_index, IsTrue, None, codes}
use Rattle.c_lexer.specs.Bytes.{is_space}
use Rattle.c_lexer.specs.Numbers.{is_number, constant_of}
use Rattle.c_lexer.specs.Comments.{opens_comment, has_close, IsBlank}
use Rattle.c_lexer.specs.Lexemes.{IsLexeme, IsLongest, StartsToken}
use Rattle.c_lexer.specs.declared.token.Token.{Token}
use Rattle.c_lexer.specs.declared.error.LexFaultKind.{LexFaultKind}
use Rattle.c_lexer.specs.declared.error.LexFaultKind.TheVariants.{BadByte, OpenComment, BadNumber, BadChar, TooLong}
use Rattle.c_lexer.specs.declared.error.LexFault.{LexFault}
use Rattle.c_lexer.specs.declared.error.LexError.{LexError}
use Rattle.c_lexer.specs.declared.error.LexError.TheVariants.{Memory, Fault}
use Rattle.c_lexer.specs.declared.TheConstants.{TEXT_LIMIT}

-- from one place to the other the text has nothing but space and comments
pub data IsGap (text : List ℕ) : ℕ → ℕ → Type 0 where
  none : {at : ℕ} → IsGap text at at
  more : {from at : ℕ} (n : ℕ) → IsGap text from at → IsBlank (drop at text) n → IsGap text from (at + n)

-- the bytes of the token's span are the token
pub record StandsIn (text : List ℕ) (t : Token) : Type 0 where
  pub size : ℕ
  pub ends : t.span.to ≡ t.span.from + size
  pub token : StartsToken (drop t.span.from text) size t.kind t.value

-- from one place to the other the text is these tokens one after another, and around them space and comments alone
abbrev pub Reads : List ℕ → ℕ → List Token → ℕ → Type 0
Reads text from [] to = IsGap text from to
Reads text from (t ∷ ts) to = IsGap text from t.span.from × StandsIn text t × Reads text t.span.to ts to

-- the whole text is these tokens
abbrev pub Lexes : List ℕ → List Token → Type 0
Lexes text tokens = Reads text 0 tokens (length text)

-- no word begins there
abbrev pub NoLexeme : List ℕ → Type 0
NoLexeme bs = (n : ℕ) → n ≤ length bs → IsLexeme (take n bs) → ⊥

-- neither a token nor space nor a complete comment starts there, and why
pub data IsFault (bs : List ℕ) : LexFaultKind → Type 0 where
  bad_byte : 0 < length bs → is_space (slice_index bs 0) ≡ false → slice_index bs 0 ≢ 39 → opens_comment bs ≡ false
      → NoLexeme bs → IsFault bs BadByte
  open_comment : (body : List ℕ) → bs ≡ codes "/*" ++ body → has_close body ≡ false → IsFault bs OpenComment
  bad_number : (n : ℕ) → IsLongest bs n → IsTrue (is_number (take n bs)) → constant_of (take n bs) ≡ None → IsFault bs BadNumber
  bad_char : slice_index bs 0 ≡ 39 → NoLexeme bs → IsFault bs BadChar

-- up to the fault's place the text is tokens, and there nothing begins
pub record IsFirstFault (text : List ℕ) (fault : LexFault) : Type 0 where
  pub before : List Token
  pub reads : Reads text 0 before fault.at
  pub stops : IsFault (drop fault.at text) fault.kind

-- a text over the limit has the fault TooLong at the limit, and any other its first fault
abbrev pub IsLexFault : List ℕ → LexFault → Type 0
IsLexFault text fault =
    ((TEXT_LIMIT < length text) × (fault ≡ record { kind = TooLong; at = TEXT_LIMIT }))
    ⊎ ((length text ≤ TEXT_LIMIT) × IsFirstFault text fault)

-- the error is want of memory, or exactly the text's fault
abbrev pub IsLexError : List ℕ → LexError → Type 0
IsLexError text Memory = Unit {0}
IsLexError text (Fault fault) = IsLexFault text fault

-- two lists of tokens of one text are equal
abbrev pub TokensAreOne : Type 0
TokensAreOne = (text : List ℕ) (ts us : List Token) → Lexes text ts → Lexes text us → ts ≡ us

-- two first faults of one text are equal
abbrev pub FaultIsOne : Type 0
FaultIsOne = (text : List ℕ) (f g : LexFault) → IsFirstFault text f → IsFirstFault text g → f ≡ g

-- a text has tokens or a fault, and never both
abbrev pub TokensOrFault : Type 0
TokensOrFault =
    (text : List ℕ)
    → (((ts : List Token) × Lexes text ts) ⊎ ((f : LexFault) × IsFirstFault text f))
    × ((ts : List Token) (f : LexFault) → Lexes text ts → IsFirstFault text f → ⊥)
