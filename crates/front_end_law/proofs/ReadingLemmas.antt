-- Each text comes to a reading.
use Rattle.std.proofs.Common.{◌≡◌, ◌<◌, ◌≤◌, ◌⊎◌, ℕ, List, [], ◌∷◌, length, slice_get, refl, inl, inr, arith}
use Rattle.std.proofs.lemmas.Bool.{cases_lt}
use Rattle.c_lexer.specs.declared.TheConstants.{TEXT_LIMIT}
use Rattle.c_lexer.specs.declared.token.Token.{Token}
use Rattle.c_lexer.specs.declared.error.LexFault.{LexFault}
use Rattle.c_lexer.specs.declared.error.LexFaultKind.TheVariants.{TooLong}
use Rattle.c_lexer.specs.Lexes.{Lexes, IsFirstFault}
use Rattle.c_lexer.proofs.Walks.{tokens_or_fault}
use Rattle.c_grammar.specs.Machine.{fault_at, too_deep}
use Rattle.c_parser.specs.Answer.{Gives}
use Rattle.pt_tree.specs.ProgramTree.{ItemTree}
use Rattle.check_declarations.specs.declared.fault.TypeFault.{TypeFault}
use Rattle.check_programs.specs.Answers.{AreFaults}
use Rattle.check_programs.specs.Programs.{checked_program, type_faults}
use Rattle.front_end.specs.declared.parse_fault.ParseFaultKind.TheVariants.{FaultAt, TooDeep}
use Rattle.front_end.specs.Reading.{AreTokens, IsProgram, Reading, typed_tree, lex_fault, parse_fault, type_faults_of, ComesTo, place_of}
use Rattle.front_end_law.specs.ParsesLaws.{AreSomeProgram, StopSomewhere}
use Rattle.front_end_law.proofs.ParsesOutcomes.{tokens_come}
use Rattle.front_end_law.specs.ReadingsLaws.{ProgramsAreTypedOrFaulty, TextsComeToAReading}
use Rattle.front_end_law.proofs.ReadingsTypeFaultOrder.{are_faults, in_order}

abbrev Comes : List ℕ → Type 0
Comes text = (r : Reading) × ComesTo text r

-- a program has type faults or none
told_faults : (all : List TypeFault) → (all ≡ []) ⊎ ((faults : List TypeFault) × AreFaults faults all)
told_faults [] = inl refl
told_faults (f ∷ fs) = let some : 0 < length (f ∷ fs) = omega arith in inr (in_order (f ∷ fs), are_faults (f ∷ fs) some)

pub programs_judged : ProgramsAreTypedOrFaulty
programs_judged program = told_faults (type_faults program)

program_comes : (text : List ℕ) (program : List ItemTree) → IsProgram text program → Comes text
program_comes text program reads = go (programs_judged program)
  where
    go : (type_faults program ≡ []) ⊎ ((faults : List TypeFault) × AreFaults faults (type_faults program)) → Comes text
    go (inl none) = (typed_tree (checked_program program).tree, record { program = program; reads = reads; faultless = none; typed = refl })
    go (inr all) = (type_faults_of all.0, record { program = program; reads = reads; all = all.1 })

-- tokens are a program, or their derivation stops
tokens_read : (text : List ℕ) (tokens : List Token) → AreTokens text tokens → AreSomeProgram tokens ⊎ StopSomewhere tokens → Comes text
tokens_read text tokens lexed (inl p) = program_comes text p.0 (record { tokens = tokens; lexed = lexed; parses = p.1 })
tokens_read text tokens lexed (inr s) = go s.1
  where
    go : Gives tokens (fault_at s.0) ⊎ Gives tokens (too_deep s.0) → Comes text
    go (inl stops) = (
      parse_fault (record { kind = FaultAt; at = place_of text (slice_get tokens s.0) }),
      record { tokens = tokens; lexed = lexed; number = s.0; stops = stops; place = refl },
    )
    go (inr stops) = (
      parse_fault (record { kind = TooDeep; at = place_of text (slice_get tokens s.0) }),
      record { tokens = tokens; lexed = lexed; number = s.0; stops = stops; place = refl },
    )

short_reads : (text : List ℕ) → length text ≤ TEXT_LIMIT → ((ts : List Token) × Lexes text ts) ⊎ ((f : LexFault) × IsFirstFault text f) → Comes text
short_reads text short (inl t) = tokens_read text t.0 (record { short = short; lexes = t.1 }) (tokens_come t.0)
short_reads text short (inr f) = (lex_fault f.0, inr (short, f.1))

pub texts_read : TextsComeToAReading
texts_read text = go (cases_lt TEXT_LIMIT (length text))
  where
    go : (TEXT_LIMIT < length text) ⊎ (length text ≤ TEXT_LIMIT) → Comes text
    go (inl long) = (lex_fault (record { kind = TooLong; at = TEXT_LIMIT }), inl (long, refl))
    go (inr short) = short_reads text short (tokens_or_fault text).0
