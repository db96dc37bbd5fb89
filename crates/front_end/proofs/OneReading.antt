-- A text comes to one reading at most: its tokens are one list, the derivation has one outcome, and a
-- set of faults has one ascending list.
use Rattle.std.proofs.Common.{◌≡◌, ◌<◌, ◌≤◌, ◌⊎◌, ◌∙◌, ℕ, List, [], ◌∷◌, Some, length, sym, ap, subst, inl, inr, arith}
use Rattle.std.specs.Prelude.{slice_get}
use Rattle.std.specs.List.{Contains}
use Rattle.pt_tree.specs.ProgramTree.{ItemTree}
use Rattle.typed_tree.specs.TypedTree.{TypedTree}
use Rattle.check_declarations.specs.declared.fault.TypeFault.{TypeFault}
use Rattle.check_declarations.specs.Faults.{fault_cmp}
use Rattle.c_lexer.specs.declared.TheConstants.{TEXT_LIMIT}
use Rattle.c_lexer.specs.declared.token.Token.{Token}
use Rattle.c_lexer.specs.declared.error.LexFault.{LexFault}
use Rattle.c_lexer.specs.Lexes.{IsLexFault}
use Rattle.c_lexer.proofs.Walks.{tokens_one, fault_one, tokens_or_fault}
use Rattle.c_grammar.specs.Part.{Part, items}
use Rattle.c_grammar.specs.Machine.{Outcome, done, fault_at, too_deep, unfinished, derived}
use Rattle.c_parser.specs.Answer.{Gives}
use Rattle.c_parser.specs.Parses.{deepest}
use Rattle.c_parser.proofs.Outcomes.{one_outcome}
use Rattle.check_programs.specs.Answers.{AreFaults}
use Rattle.check_programs.specs.Programs.{checked_program, type_faults}
use Rattle.front_end.specs.declared.parse_fault.ParseFault.{ParseFault}
use Rattle.front_end.specs.declared.parse_fault.ParseFaultKind.{ParseFaultKind}
use Rattle.front_end.specs.declared.parse_fault.ParseFaultKind.TheVariants.{FaultAt, TooDeep}
use Rattle.front_end.specs.Reading.{AreTokens, IsProgram, IsParseFault, HasTypedTree, HasTypeFaults, Reading, typed_tree, lex_fault, parse_fault, type_faults_of, ComesTo, ReadingIsOne, stopped, place_of}
use Rattle.front_end.proofs.SortedFaults.{same_members, one_way}

-- ---- tokens

same_tokens : (text : List ℕ) (ts us : List Token) → AreTokens text ts → AreTokens text us → ts ≡ us
same_tokens text ts us a b = tokens_one text ts us a.lexes b.lexes

no_tokens : (text : List ℕ) (f : LexFault) (ts : List Token) → IsLexFault text f → AreTokens text ts → ⊥
no_tokens text f ts (inl long) a =
    let over : TEXT_LIMIT < length text = long.0 in
    let short : length text ≤ TEXT_LIMIT = a.short in
    absurd (omega arith)
no_tokens text f ts (inr first) a = (tokens_or_fault text).1 ts f a.lexes first.1

same_lex_fault : (text : List ℕ) (f g : LexFault) → IsLexFault text f → IsLexFault text g → f ≡ g
same_lex_fault text f g (inl a) (inl b) = a.1 ∙ sym b.1
same_lex_fault text f g (inl a) (inr b) =
    let over : TEXT_LIMIT < length text = a.0 in
    let short : length text ≤ TEXT_LIMIT = b.0 in
    absurd (omega arith)
same_lex_fault text f g (inr a) (inl b) =
    let over : TEXT_LIMIT < length text = b.0 in
    let short : length text ≤ TEXT_LIMIT = a.0 in
    absurd (omega arith)
same_lex_fault text f g (inr a) (inr b) = fault_one text f g a.1 b.1

-- ---- the derivation

same_outcome : (ts : List Token) (o p : Outcome) → Gives ts o → Gives ts p → (o ≡ unfinished → ⊥) → (p ≡ unfinished → ⊥) → o ≡ p
same_outcome ts o p g h n m =
    sym g.1 ∙ one_outcome (Some deepest) ts g.0 h.0 (λ z. n (sym g.1 ∙ z)) (λ z. m (sym h.1 ∙ z)) ∙ h.1

outcomes : (text : List ℕ) (ts us : List Token) (o p : Outcome) → AreTokens text ts → AreTokens text us → Gives ts o → Gives us p
    → (o ≡ unfinished → ⊥) → (p ≡ unfinished → ⊥) → o ≡ p
outcomes text ts us o p a b g h n m =
    let same : us ≡ ts = same_tokens text us ts b a in
    let P : List Token → Type 0 = λ x. Gives x p in
    same_outcome ts o p g (subst P same h) n m

done_ends : (parts : List Part) → done parts ≡ unfinished → ⊥
done_ends parts z = cc

stopped_ends : (k : ParseFaultKind) (n : ℕ) → stopped k n ≡ unfinished → ⊥
stopped_ends FaultAt n z = cc
stopped_ends TooDeep n z = cc

stopped_is_not_done : (k : ParseFaultKind) (n : ℕ) (parts : List Part) → stopped k n ≡ done parts → ⊥
stopped_is_not_done FaultAt n parts z = cc
stopped_is_not_done TooDeep n parts z = cc

same_kind : (k j : ParseFaultKind) (n m : ℕ) → stopped k n ≡ stopped j m → k ≡ j
same_kind FaultAt FaultAt n m z = cc
same_kind FaultAt TooDeep n m z = cc
same_kind TooDeep FaultAt n m z = cc
same_kind TooDeep TooDeep n m z = cc

same_number : (k j : ParseFaultKind) (n m : ℕ) → stopped k n ≡ stopped j m → n ≡ m
same_number FaultAt FaultAt n m z = cc
same_number FaultAt TooDeep n m z = cc
same_number TooDeep FaultAt n m z = cc
same_number TooDeep TooDeep n m z = cc

same_done : (p q : List ItemTree) → done (items p ∷ []) ≡ done (items q ∷ []) → p ≡ q
same_done p q z = cc

same_program : (text : List ℕ) (p q : List ItemTree) → IsProgram text p → IsProgram text q → p ≡ q
same_program text p q a b =
    same_done p q (outcomes text a.tokens b.tokens _ _ a.lexed b.lexed a.parses b.parses (done_ends _) (done_ends _))

no_program : (text : List ℕ) (f : ParseFault) (p : List ItemTree) → IsParseFault text f → IsProgram text p → ⊥
no_program text f p a b =
    stopped_is_not_done f.kind a.number _
    (outcomes text a.tokens b.tokens _ _ a.lexed b.lexed a.stops b.parses (stopped_ends f.kind a.number) (done_ends _))

abbrev fault : ParseFaultKind → ℕ → ParseFault
fault k n = record { kind = k; at = n }

same_parts : (k j : ParseFaultKind) (n m : ℕ) → k ≡ j → n ≡ m → fault k n ≡ fault j m
same_parts k j n m h e = ap (λ x. fault x n) h ∙ ap (fault j) e

same_fault : (f g : ParseFault) → f.kind ≡ g.kind → f.at ≡ g.at → f ≡ g
same_fault f g h e = same_parts f.kind g.kind f.at g.at h e

same_parse_fault : (text : List ℕ) (f g : ParseFault) → IsParseFault text f → IsParseFault text g → f ≡ g
same_parse_fault text f g a b =
    let ts : a.tokens ≡ b.tokens = same_tokens text a.tokens b.tokens a.lexed b.lexed in
    let z : stopped f.kind a.number ≡ stopped g.kind b.number =
    outcomes text a.tokens b.tokens _ _ a.lexed b.lexed a.stops b.stops (stopped_ends f.kind a.number) (stopped_ends g.kind b.number) in
    let n : a.number ≡ b.number = same_number f.kind g.kind a.number b.number z in
    let at : place_of text (slice_get a.tokens a.number) ≡ place_of text (slice_get b.tokens b.number) =
    ap (λ x. place_of text (slice_get x a.number)) ts ∙ ap (λ x. place_of text (slice_get b.tokens x)) n in
    same_fault f g (same_kind f.kind g.kind a.number b.number z) (a.place ∙ at ∙ sym b.place)

-- ---- types

same_tree : (text : List ℕ) (t u : TypedTree) → HasTypedTree text t → HasTypedTree text u → t ≡ u
same_tree text t u a b =
    a.typed ∙ ap (λ p. (checked_program p).tree) (same_program text a.program b.program a.reads b.reads) ∙ sym b.typed

no_type_fault : (text : List ℕ) (t : TypedTree) (fs : List TypeFault) → HasTypedTree text t → HasTypeFaults text fs → ⊥
no_type_fault text t fs a b =
    let same : type_faults b.program ≡ type_faults a.program = ap type_faults (same_program text b.program a.program b.reads a.reads) in
    let some : 0 < length (type_faults b.program) = b.all.some in
    let P : List TypeFault → Type 0 = λ x. 0 < length x in
    let none : 0 < length {A = TypeFault} [] = subst P (same ∙ a.faultless) some in
    absurd (omega arith)

same_type_faults : (text : List ℕ) (fs gs : List TypeFault) → HasTypeFaults text fs → HasTypeFaults text gs → fs ≡ gs
same_type_faults text fs gs a b =
    let same : type_faults b.program ≡ type_faults a.program = ap type_faults (same_program text b.program a.program b.reads a.reads) in
    let P : List TypeFault → Type 0 = λ x. AreFaults gs x in
    let all : AreFaults gs (type_faults a.program) = subst P same b.all in
    same_members fault_cmp one_way fs gs a.all.sorted all.sorted
    (λ f. ((λ h. (all.same f).1 ((a.all.same f).0 h)), (λ h. (a.all.same f).1 ((all.same f).0 h))))

-- ---- readings

pub reading_is_one : ReadingIsOne
reading_is_one text (typed_tree t) (typed_tree u) a b = ap typed_tree (same_tree text t u a b)
reading_is_one text (typed_tree t) (lex_fault g) a b = absurd (no_tokens text g _ b a.reads.lexed)
reading_is_one text (typed_tree t) (parse_fault g) a b = absurd (no_program text g _ b a.reads)
reading_is_one text (typed_tree t) (type_faults_of gs) a b = absurd (no_type_fault text t gs a b)
reading_is_one text (lex_fault f) (typed_tree u) a b = absurd (no_tokens text f _ a b.reads.lexed)
reading_is_one text (lex_fault f) (lex_fault g) a b = ap lex_fault (same_lex_fault text f g a b)
reading_is_one text (lex_fault f) (parse_fault g) a b = absurd (no_tokens text f _ a b.lexed)
reading_is_one text (lex_fault f) (type_faults_of gs) a b = absurd (no_tokens text f _ a b.reads.lexed)
reading_is_one text (parse_fault f) (typed_tree u) a b = absurd (no_program text f _ a b.reads)
reading_is_one text (parse_fault f) (lex_fault g) a b = absurd (no_tokens text g _ b a.lexed)
reading_is_one text (parse_fault f) (parse_fault g) a b = ap parse_fault (same_parse_fault text f g a b)
reading_is_one text (parse_fault f) (type_faults_of gs) a b = absurd (no_program text f _ a b.reads)
reading_is_one text (type_faults_of fs) (typed_tree u) a b = absurd (no_type_fault text u fs b a)
reading_is_one text (type_faults_of fs) (lex_fault g) a b = absurd (no_tokens text g _ b a.reads.lexed)
reading_is_one text (type_faults_of fs) (parse_fault g) a b = absurd (no_program text g _ b a.reads)
reading_is_one text (type_faults_of fs) (type_faults_of gs) a b = ap type_faults_of (same_type_faults text fs gs a b)
