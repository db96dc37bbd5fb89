-- The rules and the first fault of a text, as the reading finds them.
use Rattle.std.proofs.Common.{◌≡◌, ◌∙◌, ◌+◌, ◌<◌, ◌≤◌, ℕ, suc, Bool, true, false, ◌==◌, nat_lt, if◌then◌else◌, List, [], ◌∷◌, ◌++◌, length, slice_index, Option, Some, None, Result, Ok, Err, MatchResult, Vec, Global, inr, refl, ap, ap₂, sym, subst, arith, codes, append_assoc, append-nil, length-append}
use Rattle.std.specs.Option.{option_map_or}
use Rattle.std.specs.List.{filter, slice_split, onto_first}
use Rattle.std.proofs.lemmas.Bool.{eqb-true, ltb-true, lt-ltb}
use Rattle.std.proofs.lemmas.Bool.Decides.{nat_tests}
use Rattle.pt_base.proofs.Booleans.{if_false, if_true}
use Rattle.pt_tree.specs.declared.signature.Signature.{Signature}
use Rattle.policy.specs.Lines.{lines_of, words_of, is_passed_over, is_blank, is_word}
use Rattle.policy.specs.Spelled.{SpelledRule}
use Rattle.policy.specs.Rules.{IsRule}
use Rattle.policy.specs.Reading.{rule_of}
use Rattle.policy.specs.ProgramRules.{guarded_function, params_of, are_seen, rule_over, IsRuleOf}
use Rattle.policy.specs.PolicyFault.{HaveRules, none, passed, rule, HasFault, syntax, too_long, unknown_function, unseen_arg, IsPolicy, IsFirstFault, IsPolicyError}
use Rattle.policy.specs.LineReading.{checked_rule, resolved, line_rule, with_rule, then_read, read_from, TextGives}
use Rattle.policy.specs.declared.rule.Rule.{Rule}
use Rattle.policy.specs.declared.error.PolicyFaultKind.{PolicyFaultKind}
use Rattle.policy.specs.declared.error.PolicyFaultKind.TheVariants.{Syntax, UnknownFunction, UnseenArg, TooLong}
use Rattle.policy.specs.declared.error.PolicyFault.{PolicyFault}
use Rattle.policy.specs.declared.error.PolicyError.{PolicyError}
use Rattle.policy.specs.declared.error.PolicyError.TheVariants.{Memory, Fault}
use Rattle.policy.specs.declared.TheConstants.{RULE_LIMIT, TEXT_LIMIT}
use Rattle.policy.proofs.RuleLaws.{rule_is, rule_gives}

-- a line that is passed over spells no rule

first_byte : List (List ℕ) → ℕ
first_byte [] = 0
first_byte (w ∷ ws) = slice_index w 0

comment_byte : (parts : List (List ℕ)) → first_byte (filter is_word (onto_first 35 parts)) ≡ 35
unfolding first_byte
comment_byte [] = refl
comment_byte (part ∷ parts) = refl

from_byte : (ws : List (List ℕ)) → first_byte (codes "from" ∷ ws) ≡ 102
unfolding first_byte
from_byte ws = refl

comment_words : (bs : List ℕ) (ws : List (List ℕ)) → words_of (35 ∷ bs) ≡ codes "from" ∷ ws → ⊥
comment_words bs ws e =
    let bad : ◌≡◌ {A = ℕ} 35 102 = sym (comment_byte (slice_split is_blank bs)) ∙ ap first_byte e ∙ from_byte ws in
    omega arith

no_comment : (line : List ℕ) (ws : List (List ℕ)) → words_of line ≡ codes "from" ∷ ws → is_passed_over line ≡ false
no_comment [] ws e = cc
no_comment (b ∷ bs) ws e = go (b == 35) refl
  where
    go : (t : Bool) → (b == 35) ≡ t → t ≡ false
    go true is = absurd (comment_words bs ws (ap (λ c. words_of (c ∷ bs)) (sym (eqb-true b 35 is)) ∙ e))
    go false is = refl

pub rule_line : (line : List ℕ) (spelled : SpelledRule) → IsRule (words_of line) spelled → is_passed_over line ≡ false
rule_line line spelled is = no_comment line _ is.spelled

-- one line

unfoldable pub Reading : List Signature → ℕ → List ℕ → Result Rule PolicyFaultKind → Type 0
Reading signatures before line (Ok r) = IsRuleOf signatures (words_of line) r × (before < RULE_LIMIT)
Reading signatures before line (Err kind) = HasFault signatures before line kind

checked_reads : (signatures : List Signature) (before : ℕ) (line : List ℕ) (spelled : SpelledRule) (f : ℕ) → IsRule (words_of line) spelled → before < RULE_LIMIT
    → guarded_function signatures spelled.function ≡ Some f → Reading signatures before line (checked_rule (params_of signatures f) spelled f)
unfolding Reading
checked_reads signatures before line spelled f is few guarded = go (are_seen (params_of signatures f) spelled.ranges) refl
  where
    go : (t : Bool) → are_seen (params_of signatures f) spelled.ranges ≡ t → Reading signatures before line (if t then Ok (rule_over (params_of signatures f) spelled f) else Err UnseenArg)
    go true seen = (record { spelled = spelled; spells = is; guarded = guarded; seen = seen; is = refl }, few)
    go false seen = unseen_arg spelled f is few guarded seen

resolved_reads : (signatures : List Signature) (before : ℕ) (line : List ℕ) (spelled : SpelledRule) → IsRule (words_of line) spelled → before < RULE_LIMIT
    → Reading signatures before line (resolved signatures spelled)
unfolding Reading
resolved_reads signatures before line spelled is few = go (guarded_function signatures spelled.function) refl
  where
    go : (o : Option ℕ) → guarded_function signatures spelled.function ≡ o
        → Reading signatures before line (option_map_or (λ f. checked_rule (params_of signatures f) spelled f) o (Err UnknownFunction))
    go None guarded = unknown_function spelled is few guarded
    go (Some f) guarded = checked_reads signatures before line spelled f is few guarded

pub line_reads : (signatures : List Signature) (before : ℕ) (line : List ℕ) → is_passed_over line ≡ false → Reading signatures before line (line_rule signatures before line)
unfolding Reading
line_reads signatures before line counts = go (rule_of (words_of line)) refl
  where
    go : (o : Option SpelledRule) → rule_of (words_of line) ≡ o
        → Reading signatures before line (option_map_or (λ s. if nat_lt before RULE_LIMIT then resolved signatures s else Err TooLong) o (Err Syntax))
    go None is = syntax counts (λ spelled spells. absurd (cc (rule_gives (words_of line) spelled spells)))
    go (Some s) is = among (nat_lt before RULE_LIMIT) refl
      where
        spells : IsRule (words_of line) s
        spells = rule_is (words_of line) s is

        among : (t : Bool) → nat_lt before RULE_LIMIT ≡ t → Reading signatures before line (if t then resolved signatures s else Err TooLong)
        among true few = resolved_reads signatures before line s spells (ltb-true before RULE_LIMIT few)
        among false many = too_long s spells (grind (arith, nat_tests))

read_as : (signatures : List Signature) (before : ℕ) (line : List ℕ) (spelled : SpelledRule) → IsRule (words_of line) spelled
    → line_rule signatures before line ≡ (if nat_lt before RULE_LIMIT then resolved signatures spelled else Err TooLong)
read_as signatures before line spelled is =
    ap (λ o. option_map_or (λ s. if nat_lt before RULE_LIMIT then resolved signatures s else Err TooLong) o (Err Syntax)) (rule_gives (words_of line) spelled is)

read_resolved : (signatures : List Signature) (before : ℕ) (line : List ℕ) (spelled : SpelledRule) → IsRule (words_of line) spelled → before < RULE_LIMIT
    → line_rule signatures before line ≡ resolved signatures spelled
read_resolved signatures before line spelled is few =
    read_as signatures before line spelled is ∙ if_true (nat_lt before RULE_LIMIT) (resolved signatures spelled) (Err TooLong) (lt-ltb before RULE_LIMIT few)

resolved_as : (signatures : List Signature) (spelled : SpelledRule) (o : Option ℕ) → guarded_function signatures spelled.function ≡ o
    → resolved signatures spelled ≡ option_map_or (λ f. checked_rule (params_of signatures f) spelled f) o (Err UnknownFunction)
resolved_as signatures spelled o e = ap (λ x. option_map_or (λ f. checked_rule (params_of signatures f) spelled f) x (Err UnknownFunction)) e

pub rule_read : (signatures : List Signature) (before : ℕ) (line : List ℕ) (r : Rule) → IsRuleOf signatures (words_of line) r → before < RULE_LIMIT → line_rule signatures before line ≡ Ok r
rule_read signatures before line r is few =
    read_resolved signatures before line is.spelled is.spells few
    ∙ resolved_as signatures is.spelled (Some r.function.0) is.guarded
    ∙ if_true (are_seen (params_of signatures r.function.0) is.spelled.ranges) (Ok (rule_over (params_of signatures r.function.0) is.spelled r.function.0)) (Err UnseenArg) is.seen
    ∙ ap Ok (sym is.is)

pub fault_read : (signatures : List Signature) (before : ℕ) (line : List ℕ) (kind : PolicyFaultKind) → HasFault signatures before line kind
    → (is_passed_over line ≡ false) × (line_rule signatures before line ≡ Err kind)
fault_read signatures before line kind (syntax counts no_rule) = (counts, go (rule_of (words_of line)) refl)
  where
    go : (o : Option SpelledRule) → rule_of (words_of line) ≡ o
        → option_map_or (λ s. if nat_lt before RULE_LIMIT then resolved signatures s else Err TooLong) o (Err Syntax) ≡ Err Syntax
    go None is = refl
    go (Some s) is = absurd (no_rule s (rule_is (words_of line) s is))
fault_read signatures before line kind (too_long s is many) = (
  rule_line line s is,
  read_as signatures before line s is ∙ if_false (nat_lt before RULE_LIMIT) (resolved signatures s) (Err TooLong) (grind (arith, nat_tests)),
)
fault_read signatures before line kind (unknown_function s is few unknown) =
    (rule_line line s is, read_resolved signatures before line s is few ∙ resolved_as signatures s None unknown)
fault_read signatures before line kind (unseen_arg s f is few guarded unseen) = (
  rule_line line s is,
  read_resolved signatures before line s is few ∙ resolved_as signatures s (Some f) guarded
      ∙ if_false (are_seen (params_of signatures f) s.ranges) (Ok (rule_over (params_of signatures f) s f)) (Err UnseenArg) unseen,
)

-- the lines of a text

step_passed : (signatures : List Signature) (rules : List Rule) (n : ℕ) (line : List ℕ) (lines : List (List ℕ)) → is_passed_over line ≡ true
    → read_from signatures rules n (line ∷ lines) ≡ read_from signatures rules (n + 1) lines
step_passed signatures rules n line lines e =
    ap (λ t. then_read (λ rs. read_from signatures rs (n + 1) lines) (if t then Ok rules else with_rule rules (n + 1) (line_rule signatures (length rules) line))) e

step_counts : (signatures : List Signature) (rules : List Rule) (n : ℕ) (line : List ℕ) (lines : List (List ℕ)) (r : Result Rule PolicyFaultKind) → is_passed_over line ≡ false
    → line_rule signatures (length rules) line ≡ r
    → read_from signatures rules n (line ∷ lines) ≡ then_read (λ rs. read_from signatures rs (n + 1) lines) (with_rule rules (n + 1) r)
step_counts signatures rules n line lines r e is =
    ap (λ t. then_read (λ rs. read_from signatures rs (n + 1) lines) (if t then Ok rules else with_rule rules (n + 1) (line_rule signatures (length rules) line))) e
    ∙ ap (λ x. then_read (λ rs. read_from signatures rs (n + 1) lines) (with_rule rules (n + 1) x)) is

-- faultless lines are read on
pub reads_on : (signatures : List Signature) (lines rest : List (List ℕ)) (rules so_far : List Rule) (n : ℕ) → HaveRules signatures lines rules → length so_far + length rules ≤ RULE_LIMIT
    → read_from signatures so_far n (lines ++ rest) ≡ read_from signatures (so_far ++ rules) (n + length lines) rest
reads_on signatures lines rest rules so_far n none few =
    ap₂ (λ rs k. read_from signatures rs k rest) (sym (append-nil so_far)) (omega arith)
reads_on signatures lines rest rules so_far n (passed line ls rs over have) few =
    step_passed signatures so_far n line (ls ++ rest) over
    ∙ reads_on signatures ls rest rs so_far (n + 1) have few
    ∙ ap (λ k. read_from signatures (so_far ++ rs) k rest) (omega arith)
reads_on signatures lines rest rules so_far n (rule line ls r rs is have) few =
    let room : length so_far < RULE_LIMIT = omega arith in
    let longer : length (so_far ++ r ∷ []) ≡ length so_far + 1 = length-append so_far (r ∷ []) in
    let left : length (so_far ++ r ∷ []) + length rs ≤ RULE_LIMIT = omega arith in
    step_counts signatures so_far n line (ls ++ rest) (Ok r) (rule_line line is.spelled is.spells) (rule_read signatures (length so_far) line r is room)
    ∙ reads_on signatures ls rest rs (so_far ++ r ∷ []) (n + 1) have left
    ∙ ap₂ (λ xs k. read_from signatures xs k rest) (append_assoc so_far (r ∷ []) rs) (omega arith)

-- and a fault ends the reading
pub reads_fault : (signatures : List Signature) (rules : List Rule) (n : ℕ) (line : List ℕ) (lines : List (List ℕ)) (kind : PolicyFaultKind) → HasFault signatures (length rules) line kind
    → read_from signatures rules n (line ∷ lines) ≡ Err (record { kind = kind; line = n + 1 })
reads_fault signatures rules n line lines kind fault =
    let f = fault_read signatures (length rules) line kind fault in
    step_counts signatures rules n line lines (Err kind) f.0 f.1

pub record AllRead (signatures : List Signature) (so_far : List Rule) (lines : List (List ℕ)) (all : List Rule) : Type 0 where
  pub rules : List Rule
  pub whole : all ≡ so_far ++ rules
  pub have : HaveRules signatures lines rules
  pub few : length so_far + length rules ≤ RULE_LIMIT

pub record Stopped (signatures : List Signature) (so_far : List Rule) (n : ℕ) (lines : List (List ℕ)) (fault : PolicyFault) : Type 0 where
  pub before : List (List ℕ)
  pub line : List ℕ
  pub after : List (List ℕ)
  pub rules : List Rule
  pub cut : lines ≡ before ++ line ∷ after
  pub number : fault.line ≡ n + length before + 1
  pub have : HaveRules signatures before rules
  pub few : length so_far + length rules ≤ RULE_LIMIT
  pub faulty : HasFault signatures (length so_far + length rules) line fault.kind

unfoldable pub IsRead : List Signature → List Rule → ℕ → List (List ℕ) → Result (List Rule) PolicyFault → Type 0
IsRead signatures so_far n lines (Ok all) = AllRead signatures so_far lines all
IsRead signatures so_far n lines (Err fault) = Stopped signatures so_far n lines fault

read_passed : (signatures : List Signature) (so_far : List Rule) (n : ℕ) (line : List ℕ) (lines : List (List ℕ)) (r : Result (List Rule) PolicyFault) → is_passed_over line ≡ true
    → IsRead signatures so_far (n + 1) lines r → IsRead signatures so_far n (line ∷ lines) r
unfolding IsRead
read_passed signatures so_far n line lines (Ok all) over is = record { rules = is.rules; whole = is.whole; have = passed line lines is.rules over is.have; few = is.few }
read_passed signatures so_far n line lines (Err fault) over is = record {
  before = line ∷ is.before;
  line = is.line;
  after = is.after;
  rules = is.rules;
  cut = ap (λ ls. line ∷ ls) is.cut;
  number = let number : fault.line ≡ n + 1 + length is.before + 1 = is.number in omega arith;
  have = passed line is.before is.rules over is.have;
  few = is.few;
  faulty = is.faulty;
}

read_rule : (signatures : List Signature) (so_far : List Rule) (n : ℕ) (line : List ℕ) (lines : List (List ℕ)) (r : Rule) (x : Result (List Rule) PolicyFault)
    → IsRuleOf signatures (words_of line) r → IsRead signatures (so_far ++ r ∷ []) (n + 1) lines x → IsRead signatures so_far n (line ∷ lines) x
unfolding IsRead
read_rule signatures so_far n line lines r (Ok all) rules is =
    let longer : length (so_far ++ r ∷ []) ≡ length so_far + 1 = length-append so_far (r ∷ []) in
    let few : length (so_far ++ r ∷ []) + length is.rules ≤ RULE_LIMIT = is.few in
    record { rules = r ∷ is.rules; whole = is.whole ∙ append_assoc so_far (r ∷ []) is.rules; have = rule line lines r is.rules rules is.have; few = omega arith }
read_rule signatures so_far n line lines r (Err fault) rules is =
    let longer : length (so_far ++ r ∷ []) ≡ length so_far + 1 = length-append so_far (r ∷ []) in
    let few : length (so_far ++ r ∷ []) + length is.rules ≤ RULE_LIMIT = is.few in
    let same : length (so_far ++ r ∷ []) + length is.rules ≡ length so_far + suc (length is.rules) = omega arith in
    record {
      before = line ∷ is.before;
      line = is.line;
      after = is.after;
      rules = r ∷ is.rules;
      cut = ap (λ ls. line ∷ ls) is.cut;
      number = let number : fault.line ≡ n + 1 + length is.before + 1 = is.number in omega arith;
      have = rule line is.before r is.rules rules is.have;
      few = omega arith;
      faulty = subst (λ k. HasFault signatures k is.line fault.kind) same is.faulty;
    }

ReadsOn : List Signature → ℕ → List (List ℕ) → Type 0
ReadsOn signatures n lines = (rs : List Rule) → length rs ≤ RULE_LIMIT → IsRead signatures rs n lines (read_from signatures rs n lines)

read_ruled : (signatures : List Signature) (so_far : List Rule) (n : ℕ) (line : List ℕ) (lines : List (List ℕ)) (r : Result Rule PolicyFaultKind) → length so_far ≤ RULE_LIMIT
    → ReadsOn signatures (n + 1) lines → Reading signatures (length so_far) line r
    → IsRead signatures so_far n (line ∷ lines) (then_read (λ rs. read_from signatures rs (n + 1) lines) (with_rule so_far (n + 1) r))
unfolding IsRead Reading ReadsOn
read_ruled signatures so_far n line lines (Ok r) few on is =
    let longer : length (so_far ++ r ∷ []) ≡ length so_far + 1 = length-append so_far (r ∷ []) in
    let room : length so_far < RULE_LIMIT = is.1 in
    let small : length (so_far ++ r ∷ []) ≤ RULE_LIMIT = omega arith in
    read_rule signatures so_far n line lines r (read_from signatures (so_far ++ r ∷ []) (n + 1) lines) is.0 (on (so_far ++ r ∷ []) small)
read_ruled signatures so_far n line lines (Err kind) few on fault =
    let same : length so_far ≡ length so_far + 0 = omega arith in
    record {
      before = [];
      line = line;
      after = lines;
      rules = [];
      cut = refl;
      number = omega arith;
      have = none;
      few = omega arith;
      faulty = subst (λ k. HasFault signatures k line kind) same fault;
    }

read_line : (signatures : List Signature) (so_far : List Rule) (n : ℕ) (line : List ℕ) (lines : List (List ℕ)) → length so_far ≤ RULE_LIMIT
    → ReadsOn signatures (n + 1) lines → IsRead signatures so_far n (line ∷ lines) (read_from signatures so_far n (line ∷ lines))
unfolding ReadsOn
read_line signatures so_far n line lines few on = go (is_passed_over line) refl
  where
    go : (t : Bool) → is_passed_over line ≡ t
        → IsRead signatures so_far n (line ∷ lines) (then_read (λ rs. read_from signatures rs (n + 1) lines) (if t then Ok so_far else with_rule so_far (n + 1) (line_rule signatures (length so_far) line)))
    go true over = read_passed signatures so_far n line lines (read_from signatures so_far (n + 1) lines) over (on so_far few)
    go false counts = read_ruled signatures so_far n line lines (line_rule signatures (length so_far) line) few on (line_reads signatures (length so_far) line counts)

-- what the reading gives is so
pub reads : (signatures : List Signature) (so_far : List Rule) (n : ℕ) (lines : List (List ℕ)) → length so_far ≤ RULE_LIMIT → IsRead signatures so_far n lines (read_from signatures so_far n lines)
unfolding IsRead ReadsOn
reads signatures so_far n [] few = record { rules = []; whole = sym (append-nil so_far); have = none; few = omega arith }
reads signatures so_far n (line ∷ lines) few = read_line signatures so_far n line lines few (λ rs small. reads signatures rs (n + 1) lines small)

-- whole texts

pub policy_reads : (signatures : List Signature) (text : List ℕ) (rules : List Rule) → IsPolicy signatures text rules → read_from signatures [] 0 (lines_of text) ≡ Ok rules
policy_reads signatures text rules is =
    ap (read_from signatures [] 0) (sym (append-nil (lines_of text)))
    ∙ reads_on signatures (lines_of text) [] rules [] 0 is.lines (let few : length rules ≤ RULE_LIMIT = is.few in omega arith)

pub fault_reads : (signatures : List Signature) (text : List ℕ) (fault : PolicyFault) → IsFirstFault signatures text fault → read_from signatures [] 0 (lines_of text) ≡ Err fault
fault_reads signatures text fault is =
    ap (read_from signatures [] 0) is.lines
    ∙ reads_on signatures is.before (is.line ∷ is.after) is.rules [] 0 is.faultless (let few : length is.rules ≤ RULE_LIMIT = is.few in omega arith)
    ∙ reads_fault signatures is.rules (0 + length is.before) is.line is.after fault.kind is.faulty
    ∙ ap (λ n. Err record { kind = fault.kind; line = n }) (let number : fault.line ≡ length is.before + 1 = is.number in omega arith)

pub reads_policy : (signatures : List Signature) (text : List ℕ) (rules : List Rule) → length text ≤ TEXT_LIMIT → read_from signatures [] 0 (lines_of text) ≡ Ok rules → IsPolicy signatures text rules
unfolding IsRead
reads_policy signatures text rules short e =
    let all : AllRead signatures [] (lines_of text) rules = subst (IsRead signatures [] 0 (lines_of text)) e (reads signatures [] 0 (lines_of text) (omega arith)) in
    let few : 0 + length all.rules ≤ RULE_LIMIT = all.few in
    subst (IsPolicy signatures text) (sym all.whole) record { short = short; lines = all.have; few = omega arith }

pub reads_first_fault : (signatures : List Signature) (text : List ℕ) (fault : PolicyFault) → read_from signatures [] 0 (lines_of text) ≡ Err fault → IsFirstFault signatures text fault
unfolding IsRead
reads_first_fault signatures text fault e =
    let stopped : Stopped signatures [] 0 (lines_of text) fault = subst (IsRead signatures [] 0 (lines_of text)) e (reads signatures [] 0 (lines_of text) (omega arith)) in
    let few : 0 + length stopped.rules ≤ RULE_LIMIT = stopped.few in
    let number : fault.line ≡ 0 + length stopped.before + 1 = stopped.number in
    let none' : 0 + length stopped.rules ≡ length stopped.rules = omega arith in
    record {
      before = stopped.before;
      line = stopped.line;
      after = stopped.after;
      rules = stopped.rules;
      lines = stopped.cut;
      number = omega arith;
      faultless = stopped.have;
      few = omega arith;
      faulty = subst (λ k. HasFault signatures k stopped.line fault.kind) none' stopped.faulty;
    }

pub policy_few : (signatures : List Signature) (text : List ℕ) (rules : List Rule) → IsPolicy signatures text rules → length rules ≤ RULE_LIMIT
policy_few signatures text rules is = is.few

-- what a call answers is so
pub text_is : (signatures : List Signature) (text : List ℕ) (r : Result (Vec Rule Global) PolicyError) → length text ≤ TEXT_LIMIT → TextGives r (read_from signatures [] 0 (lines_of text))
    → MatchResult r (λ rules. IsPolicy signatures text rules.items) (IsPolicyError signatures text)
text_is signatures text (Ok rules) short gives = reads_policy signatures text rules.items short gives
text_is signatures text (Err Memory) short gives = tt
text_is signatures text (Err (Fault fault)) short gives = inr (short, reads_first_fault signatures text fault gives)
