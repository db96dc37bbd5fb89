-- The policy's text is a policy of its rules.
use Rattle.std.proofs.Common.{◌≡◌, ◌∙◌, ◌+◌, ℕ, true, false, cond, List, [], ◌∷◌, ◌++◌, slice_get, Option, Some, None, option_and_then, codes, refl, sym, ap, subst, arith}
use Rattle.std.specs.List.{list_all}
use Rattle.std.specs.Option.{option_map_or}
use Rattle.std.proofs.lemmas.Bool.{and_parts}
use Rattle.std.proofs.lemmas.List.{length-map}
use Rattle.std.proofs.lemmas.Option.{slice_get-map}
use Rattle.pt_base.specs.declared.ids.FnId.{FnId}
use Rattle.pt_tree.specs.declared.signature.Signature.{Signature}
use Rattle.typed_tree.specs.TypedTree.{FunctionTree, TypedTree, signatures_of}
use Rattle.typed_tree.specs.WellFormed.{are_distinct}
use Rattle.policy.specs.Lines.{lines_of, words_of}
use Rattle.policy.specs.PolicyFault as fault
use Rattle.policy.specs.PolicyFault.{HaveRules, IsPolicy}
use Rattle.policy.specs.ProgramRules.{is_privileged, guarded_function, IsRuleOf}
use Rattle.policy.specs.Rules as rules
use Rattle.policy.specs.Rules.{IsRule}
use Rattle.policy.specs.Spelled.{SpelledRule}
use Rattle.c_lexer.specs.Lexemes.{is_identifier}
use Rattle.starting_texts.specs.Laws.{PoliciesHaveNoFault}
use Rattle.starting_texts.specs.Names.{HasPlainNames}
use Rattle.starting_texts.specs.Policies.{rule_line, rule_of, policy_text, start_rule, start_rules}
use Rattle.starting_texts.proofs.CompactLemmas.{identifiers}
use Rattle.starting_texts.proofs.LineLemmas.{line_of, first_line, rule_words}
use Rattle.starting_texts.proofs.NameLemmas.{names_of, names_are, identifier_at, named_at}

-- what the words of a rule's line spell
abbrev spelled_rule : List ℕ → SpelledRule
spelled_rule name = record { from = codes "start"; function = name; ranges = []; most = None; to = codes "start" }

spells : (name : List ℕ) → is_identifier name ≡ true → IsRule (words_of (line_of name)) (spelled_rule name)
spells name h = record {
  arguments = [];
  limit = [];
  spelled = rule_words name h;
  from_state = refl;
  ranges = rules.none;
  most = rules.without;
  to_state = refl;
}

-- a privileged function of the program
record Guarded (t : TypedTree) (f : FnId) : Type 0 where
  signature : Signature
  stands : slice_get (signatures_of t) f.0 ≡ Some signature
  privileged : signature.privileged ≡ true

guarded_at : (t : TypedTree) (f : FnId) → is_privileged (signatures_of t) f.0 ≡ true → Guarded t f
guarded_at t f h = go (slice_get (signatures_of t) f.0) refl h
  where
    go : (o : Option Signature) → slice_get (signatures_of t) f.0 ≡ o → option_map_or (λ (s : Signature). s.privileged) o false ≡ true → Guarded t f
    go None at h = absurd (cc)
    go (Some s) at h = record { signature = s; stands = at; privileged = h }

-- it is found by its name
named_guarded : (t : TypedTree) (f : FnId) (g : Guarded t f) → HasPlainNames t → guarded_function (signatures_of t) g.signature.name ≡ Some f.0
named_guarded t f g plain =
    let distinct : are_distinct (names_of (signatures_of t)) ≡ true = ap are_distinct (names_are t.functions) ∙ plain.distinct in
    let number : 0 + f.0 ≡ f.0 = omega arith in
    let privileged : is_privileged (signatures_of t) f.0 ≡ true = ap (λ (o : Option Signature). option_map_or (λ (s : Signature). s.privileged) o false) g.stands ∙ g.privileged in
    ap (option_and_then (λ (n : ℕ). cond (is_privileged (signatures_of t) n) (Some n) None)) (named_at (signatures_of t) 0 f.0 g.signature distinct g.stands ∙ ap Some number)
    ∙ ap (λ b. cond b (Some f.0) None) privileged

rule_is : (t : TypedTree) (f : FnId) (g : Guarded t f) → HasPlainNames t → IsRuleOf (signatures_of t) (words_of (line_of g.signature.name)) (start_rule f)
rule_is t f g plain = record {
  spelled = spelled_rule g.signature.name;
  spells = spells g.signature.name (identifier_at (signatures_of t) f.0 g.signature (identifiers t plain) g.stands);
  guarded = named_guarded t f g plain;
  seen = refl;
  is = refl;
}

-- its line is that of its name
line_is : (t : TypedTree) (f : FnId) (g : Guarded t f) → rule_of t f ≡ rule_line g.signature.name
line_is t f g =
    ap (λ (o : Option Signature). option_map_or (λ (s : Signature). rule_line s.name) o [])
    (sym (slice_get-map (λ (h : FunctionTree). h.signature) t.functions f.0) ∙ g.stands)

have_rules : (t : TypedTree) (fs : List FnId) → HasPlainNames t → list_all (λ (f : FnId). is_privileged (signatures_of t) f.0) fs ≡ true
    → HaveRules (signatures_of t) (lines_of (policy_text t fs)) (start_rules fs)
have_rules t [] plain guarded = fault.none
have_rules t (f ∷ fs) plain guarded =
    let both = and_parts (is_privileged (signatures_of t) f.0) (list_all (λ (f : FnId). is_privileged (signatures_of t) f.0) fs) guarded in
    let g : Guarded t f = guarded_at t f both.0 in
    let lines : lines_of (policy_text t (f ∷ fs)) ≡ line_of g.signature.name ∷ lines_of (policy_text t fs)
    = ap (λ (xs : List ℕ). lines_of (xs ++ policy_text t fs)) (line_is t f g)
    ∙ first_line g.signature.name (policy_text t fs) (identifier_at (signatures_of t) f.0 g.signature (identifiers t plain) g.stands) in
    subst (λ (ls : List (List ℕ)). HaveRules (signatures_of t) ls (start_rules (f ∷ fs))) (sym lines)
    (fault.rule (line_of g.signature.name) (lines_of (policy_text t fs)) (start_rule f) (start_rules fs) (rule_is t f g plain) (have_rules t fs plain both.1))

pub no_policy_fault : PoliciesHaveNoFault
no_policy_fault t fs plain guarded few short = record {
  short = short;
  lines = have_rules t fs plain guarded;
  few = let count = length-map fs start_rule in omega (arith, count, few);
}
