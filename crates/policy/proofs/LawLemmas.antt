-- Rules, policies and faults of one text are one.
use Rattle.std.proofs.Common.{◌≡◌, ◌∙◌, ◌<◌, ◌≤◌, ℕ, Bool, true, false, nat_lt, List, [], length, Option, Some, Result, Ok, Err, refl, sym, arith, inl, inr}
use Rattle.std.specs.Prelude.{◌⊎◌}
use Rattle.std.proofs.lemmas.Bool.{ltb-true}
use Rattle.std.proofs.lemmas.Bool.Decides.{nat_tests}
use Rattle.pt_tree.specs.declared.signature.Signature.{Signature}
use Rattle.policy.specs.Lines.{lines_of}
use Rattle.policy.specs.Spelled.{SpelledRule}
use Rattle.policy.specs.LineReading.{read_from}
use Rattle.policy.specs.PolicyFault.{IsPolicy, IsPolicyFault}
use Rattle.policy.specs.Laws.{RuleIsOne, PolicyIsOne, FaultIsOne, PolicyOrFault}
use Rattle.policy.specs.declared.rule.Rule.{Rule}
use Rattle.policy.specs.declared.error.PolicyFaultKind.TheVariants.{TooLong}
use Rattle.policy.specs.declared.error.PolicyFault.{PolicyFault}
use Rattle.policy.specs.declared.TheConstants.{TEXT_LIMIT}
use Rattle.policy.proofs.RuleLaws.{rule_gives}
use Rattle.policy.proofs.TextLaws.{policy_reads, fault_reads, reads_policy, reads_first_fault}

one_some : (r s : SpelledRule) → ◌≡◌ {A = Option SpelledRule} (Some r) (Some s) → r ≡ s
one_some r s e = cc

one_ok : (rs ss : List Rule) → ◌≡◌ {A = Result (List Rule) PolicyFault} (Ok rs) (Ok ss) → rs ≡ ss
one_ok rs ss e = cc

one_err : (f g : PolicyFault) → ◌≡◌ {A = Result (List Rule) PolicyFault} (Err f) (Err g) → f ≡ g
one_err f g e = cc

not_both : (rs : List Rule) (f : PolicyFault) → ◌≡◌ {A = Result (List Rule) PolicyFault} (Ok rs) (Err f) → ◌≡◌ {A = ℕ} 0 1
not_both rs f e = cc

never : ◌≡◌ {A = ℕ} 0 1 → ⊥
never e = omega arith

pub rule_is_one : RuleIsOne
rule_is_one words r s a b = one_some r s (sym (rule_gives words r a) ∙ rule_gives words s b)

pub policy_is_one : PolicyIsOne
policy_is_one signatures text rs ss a b = one_ok rs ss (sym (policy_reads signatures text rs a) ∙ policy_reads signatures text ss b)

pub fault_is_one : FaultIsOne
fault_is_one signatures text f g (inl a) (inl b) = a.1 ∙ sym b.1
fault_is_one signatures text f g (inl a) (inr b) = let long : TEXT_LIMIT < length text = a.0 in let short : length text ≤ TEXT_LIMIT = b.0 in absurd (omega arith)
fault_is_one signatures text f g (inr a) (inl b) = let long : TEXT_LIMIT < length text = b.0 in let short : length text ≤ TEXT_LIMIT = a.0 in absurd (omega arith)
fault_is_one signatures text f g (inr a) (inr b) = one_err f g (sym (fault_reads signatures text f a.1) ∙ fault_reads signatures text g b.1)

both_never : (signatures : List Signature) (text : List ℕ) (rules : List Rule) (fault : PolicyFault) → IsPolicy signatures text rules → IsPolicyFault signatures text fault → ⊥
both_never signatures text rules fault is (inl long) = let over : TEXT_LIMIT < length text = long.0 in let short : length text ≤ TEXT_LIMIT = is.short in omega arith
both_never signatures text rules fault is (inr first) = never (not_both rules fault (sym (policy_reads signatures text rules is) ∙ fault_reads signatures text fault first.1))

read_either : (signatures : List Signature) (text : List ℕ) (r : Result (List Rule) PolicyFault) → length text ≤ TEXT_LIMIT → read_from signatures [] 0 (lines_of text) ≡ r
    → ((rules : List Rule) × IsPolicy signatures text rules) ⊎ ((fault : PolicyFault) × IsPolicyFault signatures text fault)
read_either signatures text (Ok rules) short e = inl (rules, reads_policy signatures text rules short e)
read_either signatures text (Err fault) short e = inr (fault, inr (short, reads_first_fault signatures text fault e))

either : (signatures : List Signature) (text : List ℕ) (long : Bool) → nat_lt TEXT_LIMIT (length text) ≡ long
    → ((rules : List Rule) × IsPolicy signatures text rules) ⊎ ((fault : PolicyFault) × IsPolicyFault signatures text fault)
either signatures text true is = inr (record { kind = TooLong; line = 0 }, inl (ltb-true TEXT_LIMIT (length text) is, refl))
either signatures text false is = read_either signatures text (read_from signatures [] 0 (lines_of text)) (grind (arith, nat_tests)) refl

pub policy_or_fault_lem : PolicyOrFault
policy_or_fault_lem signatures text = (either signatures text (nat_lt TEXT_LIMIT (length text)) refl, both_never signatures text)
