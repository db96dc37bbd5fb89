-- Faults of flows, in order.
use Rattle.std.proofs.Common.{◌≡◌}
use Rattle.std.specs.Cmp.{IsTotalOrder}
use Rattle.std.specs.declared.cmp.Ordering.TheVariants.{Equal}
use Rattle.std.specs.Ordering.{nat_cmp}
use Rattle.std.proofs.lemmas.Cmp.{nat_cmp_total, on_total, then_total}
use Rattle.pt_base.proofs.SortedLists.{both_tie, numbers_tie}
use Rattle.flow_rules.specs.declared.fault.FlowFault.{FlowFault}
use Rattle.flow_rules.specs.Faults.{fault_cmp, span_cmp}
use Rattle.flow_rules.specs.Numbers.{rule_number}
use Rattle.flow_rules.proofs.ToldLemmas.{rule_same as same_rule}

pub fault_total : IsTotalOrder fault_cmp
fault_total =
    then_total (then_total (on_total (λ (x : FlowFault). x.span.from) nat_cmp_total) (on_total (λ (x : FlowFault). x.span.to) nat_cmp_total))
    (on_total (λ (x : FlowFault). rule_number x.rule) nat_cmp_total)

-- two faults that tie say that the same rule is broken at the same place
pub ties_tell : (f g : FlowFault) → fault_cmp f g ≡ Equal → (f.rule ≡ g.rule) × (f.span ≡ g.span)
ties_tell f g e =
    let both = both_tie (span_cmp f.span g.span) (nat_cmp (rule_number f.rule) (rule_number g.rule)) e in
    let place = both_tie (nat_cmp f.span.from g.span.from) (nat_cmp f.span.to g.span.to) both.0 in
    let from = numbers_tie f.span.from g.span.from place.0 in
    let to = numbers_tie f.span.to g.span.to place.1 in
    (same_rule f.rule g.rule (numbers_tie (rule_number f.rule) (rule_number g.rule) both.1), λ i. record { from = from i; to = to i })
