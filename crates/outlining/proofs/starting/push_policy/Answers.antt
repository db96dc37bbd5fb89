use Rattle.std.proofs.Common.{◌∙◌, List, codes, subst}
use Rattle.pt_base.specs.declared.ids.FnId.{FnId}
use Rattle.starting_texts.specs.Policies.{IsStartingPolicy}
use Rattle.typed_tree.specs.TypedView.{view_typed}
use Rattle.outlining.specs.OutlineTexts.{policy_lines}
use Rattle.outlining.proofs.AppendLemmas.{two_parts}
use Rattle.outlining.proofs.starting.push_policy.Goals as goal

pub returns : goal.returns
returns c = record {
  policy = c.in_ok-policy.policy;
  is = subst (λ (fs : List FnId). IsStartingPolicy (view_typed c.args.t.now) fs c.in_ok-policy.policy) (c.as_slice.ensures.value ∙ c.in_ok-guarded.ensures) c.in_ok-policy.ensures;
  added = two_parts c.args.text.now.items (codes "policy\n") (policy_lines c.in_ok-policy.policy) _ _ c.in_ok-extend_from_slice.ensures.items c.in_ok-push_policy_lines.ensures;
}
