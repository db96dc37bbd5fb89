use Rattle.std.proofs.Common.{◌≡◌, ◌++◌, drop, flat_map}
use Rattle.typed_tree.specs.TypedView.{view_typed}
use Rattle.starting_texts.specs.Policies.{rule_of}
use Rattle.starting_texts.proofs.policy_text.policy_text.Given as goal

abbrev pub invariant-loop-f : goal.invariant-loop-f
invariant-loop-f l = l.text.items ++ flat_map (rule_of (view_typed l.t)) (drop l.f-index l.guarded) ≡ flat_map (rule_of (view_typed l.t)) l.fn.guarded
