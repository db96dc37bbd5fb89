use Rattle.std.proofs.Common.{◌∙◌, ◌++◌, List, append-nil, ap, drop, get_or, length, map, sym}
use Rattle.std.proofs.lemmas.List.{drop_all}
use Rattle.typed_tree.specs.TypedView.{view_typed}
use Rattle.usages.specs.declared.usage.Usage.{Usage}
use Rattle.usages.specs.UsageView.{view_usage}
use Rattle.usages.proofs.LentLemmas.{listed_at, usages_from}
use Rattle.usages.proofs.lent.usages_of.Goals as goal

pub returns : goal.returns
returns c =
    let t = view_typed c.args.t.now in
    let bodies = c.loop-function.bodies.items in
    let lists = map (map view_usage) bodies in
    let none = ap (drop c.loop-function._function-index) (sym c.deref-function-items.ensures.value) ∙ drop_all c.loop-function._function-index _ c.loop-function-test.false in
    let all = sym (append-nil lists) ∙ sym (ap (λ fs. lists ++ usages_from t c.loop-function.number (length fs)) none) ∙ c.loop-function.invariant in
    record { each = λ f. ap (λ (us : List Usage). map view_usage (get_or bodies f.0 us)) (c.new-3.ensures ∙ c.new-2.ensures.items) ∙ listed_at t bodies all f }
