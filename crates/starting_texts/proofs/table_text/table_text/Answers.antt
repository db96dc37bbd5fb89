use Rattle.std.proofs.Common.{◌∙◌, ◌++◌, ℕ, false, List, ap, codes}
use Rattle.typed_tree.specs.TypedTree.{signatures_of}
use Rattle.typed_tree.specs.TypedView.{view_typed}
use Rattle.starting_texts.specs.Hosts.{hosts_text}
use Rattle.starting_texts.proofs.TableLemmas.{table_is}
use Rattle.starting_texts.proofs.table_text.table_text.Goals as goal

pub returns : goal.returns
returns c =
    let members : List ℕ = hosts_text false (signatures_of (view_typed c.args.t.now)) in
    c.in_ok-push.ensures.items
    ∙ ap (λ (xs : List ℕ). xs ++ codes "}") (c.in_ok-push_hosts.ensures ∙ ap (λ (xs : List ℕ). xs ++ members) c.in_ok-text.ensures.items)
    ∙ table_is (view_typed c.args.t.now)
