use Rattle.std.proofs.Common.{◌≡◌, ◌++◌, false, map, drop}
use Rattle.typed_tree.specs.TypedTree.{FunctionTree, view_function, signatures_of}
use Rattle.typed_tree.specs.TypedView.{view_typed}
use Rattle.starting_texts.specs.Hosts.{hosts_text}
use Rattle.starting_texts.proofs.table_text.push_hosts.Given as goal

-- what is so far, and then the members of the rest
abbrev pub invariant-loop-function : goal.invariant-loop-function
invariant-loop-function l =
    l.text.items ++ hosts_text l.later (map (λ (f : FunctionTree). f.signature) (map view_function (drop l.function-index l.t.functions.items))) ≡ l.fn.text.items ++ hosts_text false (signatures_of (view_typed l.fn.t))
