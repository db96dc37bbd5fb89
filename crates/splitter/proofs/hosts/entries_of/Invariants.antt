use Rattle.std.proofs.Common.{◌≡◌, ◌++◌, drop, map}
use Rattle.std.specs.List.{filter}
use Rattle.typed_tree.specs.TypedTree.{view_function}
use Rattle.lowering.specs.Functions.{signatures_from}
use Rattle.splitter.specs.Halves.{entry_of, is_entry}
use Rattle.splitter.specs.Sets.{is_set}
use Rattle.splitter.proofs.hosts.entries_of.Given as goal

-- those so far, and then the others, are all of them
abbrev pub invariant-loop-function : goal.invariant-loop-function
invariant-loop-function l =
    l.entries.items ++ map (λ s. entry_of (record { 0 = s.0 })) (filter (λ s. is_entry (is_set l.called s.0) s.1) (signatures_from l.number (map (λ f. f.signature) (map view_function (drop l.function-index l.functions)))))
    ≡ map (λ s. entry_of (record { 0 = s.0 })) (filter (λ s. is_entry (is_set l.fn.called s.0) s.1) (signatures_from 0 (map (λ f. f.signature) (map view_function l.functions))))
