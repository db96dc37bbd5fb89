use Rattle.std.proofs.Common.{◌≡◌, ◌++◌, drop, map}
use Rattle.std.specs.List.{filter}
use Rattle.typed_tree.specs.TypedTree.{view_function}
use Rattle.lowering.specs.Functions.{signatures_from}
use Rattle.splitter.specs.Halves.{is_slave_host}
use Rattle.splitter.specs.Sets.{function_numbers, is_set}
use Rattle.splitter.proofs.hosts.slave_hosts.Given as goal

-- those so far, and then the others, are all of them
abbrev pub invariant-loop-function : goal.invariant-loop-function
invariant-loop-function l =
    function_numbers l.hosts.items ++ map (λ s. s.0) (filter (λ s. is_slave_host (is_set l.called s.0) s.1) (signatures_from l.number (map (λ f. f.signature) (map view_function (drop l.function-index l.functions)))))
    ≡ map (λ s. s.0) (filter (λ s. is_slave_host (is_set l.fn.called s.0) s.1) (signatures_from 0 (map (λ f. f.signature) (map view_function l.functions))))
