use Rattle.std.proofs.Common.{◌≡◌, ◌++◌, drop}
use Rattle.std.specs.Prelude.{map}
use Rattle.pt_tree.specs.PlainNumbers.{plain_numbers}
use Rattle.pair_meaning.specs.Rules.{number_in_argument}
use Rattle.serving_rules.proofs.plain.plain_numbers.Given as goal

abbrev pub invariant-loop-arg : goal.invariant-loop-arg
invariant-loop-arg l = l.plain.items ++ plain_numbers l.rest (map number_in_argument (drop l.arg-index l.args)) ≡ plain_numbers l.fn.params (map number_in_argument l.fn.args)
