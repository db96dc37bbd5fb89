-- What is seen of the parts of a line.
use Rattle.policy.specs.Lines.{words_of}
use Rattle.policy.specs.Spelled as spec
use Rattle.policy.specs.Reading as reading
use Rattle.policy.specs.declared.spelling.SpelledRule.{SpelledRule}
use Rattle.policy.specs.declared.spelling.Beginning.{Beginning}

abbrev pub view_spelled : SpelledRule → spec.SpelledRule
view_spelled s = record { from = s.from.now; function = s.function.now; ranges = s.ranges.items; most = s.most; to = s.to.now }

abbrev pub view_beginning : Beginning → reading.Beginning
view_beginning b = record { from = b.from.now; function = b.function.now; rest = words_of b.rest.now }
