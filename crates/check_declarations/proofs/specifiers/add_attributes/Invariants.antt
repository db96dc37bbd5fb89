use Rattle.std.proofs.Common.{◌≡◌, ◌++◌, drop, map}
use Rattle.check_declarations.specs.Marks.{attribute_of}
use Rattle.check_declarations.proofs.specifiers.add_attributes.Given as goal

abbrev pub invariant-loop-name : goal.invariant-loop-name
invariant-loop-name l = l.attributes.items ++ map attribute_of (drop l.name-index l.names) ≡ l.fn.attributes.items ++ map attribute_of l.fn.names
