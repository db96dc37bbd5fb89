use Rattle.std.proofs.Common.{◌≡◌, ◌++◌, drop}
use Rattle.pt_tree.specs.SpecifierTree.{view_specs}
use Rattle.check_declarations.specs.Specifiers as is
use Rattle.check_declarations.proofs.specifiers.keywords.Given as goal

abbrev pub invariant-loop-spec : goal.invariant-loop-spec
invariant-loop-spec l = l.words.items ++ is.keywords (view_specs (drop l.spec-index l.specs)) ≡ is.keywords (view_specs l.fn.specs)
