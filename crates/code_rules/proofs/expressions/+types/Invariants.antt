use Rattle.std.proofs.Common.{◌≡◌, ◌≤◌, ◌+◌, ◌*◌}
use Rattle.pt_core.specs.declared.expression.Expr.{size-Expr}
use Rattle.pt_core.specs.declared.place.Place.{size-Place}
use Rattle.pt_core.specs.declared.place.Root.{size-Root}
use Rattle.pt_core.specs.CodeTree.{view_expr}
use Rattle.code_rules.specs.Parts.{is_number}
use Rattle.code_rules.specs.Scopes.{context_of}
use Rattle.code_rules.specs.Typing.{typed}
use Rattle.code_rules.proofs.expressions.+types.Given as goal

abbrev pub decreases-expression_type : goal.decreases-expression_type
decreases-expression_type l = 2 * size-Expr l.e.now

abbrev pub decreases-number_fits : goal.decreases-number_fits
decreases-number_fits l = 2 * size-Expr l.e.now + 1

abbrev pub decreases-link_of : goal.decreases-link_of
decreases-link_of l = 2 * size-Expr l.e.now

abbrev pub decreases-place_type : goal.decreases-place_type
decreases-place_type l = 2 * size-Place l.place.now

abbrev pub decreases-root_type : goal.decreases-root_type
decreases-root_type l = 2 * size-Root l.root.now

-- the whole is of the wanted kind where what is left is of the kind that it has to be
abbrev pub invariant-number_fits-loop-link : goal.invariant-number_fits-loop-link
invariant-number_fits-loop-link l = record {
  same : is_number l.kind (typed (context_of l.scope) (view_expr l.at)) ≡ is_number l.fn.wanted (typed (context_of l.fn.scope) (view_expr l.fn.e));
  small : size-Expr l.at ≤ size-Expr l.fn.e;
}

abbrev pub decreases-number_fits-loop-link : goal.decreases-number_fits-loop-link
decreases-number_fits-loop-link l = size-Expr l.at
