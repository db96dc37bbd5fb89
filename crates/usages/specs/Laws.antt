-- What is proved of the list by which the flow rules go.
use Rattle.std.specs.Prelude.{◌≡◌, Some, IsTrue, map, slice_get}
use Rattle.pt_base.specs.declared.ids.FnId.{FnId}
use Rattle.typed_tree.specs.TypedTree.{TypedTree}
use Rattle.typed_tree.specs.Lookup.{parts_in}
use Rattle.typed_tree.specs.WellFormed.{is_well_formed}
use Rattle.usages.specs.Usages.{usages_in}
use Rattle.usages.specs.LawsExpressions.{AreExpressionsOfAll, outermost}

-- What is used is all expressions of the body, each once: those that its statements name, and all that they are
-- made of.
abbrev pub UsagesAreTheExpressions : Type 0
UsagesAreTheExpressions = (t : TypedTree) (f : FnId) → AreExpressionsOfAll (outermost t f) (map (λ u. u.value) (usages_in t f))

-- in a well-formed program each expression that a statement of the body names is there
abbrev pub OutermostStand : Type 0
OutermostStand = (t : TypedTree) (f : FnId) → IsTrue (is_well_formed t) → map (λ e. Some e) (outermost t f) ≡ map (λ p. slice_get t.exprs p.expr.0) (parts_in t f)
