use Rattle.std.proofs.Common.{◌≡◌, ◌∙◌, ap}
use Rattle.pt_core.specs.CodeTree.{assign, read, view_expr, view_place}
use Rattle.lowering.specs.Operators.{stepped, stored}
use Rattle.lowering.specs.Output.{view_found}
use Rattle.lowering.proofs.OutputLemmas.{same_stmt}
use Rattle.lowering.proofs.PieceLemmas.{compounded_is, result_in}
use Rattle.lowering.proofs.assignments.compounded.Goals as goal

pub returns : goal.returns
returns c = λ o o1 low v h i.
    let before : view_expr c.read-before.result ≡ read (view_place c.args.to.place) = c.read-before.ensures ∙ ap read c.in_ok-copy.ensures in
    let value : view_expr c.in_ok-value.value ≡ result_in c.args.span c.args.step (view_found c.args.to) (view_expr c.args.operand) =
    c.in_ok-value.ensures ∙ ap (stored c.args.to.ty c.args.step) (c.in_ok-after.ensures ∙ ap (λ z. stepped c.args.to.ty c.args.step z (view_expr c.args.operand) c.args.span) before) in
    compounded_is o o1 _ _ _ _ low v _ _ h i
    (same_stmt _ _ _ _ (ap (λ p. assign p (view_expr c.in_ok-value.value)) c.in_ok-copy-2.ensures ∙ ap (λ z. assign (view_place c.args.to.place) z) value) c.in_ok-add.ensures)
