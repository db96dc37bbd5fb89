use Rattle.std.proofs.Common.{◌≡◌, ◌∷◌, Err, List, ℕ, rules, subst, sym}
use Rattle.typed_tree.specs.declared.typed.Typed.{Typed}
use Rattle.typed_tree.specs.TypedView.{view_typed}
use Rattle.front_end.specs.Reading.{HasTypedTree}
use Rattle.std.proofs.lemmas.Result.{IfOk-weaker}
use Rattle.stages.specs.Climb.{flows}
use Rattle.stages.specs.declared.rungs.AcceptedProgram.{AcceptedProgram}
use Rattle.stages.proofs.RungLemmas.{answer_halted}
use Rattle.stages.proofs.climbs.accepted.Goals as goal

pub returns-in_err-program-clause-stop : goal.returns-in_err-program-clause-stop
returns-in_err-program-clause-stop g c = λ ss t same.
    let is : c.from_residual.result ≡ Err c.in_err-program.field-0.0 = search rules in
    rw is (c.in_err-program.ensures.stop (flows ∷ ss) t same)

pub returns-clause-tree : goal.returns-clause-tree
returns-clause-tree g c =
    IfOk-weaker c.judged.result _ _
    (λ (j : AcceptedProgram) same. subst (λ (p : Typed). HasTypedTree c.args.program.now (view_typed p)) (sym same) c.in_ok-program.ensures.tree) c.judged.ensures.program

pub returns-clause-stop : goal.returns-clause-stop
returns-clause-stop g c = λ ss t same.
    answer_halted (flows ∷ ss) t (view_typed c.in_ok-program.program) c.judged.result
    (subst (λ (xs : List ℕ). HasTypedTree xs (view_typed c.in_ok-program.program)) (sym same) c.in_ok-program.ensures.tree) (c.judged.ensures.stop ss t)
